-- Runs of entries, refused entries and withdrawals, and the accepted entries that one leaves (request F-7 of document 02).
use Rattle.std.specs.Prelude.{List, [], ◌∷◌, ℕ, drop, eqb}
use Rattle.definition.specs.Basics.{when◌then◌else◌}
use Rattle.definition.specs.Sheet.{Sheet}
use Rattle.session.specs.Session.{Accepted, backward}
use Rattle.session.specs.Enter.{new_entry}
use Rattle.session.specs.Words.{Room, fresh_words, fresh_bytes, session_in, enter_outcome, enter_words, enter_bytes}
use Rattle.session.specs.Withdraw.{withdraw_outcome, withdraw_words}

-- The lent words and bytes of a session.
pub record Memory : Type 0 where
  pub words : List ℕ
  pub bytes : List ℕ

-- A request: an entry of a sheet and its names, with a buffer of so many words; or a withdrawal.
pub data Request : Type 0 where
  entry : Sheet → List ℕ → ℕ → Request
  withdrawal : Request

-- What it did: an entry was accepted and left this, the latest one was withdrawn, or a question got a no.
pub data Effect : Type 0 where
  accepted : Accepted → Effect
  withdrew : Effect
  refusal : Effect

module _ (R : Room) where
  -- what a request does, by its outcome
  abbrev pub effect : Memory → Request → Effect
  effect M (entry s ns lent) =
      when eqb (enter_outcome R M.words M.bytes s ns lent).number 0 then accepted (new_entry (session_in R M.words M.bytes) s ns) else refusal
  effect M withdrawal = when eqb (withdraw_outcome R M.words M.bytes).number 0 then withdrew else refusal

  -- the words and bytes after it
  abbrev pub after_request : Memory → Request → Memory
  after_request M (entry s ns lent) =
      record { words = enter_words R M.words M.bytes s ns lent; bytes = enter_bytes R M.words M.bytes s ns lent }
  after_request M withdrawal = record { words = withdraw_words R M.words M.bytes; bytes = M.bytes }

  -- those after a run of requests
  abbrev pub after_run : Memory → List Request → Memory
  after_run M [] = M
  after_run M (q ∷ qs) = after_run (after_request M q) qs

  -- what each request of a run did, in order
  abbrev pub effects : Memory → List Request → List Effect
  effects M [] = []
  effects M (q ∷ qs) = effect M q ∷ effects (after_request M q) qs

  -- a fresh session
  abbrev pub fresh_memory : Memory
  fresh_memory = record { words = fresh_words R; bytes = fresh_bytes R }

-- A stack of accepted entries, the latest on top: an accepted one is put on it, a withdrawal takes the top away, a refusal leaves it.
abbrev pub stacked : List Accepted → List Effect → List Accepted
stacked es [] = es
stacked es (accepted e ∷ xs) = stacked (e ∷ es) xs
stacked es (withdrew ∷ xs) = stacked (drop 1 es) xs
stacked es (refusal ∷ xs) = stacked es xs

-- the accepted entries left, the earliest first
abbrev pub entries_left : List Effect → List Accepted
entries_left xs = backward (stacked [] xs)
