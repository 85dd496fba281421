-- Any run of entries, refused entries and withdrawals from a fresh session: the session is good after it, and its entries are the accepted ones left.
use mathlib.Core.Path.{◌≡◌, refl, sym, ap, ◌∙◌, subst}
use mathlib.Core.Bool.{Bool, true, false, not, ◌&&◌}
use mathlib.Core.List.{List, [], ◌∷◌, ◌++◌}
use Prim.Native.Nat.{ℕ, suc, ◌-◌, ◌≤◌}
use native.Mathlib.Omega.{arith}
use native.Mathlib.Numerals.{sub-one}
use lib.ListN.{length, get_or, take, drop}
use lib.Dec.{eqb, leb, T}
use borrow.Author.Tests.{ne_eqb}
use Rattle.definition.specs.Basics.{when◌then◌else◌, concat_map, distinct}
use Rattle.definition.specs.Names.{fixed, listed}
use Rattle.definition.specs.Meaning.{Named}
use Rattle.definition.specs.Outside.{core}
use Rattle.definition.specs.Sheet.{Sheet}
use Rattle.definition.specs.Outcome.{Outcome}
use Rattle.definition.proofs.Lists.Tests.{T_true, true_of}
use Rattle.session.specs.Session.{Accepted, Session, all_classes, backward, visible}
use Rattle.session.specs.Enter.{new_entry, entered}
use Rattle.session.specs.Words.{whole, name_bytes, session_in, session_names_fit, runs_fit, session_fits, showing, name_text}
use Rattle.session.specs.Withdraw.{withdrawn, words_without}
use Rattle.session.specs.Runs.{Memory, Request, entry, withdrawal, Effect, accepted, withdrew, refusal, effect, after_request, after_run, effects}
use Rattle.session.specs.Runs.{fresh_memory, stacked, entries_left}
use Rattle.session.proofs.SessionLaws.{clauses, runs_of, shown_is}
use Rattle.session.proofs.HeldRuns.{held_listed}
use Rattle.session.proofs.Asked.{outcome_in}
use Rattle.session.proofs.Theorems.{fresh_fits, fresh_held}
use Rattle.session.proofs.Kept.{after_fits, after_held, after_globals}
use Rattle.session.proofs.WithdrawLaws.{but_last}
use Rattle.session.proofs.Withdrawal.{withdraw_fits, withdraw_held}

-- Memory M holds a good session whose entries are those of a stack.
record Holding (M : Memory) (es : List Accepted) : Type 0 where
  fits : session_fits whole M.words M.bytes ≡ true
  held : (session_in whole M.words M.bytes).entries ≡ backward es

-- what a run does to a stack, request by request
stacked_more : (es : List Accepted) (x : Effect) (xs : List Effect) → stacked es (x ∷ xs) ≡ stacked (stacked es (x ∷ [])) xs
stacked_more es (accepted e) xs = refl
stacked_more es withdrew xs = refl
stacked_more es refusal xs = refl

-- all entries but the latest
popped : (es : List Accepted) → take (length (backward es) - 1) (backward es) ≡ backward (drop 1 es)
popped [] = refl
popped (e ∷ es) = but_last (backward es) e

module _ (M : Memory) (es : List Accepted) (h : Holding M es) where
  abbrev S : Session
  S = session_in whole M.words M.bytes

  entered_held : (s : Sheet) (ns : List ℕ) (lent : ℕ) → Holding (after_request whole M (entry s ns lent)) (stacked es (effect whole M (entry s ns lent) ∷ []))
  entered_held s ns lent =
      record {
        fits = after_fits M.words M.bytes s ns lent h.fits;
        held =
            ap (λ (Z : Session). Z.entries) (after_held M.words M.bytes s ns lent h.fits)
            ∙ by (eqb (entered S s ns lent).number 0) (leb 5 (entered S s ns lent).number && leb (entered S s ns lent).number 21) (entered S s ns lent).globals _
            ∙ ap (λ (o : Outcome). backward (stacked es ((when eqb o.number 0 then accepted (new_entry S s ns) else refusal) ∷ [])))
            (sym (outcome_in whole (omega arith) (omega arith) M.words M.bytes h.fits s ns lent));
      }
    where
      by : (t u : Bool) (g k : ℕ)
          → (when t then record { globals = g; entries = S.entries ++ new_entry S s ns ∷ [] } else when u then record { globals = k; entries = S.entries } else S).entries
          ≡ backward (stacked es ((when t then accepted (new_entry S s ns) else refusal) ∷ []))
      by true u g k = ap (λ (l : List Accepted). l ++ new_entry S s ns ∷ []) h.held
      by false true g k = h.held
      by false false g k = h.held

  withdrawn_held : Holding (after_request whole M withdrawal) (stacked es (effect whole M withdrawal ∷ []))
  withdrawn_held =
      record {
        fits = withdraw_fits whole M.words M.bytes h.fits;
        held = by (session_fits whole M.words M.bytes) (eqb (get_or M.words 1 0) 0) h.fits (withdraw_held whole M.words M.bytes h.fits);
      }
    where
      -- the question that gets a no, by whether the session fits and has no entry
      no : Bool → Bool → ℕ
      no f t = when not f then 23 else when t then 25 else 0

      after : Bool → Bool → Session
      after f t = session_in whole (when eqb (no f t) 0 then showing (withdrawn S) (words_without whole M.words M.bytes) else M.words) M.bytes

      by : (f t : Bool) → f ≡ true → after f t ≡ withdrawn S → (after f t).entries ≡ backward (stacked es ((when eqb (no f t) 0 then withdrew else refusal) ∷ []))
      by true true q k = h.held
      by true false q k = ap (λ (Z : Session). Z.entries) k ∙ ap (λ (l : List Accepted). take (length l - 1) l) h.held ∙ popped es
      by false t q k = absurd (subst T (sym q) tt)

  request_held : (q : Request) → Holding (after_request whole M q) (stacked es (effect whole M q ∷ []))
  request_held (entry s ns lent) = entered_held s ns lent
  request_held withdrawal = withdrawn_held

run_held : (M : Memory) (es : List Accepted) (qs : List Request) → Holding M es → Holding (after_run whole M qs) (stacked es (effects whole M qs))
run_held M es [] h = h
run_held M es (q ∷ qs) h =
    subst (Holding (after_run whole M (q ∷ qs))) (sym (stacked_more es (effect whole M q) (effects whole (after_request whole M q) qs)))
    (run_held (after_request whole M q) (stacked es (effect whole M q ∷ [])) qs (request_held M es h q))

-- A run from a good session on gives no global back.
pub run_globals : (M : Memory) (qs : List Request) → session_fits whole M.words M.bytes ≡ true → get_or M.words 0 0 ≤ get_or (after_run whole M qs).words 0 0
run_globals M [] fit = omega arith
run_globals M (entry s ns lent ∷ qs) fit =
    omega (
      arith,
      after_globals M.words M.bytes s ns lent fit,
      run_globals (after_request whole M (entry s ns lent)) qs (after_fits M.words M.bytes s ns lent fit),
    )
run_globals M (withdrawal ∷ qs) fit =
    omega (
      arith,
      ap (λ (Z : Session). Z.globals) (withdraw_held whole M.words M.bytes fit),
      run_globals (after_request whole M withdrawal) qs (withdraw_fits whole M.words M.bytes fit),
    )

-- A run qs from a fresh session.
module _ (qs : List Request) where
  -- the words and bytes after it, the session that they hold, and the accepted entries left
  abbrev pub memory : Memory
  memory = after_run whole (fresh_memory whole) qs

  abbrev pub session : Session
  session = session_in whole memory.words memory.bytes

  abbrev pub left_of : List Accepted
  left_of = entries_left (effects whole (fresh_memory whole) qs)

  from_fresh : Holding (after_run whole (fresh_memory whole) qs) (stacked [] (effects whole (fresh_memory whole) qs))
  from_fresh = run_held (fresh_memory whole) [] qs (record { fits = fresh_fits whole; held = ap (λ (Z : Session). Z.entries) (fresh_held whole) })

  -- After it the words and bytes pass question 23,
  pub run_fits : session_fits whole memory.words memory.bytes ≡ true
  run_fits = from_fresh.fits

  run_runs : runs_fit whole memory.words memory.bytes ≡ true
  run_runs = runs_of whole memory.words memory.bytes run_fits

  -- the session's entries are the accepted ones left,
  pub run_left : session.entries ≡ left_of
  run_left = from_fresh.held

  -- so the visible names are theirs, a later one over an earlier, laid over the nine core names,
  pub run_visible : visible session ≡ distinct (λ x y. eqb x.name y.name) (backward (concat_map (λ e. e.laid) left_of) ++ core.names)
  run_visible = ap (λ (l : List Accepted). distinct (λ (x y : Named). eqb x.name y.name) (backward (concat_map (λ e. e.laid) l) ++ core.names)) run_left

  -- as many as are on show,
  pub run_shown : get_or memory.words 2 0
      ≡ length (distinct (λ x y. eqb x.name y.name) (backward (concat_map (λ e. e.laid) left_of) ++ core.names))
  run_shown = shown_is whole memory.words memory.bytes run_fits ∙ ap (length {A = Named}) run_visible

  -- the names are the fixed ones and theirs, by number,
  pub run_names : listed (name_bytes whole memory.words memory.bytes) ≡ concat_map (λ e. e.names) left_of
  run_names = sym (held_listed whole memory.words memory.bytes run_runs) ∙ ap (concat_map (λ e. e.names)) run_left

  pub run_texts : (ns : List ℕ) (k : ℕ) → name_text whole memory.words memory.bytes ns false (suc k) ≡ get_or (fixed ++ concat_map (λ e. e.names) left_of) k []
  run_texts ns k =
      rw (
        true_of (session_names_fit whole memory.words memory.bytes) (clauses whole memory.words memory.bytes (T_true (runs_fit whole memory.words memory.bytes) run_runs) 1),
        ne_eqb (suc k) 0 (λ z. omega (arith, z)),
        run_names,
        sub-one,
      )

  -- and the classes.
  pub run_classes : all_classes session ≡ concat_map (λ e. e.classes) left_of
  run_classes = ap (concat_map (λ e. e.classes)) run_left
