-- A withdrawal, request F-7 of document 02: the latest accepted entry is taken back. Its globals stay used, since a running script may hold values there.
use Rattle.std.specs.Prelude.{Bool, not, List, map, ℕ, ◌-◌, length, get_or, set, take, eqb}
use Rattle.std.proofs.lemmas.List.Edits.{sets}
use Rattle.definition.specs.Basics.{when◌then◌else◌, any, from}
use Rattle.definition.specs.Outcome.{Outcome, refused}
use Rattle.session.specs.Session.{Session, all_classes}
use Rattle.session.specs.Words.{Room, count_after, session_in, session_fits, showing}

-- the session without its latest entry; one without entries stays as it is
abbrev pub withdrawn : Session → Session
withdrawn S = record { globals = S.globals; entries = take (length S.entries - 1) S.entries }

-- the child mark of class c: is it the parent of a class of some entry? It is read off the entries, so that it goes with the one that set it.
abbrev pub has_child : Session → ℕ → Bool
has_child S c = any (λ x. eqb x.parent c) (all_classes S)

-- Withdrawing from the session of words w and bytes n. The bytes stay as they are.
module _ (R : Room) (w n : List ℕ) where
  -- the words without the latest entry: one entry less, and the five counts that were there before it; no other word changes
  abbrev pub words_without : List ℕ
  words_without =
      let e : ℕ = get_or w 1 0 - 1 in
      sets (set w 1 e) 3 (map (count_after R w n e) (from 0 5))

  -- the question that gets a no, or 0: 23 for a bad session, then 25 if no entry is left
  abbrev pub withdraw_no : ℕ
  withdraw_no = when not (session_fits R w n) then 23 else when eqb (get_or w 1 0) 0 then 25 else 0

  -- the outcome: position, name, rows and globals are 0, also where no question gets a no
  abbrev pub withdraw_outcome : Outcome
  withdraw_outcome = refused withdraw_no

  -- the words after it, with the names on show counted again
  abbrev pub withdraw_words : List ℕ
  withdraw_words = when eqb withdraw_no 0 then showing (withdrawn (session_in R w n)) words_without else w
