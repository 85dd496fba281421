-- What a preview promises, for every session, sheet, name list and lent buffer.
use Rattle.std.specs.Prelude.{◌≡◌, true, List, ℕ, get_or}
use Rattle.definition.specs.Sheet.{Sheet}
use Rattle.definition.specs.Outcome.{buffer, rows_of_words}
use Rattle.definition.specs.Claims.{Demand3}
use Rattle.session.specs.Session.{names_shown, outside_of}
use Rattle.session.specs.Entry.{new_names, entry_sheet}
use Rattle.session.specs.Words.{whole, session_in, session_fits, enter_outcome}
use Rattle.answer.specs.declared.Answer.{Answer}
use Rattle.answer.specs.Tells.{Tells}
use Rattle.entry_ready.specs.Over.{AskedOver}
use Rattle.prepare_entry.specs.Told.{Told}

-- Of session words w and bytes n, sheet s with the bytes ns of its names, and a buffer of `lent` words, which then holds `out`:
pub record Previewed (w n : List ℕ) (s : Sheet) (ns : List ℕ) (lent : ℕ) (x : Answer) (out : List ℕ) : Type 0 where
  -- the answer is the outcome of entering the sheet,
  pub tells : Tells (enter_outcome whole w n s ns lent) x
  -- the buffer holds its answer rows, and zeros to its end,
  pub words : out ≡ buffer lent (enter_outcome whole w n s ns lent)
  -- the session stays as it is, and if it passes question 23, it shows as many names as a full recount finds,
  pub shown : session_fits whole w n ≡ true → get_or w 2 0 ≡ names_shown (session_in whole w n)
  -- and where no question got a no, the closure claim holds of the entry, as it would when it is entered.
  pub closures : x.number ≡ 0 → Demand3 (outside_of (session_in whole w n)) (entry_sheet (session_in whole w n) ns s) (rows_of_words x.rows out)

-- Questions 5 to 22 and 24 of sheet s over the session, whatever its bytes n and the entry's names ns, if they are those that are told.
abbrev pub AskedTold : List ℕ → Sheet → List ℕ → ℕ → ℕ → ℕ → Answer → List ℕ → Type 0
AskedTold w s numbers new bytes lent x out =
    (n ns : List ℕ) → Told w s numbers new bytes n ns
    → AskedOver (session_in whole w n) (entry_sheet (session_in whole w n) ns s) (new_names (session_in whole w n) ns) lent x out
