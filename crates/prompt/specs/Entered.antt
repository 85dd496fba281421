-- What entering promises, for every session, sheet, name list and lent buffer.
use Rattle.std.specs.Prelude.{◌≡◌, true, List, ℕ, get_or}
use Rattle.definition.specs.Sheet.{Sheet}
use Rattle.definition.specs.Outcome.{buffer, rows_of_words}
use Rattle.definition.specs.Claims.{Demand3}
use Rattle.session.specs.Session.{names_shown, outside_of}
use Rattle.session.specs.Entry.{entry_sheet}
use Rattle.session.specs.Enter.{after_entry}
use Rattle.session.specs.Words.{whole, session_in, session_fits, enter_outcome, enter_words, enter_bytes}
use Rattle.answer.specs.declared.Answer.{Answer}
use Rattle.answer.specs.Tells.{Tells}

-- Of session words w and bytes n, sheet s with the bytes ns of its names, and a buffer of `lent` words, which then holds `out`, the session words w' and
-- bytes n':
pub record Entered (w n : List ℕ) (s : Sheet) (ns : List ℕ) (lent : ℕ) (x : Answer) (out w' n' : List ℕ) : Type 0 where
  -- the answer is document 02's outcome,
  pub tells : Tells (enter_outcome whole w n s ns lent) x
  -- the buffer holds its answer rows, and zeros to its end,
  pub words : out ≡ buffer lent (enter_outcome whole w n s ns lent)
  -- the session has the words and bytes after it,
  pub session : w' ≡ enter_words whole w n s ns lent
  pub bytes : n' ≡ enter_bytes whole w n s ns lent
  -- a session that passed question 23 passes it again, and is the one after the entry,
  pub fits : session_fits whole w n ≡ true → session_fits whole w' n' ≡ true
  pub held : session_fits whole w n ≡ true → session_in whole w' n' ≡ after_entry (session_in whole w n) s ns lent
  -- and shows as many names as a full recount finds,
  pub shown : session_fits whole w n ≡ true → get_or w' 2 0 ≡ names_shown (session_in whole w' n')
  -- and where no question got a no, the closure claim holds of the entry by itself: of its sheet with the session's names, over what earlier entries left,
  -- and of the rows in the buffer.
  pub closures : x.number ≡ 0 → Demand3 (outside_of (session_in whole w n)) (entry_sheet (session_in whole w n) ns s) (rows_of_words x.rows out)
