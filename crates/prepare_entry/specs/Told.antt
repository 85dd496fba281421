-- What is known of an entry before its walk.
use Rattle.std.specs.Prelude.{◌≡◌, true, List, ℕ, suc, ◌≤◌, length, get_or, take, Result}
use Rattle.std.specs.Result.{IfOk}
use Rattle.definition.specs.Basics.{when◌then◌else◌, concat_map}
use Rattle.definition.specs.Sheet.{Sheet}
use Rattle.definition.specs.Outside.{based}
use Rattle.outside.specs.Words.{over}
use Rattle.session.specs.Session.{all_names, outside_of}
use Rattle.session.specs.Entry.{new_names, entry_sheet}
use Rattle.session.specs.Words.{whole, ended, session_in, session_fits}
use Rattle.entry_names.specs.Told.{session_numbers}
use Rattle.entry_ready.specs.Asked.{entry_no}
use Rattle.ast.specs.Question.{no_of}
use Rattle.ast.specs.declared.question.Question.{Question}
use Rattle.prepare_entry.specs.declared.Prepared.{Prepared}

-- Sheet s with names ns is past the questions before the walk; its names have the session's numbers, `new` of them new, in `bytes` bytes.
pub record Told (w : List ℕ) (s : Sheet) (numbers : List ℕ) (new bytes : ℕ) (n ns : List ℕ) : Type 0 where
  pub fits : session_fits whole w n ≡ true
  pub none : entry_no (get_or w 0 0) s ns ≡ 0
  pub told : numbers ≡ session_numbers (session_in whole w n) ns
  pub counted : new ≡ length (new_names (session_in whole w n) ns)
  pub sized : bytes ≡ length (concat_map ended (new_names (session_in whole w n) ns))

-- Of session words w and bytes n, and sheet s with names ns: the numbers of the names that the entry lists, and that of its first new one.
pub record ToldBy (w n : List ℕ) (s : Sheet) (ns : List ℕ) (numbers : List ℕ) (x : Prepared) : Type 0 where
  pub told : Told w s (take x.names numbers) x.new x.bytes n ns
  pub few : x.names ≤ 1024
  pub first : x.first ≡ suc (length (all_names (session_in whole w n)))

-- The first no before the walk, 23 of the session first; if there is none, what the entry's names are told by.
pub record PreparedFor (w n : List ℕ) (s : Sheet) (ns : List ℕ) (x : Result Prepared Question) (numbers : List ℕ) : Type 0 where
  pub no : no_of x ≡ (when session_fits whole w n then entry_no (get_or w 0 0) s ns else 23)
  pub told : IfOk x (ToldBy w n s ns numbers)

-- The words o hold what the session of words w is to an entry, and c are the words of sheet s with the names' numbers.
pub record Written (w : List ℕ) (s : Sheet) (numbers o c : List ℕ) : Type 0 where
  pub outside : (n : List ℕ) → session_fits whole w n ≡ true → over o ≡ based (outside_of (session_in whole w n)) 0
  pub copied : (n ns : List ℕ) → numbers ≡ session_numbers (session_in whole w n) ns → c ≡ entry_sheet (session_in whole w n) ns s
