-- What comes of entering a sheet that has the session's name numbers.
use Rattle.std.specs.Prelude.{◌≡◌, ◌&&◌, List, ℕ, ◌≤◌, length, get_or, set, leb}
use Rattle.definition.specs.Basics.{when◌then◌else◌}
use Rattle.definition.specs.Names.{Name}
use Rattle.definition.specs.Sheet.{Sheet}
use Rattle.machine.specs.Reads.{PastFour}
use Rattle.outside.specs.Words.{over}
use Rattle.definition.specs.Outside.{Outside, based}
use Rattle.session.specs.Session.{Accepted}
use Rattle.session.specs.Enter.{laid_by, classes_by}
use Rattle.session.specs.Words.{whole, session_in}
use Rattle.answer.specs.declared.Answer.{Answer}
use Rattle.entry_walk.specs.Laid.{OneUnit}
use Rattle.entry_ready.specs.Over.{AskedOver, words_after}
use Rattle.try_entry.specs.Tried.{Over}

-- What is known of a sheet t and what stands outside it in words o, before it is entered into the session of words w.
pub record Enterable (w o : List ℕ) (t : Sheet) : Type 0 where
  pub past : PastFour (over o) t
  pub one : OneUnit t
  pub few : length (over o).names ≤ 1048
  pub entries : get_or w 1 0 ≤ 1000
  pub laid : get_or w 5 0 ≤ 4096
  pub classes : get_or w 6 0 ≤ 1024
  pub members : get_or w 7 0 ≤ 8192

-- what an accepted entry of sheet t leaves, over O with numbers raised by b, its new names being ms
abbrev pub leaving : Outside → ℕ → Sheet → List Name → Accepted
leaving O b t ms = record { names = ms; laid = laid_by (based O b) t; classes = classes_by (based O b) t }

-- the session's words after a refusal by question k, the walk's next global being g
abbrev pub kept_words : ℕ → ℕ → List ℕ → List ℕ
kept_words k g w = when leb 5 k && leb k 21 then set w 0 g else w

-- Of every session that the words w may be of, and new names ms: the answer x and the words `out` are those of questions 5 to 24, and w' are the session's
-- words after it.
pub record EnteredOver (w o : List ℕ) (t : Sheet) (new bytes lent : ℕ) (x : Answer) (out w' : List ℕ) : Type 0 where
  pub asked : (n : List ℕ) (ms : List Name) → Over w o new bytes n ms → AskedOver (session_in whole w n) t ms lent x out
  pub words : (n : List ℕ) (ms : List Name) → Over w o new bytes n ms → w' ≡ words_after (session_in whole w n) t ms lent w
