-- What an entry adds to its session, and what comes of trying it.
use Rattle.std.specs.Prelude.{◌≡◌, true, List, ℕ, ◌-◌, ◌*◌, length, get_or}
use Rattle.definition.specs.Basics.{concat_map, total}
use Rattle.definition.specs.Names.{Name}
use Rattle.definition.specs.Sheet.{Sheet}
use Rattle.definition.specs.Outside.{Outside, based}
use Rattle.definition.specs.Scope.{history}
use Rattle.definition.specs.Answer.{answers, raised}
use Rattle.definition.specs.Outcome.{rows_of_words}
use Rattle.outside.specs.Words.{over}
use Rattle.session.specs.Session.{Accepted, outside_of, member_count}
use Rattle.session.specs.Enter.{classes_by}
use Rattle.session.specs.Words.{whole, ended, session_in, session_fits}
use Rattle.entry_walk.specs.Laid.{left_from}
use Rattle.entry_ready.specs.Over.{entry_of, AskedOver}
use Rattle.finish.specs.Settled.{Settled}
use Rattle.session_room.specs.declared.Added.{Added}
use Rattle.session_room.specs.Room.{room_for}
use Rattle.try_entry.specs.declared.Tried.{Tried}

-- a is what an accepted entry adds.
pub record Adds (e : Accepted) (a : Added) : Type 0 where
  pub names : a.names ≡ length e.names
  pub bytes : a.bytes ≡ length (concat_map ended e.names)
  pub laid : a.laid ≡ length e.laid
  pub classes : a.classes ≡ length e.classes
  pub members : a.members ≡ total member_count e.classes

-- a is what is counted: among the open entries v up to entry k, and in the first `rows` answer rows.
pub record AddedBy (O : Outside) (v : List ℕ) (k : ℕ) (out : List ℕ) (rows new bytes : ℕ) (a : Added) : Type 0 where
  pub names : a.names ≡ new
  pub sized : a.bytes ≡ bytes
  pub laid : (s : Sheet) (n : ℕ) → a.laid ≡ length (left_from s n v (length O.names) (k - length O.names))
  pub classes : (P : Outside) (s : Sheet) (n : ℕ) → rows_of_words rows out ≡ raised n (answers P s (history P s)) → a.classes ≡ length (classes_by (based P n) s)
  pub members : (P : Outside) (s : Sheet) (n : ℕ) → rows_of_words rows out ≡ raised n (answers P s (history P s)) → a.members ≡ total member_count (classes_by (based P n) s)

-- Of the session in words w and bytes n, what it is to an entry in words o, and the entry's new names ms, whose number and bytes are known:
pub record Over (w o : List ℕ) (new bytes : ℕ) (n : List ℕ) (ms : List Name) : Type 0 where
  pub fits : session_fits whole w n ≡ true
  pub outside : over o ≡ based (outside_of (session_in whole w n)) 0
  pub names : new ≡ length ms
  pub sized : bytes ≡ length (concat_map ended ms)

-- Of every such session and names: the answer and the words `out` are those of questions 5 to 22 and 24, and an accepted entry adds what is told, for
-- which there is room.
pub record TriedOver (w o : List ℕ) (t : Sheet) (new bytes lent : ℕ) (x : Tried) (out : List ℕ) : Type 0 where
  pub asked : (n : List ℕ) (ms : List Name) → Over w o new bytes n ms → AskedOver (session_in whole w n) t ms lent x.answer out
  pub adds : (n : List ℕ) (ms : List Name) → Over w o new bytes n ms → x.answer.number ≡ 0 → Adds (entry_of (session_in whole w n) t ms lent) x.added
  pub room : x.answer.number ≡ 0 → room_for w x.added ≡ true
  -- whatever the session, those of questions 5 to 22 over what stands outside
  pub settled : x.answer.number ≡ 0 → Settled (based (over o) (2048 * get_or w 1 0)) t lent x.answer out
