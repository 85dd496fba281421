-- What the walk needs to know before it starts.
use Rattle.std.specs.Prelude.{List, ℕ, ◌+◌, ◌*◌, ◌/◌, ◌<◌, ◌≤◌, length}
use Rattle.definition.specs.Sheet.{Sheet, rows}
use Rattle.definition.specs.Outside.{Outside}
use Rattle.machine.specs.Reads.{PastFour}
use Rattle.machine.specs.Space.{nodes_for}
use Rattle.classes.specs.Table.{Clear, ClassTable}

-- The sheet has at most 2,048 rows, and the table holds the class of each.
pub record Prepared (s : Sheet) (cs : List ℕ) : Type 0 where
  pub small : length s ≤ 16384
  pub classes : ClassTable s cs

-- The lent buffers have room for a sheet whose last name is n: a word for the class of each row, an open entry for each name, each from outside and
-- two more, three for each row, a table row for each row, the nodes that its rows may take. The first and the third are clear.
pub record Lent (n : ℕ) (O : Outside) (s : Sheet) (cs v t q : List ℕ) : Type 0 where
  pub for_classes : rows s ≤ length cs
  pub for_entries : n + 2 + length O.names + 3 * rows s < length v / 5
  pub for_rows : rows s ≤ length t / 8
  pub for_nodes : nodes_for s ≤ length q / 4
  pub clear_classes : Clear cs
  pub clear_rows : Clear t

-- A sheet past the first four questions, and buffers with room for its walk.
pub record Ready (O : Outside) (s : Sheet) (cs v t q : List ℕ) : Type 0 where
  pub past : PastFour O s
  pub lent : Lent past.names O s cs v t q
