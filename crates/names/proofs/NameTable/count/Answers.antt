-- `count` of a table meets its contract: a table has one word more than names. Assumes nothing.
use Rattle.std.proofs.Common.{arith}
use Rattle.names.proofs.Laws.{table_size}
use Rattle.names.proofs.NameTable.count.Goals as goal

pub overflow_sub-result : goal.overflow_sub-result
overflow_sub-result c = omega (arith, table_size c.args.self.names.now c.args.self.of_names)

pub returns : goal.returns
returns c = omega (arith, table_size c.args.self.names.now c.args.self.of_names)
