-- `name_at` of a table meets its contract: the table cuts the list at this name. Assumes nothing.
use Rattle.std.proofs.Common.{sym, arith}
use Rattle.names.proofs.Laws.{cut}
use Rattle.names.proofs.NameTable.name_at.Goals as goal

pub overflow_sub-end : goal.overflow_sub-end
overflow_sub-end c = omega (arith, (cut c.args.self.names.now c.args.self.of_names c.args.k c.requires).rises)

pub slice_bounds-result-count : goal.slice_bounds-result-count
slice_bounds-result-count c = omega (arith, (cut c.args.self.names.now c.args.self.of_names c.args.k c.requires).rises)

pub slice_bounds-result-start : goal.slice_bounds-result-start
slice_bounds-result-start c = omega (arith, (cut c.args.self.names.now c.args.self.of_names c.args.k c.requires).rises)

pub slice_bounds-result-end : goal.slice_bounds-result-end
slice_bounds-result-end c = omega (arith, (cut c.args.self.names.now c.args.self.of_names c.args.k c.requires).within)

pub returns : goal.returns
returns c = sym (cut c.args.self.names.now c.args.self.of_names c.args.k c.requires).bytes
