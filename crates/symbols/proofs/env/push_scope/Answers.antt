use Rattle.symbols.proofs.EnvLaws.{entered}
use Rattle.symbols.proofs.env.push_scope.Goals as goal

pub returns : goal.returns
returns c =
    entered c.args.sheet.now c.args.row c.args.env.count c.args.env.slot
    c.args.env.fun.0 c.args.env.globals _ _ c.args.entries.now _ c.push_entry-count.ensures.0
    c.push_entry-count.ensures.1 c.fun_inside.ensures
