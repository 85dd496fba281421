use Rattle.symbols.proofs.EnvLaws.{looped}
use Rattle.symbols.proofs.env.push_loop.Goals as goal

pub returns : goal.returns
returns c =
    λ s. looped s c.args.env.count c.args.env.slot c.args.env.fun.0
    c.args.env.globals _ c.args.entries.now _ c.push_entry-count.ensures.0 c.push_entry-count.ensures.1
