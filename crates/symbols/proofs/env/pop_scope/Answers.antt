use Rattle.symbols.proofs.EnvLaws.{left_none, left_some}
use Rattle.symbols.proofs.env.pop_scope.Goals as goal

pub returns-then-mark-eq0 : goal.returns-then-mark-eq0
returns-then-mark-eq0 c =
    λ s. left_none s c.args.env.count c.args.env.slot c.args.env.fun.0
    c.args.env.globals _ c.args.entries.now c.last_mark-mark.ensures c.if-mark-eq0.true

pub returns : goal.returns
returns c =
    λ s. left_some s c.args.env.count c.args.env.slot c.args.env.fun.0
    c.args.env.globals _ _ _ c.args.entries.now c.last_mark-mark.ensures
    c.if-mark-eq0.false c.entry_word.ensures c.entry_word-2.ensures
