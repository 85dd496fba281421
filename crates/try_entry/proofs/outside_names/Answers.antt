use Rattle.try_entry.proofs.TryLaws.{names_none, names_some}
use Rattle.try_entry.proofs.outside_names.Goals as goal

pub returns-then-end-eq0 : goal.returns-then-end-eq0
returns-then-end-eq0 c =
    names_none c.args.outside.now c.word-end.ensures c.if-end-eq0.true

pub returns : goal.returns
returns c =
    names_some c.args.outside.now c.word-end.ensures
