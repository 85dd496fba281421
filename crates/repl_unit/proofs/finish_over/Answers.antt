use Rattle.outside.proofs.RecordLaws.{over_base}
use Rattle.outside.specs.Words.{over}
use Rattle.raise.proofs.BasedLaws.{buffer_ready}
use Rattle.repl_unit.proofs.OverLaws.{settled_based}
use Rattle.repl_unit.proofs.finish_over.Goals as goal

pub raise_rows-requires : goal.raise_rows-requires
raise_rows-requires c =
    let held = c.finish-answer.ensures in
    let ready = buffer_ready (over c.args.outside.now) (over_base c.args.outside.now) c.args.sheet.now _ held.tells.rows held.words
    c.requires.0.outside c.requires.0.whole in
    (c.requires.3, ready.0, ready.1)

pub returns : goal.returns
returns c =
    settled_based (over c.args.outside.now) (over_base c.args.outside.now) c.args.base c.finish-answer.ensures c.raise_rows.ensures
