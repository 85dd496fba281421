use Rattle.walk.specs.WalkState.{state_of}
use Rattle.imports.proofs.ImportLaws.{seen_unasked, seen_itself, seen_unit}
use Rattle.imports.proofs.import_seen.Goals as goal

pub returns-then-word-ne-IMPORT_ALL-clause-step : goal.returns-then-word-ne-IMPORT_ALL-clause-step
returns-then-word-ne-IMPORT_ALL-clause-step c =
    λ O. seen_unasked O c.args.walk.now.sheet.now c.args.u c.args.i (state_of c.args.walk.now) c.word.result c.word.ensures c.if-word-ne-IMPORT_ALL.true

pub returns-then-unit-u-clause-step : goal.returns-then-unit-u-clause-step
returns-then-unit-u-clause-step c =
    λ O. seen_itself O c.args.walk.now.sheet.now c.args.u c.args.i (state_of c.args.walk.now) c.word.result c.word.ensures
    c.if-word-ne-IMPORT_ALL.false c.word-unit.result c.word-unit.ensures c.if-unit-u.true

pub returns-clause-step : goal.returns-clause-step
returns-clause-step c =
    λ O. seen_unit O c.args.walk.now.sheet.now c.args.u c.args.i (state_of c.args.walk.now) c.word.result c.word.ensures c.if-word-ne-IMPORT_ALL.false
    c.word-unit.result c.word-unit.ensures c.if-unit-u.false (c.import_all.ensures.step O)
