use mathlib.Core.Path.{refl, ◌∙◌}
use Prim.Native.Nat.{◌<◌, ◌≤◌}
use Rattle.definition.specs.Sheet.{rows as rows_of}
use native.Mathlib.Omega.{arith}
use Rattle.start_units.proofs.NoteLaws.{noting_none, noting_more, noting_all}
use Rattle.start_units.proofs.note_importers.Goals as goal

pub loop-u-init : goal.loop-u-init
loop-u-init c =
    (omega arith, refl, noting_none c.args.sheet.now c.args.low.now c.requires.1)

pub loop-u-preserved : goal.loop-u-preserved
loop-u-preserved c =
    let below : c.loop-u.u < rows_of c.args.sheet.now = omega arith in (
      omega arith,
      c.note_unit.auto.low ∙ c.loop-u.invariant.1,
      noting_more c.args.sheet.now c.requires.0 c.loop-u.u c.loop-u.low _ below c.loop-u.invariant.2 c.note_unit.ensures,
    )

pub returns : goal.returns
returns c =
    let all : rows_of c.args.sheet.now ≤ c.loop-u.u = omega arith in
    noting_all c.args.sheet.now c.loop-u.u c.loop-u.low c.loop-u.invariant.2 all
