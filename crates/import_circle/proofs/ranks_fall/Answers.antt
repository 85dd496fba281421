use Prim.Native.Nat.{◌≤◌}
use native.Mathlib.Omega.{arith}
use Rattle.definition.specs.Sheet.{rows as rows_of}
use Rattle.import_circle.proofs.RankLaws.{fallen_more, fallen_all}
use Rattle.import_circle.proofs.ranks_fall.Goals as goal

pub loop-u-init : goal.loop-u-init
loop-u-init c = (omega arith, λ u v l. absurd (omega arith))

pub loop-u-preserved : goal.loop-u-preserved
loop-u-preserved c = (
  omega arith,
  fallen_more c.args.sheet.now c.args.ranks.now c.loop-u.u c.loop-u.invariant.1 c.entry_at.ensures c.highest_import.ensures c.if-entry_at-highest_import.false,
)

pub returns : goal.returns
returns c =
    let all : rows_of c.args.sheet.now ≤ c.loop-u.u = omega arith in
    λ e. fallen_all c.args.sheet.now c.args.ranks.now c.loop-u.u c.loop-u.invariant.1 all
