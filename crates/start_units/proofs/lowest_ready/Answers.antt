use mathlib.Core.Path.{sym, ap, subst, ◌∙◌}
use Prim.Native.Nat.{◌<◌}
use native.Mathlib.Omega.{arith}
use Rattle.definition.specs.Sheet.{rows as rows_of}
use Rattle.start_units.specs.Starting.{or_past}
use Rattle.start_units.proofs.StartedLaws.{Looking, following_above, looking_more, looking_some, looking_found}
use Rattle.start_units.proofs.lowest_ready.Goals as goal

pub returns-then-is_ready : goal.returns-then-is_ready
returns-then-is_ready c =
    let s = c.args.sheet.now in
    let m = c.args.marks.now in
    let u = c.in-Some.u in
    let below : u < rows_of s = omega arith in
    let look = subst (Looking s m (or_past c.args.start)) (ap or_past c.in-Some.is) c.loop-at.invariant.0 in
    let ready = sym c.is_ready.ensures.0 ∙ c.if-is_ready.true in
    ((looking_some s m (or_past c.args.start) u look c.requires.0 ready, looking_found s m (or_past c.args.start) u look c.requires.0 below ready), c.is_ready.ensures.1)

pub loop-at-smaller : goal.loop-at-smaller
loop-at-smaller c =
    let below : c.in-Some.u < rows_of c.args.sheet.now = omega arith in
    omega (arith, ap or_past c.in-Some.is, c.following-at.ensures, (following_above c.args.sheet.now c.in-Some.u c.requires.0 below).0)

pub loop-at-preserved : goal.loop-at-preserved
loop-at-preserved c =
    let s = c.args.sheet.now in
    let m = c.args.marks.now in
    let u = c.in-Some.u in
    let below : u < rows_of s = omega arith in
    let look = subst (Looking s m (or_past c.args.start)) (ap or_past c.in-Some.is) c.loop-at.invariant.0 in (
      looking_more s m (or_past c.args.start) u look c.requires.0 below (sym c.is_ready.ensures.0 ∙ c.if-is_ready.false) c.following-at.ensures,
      c.is_ready.auto.waits ∙ c.loop-at.invariant.1,
      c.is_ready.ensures.1,
      omega (arith, c.following-at.ensures, (following_above s u c.requires.0 below).1),
    )
