use mathlib.Core.Path.{◌≡◌, refl, ◌∙◌}
use Prim.Native.Nat.{◌<◌, ◌≤◌}
use native.Mathlib.Omega.{arith}
use Rattle.definition.specs.Sheet.{rows as rows_of}
use Rattle.start_units.specs.Starting.{or_past}
use Rattle.start_units.proofs.StartedLaws.{running_start, running_stop, running_full, running_more}
use Rattle.start_units.proofs.start_all.Goals as goal

pub loop-count-init : goal.loop-count-init
loop-count-init c =
    (running_start c.args.sheet.now c.args.list.now c.args.marks.now c.args.waits.now c.requires.2 c.requires.3, refl, refl, refl)

pub lowest_ready-requires : goal.lowest_ready-requires
lowest_ready-requires c = (c.requires.0, c.loop-count.invariant.0.waits)

pub returns-in-None : goal.returns-in-None
returns-in-None c =
    running_stop c.args.sheet.now c.args.list.now c.loop-count.marks c.loop-count.waits c.loop-count.list (or_past c.loop-count.start) c.loop-count.count c.loop-count.invariant.0
    0 c.in-None.ensures.0 refl

pub after_start-start-requires : goal.after_start-start-requires
after_start-start-requires c = omega (arith, (c.in-Some.ensures.0.1.some c.in-Some.ensures.0.0).1, c.requires.0.few)

pub loop-count-preserved : goal.loop-count-preserved
loop-count-preserved c =
    let below : c.loop-count.count < rows_of c.args.sheet.now = omega arith in (
      running_more c.args.sheet.now c.args.list.now c.loop-count.marks c.loop-count.waits c.loop-count.list (or_past c.loop-count.start) c.loop-count.count c.loop-count.invariant.0
          c.in-Some.u c.in-Some.ensures.0.1 c.in-Some.ensures.0.0 c.requires.0 below c.requires.1 c.in-Some.ensures.1
          c.put_entry.ensures c.put_at.ensures c.after_start-start.ensures,
      c.put_entry.auto.table ∙ c.loop-count.invariant.1,
      c.lowest_ready.auto.waits ∙ c.loop-count.invariant.2,
      c.put_at.auto.words ∙ c.loop-count.invariant.3,
    )

pub returns : goal.returns
returns c =
    let all : rows_of c.args.sheet.now ≡ c.loop-count.count = omega arith in
    let end : rows_of c.args.sheet.now ≤ c.loop-count.count = omega arith in
    rw all (running_full c.args.sheet.now c.args.list.now c.loop-count.marks c.loop-count.waits c.loop-count.list (or_past c.loop-count.start) c.loop-count.count c.loop-count.invariant.0 end)
