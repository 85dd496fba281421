use mathlib.Core.Path.{refl}
use Rattle.climb.proofs.StepLaws.{step_top, step_circle, step_lacking, step_parent}
use Rattle.climb.proofs.climb_step.Goals as goal

pub returns-then-not-is_pending : goal.returns-then-not-is_pending
returns-then-not-is_pending c = (
  step_top c.args.parents.now c.args.size c.args.mark c.args.marks.now c.args.c c.is_pending.ensures
      c.if-not-is_pending.true,
  refl,
)

pub returns-then-in_lineage : goal.returns-then-in_lineage
returns-then-in_lineage c = (
  step_circle c.args.parents.now c.args.size c.args.mark c.args.marks.now c.args.c c.is_pending.ensures
      c.if-not-is_pending.false c.in_lineage.ensures c.if-in_lineage.true,
  refl,
)

pub returns-then-parent : goal.returns-then-parent
returns-then-parent c = (
  step_lacking c.args.parents.now c.args.size c.args.mark c.args.marks.now c.args.c c.is_pending.ensures
      c.if-not-is_pending.false c.in_lineage.ensures c.if-in_lineage.false c.entry_at-parent.ensures
      c.if-parent.true,
  refl,
)

pub returns : goal.returns
returns c = (
  step_parent c.args.parents.now c.args.size c.args.mark c.args.marks.now c.args.c c.is_pending.ensures
      c.if-not-is_pending.false c.in_lineage.ensures c.if-in_lineage.false c.entry_at-parent.ensures
      c.if-parent.false,
  c.put_entry.ensures,
)
