use mathlib.Core.Path.{refl, sym, ap, ◌∙◌}
use Rattle.sheet.specs.Rest.{rows_left}
use Rattle.start_units.proofs.ReadyLaws.{standing_first, standing_none, standing_found, standing_more, standing_end}
use Rattle.start_units.proofs.first_waiting.Goals as goal

pub returns-then-from-eq0 : goal.returns-then-from-eq0
returns-then-from-eq0 c = standing_none c.args.sheet.now c.requires.0 c.args.marks.now c.args.from c.requires.1 c.if-from-eq0.true

pub returns-then-waits_for : goal.returns-then-waits_for
returns-then-waits_for c =
    standing_found c.args.sheet.now c.requires.0 c.args.marks.now c.args.from
    (standing_first c.args.sheet.now c.requires.0 c.args.marks.now c.args.from c.requires.1 c.if-from-eq0.false refl) refl
    (sym c.waits_for.ensures ∙ c.if-waits_for.true)

pub loop-k-init : goal.loop-k-init
loop-k-init c =
    standing_more c.args.sheet.now c.requires.0 c.args.marks.now c.args.from
    (standing_first c.args.sheet.now c.requires.0 c.args.marks.now c.args.from c.requires.1 c.if-from-eq0.false
    (ap rows_left c.into_iter-k-iterator.ensures.into_iter_gives ∙ c.siblings_after-k-items.ensures)) refl
    (sym c.waits_for.ensures ∙ c.if-waits_for.false)

pub returns-then-waits_for-2 : goal.returns-then-waits_for-2
returns-then-waits_for-2 c =
    standing_found c.args.sheet.now c.requires.0 c.args.marks.now c.args.from c.loop-k.invariant c.in-Some.ensures.steps
    (sym c.waits_for-in-loop-k.ensures ∙ c.if-waits_for-2.true)

pub loop-k-preserved : goal.loop-k-preserved
loop-k-preserved c =
    standing_more c.args.sheet.now c.requires.0 c.args.marks.now c.args.from c.loop-k.invariant c.in-Some.ensures.steps
    (sym c.waits_for-in-loop-k.ensures ∙ c.if-waits_for-2.false)

pub returns : goal.returns
returns c = standing_end c.args.sheet.now c.requires.0 c.args.marks.now c.args.from c.loop-k.invariant c.in-None.ensures.steps.0
