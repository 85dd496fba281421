use Rattle.std.proofs.Common.{sym, ap, ◌∙◌}
use Rattle.ast.specs.Kind.{kind_number}
use Rattle.distinct.specs.Apart.{unmarked, marked}
use Rattle.sheet.specs.Rest.{rows_left}
use Rattle.distinct.proofs.ApartLaws.{list_refused, list_next, marks_next, list_done, marks_done}
use Rattle.distinct.proofs.names_apart.Goals as goal

pub loop-c-preserved : goal.loop-c-preserved
loop-c-preserved c =
    record {
      size = c.child_apart.auto.marks ∙ c.loop-c.invariant.size;
      value = list_next _ _ _ _ c.in-Some.ensures.steps c.if-not-child_apart.false c.child_apart.ensures.marks_after c.child_apart.ensures.value c.loop-c.invariant.value;
      after = marks_next _ _ _ _ c.in-Some.ensures.steps c.if-not-child_apart.false c.child_apart.ensures.marks_after c.loop-c.invariant.after;
    }

pub returns-then-not-child_apart-clause-value : goal.returns-then-not-child_apart-clause-value
returns-then-not-child_apart-clause-value c =
    list_refused _ _ _ _ c.in-Some.ensures.steps c.child_apart.ensures.value c.if-not-child_apart.true
    (c.loop-c.invariant.value ∙ ap (unmarked c.args.sheet.now (kind_number c.args.kind) c.args.mark c.args.marks.now)
    (ap rows_left c.into_iter-c-iterator.ensures.into_iter_gives ∙ c.kids-c-items.ensures))

pub returns-clause-value : goal.returns-clause-value
returns-clause-value c =
    sym (list_done _ _ _ _ c.in-None.ensures.steps.0)
    ∙ c.loop-c.invariant.value ∙ ap (unmarked c.args.sheet.now (kind_number c.args.kind) c.args.mark c.args.marks.now)
    (ap rows_left c.into_iter-c-iterator.ensures.into_iter_gives ∙ c.kids-c-items.ensures)

pub returns-clause-marks_after : goal.returns-clause-marks_after
returns-clause-marks_after c =
    λ e. sym (marks_done _ _ _ _ c.in-None.ensures.steps.0)
    ∙ c.loop-c.invariant.after ∙ ap (marked c.args.sheet.now (kind_number c.args.kind) c.args.mark c.args.marks.now)
    (ap rows_left c.into_iter-c-iterator.ensures.into_iter_gives ∙ c.kids-c-items.ensures)
