use mathlib.Core.List.{[]}
use mathlib.Core.Path.{sym, ap, ◌∙◌, subst}
use native.Mathlib.Omega.{arith}
use lib.Dec.{T}
use Rattle.session.specs.Words.{whole, members_before}
use Rattle.session_rows.proofs.RunLaws.{all_refused, all_next, all_done}
use Rattle.session_check.proofs.MarkLaws.{under_le}
use Rattle.session_check.proofs.ClauseLaws.{members_more, classes_no, classes_end}
use Rattle.session_check.specs.Clauses.{class_right}
use mathlib.Core.Path.{ap}
use mathlib.Core.Bool.{not}
use mathlib.Core.Path.{ap}
use mathlib.Core.Bool.{not}
use Rattle.session_check.proofs.entry.Entry.classes_fit.Goals as goal

pub loop-i-init : goal.loop-i-init
loop-i-init c = (
  omega (arith, c.count_at-end.ensures.0, c.count_before-first.ensures.0, c.args.self.ordered.risen c.args.self.number 3 c.args.self.there (omega arith)),
  under_le c.requires.1 (omega (arith, c.count_before-first.ensures.0)),
  c.count_before-member.ensures.0 ∙ sym c.requires.0 ∙ ap (members_before whole c.args.self.words.now []) (sym c.count_before-first.ensures.0),
  omega (arith, c.count_before-member.ensures.1),
  rw (c.count_at-end.ensures.0, c.count_before-first.ensures.0),
)

pub class_fits-requires : goal.class_fits-requires
class_fits-requires c =
    let few = c.args.self.ordered.limited.classes in
    let end = c.args.self.ordered.below c.args.self.number 3 c.args.self.there (omega arith) in (
      omega (arith, c.loop-i-test.true, c.count_at-end.ensures.0, few, end),
      omega (arith, c.loop-i-test.true, c.count_at-end.ensures.0, few, end, c.loop-i.invariant.3),
      c.loop-i.invariant.2,
      c.loop-i.invariant.1,
    )

pub returns-then-not-class_fits : goal.returns-then-not-class_fits
returns-then-not-class_fits c = (
  classes_no c.args.self.words.now c.args.self.number
      (all_refused (class_right c.args.self.words.now c.args.self.number) _ _ c.loop-i-test.true c.class_fits.ensures.0 (ap not c.if-not-class_fits.true) c.loop-i.invariant.4),
  λ e. absurd (subst T (sym e) tt),
)

pub member_count-member-requires : goal.member_count-member-requires
member_count-member-requires c =
    omega (arith, c.loop-i-test.true, c.count_at-end.ensures.0, c.args.self.ordered.limited.classes, c.args.self.ordered.below c.args.self.number 3 c.args.self.there (omega arith))

pub overflow_add-member : goal.overflow_add-member
overflow_add-member c =
    omega (
      arith,
      c.loop-i.invariant.3,
      c.member_count-member.ensures.1,
      c.loop-i-test.true,
      c.count_at-end.ensures.0,
      c.args.self.ordered.limited.classes,
      c.args.self.ordered.below c.args.self.number 3 c.args.self.there (omega arith),
    )

pub loop-i-preserved : goal.loop-i-preserved
loop-i-preserved c = (
  omega (arith, c.loop-i-test.true),
  under_le c.class_fits.ensures.1 (omega arith),
  members_more c.args.self.words.now c.loop-i.i c.loop-i.invariant.2 c.member_count-member.ensures.0,
  omega (arith, c.loop-i.invariant.3, c.member_count-member.ensures.1),
  all_next (class_right c.args.self.words.now c.args.self.number) _ _ c.loop-i-test.true c.class_fits.ensures.0 (ap not c.if-not-class_fits.false) c.loop-i.invariant.4,
)

pub returns : goal.returns
returns c = (
  classes_end c.args.self.words.now c.args.self.number
      (all_done (class_right c.args.self.words.now c.args.self.number) _ _ c.loop-i-test.false c.loop-i.invariant.4)
      c.count_at-end.ensures.0 c.loop-i.invariant.0 c.loop-i-test.false c.loop-i.invariant.2 c.count_at.ensures.0,
  λ e. under_le c.loop-i.invariant.1 (omega (arith, c.count_at-end.ensures.0, c.loop-i.invariant.0)),
)
