use mathlib.Core.Path.{ap, ◌∙◌}
use Prim.Native.Nat.{ℕ}
use native.Mathlib.Omega.{arith}
use Rattle.session_check.proofs.MarkLaws.{left_start, left_refused, left_next, left_done, under_le, set_under, fresh_below, marked_if, unmarked_if}
use Rattle.session_check.specs.Clauses.{names_apart}
use Rattle.session_check.proofs.entry.Entry.names_apart.Goals as goal

pub loop-j-init : goal.loop-j-init
loop-j-init c = (
  c.requires.0,
  omega arith,
  under_le c.requires.2 (omega arith),
  left_start c.args.self.words.now _ _ c.args.marks.now _ _ (omega (arith, c.last_name-last.ensures)) c.requires.2
      ∙ ap (λ (k : ℕ). names_apart c.args.self.words.now k c.args.first c.args.end) c.last_name-last.ensures.0,
)

pub returns-then-not-mark_name : goal.returns-then-not-mark_name
returns-then-not-mark_name c =
    let m = c.loop-j.marks in
    let no = c.if-not-mark_name.true in (
      left_refused c.args.self.words.now _ _ m _ _ c.loop-j-test.true c.number_at-name.ensures.0 c.mark_name.ensures.0 no c.loop-j.invariant.3,
      rw (unmarked_if m _ _ _ c.mark_name.ensures.1 no) c.loop-j.invariant.2,
    )

pub loop-j-preserved : goal.loop-j-preserved
loop-j-preserved c =
    let m = c.loop-j.marks in
    let yes = c.if-not-mark_name.false in (
      omega arith,
      omega arith,
      rw (marked_if m _ _ _ c.mark_name.ensures.1 yes)
          (set_under c.number_at-name.result
          (fresh_below c.last_name-last.result c.args.mark m c.number_at-name.result (omega (arith, c.last_name-last.ensures, c.loop-j.invariant.1)) c.mark_name.ensures.0 yes) c.loop-j.invariant.2),
      left_next c.args.self.words.now _ _ m _ _ _ c.loop-j-test.true c.number_at-name.ensures.0 c.mark_name.ensures.0 yes
          (marked_if m _ _ _ c.mark_name.ensures.1 yes) c.loop-j.invariant.3,
    )

pub returns : goal.returns
returns c =
    (left_done c.args.self.words.now _ _ _ _ _ c.loop-j-test.false c.loop-j.invariant.3, c.loop-j.invariant.2)
