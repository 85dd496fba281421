use mathlib.Core.Path.{◌≡◌, refl, sym, ◌∙◌}
use native.Mathlib.Omega.{arith}
use Rattle.std.specs.Prelude.{Ok, Some, None}
use Rattle.climb.proofs.StepLaws.{step_over, step_refused, step_length, step_less, handed, mark_some, climb_start, climb_up}
use Rattle.climb.proofs.climb.Goals as goal

pub loop-parent-init : goal.loop-parent-init
loop-parent-init c = (
  climb_start c.args.parents.now c.args.marks.now c.args.start c.run_size-size.ensures c.one_more-mark.ensures,
  refl,
)

pub loop-parent-smaller : goal.loop-parent-smaller
loop-parent-smaller c =
    let x : c.climb_step.result ≡ Ok (Some c.in-Some.parent) = cc (c.in_ok-parent.was, c.in-Some.is) in
    omega (
      arith,
      step_less c.args.parents.now c.run_size-size.result c.one_more-mark.result c.loop-parent.marks c.loop-parent.c c.climb_step.ensures.0 c.climb_step.ensures.1 x
          (λ e. mark_some c.args.start (sym c.one_more-mark.ensures ∙ e)) (omega (arith, c.run_size-size.ensures, c.loop-parent.invariant.1)),
    )

pub loop-parent-preserved : goal.loop-parent-preserved
loop-parent-preserved c =
    let x : c.climb_step.result ≡ Ok (Some c.in-Some.parent) = cc (c.in_ok-parent.was, c.in-Some.is) in (
      climb_up c.args.parents.now c.run_size-size.result c.one_more-mark.result c.loop-parent.marks c.loop-parent.c (λ e. mark_some c.args.start (sym c.one_more-mark.ensures ∙ e))
          (omega (arith, c.run_size-size.ensures, c.loop-parent.invariant.1)) c.climb_step.ensures.0 c.climb_step.ensures.1 x
          ∙ c.loop-parent.invariant.0,
      step_length c.args.parents.now c.run_size-size.result c.one_more-mark.result c.loop-parent.marks c.loop-parent.c c.climb_step.ensures.0 c.climb_step.ensures.1 x
          ∙ c.loop-parent.invariant.1,
    )

pub returns-in-None : goal.returns-in-None
returns-in-None c =
    let x : c.climb_step.result ≡ Ok None = cc (c.in_ok-parent.was, c.in-None.is) in
    step_over c.args.parents.now c.run_size-size.result c.one_more-mark.result c.loop-parent.marks c.loop-parent.c c.climb_step.ensures.0 c.climb_step.ensures.1
    x c.run_size-size.result
    ∙ c.loop-parent.invariant.0

pub returns-in_err-parent : goal.returns-in_err-parent
returns-in_err-parent c =
    rw (handed c.from_residual.result _ c.from_residual.ensures.1)
    (step_refused c.args.parents.now c.run_size-size.result c.one_more-mark.result c.loop-parent.marks c.loop-parent.c c.climb_step.ensures.0 c.climb_step.ensures.1
    c.in_err-parent.was c.run_size-size.result
    ∙ c.loop-parent.invariant.0)
