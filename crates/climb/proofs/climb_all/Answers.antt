use mathlib.Core.Path.{refl, ap, ◌∙◌}
use Prim.Native.Nat.{◌+◌, ◌-◌}
use native.Mathlib.Omega.{arith}
use Rattle.climb.specs.Process.{is_top}
use Rattle.climb.proofs.StepLaws.{handed, all_start, all_over, all_next, all_end}
use Rattle.climb.proofs.climb_all.Goals as goal

pub loop-c-init : goal.loop-c-init
loop-c-init c = (
  all_start c.args.parents.now c.args.marks.now c.run_size-c-end.result (c.run_size-c-end.result - 0) c.run_size-c-end.ensures (omega arith),
  refl,
  omega arith,
)

pub returns-in_err-climb : goal.returns-in_err-climb
returns-in_err-climb c =
    let size = c.run_size-c-end.result in
    rw (handed c.from_residual.result _ c.from_residual.ensures.1, ← c.in_err-climb.was)
    (all_over c.args.parents.now c.loop-c.marks (size - c.loop-c.c) (size - (c.loop-c.c + 1)) c.loop-c.c (c.loop-c.c + 1)
    (omega (arith, c.loop-c-test.true)) (omega arith) c.climb.ensures
    (ap is_top c.in_err-climb.was)
    ∙ c.loop-c.invariant.0)

pub loop-c-preserved : goal.loop-c-preserved
loop-c-preserved c =
    let size = c.run_size-c-end.result in (
      all_next c.args.parents.now c.loop-c.marks (size - c.loop-c.c) (size - (c.loop-c.c + 1)) c.loop-c.c (c.loop-c.c + 1)
          (omega (arith, c.loop-c-test.true)) (omega arith) c.climb.ensures
          (ap is_top c.in_ok-climb.was)
          ∙ c.loop-c.invariant.0,
      omega (arith, c.climb.auto, c.loop-c.invariant.1),
      omega (arith, c.loop-c-test.true),
    )

pub returns : goal.returns
returns c =
    all_end c.args.parents.now c.loop-c.marks (c.run_size-c-end.result - c.loop-c.c) c.loop-c.c (omega (arith, c.loop-c-test.false))
    ∙ c.loop-c.invariant.0
