-- `count_core` meets its contract. Invariant: what is counted and the core names that are left are what all give. Assumes nothing.
use mathlib.Core.Path.{◌≡◌, refl, ap, ◌∙◌}
use mathlib.Core.List.{List}
use Prim.Native.Nat.{ℕ, ◌+◌, ◌-◌, ◌<◌}
use native.Mathlib.Omega.{arith}
use lib.ListN.{length, drop}
use Rattle.definition.specs.Meaning.{Named}
use Rattle.definition.specs.Outside.{core}
use Rattle.session_outside.specs.Written.{firsts, core_name}
use Rattle.session_outside.proofs.NameLaws.{core_next, core_end}
use Rattle.definition.proofs.Lists.Tests.{bit_le}
use Rattle.names_shown.proofs.CountLaws.{none_counted, core_number}
use Rattle.names_shown.proofs.count_core.Goals as goal

pub loop-name-init : goal.loop-name-init
loop-name-init c = (omega arith, omega arith, omega arith, refl, omega arith)

pub overflow_add-count : goal.overflow_add-count
overflow_add-count c =
    omega (arith, c.loop-name.invariant.2, c.loop-name.invariant.1, bit_le c.mark_name.result)

pub loop-name-preserved : goal.loop-name-preserved
loop-name-preserved c =
    let v = c.loop-name.invariant in
    let k : ℕ = c.loop-name.name - 1 in
    let low : k < 9 = omega (arith, c.loop-name-test.true, v.0) in
    let on : c.loop-name.name + 1 - 1 ≡ k + 1 = omega (arith, v.0) in
    let named : c.loop-name.name ≡ (core_name k).name = omega (arith, core_number k low, v.0) in (
      omega arith,
      omega (arith, c.loop-name-test.true),
      omega (arith, v.2, bit_le c.mark_name.result),
      omega (arith, c.mark_name.auto.marks, v.3),
      omega (
        arith,
        c.mark_name.ensures (core_name k) (drop (k + 1) core.names) named,
        ap (λ (l : List Named). length (firsts c.loop-name.marks l)) (core_next k low),
        ap (λ (i : ℕ). length (firsts c.mark_name.new.marks (drop i core.names))) on,
        v.4,
      ),
    )

pub shape_of-marks : goal.shape_of-marks
shape_of-marks c = c.loop-name.invariant.3

pub returns : goal.returns
returns c =
    let v = c.loop-name.invariant in
    let none =
    ap (λ (l : List Named). length (firsts c.loop-name.marks l)) (core_end (c.loop-name.name - 1) (omega (arith, c.loop-name-test.false))) ∙ none_counted c.loop-name.marks in
    (omega (arith, v.1, v.2), omega (arith, v.4, none))
