-- `count_declared` meets its contract. Invariant: what is counted, the declarations that are left and the core names are what all give. Assumes nothing.
use mathlib.Core.List.{List, []}
use mathlib.Core.Path.{◌≡◌, refl, sym, ap, ◌∙◌}
use Prim.Native.Nat.{ℕ, ◌+◌, ◌-◌}
use native.Mathlib.Omega.{arith}
use lib.ListN.{length}
use Rattle.definition.specs.Meaning.{Named}
use Rattle.session.specs.Words.{whole, laid_in}
use Rattle.session_outside.specs.Written.{firsts, names_below}
use Rattle.session_outside.proofs.NameLaws.{below_more, below_none}
use Rattle.definition.proofs.Lists.Tests.{bit_le}
use Rattle.names_shown.proofs.count_declared.Goals as goal

pub loop-i-init : goal.loop-i-init
loop-i-init c =
    let e = c.word_at-i.ensures in
    (omega (arith, e), omega (arith, e), refl, omega (arith, ap (λ (k : ℕ). length (firsts c.args.marks.now (names_below c.args.runs.words.now k))) e))

pub loop-i-preserved : goal.loop-i-preserved
loop-i-preserved c =
    let z : c.loop-i.i - 1 + 1 ≡ c.loop-i.i = omega arith in
    let more = sym (below_more c.args.runs.words.now (c.loop-i.i - 1)) ∙ ap (names_below c.args.runs.words.now) z in (
      omega (arith, c.loop-i.invariant.0),
      omega (arith, c.loop-i.invariant.1, bit_le c.mark_name.result),
      omega (arith, c.mark_name.auto.marks, c.loop-i.invariant.2),
      omega (
        arith,
        c.mark_name.ensures (laid_in whole c.args.runs.words.now [] (c.loop-i.i - 1)) (names_below c.args.runs.words.now (c.loop-i.i - 1)) c.word_at.ensures,
        ap (λ (l : List Named). length (firsts c.loop-i.marks l)) more,
        c.loop-i.invariant.3,
      ),
    )

pub shape_of-marks : goal.shape_of-marks
shape_of-marks c = c.loop-i.invariant.2

pub returns : goal.returns
returns c =
    let z : c.loop-i.i ≡ 0 = omega arith in
    let none = ap (λ (l : List Named). length (firsts c.loop-i.marks l)) (ap (names_below c.args.runs.words.now) z ∙ below_none c.args.runs.words.now) in
    (omega (arith, c.loop-i.invariant.1, c.args.runs.readable.few_laid), omega (arith, none, c.loop-i.invariant.3))
