-- `lay_declared` meets its contract. Invariant: laying the declarations that are left, and the core names, gives what laying all gives. Assumes nothing.
use mathlib.Core.List.{[]}
use mathlib.Core.Path.{◌≡◌, refl, sym, ap, ◌∙◌}
use Prim.Native.Nat.{ℕ, ◌+◌, ◌-◌}
use native.Mathlib.Omega.{arith}
use Rattle.session.specs.Words.{whole, laid_in}
use Rattle.session_outside.specs.Written.{name_rows, names_below}
use Rattle.session_outside.proofs.NameLaws.{below_more, below_none}
use Rattle.session_outside.proofs.visible.lay_declared.Goals as goal

pub loop-i-init : goal.loop-i-init
loop-i-init c =
    let e = c.entry_at-i.ensures in
    (omega (arith, e), omega (arith, e), refl, refl, ap (λ (k : ℕ). name_rows 1 c.args.marks.now c.args.out.now (names_below c.args.runs.words.now k)) e)

pub declared_name-requires : goal.declared_name-requires
declared_name-requires c = omega arith

pub lay_name-row-requires : goal.lay_name-row-requires
lay_name-row-requires c = omega (arith, c.args.runs.readable.few_laid)

pub loop-i-preserved : goal.loop-i-preserved
loop-i-preserved c =
    let z : c.loop-i.i - 1 + 1 ≡ c.loop-i.i = omega arith in (
      omega arith,
      omega (arith, c.lay_name-row.ensures.0),
      omega (arith, c.lay_name-row.auto.marks, c.loop-i.invariant.2),
      omega (arith, c.lay_name-row.auto.out, c.loop-i.invariant.3),
      c.lay_name-row.ensures.1 (laid_in whole c.args.runs.words.now [] (c.loop-i.i - 1)) (names_below c.args.runs.words.now (c.loop-i.i - 1)) c.declared_name.ensures
          ∙ ap (name_rows c.loop-i.row c.loop-i.marks c.loop-i.out)
          (sym (below_more c.args.runs.words.now (c.loop-i.i - 1)) ∙ ap (names_below c.args.runs.words.now) z) ∙ c.loop-i.invariant.4,
    )

pub shape_of-marks : goal.shape_of-marks
shape_of-marks c = c.loop-i.invariant.2

pub shape_of-out : goal.shape_of-out
shape_of-out c = c.loop-i.invariant.3

pub returns : goal.returns
returns c =
    let z : c.loop-i.i ≡ 0 = omega arith in (
      omega (arith, c.args.runs.readable.few_laid),
      ap (name_rows c.loop-i.row c.loop-i.marks c.loop-i.out)
          (sym (ap (names_below c.args.runs.words.now) z ∙ below_none c.args.runs.words.now)) ∙ c.loop-i.invariant.4,
    )
