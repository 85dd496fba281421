-- `lay_core` meets its contract. Invariant: laying the core names that are left gives what laying all gives. Assumes nothing.
use mathlib.Core.Path.{refl, sym, ap, ◌∙◌}
use Prim.Native.Nat.{◌+◌}
use native.Mathlib.Omega.{arith}
use lib.ListN.{drop}
use Rattle.definition.specs.Outside.{core}
use Rattle.session_outside.specs.Written.{name_rows, core_name}
use Rattle.session_outside.proofs.NameLaws.{core_next, core_end}
use Rattle.session_outside.proofs.visible.lay_core.Goals as goal

pub loop-i-init : goal.loop-i-init
loop-i-init c = (omega arith, omega arith, refl, refl, refl)

pub core_name-requires : goal.core_name-requires
core_name-requires c = c.loop-i-test.true

pub lay_name-row-requires : goal.lay_name-row-requires
lay_name-row-requires c = omega arith

pub loop-i-preserved : goal.loop-i-preserved
loop-i-preserved c = (
  omega arith,
  omega (arith, c.lay_name-row.ensures.0),
  omega (arith, c.lay_name-row.auto.marks, c.loop-i.invariant.2),
  omega (arith, c.lay_name-row.auto.out, c.loop-i.invariant.3),
  c.lay_name-row.ensures.1 (core_name c.loop-i.i) (drop (c.loop-i.i + 1) core.names) c.core_name.ensures
      ∙ ap (name_rows c.loop-i.row c.loop-i.marks c.loop-i.out) (sym (core_next c.loop-i.i c.loop-i-test.true)) ∙ c.loop-i.invariant.4,
)

pub shape_of-marks : goal.shape_of-marks
shape_of-marks c = c.loop-i.invariant.2

pub shape_of-out : goal.shape_of-out
shape_of-out c = c.loop-i.invariant.3

pub returns : goal.returns
returns c =
    ap (name_rows c.loop-i.row c.loop-i.marks c.loop-i.out) (sym (core_end c.loop-i.i c.loop-i-test.false)) ∙ c.loop-i.invariant.4
