use mathlib.Core.Path.{refl, sym, subst}
use mathlib.Core.List.{List}
use Prim.Native.Nat.{ℕ, ◌+◌}
use native.Mathlib.Omega.{arith}
use Rattle.outside.specs.Words.{over}
use Rattle.store.specs.Stored.{store_of}
use Rattle.inherit.proofs.ParentLaws.{Listed, listed_more, listed_all}
use Rattle.inherit.proofs.list_parents.Goals as goal

pub loop-r-init : goal.loop-r-init
loop-r-init c = (λ o q j l. absurd (omega arith), refl, omega arith)

pub overflow_add-r : goal.overflow_add-r
overflow_add-r c = omega (arith, c.requires.0, c.loop-r.invariant.2)

pub loop-r-preserved : goal.loop-r-preserved
loop-r-preserved c =
    let inside = c.loop-r-test.true in
    let e = c.put_entry.ensures in (
      λ o q. subst (λ (l : List ℕ). Listed (over c.args.outside.now) c.args.sheet.now
          (store_of o c.args.results.now q) l (c.loop-r.r + 1))
          (sym e)
          (listed_more (over c.args.outside.now) c.args.sheet.now (store_of o c.args.results.now q)
          c.loop-r.parents c.loop-r.r (c.loop-r.invariant.0 o q) (omega (arith, c.requires.2, c.loop-r.invariant.1, inside))
          (c.parent_of-up.ensures o q) c.parent_number.ensures),
      omega (arith, c.put_entry.auto, c.loop-r.invariant.1),
      omega (arith, inside),
    )

pub shape_of-parents : goal.shape_of-parents
shape_of-parents c = c.loop-r.invariant.1

pub returns : goal.returns
returns c =
    λ o q. listed_all (over c.args.outside.now) c.args.sheet.now (store_of o c.args.results.now q)
    c.loop-r.r (c.loop-r.invariant.0 o q) (omega (arith, c.loop-r-test.false)) (omega (arith, c.requires.2, c.loop-r.invariant.1))
