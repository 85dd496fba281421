-- `copy_fields` meets its contract. Invariant: with the fields that are left the words are what they are to be. Assumes nothing.
use mathlib.Core.List.{List, map}
use mathlib.Core.Path.{◌≡◌, refl, ap, ◌∙◌}
use Prim.Native.Nat.{ℕ, ◌+◌, ◌-◌}
use native.Mathlib.Omega.{arith}
use lib.Seq.{sets}
use lib.ListN.{get_or, set}
use Rattle.definition.specs.Basics.{from}
use Rattle.session.specs.Words.{whole, member_place}
use Rattle.session_outside.proofs.RecordLaws.{from_start, field_next}
use Rattle.session_outside.proofs.members.copy_fields.Goals as goal

pub loop-i-init : goal.loop-i-init
loop-i-init c =
    let f : ℕ → ℕ = λ j. get_or c.args.session.now (member_place whole j) 0 in
    let y : c.args.at + 0 ≡ c.args.at = omega arith in (
      omega arith,
      refl,
      ap (λ (k : ℕ). sets c.args.out.now k (map f (from (c.args.first + 0) (c.args.count - 0)))) y
          ∙ ap (λ (l : List ℕ). sets c.args.out.now c.args.at (map f l)) (from_start c.args.first c.args.count),
    )

pub overflow_add-p : goal.overflow_add-p
overflow_add-p c = omega arith

pub overflow_mul-p : goal.overflow_mul-p
overflow_mul-p c = omega arith

pub overflow_add-p-in-loop-i : goal.overflow_add-p-in-loop-i
overflow_add-p-in-loop-i c = omega arith

pub overflow_add-at : goal.overflow_add-at
overflow_add-at c = omega arith

pub loop-i-preserved : goal.loop-i-preserved
loop-i-preserved c =
    let f : ℕ → ℕ = λ j. get_or c.args.session.now (member_place whole j) 0 in (
      omega arith,
      omega (arith, c.put_entry.auto.table, c.loop-i.invariant.1),
      ap (λ (v : List ℕ). sets v (c.args.at + (c.loop-i.i + 1)) (map f (from (c.args.first + (c.loop-i.i + 1)) (c.args.count - (c.loop-i.i + 1)))))
          (c.put_entry.ensures ∙ ap (set c.loop-i.out (c.args.at + c.loop-i.i)) c.entry_at.ensures)
          ∙ field_next f c.loop-i.out c.args.at c.args.first c.args.count c.loop-i.i c.loop-i-test.true ∙ c.loop-i.invariant.2,
    )

pub shape_of-out : goal.shape_of-out
shape_of-out c = c.loop-i.invariant.1

pub returns : goal.returns
returns c =
    let f : ℕ → ℕ = λ j. get_or c.args.session.now (member_place whole j) 0 in
    let z : 0 ≡ c.args.count - c.loop-i.i = omega arith in
    ap (λ (k : ℕ). sets c.loop-i.out (c.args.at + c.loop-i.i) (map f (from (c.args.first + c.loop-i.i) k))) z ∙ c.loop-i.invariant.2
