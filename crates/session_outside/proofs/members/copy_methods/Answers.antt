-- `copy_methods` meets its contract. Invariant: with the methods that are left the words are what they are to be. Assumes nothing.
use mathlib.Core.List.{List, map}
use mathlib.Core.Path.{◌≡◌, refl, ap, ◌∙◌}
use Prim.Native.Nat.{ℕ, ◌+◌, ◌-◌, ◌*◌}
use native.Mathlib.Omega.{arith}
use lib.Seq.{sets}
use Rattle.definition.specs.Outside.{Method}
use Rattle.definition.specs.Basics.{concat_map, from}
use Rattle.session_outside.specs.Written.{method_words, earlier_method_in}
use Rattle.session_outside.proofs.RecordLaws.{from_start, method_written}
use Rattle.session_outside.proofs.members.copy_methods.Goals as goal

pub loop-i-init : goal.loop-i-init
loop-i-init c =
    let f : ℕ → Method = earlier_method_in c.args.session.now in
    let y : c.args.at + 0 ≡ c.args.at = omega arith in (
      omega arith,
      refl,
      ap (λ (k : ℕ). sets c.args.out.now k (concat_map method_words (map f (from (c.args.first + 0) (c.args.count - 0))))) y
          ∙ ap (λ (l : List ℕ). sets c.args.out.now c.args.at (concat_map method_words (map f l))) (from_start c.args.first c.args.count),
    )

pub overflow_add-p : goal.overflow_add-p
overflow_add-p c = omega arith

pub overflow_mul-p : goal.overflow_mul-p
overflow_mul-p c = omega arith

pub overflow_add-p-in-loop-i : goal.overflow_add-p-in-loop-i
overflow_add-p-in-loop-i c = omega arith

pub overflow_mul-q : goal.overflow_mul-q
overflow_mul-q c = omega arith

pub overflow_add-q : goal.overflow_add-q
overflow_add-q c = omega arith

pub overflow_add-q-in-loop-i : goal.overflow_add-q-in-loop-i
overflow_add-q-in-loop-i c = omega arith

pub overflow_add-p-in-loop-i-2 : goal.overflow_add-p-in-loop-i-2
overflow_add-p-in-loop-i-2 c = omega arith

pub overflow_add-entry_at : goal.overflow_add-entry_at
overflow_add-entry_at c =
    omega (arith, c.requires.2 (c.args.first + c.loop-i.i) (omega arith) (omega arith), c.entry_at-in-loop-i.ensures)

pub overflow_add-q-in-loop-i-2 : goal.overflow_add-q-in-loop-i-2
overflow_add-q-in-loop-i-2 c = omega arith

pub overflow_add-p-in-loop-i-3 : goal.overflow_add-p-in-loop-i-3
overflow_add-p-in-loop-i-3 c = omega arith

pub loop-i-preserved : goal.loop-i-preserved
loop-i-preserved c = (
  omega arith,
  omega (arith, c.put_entry.auto.table, c.put_entry-in-loop-i.auto.table, c.put_entry-in-loop-i-2.auto.table, c.loop-i.invariant.1),
  method_written c.args.session.now c.loop-i.out c.args.at c.args.first c.args.count c.loop-i.i c.loop-i-test.true
      c.entry_at.ensures c.put_entry.ensures c.entry_at-in-loop-i.ensures c.put_entry-in-loop-i.ensures c.entry_at-in-loop-i-2.ensures c.put_entry-in-loop-i-2.ensures
      ∙ c.loop-i.invariant.2,
)

pub shape_of-out : goal.shape_of-out
shape_of-out c = c.loop-i.invariant.1

pub returns : goal.returns
returns c =
    let f : ℕ → Method = earlier_method_in c.args.session.now in
    let z : 0 ≡ c.args.count - c.loop-i.i = omega arith in
    ap (λ (k : ℕ). sets c.loop-i.out (c.args.at + 3 * c.loop-i.i) (concat_map method_words (map f (from (c.args.first + c.loop-i.i) k)))) z ∙ c.loop-i.invariant.2
