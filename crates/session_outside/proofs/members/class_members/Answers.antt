-- `class_members` meets its contract. Invariant: with the members that are left the words are what they are to be, and `member` members are passed. Assumes nothing.
use mathlib.Core.List.{List, []}
use mathlib.Core.Path.{◌≡◌, refl, sym, ap, ◌∙◌}
use Prim.Native.Nat.{◌<◌}
use native.Mathlib.Omega.{arith}
use lib.Seq.{sets}
use lib.ListN.{get_or}
use Rattle.definition.specs.Outside.{ClassRecord}
use Rattle.definition.specs.Basics.{concat_map}
use Rattle.session.specs.Words.{whole, members_before}
use Rattle.session_outside.specs.Written.{member_run}
use Rattle.session_outside.proofs.RecordLaws.{class_written, members_few, members_next, records_end}
use Rattle.session_outside.proofs.members.class_members.Goals as goal

pub loop-i-init : goal.loop-i-init
loop-i-init c = (omega arith, refl, omega arith, refl, refl)

pub overflow_mul-p : goal.overflow_mul-p
overflow_mul-p c = omega (arith, c.args.runs.readable.few_classes)

pub overflow_add-p : goal.overflow_add-p
overflow_add-p c = omega (arith, c.args.runs.readable.few_classes)

pub overflow_add-p-in-loop-i : goal.overflow_add-p-in-loop-i
overflow_add-p-in-loop-i c = omega (arith, c.args.runs.readable.few_classes)

pub overflow_add-p-in-loop-i-2 : goal.overflow_add-p-in-loop-i-2
overflow_add-p-in-loop-i-2 c = omega (arith, c.args.runs.readable.few_classes)

pub copy_fields-requires : goal.copy_fields-requires
copy_fields-requires c = (
  omega (arith, members_few c.args.runs.words.now c.loop-i.i c.args.runs.readable (omega arith)),
  omega (arith, members_few c.args.runs.words.now c.loop-i.i c.args.runs.readable (omega arith)),
)

pub overflow_add-member : goal.overflow_add-member
overflow_add-member c = omega (arith, members_few c.args.runs.words.now c.loop-i.i c.args.runs.readable (omega arith))

pub overflow_add-at : goal.overflow_add-at
overflow_add-at c = omega (arith, members_few c.args.runs.words.now c.loop-i.i c.args.runs.readable (omega arith))

pub copy_methods-requires : goal.copy_methods-requires
copy_methods-requires c =
    let f = c.entry_at-fields.ensures in
    let m = c.entry_at-methods.ensures in
    let i : c.loop-i.i < get_or c.args.runs.words.now 6 0 = omega (arith, c.entry_at-classes.ensures) in (
      omega (arith, members_few c.args.runs.words.now c.loop-i.i c.args.runs.readable (omega arith)),
      omega
          (arith, members_few c.args.runs.words.now c.loop-i.i c.args.runs.readable (omega arith), f, m),
      λ j a b. c.args.runs.readable.method_low c.loop-i.i j i (omega (arith, f, a)) (omega (arith, f, m, b)),
    )

pub overflow_add-member-in-loop-i : goal.overflow_add-member-in-loop-i
overflow_add-member-in-loop-i c = omega (arith, members_few c.args.runs.words.now c.loop-i.i c.args.runs.readable (omega arith))

pub overflow_add-member-in-loop-i-2 : goal.overflow_add-member-in-loop-i-2
overflow_add-member-in-loop-i-2 c = omega (arith, members_few c.args.runs.words.now c.loop-i.i c.args.runs.readable (omega arith))

pub overflow_mul-at : goal.overflow_mul-at
overflow_mul-at c = omega (arith, members_few c.args.runs.words.now c.loop-i.i c.args.runs.readable (omega arith))

pub overflow_add-at-in-loop-i : goal.overflow_add-at-in-loop-i
overflow_add-at-in-loop-i c = omega (arith, members_few c.args.runs.words.now c.loop-i.i c.args.runs.readable (omega arith))

pub overflow_add-at-in-loop-i-2 : goal.overflow_add-at-in-loop-i-2
overflow_add-at-in-loop-i-2 c = omega (arith, members_few c.args.runs.words.now c.loop-i.i c.args.runs.readable (omega arith))

pub loop-i-preserved : goal.loop-i-preserved
loop-i-preserved c =
    let f = c.entry_at-fields.ensures in
    let m = c.entry_at-methods.ensures in
    let i : c.loop-i.i < get_or c.args.runs.words.now 6 0 = omega (arith, c.entry_at-classes.ensures) in (
      omega (arith, i),
      omega (arith, members_next c.args.runs.words.now c.loop-i.i, f, m),
      omega (arith, f),
      omega (arith, c.copy_fields.auto.out, c.copy_methods.auto.out, c.loop-i.invariant.3),
      class_written c.args.runs.words.now c.loop-i.i c.loop-i.out c.loop-i.at i c.loop-i.invariant.1 f m c.copy_fields.ensures c.copy_methods.ensures ∙ c.loop-i.invariant.4,
    )

pub shape_of-out : goal.shape_of-out
shape_of-out c = c.loop-i.invariant.3

pub returns : goal.returns
returns c =
    let z : c.loop-i.i ≡ get_or c.args.runs.words.now 6 0 = omega (arith, c.entry_at-classes.ensures) in (
      omega (arith, ap (members_before whole c.args.runs.words.now []) z, c.args.runs.readable.members_counted, c.args.runs.readable.few_members),
      ap (λ (l : List ClassRecord). sets c.loop-i.out c.loop-i.at (concat_map member_run l)) (sym (records_end c.args.runs.words.now c.loop-i.i (omega (arith, z)))) ∙ c.loop-i.invariant.4,
    )
