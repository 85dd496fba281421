-- `class_rows` meets its contract. Invariant: with the rows of the records that are left the words are what they are to be, and the place is that of the next record's members. Assumes nothing.
use mathlib.Core.List.{List, []}
use mathlib.Core.Path.{◌≡◌, refl, sym, ap, ◌∙◌}
use Prim.Native.Nat.{ℕ, ◌+◌, ◌*◌, ◌<◌}
use native.Mathlib.Omega.{arith}
use lib.Seq.{sets}
use lib.ListN.{get_or}
use Rattle.definition.specs.Outside.{ClassRecord, core}
use Rattle.session.specs.Words.{whole, members_before}
use Rattle.session_outside.specs.Written.{record_rows, records_from}
use Rattle.session_outside.proofs.RecordLaws.{fields_count, methods_count, members_few, members_next, records_next, records_end, row_next}
use Rattle.session_outside.proofs.records.class_rows.Goals as goal

pub loop-i-init : goal.loop-i-init
loop-i-init c =
    let z : c.args.first + 0 ≡ c.args.first = omega arith in
    (omega arith, omega arith, refl, ap (λ (k : ℕ). sets c.args.out.now (8 * k) (record_rows c.args.start (records_from c.args.runs.words.now 0))) z)

pub overflow_add-first : goal.overflow_add-first
overflow_add-first c = omega (arith, c.args.runs.readable.few_classes)

pub class_row-place-requires : goal.class_row-place-requires
class_row-place-requires c =
    let r = c.args.runs.readable in
    let l : c.loop-i.i < get_or c.args.runs.words.now 6 0 = omega (arith, c.entry_at-classes.ensures) in
    (l, omega (arith, members_few c.args.runs.words.now c.loop-i.i r l))

pub loop-i-preserved : goal.loop-i-preserved
loop-i-preserved c =
    let l : c.loop-i.i < get_or c.args.runs.words.now 6 0 = omega (arith, c.entry_at-classes.ensures) in
    let z : c.args.first + (c.loop-i.i + 1) ≡ c.args.first + c.loop-i.i + 1 = omega arith in (
      omega arith,
      omega (arith, c.class_row-place.ensures.0, members_next c.args.runs.words.now c.loop-i.i, fields_count c.args.runs.words.now c.loop-i.i, methods_count c.args.runs.words.now c.loop-i.i),
      omega (arith, c.class_row-place.auto.out, c.loop-i.invariant.2),
      row_next c.loop-i.out (c.args.first + c.loop-i.i) c.loop-i.place (records_next c.args.runs.words.now c.loop-i.i l) c.class_row-place.ensures.1 z c.class_row-place.ensures.0
          ∙ c.loop-i.invariant.3,
    )

pub shape_of-out : goal.shape_of-out
shape_of-out c = c.loop-i.invariant.2

pub returns : goal.returns
returns c =
    let z : c.loop-i.i ≡ get_or c.args.runs.words.now 6 0 = omega (arith, c.entry_at-classes.ensures) in (
      omega (arith, ap (members_before whole c.args.runs.words.now []) z, c.args.runs.readable.members_counted, c.args.runs.readable.few_members),
      ap (λ (k : ℕ). sets c.loop-i.out (8 * (c.args.first + k)) (record_rows c.loop-i.place core.records)) (sym z)
          ∙ ap (λ (l : List ClassRecord). sets c.loop-i.out (8 * (c.args.first + c.loop-i.i)) (record_rows c.loop-i.place l)) (sym (records_end c.args.runs.words.now c.loop-i.i (omega (arith, z))))
          ∙ c.loop-i.invariant.3,
    )
