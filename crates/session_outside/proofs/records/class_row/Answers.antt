use Prim.Native.Nat.{◌*◌}
use native.Mathlib.Omega.{arith}
use Rattle.session_outside.proofs.RecordLaws.{members_few, row_told, place_told}
use Rattle.session_outside.proofs.records.class_row.Goals as goal

pub overflow_add-number : goal.overflow_add-number
overflow_add-number c =
    omega (arith, c.args.runs.readable.class_low c.args.i c.requires.0, c.entry_at-number.ensures)

pub overflow_add-place : goal.overflow_add-place
overflow_add-place c = omega (arith, members_few c.args.runs.words.now c.args.i c.args.runs.readable c.requires.0)

pub overflow_add-result : goal.overflow_add-result
overflow_add-result c = omega (arith, members_few c.args.runs.words.now c.args.i c.args.runs.readable c.requires.0)

pub overflow_mul-result : goal.overflow_mul-result
overflow_mul-result c = omega (arith, members_few c.args.runs.words.now c.args.i c.args.runs.readable c.requires.0)

pub overflow_add-result-2 : goal.overflow_add-result-2
overflow_add-result-2 c = omega (arith, members_few c.args.runs.words.now c.args.i c.args.runs.readable c.requires.0)

pub returns : goal.returns
returns c =
    let f = c.entry_at-fields.ensures in
    let m = c.entry_at-methods.ensures in (
      place_told c.args.runs.words.now c.args.i c.args.place f m,
      row_told c.args.runs.words.now c.args.i c.args.out.now (8 * c.args.row) c.args.place c.entry_at-number.ensures c.entry_at-name.ensures f m c.put_row.ensures,
    )
