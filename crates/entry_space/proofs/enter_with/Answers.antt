use mathlib.Core.Path.{sym, ◌∙◌}
use native.Mathlib.Omega.{arith}
use Rattle.answer_rows.proofs.ScratchLaws.{zeros_long}
use Rattle.prepare_entry.proofs.SpaceLaws.{copy_long, copy_fits, rows_fit_lem, front_is, front_written, ready}
use Rattle.entry_space.proofs.SpaceLaws.{enterable, entered_told}
use Rattle.entry_space.proofs.enter_with.Goals as goal

pub whole_as_front-write_entry : goal.whole_as_front-write_entry
whole_as_front-write_entry g c =
    (copy_fits c.args.sheet.now (rows_fit_lem c.requires.0.2) c.requires.3, omega (arith, c.requires.3.small))

pub slice_bounds-write_entry-end-2 : goal.slice_bounds-write_entry-end-2
slice_bounds-write_entry-end-2 g c =
    sym (copy_long _ g.row.SHEET (copy_fits c.args.sheet.now (rows_fit_lem c.requires.0.2) c.requires.3))

pub write_entry-requires : goal.write_entry-requires
write_entry-requires g c =
    let told = c.requires.0.2 in (
      (c.requires.0.0, told.fits),
      omega (arith, c.requires.1, zeros_long g.row.OUTSIDE),
      rows_fit_lem told,
      copy_long _ g.row.SHEET (copy_fits c.args.sheet.now (rows_fit_lem told) c.requires.3),
    )

pub slice_bounds-enter_in-end : goal.slice_bounds-enter_in-end
slice_bounds-enter_in-end g c =
    sym (front_is c.write_entry.ensures (c.write_entry.auto.copy ∙ copy_long _ g.row.SHEET (copy_fits c.args.sheet.now (rows_fit_lem c.requires.0.2) c.requires.3)) _)

pub enter_in-requires : goal.enter_in-requires
enter_in-requires g c =
    let told = c.requires.0.2 in
    let long = c.write_entry.auto.copy ∙ copy_long _ g.row.SHEET (copy_fits c.args.sheet.now (rows_fit_lem told) c.requires.3) in
    let front = front_written c.write_entry.ensures long _ in
    (enterable told front, ready told front (front_is c.write_entry.ensures long _) c.requires.3)

pub returns : goal.returns
returns g c =
    let long = c.write_entry.auto.copy ∙ copy_long _ g.row.SHEET (copy_fits c.args.sheet.now (rows_fit_lem c.requires.0.2) c.requires.3) in
    entered_told (front_written c.write_entry.ensures long _) c.enter_in.ensures
