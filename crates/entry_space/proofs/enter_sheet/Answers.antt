use native.Mathlib.Omega.{arith}
use Rattle.session_outside.proofs.WholeLaws.{size_few}
use Rattle.session_outside.proofs.ReadableLaws.{readable}
use Rattle.session.proofs.RowLaws.{whole_few}
use Rattle.walk_space.proofs.RoomLaws.{small_room, large_room}
use Rattle.prepare_entry.proofs.SpaceLaws.{rows_fit_lem}
use Rattle.entry_space.proofs.enter_sheet.Goals as goal

pub enter_with-requires : goal.enter_with-requires
enter_with-requires c =
    let told = c.requires.2 in (
      c.requires,
      size_few (readable c.args.words.now c.requires.0 told.fits),
      omega arith,
      large_room _ _ _ (whole_few c.args.sheet.now (rows_fit_lem told)) (omega arith) (omega arith),
    )

pub enter_with-requires-then-outside_size-gt-SMALL_OUTSIDE : goal.enter_with-requires-then-outside_size-gt-SMALL_OUTSIDE
enter_with-requires-then-outside_size-gt-SMALL_OUTSIDE c =
    let small = c.is_small.ensures c.if-not-is_small.false in (
      c.requires,
      size_few (readable c.args.words.now c.requires.0 c.requires.2.fits),
      omega arith,
      small_room _ _ _ small.0 small.1 (omega arith) (omega arith),
    )

pub enter_with-requires-2 : goal.enter_with-requires-2
enter_with-requires-2 c =
    let small = c.is_small.ensures c.if-not-is_small.false in (
      c.requires,
      omega (arith, c.if-outside_size-gt-SMALL_OUTSIDE.false, c.outside_size.ensures),
      omega arith,
      small_room _ _ _ small.0 small.1 (omega arith) (omega arith),
    )
