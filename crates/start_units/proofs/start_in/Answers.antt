use Rattle.start_units.proofs.StartedLaws.{waits_none}
use Rattle.start_units.proofs.start_in.Goals as goal

pub start_all-requires : goal.start_all-requires
start_all-requires c =
    (c.requires.0, c.note_importers.ensures, c.requires.3, waits_none c.args.sheet.now c.args.marks.now c.args.waits.now c.requires.0.some c.requires.2)
