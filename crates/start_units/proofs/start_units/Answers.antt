use Rattle.start_units.proofs.StartedLaws.{unnoted_zeros}
use Rattle.start_units.proofs.start_units.Goals as goal

pub start_in-requires : goal.start_in-requires
start_in-requires c =
    (c.requires.0, unnoted_zeros c.args.sheet.now 2048 c.requires.0.few, unnoted_zeros c.args.sheet.now 2048 c.requires.0.few, c.requires.1)
