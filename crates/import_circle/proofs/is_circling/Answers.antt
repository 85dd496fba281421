use native.Mathlib.Omega.{arith}
use Rattle.import_circle.proofs.FoundLaws.{holds_none}
use Rattle.import_circle.proofs.is_circling.Goals as goal

pub comes_back-requires : goal.comes_back-requires
comes_back-requires c =
    (c.requires.0, c.requires.1, c.requires.0.few, omega arith, holds_none 2048)
