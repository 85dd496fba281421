use native.Mathlib.Omega.{arith}
use Rattle.resolver.proofs.LentLaws.{lent_room}
use Rattle.resolver.proofs.resolve_with.Goals as goal

pub resolve_in-requires : goal.resolve_in-requires
resolve_in-requires g c =
    record { past = c.requires.0.past; lent = lent_room _ _ (omega (arith, c.requires.0.listed, c.requires.0.nine)) c.requires.1 }
