use Rattle.std.proofs.Common.{refl}
use Rattle.walk.specs.WalkState.{state_of}
use Rattle.walk.proofs.VisitLaws.{literal_done}
use Rattle.visits.proofs.note_literal.Goals as goal

pub returns-clause-step : goal.returns-clause-step
returns-clause-step c = λ O. literal_done O c.args.walk.now.sheet.now c.args.row (state_of c.args.walk.now) refl _ c.requires (c.write_decl.ensures _ _)
