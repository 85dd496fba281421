use Rattle.fresh_session.proofs.FreshLaws.{Writing}
use Rattle.fresh_session.proofs.write_fixed.Given as goal

abbrev pub invariant-loop-i : goal.invariant-loop-i
invariant-loop-i l = Writing l.initial.bytes l.i l.bytes
