use Rattle.fun_rows.proofs.+emit_captured.Given as goal

abbrev pub decreases-emit_captured : goal.decreases-emit_captured
decreases-emit_captured l = l.p
