use Rattle.fun_rows.proofs.+emit_sources.Given as goal

abbrev pub decreases-emit_sources : goal.decreases-emit_sources
decreases-emit_sources l = l.p
