use Rattle.fun_rows.proofs.ChainLaws.{Chained}
use Rattle.definition.specs.Sheet.{rows}
use Prim.Native.Nat.{◌≤◌}
use Rattle.fun_rows.proofs.literals.link_literals.Given as goal

abbrev pub invariant-loop-l : goal.invariant-loop-l
invariant-loop-l l =
    (l.l ≤ rows l.sheet) × Chained l.sheet l.results l.first l.after l.l
