use mathlib.Core.Path.{◌≡◌}
use Prim.Native.Nat.{◌≤◌, min}
use lib.ListN.{length}
use Rattle.definition.specs.Sheet.{word}
use Rattle.machine.specs.Machine.{no_scopes, open_names}
use Rattle.symbols.specs.OpenScopes.{scopes_of}
use Rattle.outermost.proofs.OpenedLaws.{names_from}
use Rattle.outermost.proofs.open_names.Given as goal

abbrev pub invariant-loop-i : goal.invariant-loop-i
invariant-loop-i l =
    (scopes_of l.env l.entries ≡ open_names l.sheet (names_from l.outside l.i (word l.outside 0 0)) (no_scopes l.sheet l.initial.entries))
    × (length l.entries ≡ length l.initial.entries) × (l.i ≤ word l.outside 0 0) × (min (word l.outside 0 0) 1 ≤ l.i)
