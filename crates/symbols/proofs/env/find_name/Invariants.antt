use Rattle.machine.specs.Machine.{find_name, function_marks}
use lib.ListN.{length}
use Prim.Native.Nat.{◌+◌, ◌≤◌}
use mathlib.Core.Path.{◌≡◌}
use Rattle.symbols.proofs.env.find_name.Given as goal

-- the entries from i on do not declare the name, and k functions' marks are among them
abbrev pub invariant-loop-at : goal.invariant-loop-at
invariant-loop-at l =
    (find_name l.entries l.m l.at ≡ find_name l.entries l.m l.n) × (l.marks + length (function_marks l.sheet l.entries l.at) ≡ length (function_marks l.sheet l.entries l.n)) × (l.marks + l.at ≤ l.n)
