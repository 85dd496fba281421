use mathlib.Core.Path.{◌≡◌}
use Prim.Native.Nat.{◌-◌, ◌≤◌}
use lib.ListN.{length}
use Rattle.climb.specs.Process.{process_all, climbed_all}
use Rattle.climb.proofs.climb_all.Given as goal

abbrev pub invariant-loop-c : goal.invariant-loop-c
invariant-loop-c l =
    (process_all l.parents (l.c-end - l.c) l.marks l.c ≡ climbed_all l.parents l.initial.marks) × (length l.marks ≡ length l.initial.marks) × (l.c ≤ l.c-end)
