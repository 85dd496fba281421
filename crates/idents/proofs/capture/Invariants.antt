use Rattle.std.proofs.Common.{◌≡◌}
use Rattle.machine.specs.Machine.{add_capture, function_marks}
use Rattle.store.specs.Stored.{node_of}
use Rattle.walk.specs.WalkState.{scopes_in, stored_of, Same}
use Rattle.idents.proofs.capture.Given as goal

abbrev pub decreases-loop-mark : goal.decreases-loop-mark
decreases-loop-mark l = l.count

-- capturing in the functions that are left gives what capturing in all gives
abbrev pub invariant-loop-mark : goal.invariant-loop-mark
invariant-loop-mark l =
    (add_capture (function_marks l.initial.walk.sheet.now l.initial.walk.entries.now l.count) (node_of l.x) (stored_of l.walk)
    ≡ add_capture (function_marks l.initial.walk.sheet.now l.initial.walk.entries.now l.initial.count) (node_of l.x) (stored_of l.initial.walk))
    × (scopes_in l.walk ≡ scopes_in l.initial.walk) × Same l.initial.walk l.walk
