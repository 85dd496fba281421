use mathlib.Core.Path.{◌≡◌}
use lib.ListN.{length}
use Rattle.sheet.specs.Rest.{kind_left}
use Rattle.import_circle.proofs.FoundLaws.{Adding}
use Rattle.import_circle.proofs.add_imports.Given as goal

abbrev pub invariant-loop-k : goal.invariant-loop-k
invariant-loop-k l =
    Adding l.sheet l.u l.initial.marks l.initial.queue l.count l.marks l.queue l.n (kind_left l.k-iterator)
    × (length l.marks ≡ length l.initial.marks) × (length l.queue ≡ length l.initial.queue)
