use mathlib.Core.Path.{◌≡◌}
use Prim.Native.Nat.{suc, ◌≤◌}
use lib.ListN.{length}
use Rattle.session_check.proofs.MarkLaws.{left}
use Rattle.session_check.specs.Clauses.{Under, last_name, names_apart}
use Rattle.session_check.proofs.entry.Entry.names_apart.Given as goal

abbrev pub invariant-loop-j : goal.invariant-loop-j
invariant-loop-j l =
    (l.j ≤ l.end) × (length l.marks ≡ 1049) × Under l.marks (suc l.mark)
    × (left l.self.words.now l.last l.mark l.marks l.j l.end ≡ names_apart l.self.words.now (last_name l.self.words.now l.self.number) l.first l.end)
