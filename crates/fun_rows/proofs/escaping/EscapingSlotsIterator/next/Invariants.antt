use Rattle.std.proofs.Common.{◌≡◌, ◌-◌}
use Rattle.definition.specs.Basics.{filter, from}
use Rattle.fun_rows.specs.Literals.{escapes}
use Rattle.fun_rows.specs.Escaping.{slots_left}
use Rattle.fun_rows.proofs.escaping.EscapingSlotsIterator.next.Given as goal

abbrev pub invariant-loop-slot : goal.invariant-loop-slot
invariant-loop-slot l =
    (filter (escapes l.self.tables.sheet.now l.self.tables.results.now l.self.tables.nodes.now l.self.function.0) (from l.slot (l.self.end - l.slot)) ≡ slots_left l.initial.self)
    × (l.self.tables ≡ l.initial.self.tables) × (l.self.literals ≡ l.initial.self.literals) × (l.self.function ≡ l.initial.self.function)
    × (l.self.next ≡ l.slot) × (l.self.end ≡ l.slot-end)
