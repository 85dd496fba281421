-- What the iterators over literals and over escaping slots have left to give.
use Rattle.std.specs.Prelude.{List, ℕ, ◌-◌}
use Rattle.definition.specs.Basics.{filter, from}
use Rattle.fun_rows.specs.Literals.{literal_chain, escapes}
use Rattle.fun_rows.specs.declared.literals.LiteralRows.{LiteralRows}
use Rattle.fun_rows.specs.declared.escaping.EscapingSlots.{EscapingSlots}

-- the literals of a chain that are left
abbrev pub literals_left : LiteralRows → List ℕ
literals_left c = literal_chain c.left c.after.now c.row

-- the slots that are left of those that escape
abbrev pub slots_left : EscapingSlots → List ℕ
slots_left c = filter (escapes c.tables.sheet.now c.tables.results.now c.tables.nodes.now c.function.0) (from c.next (c.end - c.next))
