-- The numbers of sorts and rules in the tables.
use Rattle.std.specs.Prelude.{ℕ}
use Rattle.shapes.specs.declared.sort.Sort.{Sort}
use Rattle.shapes.specs.declared.sort.Sort.TheVariants.{Header, Unit as UnitSort, Import, Class, Function, FunctionExport, ConstantExport, Listed, Field, Parameter, Pair, Statement, Expression}
use Rattle.shapes.specs.declared.rule.Rule.{Rule}
use Rattle.shapes.specs.declared.rule.Rule.TheVariants.{Zero, Any, Bit, Name, NameOrZero, Globals, UnitRow, FunctionRow, ClassRow, ClassRowOrZero, FunctionRowOrZero, Global, Mode}

abbrev pub sort_number : Sort → ℕ
sort_number Header = 0
sort_number UnitSort = 1
sort_number Import = 2
sort_number Class = 3
sort_number Function = 4
sort_number FunctionExport = 5
sort_number ConstantExport = 6
sort_number Listed = 7
sort_number Field = 8
sort_number Parameter = 9
sort_number Pair = 10
sort_number Statement = 11
sort_number Expression = 12

abbrev pub rule_number : Rule → ℕ
rule_number Zero = 0
rule_number Any = 1
rule_number Bit = 2
rule_number Name = 3
rule_number NameOrZero = 4
rule_number Globals = 5
rule_number UnitRow = 6
rule_number FunctionRow = 7
rule_number ClassRow = 8
rule_number ClassRowOrZero = 9
rule_number FunctionRowOrZero = 10
rule_number Global = 11
rule_number Mode = 12
