-- The kinds of sheet rows and their numbers.
use Rattle.std.specs.Prelude.{◌≡◌, ℕ, Result, MatchResult}
use Rattle.ast.specs.declared.kind.Kind.{Kind}
use Rattle.ast.specs.declared.kind.Kind.TheVariants.{Header, Unit as UnitKind, Import, Class, Function, FunctionExport, ConstantExport, Listed, Field, Parameter, ExpressionStatement, Assign, Return, Break, Continue, Block, If, For, Assert, Let, ClassDeclaration, Nil, True as TrueKind, False as FalseKind, Integer, Float, String, Bytes, Array, Dict, Pair, Identifier, HostConstant, Literal, Index, Member, Instanceof, Unary, Binary, Ternary, Call}
use Rattle.ast.specs.declared.kind.UnknownKind.{UnknownKind}

-- the number of a kind
abbrev pub kind_number : Kind → ℕ
kind_number Header = 0
kind_number UnitKind = 2
kind_number Import = 3
kind_number Class = 4
kind_number Function = 6
kind_number FunctionExport = 7
kind_number ConstantExport = 8
kind_number Listed = 9
kind_number Field = 10
kind_number Parameter = 11
kind_number ExpressionStatement = 20
kind_number Assign = 21
kind_number Return = 22
kind_number Break = 23
kind_number Continue = 24
kind_number Block = 25
kind_number If = 26
kind_number For = 27
kind_number Assert = 28
kind_number Let = 29
kind_number ClassDeclaration = 30
kind_number Nil = 40
kind_number TrueKind = 41
kind_number FalseKind = 42
kind_number Integer = 43
kind_number Float = 44
kind_number String = 45
kind_number Bytes = 46
kind_number Array = 47
kind_number Dict = 48
kind_number Pair = 49
kind_number Identifier = 50
kind_number HostConstant = 51
kind_number Literal = 52
kind_number Index = 53
kind_number Member = 54
kind_number Instanceof = 55
kind_number Unary = 56
kind_number Binary = 57
kind_number Ternary = 58
kind_number Call = 59

-- what reading a number tells: the kind that has it, or that no kind has
abbrev pub ReadsKind : ℕ → Result Kind UnknownKind → Type 0
ReadsKind n r = MatchResult r (λ x. n ≡ kind_number x) (λ e. (e.0 ≡ n) × ((x : Kind) → n ≡ kind_number x → ⊥))
