-- The codes of answer rows and their numbers.
use Rattle.std.specs.Prelude.{◌≡◌, ℕ, Result, MatchResult}
use Rattle.ast.specs.declared.code.Code.{Code}
use Rattle.ast.specs.declared.code.Code.TheVariants.{Nothing, Fun, Class, Global, Arg, Local, Captured, True as TrueCode, False as FalseCode, FunctionCounts, ClassCounts, Field, Method}
use Rattle.ast.specs.declared.code.UnknownCode.{UnknownCode}

-- the number of a code
abbrev pub code_number : Code → ℕ
code_number Nothing = 0
code_number Fun = 1
code_number Class = 2
code_number Global = 3
code_number Arg = 4
code_number Local = 5
code_number Captured = 6
code_number TrueCode = 7
code_number FalseCode = 8
code_number FunctionCounts = 20
code_number ClassCounts = 22
code_number Field = 23
code_number Method = 24

-- what reading a number tells: the code that has it, or that no code has
abbrev pub ReadsCode : ℕ → Result Code UnknownCode → Type 0
ReadsCode n r = MatchResult r (λ x. n ≡ code_number x) (λ e. (e.0 ≡ n) × ((x : Code) → n ≡ code_number x → ⊥))
