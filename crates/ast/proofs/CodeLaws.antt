-- What is read of a number: the code that has it, and no other.
use Rattle.std.proofs.Common.{◌≡◌, refl, sym, ap, ◌∙◌, ℕ, eqb, Option, Some, Result, Ok, Err, [], ◌∷◌}
use Rattle.std.specs.List.{find}
use Rattle.ast.specs.declared.code.Code.{Code}
use Rattle.ast.specs.declared.code.Code.TheVariants.{Nothing, Fun, Class, Global, Arg, Local, Captured, True as TrueCode, False as FalseCode, FunctionCounts, ClassCounts, Field, Method}
use Rattle.ast.specs.declared.code.UnknownCode.{UnknownCode}
use Rattle.ast.specs.Code.{code_number, ReadsCode}

-- the first code of a number
numbered : ℕ → Option Code
numbered n = find (λ x. eqb n (code_number x)) (
    Nothing ∷ Fun ∷ Class ∷ Global ∷ Arg ∷ Local ∷ Captured ∷ TrueCode ∷
    FalseCode ∷ FunctionCounts ∷ ClassCounts ∷ Field ∷ Method ∷ []
    )

numbered_own : (x : Code) → numbered (code_number x) ≡ Some x
unfolding numbered
numbered_own Nothing = refl
numbered_own Fun = refl
numbered_own Class = refl
numbered_own Global = refl
numbered_own Arg = refl
numbered_own Local = refl
numbered_own Captured = refl
numbered_own TrueCode = refl
numbered_own FalseCode = refl
numbered_own FunctionCounts = refl
numbered_own ClassCounts = refl
numbered_own Field = refl
numbered_own Method = refl

pub code_of_number : (x y : Code) → code_number x ≡ code_number y → x ≡ y
code_of_number x y e =
    let s : Some x ≡ Some y = sym (numbered_own x) ∙ ap numbered e ∙ numbered_own y in
    cc

pub code_read : (n : ℕ) (r : Result Code UnknownCode) (x : Code) → ReadsCode n r → n ≡ code_number x → r ≡ Ok x
code_read n (Ok y) x h e = ap Ok (code_of_number y x (sym h ∙ e))
code_read n (Err y) x h e = absurd (h.1 x e)

pub number_read : (n : ℕ) (r : Result Code UnknownCode) (x : Code) → ReadsCode n r → r ≡ Ok x → n ≡ code_number x
number_read n (Ok y) x h e = let q : y ≡ x = cc in h ∙ ap code_number q
number_read n (Err y) x h e = absurd (cc)
