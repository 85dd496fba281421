-- What is read of a number: the kind that has it, and no other.
use denote.Enum.Bare.{sameb, same_true, same_false}
use borrow.Author.Tests.{eq-eqb, ne_eqb}
use Rattle.ast.specs.contracts.kind.Kind.{the_type}
use Rattle.std.proofs.Common.{◌≡◌, refl, sym, ap, ◌∙◌, ℕ, Bool, true, false, rules, eqb, Option, Some, Result, Ok, Err, [], ◌∷◌}
use Rattle.std.specs.List.{find}
use Rattle.ast.specs.declared.kind.Kind.{Kind}
use Rattle.ast.specs.declared.kind.Kind.TheVariants.{Header, Unit as UnitKind, Import, Class, Function, FunctionExport, ConstantExport, Listed, Field, Parameter, ExpressionStatement, Assign, Return, Break, Continue, Block, If, For, Assert, Let, ClassDeclaration, Nil, True as TrueKind, False as FalseKind, Integer, Float, String, Bytes, Array, Dict, Pair, Identifier, HostConstant, Literal, Index, Member, Instanceof, Unary, Binary, Ternary, Call}
use Rattle.ast.specs.declared.kind.UnknownKind.{UnknownKind}
use Rattle.ast.specs.Kind.{kind_number, ReadsKind}

-- the first kind of a number
numbered : ℕ → Option Kind
numbered n = find (λ x. eqb n (kind_number x)) (
    Header ∷ UnitKind ∷ Import ∷ Class ∷ Function ∷ FunctionExport ∷ ConstantExport ∷ Listed ∷
    Field ∷ Parameter ∷ ExpressionStatement ∷ Assign ∷ Return ∷ Break ∷ Continue ∷ Block ∷
    If ∷ For ∷ Assert ∷ Let ∷ ClassDeclaration ∷ Nil ∷ TrueKind ∷ FalseKind ∷
    Integer ∷ Float ∷ String ∷ Bytes ∷ Array ∷ Dict ∷ Pair ∷ Identifier ∷
    HostConstant ∷ Literal ∷ Index ∷ Member ∷ Instanceof ∷ Unary ∷ Binary ∷ Ternary ∷
    Call ∷ []
    )

numbered_own : (x : Kind) → numbered (kind_number x) ≡ Some x
unfolding numbered
numbered_own Header = refl
numbered_own UnitKind = refl
numbered_own Import = refl
numbered_own Class = refl
numbered_own Function = refl
numbered_own FunctionExport = refl
numbered_own ConstantExport = refl
numbered_own Listed = refl
numbered_own Field = refl
numbered_own Parameter = refl
numbered_own ExpressionStatement = refl
numbered_own Assign = refl
numbered_own Return = refl
numbered_own Break = refl
numbered_own Continue = refl
numbered_own Block = refl
numbered_own If = refl
numbered_own For = refl
numbered_own Assert = refl
numbered_own Let = refl
numbered_own ClassDeclaration = refl
numbered_own Nil = refl
numbered_own TrueKind = refl
numbered_own FalseKind = refl
numbered_own Integer = refl
numbered_own Float = refl
numbered_own String = refl
numbered_own Bytes = refl
numbered_own Array = refl
numbered_own Dict = refl
numbered_own Pair = refl
numbered_own Identifier = refl
numbered_own HostConstant = refl
numbered_own Literal = refl
numbered_own Index = refl
numbered_own Member = refl
numbered_own Instanceof = refl
numbered_own Unary = refl
numbered_own Binary = refl
numbered_own Ternary = refl
numbered_own Call = refl

pub kind_of_number : (x y : Kind) → kind_number x ≡ kind_number y → x ≡ y
kind_of_number x y e =
    let s : Some x ≡ Some y = sym (numbered_own x) ∙ ap numbered e ∙ numbered_own y in
    cc

pub kind_read : (n : ℕ) (r : Result Kind UnknownKind) (x : Kind) → ReadsKind n r → n ≡ kind_number x → r ≡ Ok x
kind_read n (Ok y) x h e = ap Ok (kind_of_number y x (sym h ∙ e))
kind_read n (Err y) x h e = absurd (h.1 x e)

pub number_read : (n : ℕ) (r : Result Kind UnknownKind) (x : Kind) → ReadsKind n r → r ≡ Ok x → n ≡ kind_number x
number_read n (Ok y) x h e = let q : y ≡ x = cc in h ∙ ap kind_number q
number_read n (Err y) x h e = absurd (cc)

-- a test of sameness by the derived `==`, as one of numbers
pub same_kind : (x y : Kind) → sameb the_type x y ≡ eqb (kind_number x) (kind_number y)
same_kind x y = go (sameb the_type x y) refl
  where
    go : (t : Bool) → sameb the_type x y ≡ t → t ≡ eqb (kind_number x) (kind_number y)
    go true e = sym (eq-eqb (kind_number x) (kind_number y) (ap kind_number (same_true the_type (search rules) x y e)))
    go false e = sym (ne_eqb (kind_number x) (kind_number y) (λ h. same_false the_type x y e (kind_of_number x y h)))
