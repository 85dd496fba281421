-- The tables past their ends, and at a number that is no kind.
use mathlib.Core.Path.{◌≡◌, ap}
use mathlib.Core.Bool.{◌||◌}
use mathlib.Core.List.{List, [], ◌∷◌}
use mathlib.Core.Logic.{◌⊎◌, inl, inr}
use native.Mathlib.Omega.{arith}
use Prim.Native.Nat.{ℕ, ◌<◌, ◌≤◌}
use lib.Dec.{T, eqb, eqb→eq}
use Rattle.definition.proofs.Lists.Tests.{ℕ-trichotomy}
use Rattle.definition.proofs.Lists.Counts.{all_below}
use lib.ListN.{length, get_or, get_or-eq_default}
use Rattle.definition.specs.Basics.{all, from, any}
use Rattle.ast.specs.declared.kind.Kind.{Kind}
use Rattle.ast.specs.declared.kind.Kind.TheVariants.{Header, Unit as UnitKind, Import, Class, Function, FunctionExport, ConstantExport, Listed, Field, Parameter}
use Rattle.ast.specs.declared.kind.Kind.TheVariants.{ExpressionStatement, Assign, Return, Break, Continue, Block, If, For, Assert, Let}
use Rattle.ast.specs.declared.kind.Kind.TheVariants.{ClassDeclaration, Nil, True as TrueKind, False as FalseKind, Integer, Float, String, Bytes, Array, Dict}
use Rattle.ast.specs.declared.kind.Kind.TheVariants.{Pair, Identifier, HostConstant, Literal, Index, Member, Instanceof, Unary, Binary, Ternary}
use Rattle.ast.specs.declared.kind.Kind.TheVariants.{Call}
use Rattle.ast.specs.Kind.{kind_number}
use Rattle.shapes.specs.States.{entry_of, kind_table, state_table}
use Rattle.shapes.proofs.Matching.{Outside, none_of}

-- rows past the end of a table, and entries past the end of a row
pub no_row : (t : List (List ℕ)) (i j : ℕ) → length t ≤ i → entry_of t i j ≡ 0
no_row t i j h = ap (λ (l : List ℕ). get_or l j 0) (get_or-eq_default t [] h)

abbrev kinds : List Kind
kinds =
    Header ∷ UnitKind ∷ Import ∷ Class ∷ Function ∷ FunctionExport ∷ ConstantExport ∷ Listed ∷
    Field ∷ Parameter ∷ ExpressionStatement ∷ Assign ∷ Return ∷ Break ∷ Continue ∷ Block ∷
    If ∷ For ∷ Assert ∷ Let ∷ ClassDeclaration ∷ Nil ∷ TrueKind ∷ FalseKind ∷
    Integer ∷ Float ∷ String ∷ Bytes ∷ Array ∷ Dict ∷ Pair ∷ Identifier ∷
    HostConstant ∷ Literal ∷ Index ∷ Member ∷ Instanceof ∷ Unary ∷ Binary ∷ Ternary ∷
    Call ∷ []

abbrev numbers : List Kind → List (List ℕ)
numbers [] = []
numbers (x ∷ xs) = (kind_number x ∷ []) ∷ numbers xs

outside : (n : ℕ) → ((x : Kind) → n ≡ kind_number x → ⊥) → (xs : List Kind) → Outside n (numbers xs)
outside n h [] = tt
outside n h (x ∷ xs) = (outside n h xs, h x)

-- column j of the table is 0 at a number that is no kind
abbrev pub ZeroElsewhere : ℕ → Type 0
ZeroElsewhere j = T (all (λ k. eqb (entry_of kind_table k j) 0 || any (any (eqb k)) (numbers kinds)) (from 0 60))

pub no_kind : (j : ℕ) → ZeroElsewhere j → (n : ℕ) → ((x : Kind) → n ≡ kind_number x → ⊥) → entry_of kind_table n j ≡ 0
no_kind j z n h = none_of (λ k. entry_of kind_table k j) 60 (numbers kinds) z (λ k l. no_row kind_table k j l) n (outside n h kinds)

-- no state goes on after the sort of the header
no_sorts : T (all (λ q. eqb (entry_of state_table q 1) 0) (from 0 26))
no_sorts = tt

pub no_sort : (q : ℕ) → entry_of state_table q 1 ≡ 0
no_sort q = go (ℕ-trichotomy q 26)
  where
    go : (q < 26) ⊎ ((q ≡ 26) ⊎ (26 < q)) → entry_of state_table q 1 ≡ 0
    go (inl l) = eqb→eq (entry_of state_table q 1) 0 (all_below (λ k. eqb (entry_of state_table k 1) 0) 26 no_sorts q l)
    go (inr (inl e)) = no_row state_table q 1 (omega arith)
    go (inr (inr l)) = no_row state_table q 1 (omega arith)
