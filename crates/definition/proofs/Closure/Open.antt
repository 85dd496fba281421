-- What is open on a stack: by its place there, and by the rows of its locals and arguments.
use mathlib.Core.Path.{◌≡◌, refl, sym, ap, ◌∙◌, subst}
use mathlib.Core.List.Memᴰ
use mathlib.Core.List.Memᴰ.{head as here}
use mathlib.Core.List.Memᴰ.{tail as there}
use mathlib.Core.List.{List, [], ◌∷◌, Memᴰ as Mem}
use mathlib.Core.Bool.{Bool, true, false}
use Prim.Native.Nat.{ℕ, zero, suc, ◌+◌}
use native.Mathlib.Omega.{arith}
use lib.ListN.{drop}
use lib.Dec.{eqb, T, eqb→eq}
use Rattle.definition.specs.Basics.{when◌then◌else◌, bit, count}
use Rattle.definition.specs.Meaning.{Meaning, is_variable, row_of}
use Rattle.definition.specs.Scope.{Entry, Stack, scope, looping, bound}
use Rattle.definition.specs.Claims.{open_rows}
use Rattle.definition.proofs.Lists.Tests.{eqb_of, bit_not}

-- at place i of stack S, name n is declared as d, with st open before it
abbrev pub OpenAt : Stack → ℕ → ℕ → Meaning → Stack → Type 0
OpenAt S i n d st = drop i S ≡ bound n d ∷ st

-- one place, one declaration
pub same_open : (S : Stack) (i j n k : ℕ) (d e : Meaning) (st st' : Stack) → OpenAt S i n d st → OpenAt S j k e st' → i ≡ j → d ≡ e
same_open S i j n k d e st st' p q x =
    let w : bound n d ∷ st ≡ bound k e ∷ st' = sym p ∙ ap (λ (y : ℕ). drop y S) x ∙ q in
    cc

-- The local or argument of row d is open on stack S.
pub record OpenRow (S : Stack) (d : ℕ) : Type 0 where
  pub at : ℕ
  pub name : ℕ
  pub means : Meaning
  pub before : Stack
  pub is_open : OpenAt S at name means before
  pub is_variable_lem : T (is_variable means)
  pub row_is_lem : row_of means ≡ d

abbrev under : (x : Entry) (S : Stack) (d : ℕ) → OpenRow S d → OpenRow (x ∷ S) d
under x S d o = record { at = suc o.at; name = o.name; means = o.means; before = o.before; is_open = o.is_open; is_variable_lem = o.is_variable_lem; row_is_lem = o.row_is_lem }

pub open_row : (S : Stack) (d : ℕ) → Mem d (open_rows S) → OpenRow S d
open_row [] d m = absurd (Memᴰ.not-nil m)
open_row (scope r ∷ S) d m = under (scope r) S d (open_row S d m)
open_row (looping ∷ S) d m = under looping S d (open_row S d m)
open_row (bound n e ∷ S) d m = go (is_variable e) (λ t. t) m (open_row S d)
  where
    go : (t : Bool) → (T t → T (is_variable e)) → Mem d (when t then row_of e ∷ open_rows S else open_rows S) → (Mem d (open_rows S) → OpenRow S d) → OpenRow (bound n e ∷ S) d
    go true v (here q) up = record { at = 0; name = n; means = e; before = S; is_open = refl; is_variable_lem = v tt; row_is_lem = sym q }
    go true v (there q) up = under (bound n e) S d (up q)
    go false v q up = under (bound n e) S d (up q)

pub row_open : (S : Stack) (i n : ℕ) (e : Meaning) (st : Stack) → OpenAt S i n e st → T (is_variable e) → Mem (row_of e) (open_rows S)
row_open [] zero n e st p v = let z : ◌≡◌ {A = ℕ} 0 1 = cc in absurd (omega arith)
row_open [] (suc i) n e st p v = let z : ◌≡◌ {A = ℕ} 0 1 = cc in absurd (omega arith)
row_open (x ∷ S) zero n e st p v = subst (λ (l : Stack). Mem (row_of e) (open_rows l)) (sym p) (go (is_variable e) v)
  where
    go : (t : Bool) → T t → Mem (row_of e) (when t then row_of e ∷ open_rows st else open_rows st)
    go true h = here refl
    go false h = absurd h
row_open (scope r ∷ S) (suc i) n e st p v = row_open S i n e st p v
row_open (looping ∷ S) (suc i) n e st p v = row_open S i n e st p v
row_open (bound k d ∷ S) (suc i) n e st p v = go (is_variable d) (row_open S i n e st p v)
  where
    go : (t : Bool) → Mem (row_of e) (open_rows S) → Mem (row_of e) (when t then row_of d ∷ open_rows S else open_rows S)
    go true m = there m
    go false m = m

count_absent : (d : ℕ) (xs : List ℕ) → (Mem d xs → ⊥) → count (eqb d) xs ≡ 0
count_absent d [] f = refl
count_absent d (x ∷ xs) f = omega (arith, count_absent d xs (λ m. f (there m)), bit_not (eqb d x) (λ t. f (here (eqb→eq d x t))))

bit_one : (t : Bool) → T t → bit t ≡ 1
bit_one true h = refl
bit_one false h = absurd h

-- what is open at one place is open once
pub count_open : (S : Stack) (d : ℕ) → ((x y : OpenRow S d) → x.at ≡ y.at) → Mem d (open_rows S) → count (eqb d) (open_rows S) ≡ 1
count_open [] d f m = absurd (Memᴰ.not-nil m)
count_open (scope r ∷ S) d f m = count_open S d (λ x y. let e : suc x.at ≡ suc y.at = f (under (scope r) S d x) (under (scope r) S d y) in omega arith) m
count_open (looping ∷ S) d f m = count_open S d (λ x y. let e : suc x.at ≡ suc y.at = f (under looping S d x) (under looping S d y) in omega arith) m
count_open (bound n e ∷ S) d f m = go (is_variable e) (λ t. t) m (count_open S d deeper)
  where
    deeper : (x y : OpenRow S d) → x.at ≡ y.at
    deeper x y = let e : suc x.at ≡ suc y.at = f (under (bound n e) S d x) (under (bound n e) S d y) in omega arith

    first : T (is_variable e) → d ≡ row_of e → Mem d (open_rows S) → ⊥
    first v q k =
        let o : OpenRow (bound n e ∷ S) d = record { at = 0; name = n; means = e; before = S; is_open = refl; is_variable_lem = v; row_is_lem = sym q } in
        let z : 0 ≡ suc (open_row S d k).at = f o (under (bound n e) S d (open_row S d k)) in
        omega arith

    rest : (t : Bool) → (T t → T (eqb d (row_of e))) → (T (eqb d (row_of e)) → T t) → T (is_variable e) → Mem d (row_of e ∷ open_rows S)
        → (Mem d (open_rows S) → count (eqb d) (open_rows S) ≡ 1) → bit t + count (eqb d) (open_rows S) ≡ 1
    rest true on off v k up = omega (arith, count_absent d (open_rows S) (first v (eqb→eq d (row_of e) (on tt))))
    rest false on off v (here q) up = absurd (off (eqb_of d (row_of e) q))
    rest false on off v (there k) up = omega (arith, up k)

    go : (t : Bool) → (T t → T (is_variable e)) → Mem d (when t then row_of e ∷ open_rows S else open_rows S) → (Mem d (open_rows S) → count (eqb d) (open_rows S) ≡ 1)
        → count (eqb d) (when t then row_of e ∷ open_rows S else open_rows S) ≡ 1
    go true v k up = rest (eqb d (row_of e)) (λ t. t) (λ t. t) (v tt) k up
    go false v k up = up k
