-- The definitions as a program meets them: loops over rows, walks over child lists, tables written at the holder.
use mathlib.Core.Path.{◌≡◌, refl, sym, ap, ◌∙◌, subst}
use mathlib.Core.Logic.{inl, inr}
use mathlib.Core.List.{List, [], ◌∷◌, ◌++◌, map, append_assoc}
use mathlib.Core.Bool.{Bool, true, false, ◌&&◌}
use Prim.Native.Nat.{ℕ, zero, suc, ◌+◌, ◌<◌, ◌≤◌}
use native.Mathlib.Omega.{arith}
use native.Mathlib.Nat.{zero-add, add-zero}
use lib.ListN.{get_or}
use lib.Dec.{eqb, ltb, T, eqb→eq, ltb→lt}
use Rattle.definition.specs.Basics.{when◌then◌else◌, every, all, count, first, concat_map, from, ◌∈?◌}
use Rattle.definition.specs.Sheet.{Sheet, next, child, rows, chain, kids, holder}
use Rattle.definition.specs.Shape.{Shape, shape, never, nought, shapes, shape_of}
use Rattle.definition.specs.Format.{tables, links, header_first, main_marked, row_clauses, sheet_fits}
use Rattle.definition.proofs.Lists.Tests.{true_of, T_and, and_both, T_true, pick}
use Rattle.definition.proofs.Lists.Members.{count_append}
use Rattle.definition.proofs.Lists.Counts.{all_below}
use Rattle.definition.proofs.Format.Links.{Rises, LinkFacts, kid_bounds, holder_of}
use Rattle.definition.proofs.Format.Facts.{SheetFacts, RowFacts}

-- one more number
from_snoc : (k m : ℕ) → from k (suc m) ≡ from k m ++ (k + m) ∷ []
from_snoc k zero = rw add-zero refl
from_snoc k (suc m) =
    let e : suc k + m ≡ k + suc m = omega arith in
    ap (λ (xs : List ℕ). k ∷ xs) (from_snoc (suc k) m ∙ ap (λ (j : ℕ). from (suc k) m ++ j ∷ []) e)

pub from_suc : (m : ℕ) → from 0 (suc m) ≡ from 0 m ++ m ∷ []
from_suc m = from_snoc 0 m ∙ ap (λ (j : ℕ). from 0 m ++ j ∷ []) (zero-add m)

and_assoc : (x y z : Bool) → (x && (y && z)) ≡ (x && y && z)
and_assoc true y z = refl
and_assoc false y z = refl

and_true : (x : Bool) → (x && true) ≡ x
and_true true = refl
and_true false = refl

all_append : (p : ℕ → Bool) (xs ys : List ℕ) → all p (xs ++ ys) ≡ (all p xs && all p ys)
all_append p [] ys = refl
all_append p (x ∷ xs) ys = ap (λ (t : Bool). p x && t) (all_append p xs ys) ∙ and_assoc (p x) (all p xs) (all p ys)

-- a test of one more row
pub all_suc : (p : ℕ → Bool) (m : ℕ) → all p (from 0 (suc m)) ≡ (all p (from 0 m) && p m)
all_suc p m = ap (all p) (from_suc m) ∙ all_append p (from 0 m) (m ∷ []) ∙ ap (λ (t : Bool). all p (from 0 m) && t) (and_true (p m))

-- a row that fails
pub all_fails : (p : ℕ → Bool) (n r : ℕ) → r < n → p r ≡ false → all p (from 0 n) ≡ false
all_fails p n r l e = go (all p (from 0 n)) refl
  where
    go : (t : Bool) → all p (from 0 n) ≡ t → t ≡ false
    go true w = absurd (subst T e (all_below p n (T_true _ w) r l))
    go false w = refl

concat_append : (f : ℕ → List ℕ) (xs ys : List ℕ) → concat_map f (xs ++ ys) ≡ concat_map f xs ++ concat_map f ys
concat_append f [] ys = refl
concat_append f (x ∷ xs) ys = ap (λ (zs : List ℕ). f x ++ zs) (concat_append f xs ys) ∙ sym (append_assoc (f x) (concat_map f xs) (concat_map f ys))

-- how often row r is linked from the rows below m, and from one row more
abbrev pub linked_to : Sheet → ℕ → ℕ → ℕ
linked_to s m r = count (eqb r) (concat_map (λ p. next s p ∷ child s p ∷ []) (from 0 m))

pub linked_suc : (s : Sheet) (m r : ℕ) → linked_to s (suc m) r ≡ linked_to s m r + count (eqb r) (next s m ∷ child s m ∷ [])
linked_suc s m r =
    let f : ℕ → List ℕ = λ p. next s p ∷ child s p ∷ [] in
    ap (λ (xs : List ℕ). count (eqb r) (concat_map f xs)) (from_suc m)
    ∙ ap (count (eqb r)) (concat_append f (from 0 m) (m ∷ []))
    ∙ count_append (eqb r) (concat_map f (from 0 m)) (next s m ∷ child s m ∷ [])

-- a step along a child list
pub chain_step : (m : ℕ) (s : Sheet) (c : ℕ) → 0 < c → chain (suc m) s c ≡ c ∷ chain m s (next s c)
chain_step m s zero z = absurd (omega arith)
chain_step m s (suc c) z = refl

-- where links rise the bound of a chain does not matter
pub chain_bound : (s : Sheet) → ((r : ℕ) → r < rows s → Rises s r (next s r)) → (m k x : ℕ) → x < rows s → rows s ≤ m + x → rows s ≤ k + x
    → chain m s x ≡ chain k s x
chain_bound s rise zero k x l b c = absurd (omega arith)
chain_bound s rise (suc m) zero x l b c = absurd (omega arith)
chain_bound s rise (suc m) (suc k) zero l b c = refl
chain_bound s rise (suc m) (suc k) (suc x) l b c = ap (λ (xs : List ℕ). suc x ∷ xs) (go (λ y. chain_bound s rise m k y) (rise (suc x) l))
  where
    none : (j : ℕ) (y : ℕ) → y ≡ 0 → chain j s y ≡ []
    none zero y e = refl
    none (suc j) zero e = refl
    none (suc j) (suc y) e = absurd (omega arith)

    go : ((y : ℕ) → y < rows s → rows s ≤ m + y → rows s ≤ k + y → chain m s y ≡ chain k s y)
        → Rises s (suc x) (next s (suc x)) → chain m s (next s (suc x)) ≡ chain k s (next s (suc x))
    go f (inl e) = none m (next s (suc x)) e ∙ sym (none k (next s (suc x)) e)
    go f (inr q) = f (next s (suc x)) q.1 (omega (arith, q.0)) (omega (arith, q.0))

-- so a chain goes on with the chain of the next row
pub chain_on : (s : Sheet) → ((r : ℕ) → r < rows s → Rises s r (next s r)) → (c : ℕ) → 0 < c → c < rows s → chain (rows s) s c ≡ c ∷ chain (rows s) s (next s c)
chain_on s rise c z l = go (rows s) refl (rise c l)
  where
    none : (j y : ℕ) → y ≡ 0 → chain j s y ≡ []
    none zero y e = refl
    none (suc j) zero e = refl
    none (suc j) (suc y) e = absurd (omega arith)

    on : (m : ℕ) → rows s ≡ suc m → Rises s c (next s c) → chain m s (next s c) ≡ chain (suc m) s (next s c)
    on m e (inl w) = none m (next s c) w ∙ sym (none (suc m) (next s c) w)
    on m e (inr q) = chain_bound s rise m (suc m) (next s c) q.1 (omega (arith, q.0)) (omega (arith, q.0))

    go : (m : ℕ) → rows s ≡ m → Rises s c (next s c) → chain m s c ≡ c ∷ chain m s (next s c)
    go zero e q = absurd (omega arith)
    go (suc m) e q = chain_step m s c z ∙ ap (λ (xs : List ℕ). c ∷ xs) (on m e q)

-- The tables at a child, from those at its holder.
module _ (s : Sheet) (ok : LinkFacts s) (p c : ℕ) (l : p < rows s) (h : T (c ∈? kids s p)) where
  bounds : (p < c) × (c < rows s)
  bounds = kid_bounds s ok p c l h

  is_held : holder s c ≡ p
  is_held = holder_of s ok c p l h

-- a kind in a run of kinds is one between its ends
same_test : (x y : Bool) → (T x → T y) → (T y → T x) → x ≡ y
same_test true true f g = refl
same_test true false f g = absurd (f tt)
same_test false true f g = absurd (g tt)
same_test false false f g = refl

-- kinds from 60 on have no shape
beyond_all : (k : ℕ) (d : Shape) (xs : List Shape) → T (every (map (λ x. ltb x.of 60) xs)) → 60 ≤ k → first (λ x. eqb x.of k) d xs ≡ d
beyond_all k d [] h l = refl
beyond_all k d (x ∷ xs) h l =
    let q = T_and (ltb x.of 60) (every (map (λ x. ltb x.of 60) xs)) h in
    go (eqb x.of k) refl (ltb→lt x.of 60 q.0) (beyond_all k d xs q.1 l)
  where
    go : (t : Bool) → eqb x.of k ≡ t → x.of < 60 → first (λ x. eqb x.of k) d xs ≡ d → (when t then x else first (λ x. eqb x.of k) d xs) ≡ d
    go true e b r = absurd (omega (arith, eqb→eq x.of k (T_true _ e)))
    go false e b r = r

pub shape_beyond : (k : ℕ) → 60 ≤ k → shape_of k ≡ shape k nought nought never
shape_beyond k l = beyond_all k (shape k nought nought never) shapes tt l

-- Question 3 answered: no, by a clause of a row that fails; yes, by all facts.
every_fails : (bs : List Bool) (i : ℕ) → get_or bs i true ≡ false → every bs ≡ false
every_fails bs i e = go (every bs) refl
  where
    go : (t : Bool) → every bs ≡ t → t ≡ false
    go true w = absurd (subst T e (pick bs (T_true _ w) i))
    go false w = refl

and_false : (x : Bool) → (x && false) ≡ false
and_false true = refl
and_false false = refl

pub all_of : (p : ℕ → Bool) (k m : ℕ) → ((i : ℕ) → k ≤ i → i < k + m → T (p i)) → T (all p (from k m))
all_of p k zero f = tt
all_of p k (suc m) f = and_both (p k) (all p (from (suc k) m)) (f k (omega arith) (omega arith)) (all_of p (suc k) m (λ i a b. f i (omega arith) (omega arith)))

data Passed : List Bool → Type 0 where
  done : Passed []
  also : {b : Bool} {bs : List Bool} → T b → Passed bs → Passed (b ∷ bs)

every_of : {bs : List Bool} → Passed bs → T (every bs)
every_of done = tt
every_of (also {b = b} {bs = bs} h p) = and_both b (every bs) h (every_of p)

row_passed : (s : Sheet) (n r : ℕ) → RowFacts s (tables s) (links s) n r → Passed (row_clauses s (tables s) (links s) n r)
row_passed s n r f =
    also f.rise (also f.once (also f.children (also f.columns (also f.files (also f.constant (also f.unit_apart_lem
    (also f.class_apart_lem (also f.marked (also f.body (also f.named (also f.literal (also f.declared (also f.in_unit
    (also f.after done))))))))))))))

pub sheet_fits_lem : (n : ℕ) (s : Sheet) → SheetFacts n s → sheet_fits n s ≡ true
sheet_fits_lem n s ok =
    let test : ℕ → Bool = λ r. every (row_clauses s (tables s) (links s) n r) in
    true_of (sheet_fits n s)
    (and_both (header_first s && main_marked s) (all test (from 0 (rows s))) (and_both (header_first s) (main_marked s) ok.header ok.main)
    (all_of test 0 (rows s) (λ r a b. every_of (row_passed s n r (ok.row r (omega arith))))))
