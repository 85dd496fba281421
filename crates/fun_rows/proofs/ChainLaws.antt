-- The literals that stand in each function, chained one row at a time from the last row down.
use mathlib.Core.Path.{◌≡◌, refl, sym, ap, ◌∙◌, subst}
use mathlib.Core.Bool.{Bool, true, false, ◌&&◌}
use mathlib.Core.List.{List, [], ◌∷◌}
use Prim.Native.Nat.{ℕ, zero, suc, ◌+◌, ◌-◌, ◌<◌, ◌≤◌}
use native.Mathlib.Omega.{arith}
use lib.Dec.{eqb}
use lib.ListN.{length, get_or, set, length-set}
use lib.Seq.{get_or-set_same, get_or-set_other}
use borrow.Author.Tests.{eqb-true, eqb-false, ne_eqb}
use Rattle.definition.specs.Basics.{when◌then◌else◌, filter, from}
use Rattle.definition.specs.Sheet.{Sheet, rows, kind, is}
use Rattle.machine.specs.Machine.{cell}
use Rattle.classes.specs.Table.{Clear}
use Rattle.fun_rows.specs.Literals.{is_reached, stands_in, literal_chain, LiteralChains}

-- The rows xs, none of them 0 or below b, are chained from l by ns.
pub data Linked (ns : List ℕ) (b : ℕ) : ℕ → List ℕ → Type 0 where
  linked_none : Linked ns b 0 []
  linked_one : {l : ℕ} {xs : List ℕ} → 0 < l → b ≤ l → Linked ns b (get_or ns l 0) xs → Linked ns b l (l ∷ xs)

linked_below : {ns : List ℕ} {b h : ℕ} {xs : List ℕ} (k : ℕ) → k < b → Linked ns b h xs → Linked ns k h xs
linked_below k d linked_none = linked_none
linked_below k d (linked_one z g r) = linked_one z (omega arith) (linked_below k d r)

-- a store at a row below them
linked_set : {ns : List ℕ} {b h : ℕ} {xs : List ℕ} (k v : ℕ) → k < b → Linked ns b h xs → Linked (set ns k v) k h xs
linked_set k v d linked_none = linked_none
linked_set {ns} k v d (linked_one {l} {xs} z g r) =
    linked_one z (omega arith) (subst (λ (h : ℕ). Linked (set ns k v) k h xs) (sym (get_or-set_other ns k l v 0 (λ e. omega arith))) (linked_set k v d r))

chain_linked : {ns : List ℕ} {b h : ℕ} {xs : List ℕ} (n : ℕ) → length xs ≤ n → Linked ns b h xs → literal_chain n ns h ≡ xs
unfolding literal_chain
chain_linked zero g linked_none = refl
chain_linked (suc n) g linked_none = refl
chain_linked zero g (linked_one z d r) = absurd (omega arith)
chain_linked {ns} (suc n) g (linked_one {l} {xs} z d r) = rw (ne_eqb l 0 (λ e. omega arith)) (ap (λ (ys : List ℕ). l ∷ ys) (chain_linked n (omega arith) r))

pub filter_length : (p : ℕ → Bool) (k n : ℕ) → length (filter p (from k n)) ≤ n
filter_length p k zero = omega arith
filter_length p k (suc n) = go (p k) (filter_length p (suc k) n)
  where
    go : (t : Bool) → length (filter p (from (suc k) n)) ≤ n → length (when t then k ∷ filter p (from (suc k) n) else filter p (from (suc k) n)) ≤ suc n
    go true g = omega arith
    go false g = omega arith

-- one number more at the front
from_one : (k n : ℕ) → k < n → from k (n - k) ≡ k ∷ from (k + 1) (n - (k + 1))
from_one k n l =
    let e : n - k ≡ suc (n - (k + 1)) = omega arith in
    let d : suc k ≡ k + 1 = omega arith in
    ap (from k) e ∙ ap (λ (i : ℕ). k ∷ from i (n - (k + 1))) d

pub filter_in : (p : ℕ → Bool) (k n : ℕ) → k < n → p k ≡ true → filter p (from k (n - k)) ≡ k ∷ filter p (from (k + 1) (n - (k + 1)))
filter_in p k n l e = ap (filter p) (from_one k n l) ∙ ap (λ (t : Bool). when t then k ∷ filter p (from (k + 1) (n - (k + 1))) else filter p (from (k + 1) (n - (k + 1)))) e

pub filter_out : (p : ℕ → Bool) (k n : ℕ) → k < n → p k ≡ false → filter p (from k (n - k)) ≡ filter p (from (k + 1) (n - (k + 1)))
filter_out p k n l e = ap (filter p) (from_one k n l) ∙ ap (λ (t : Bool). when t then k ∷ filter p (from (k + 1) (n - (k + 1))) else filter p (from (k + 1) (n - (k + 1)))) e

pub filter_end : (p : ℕ → Bool) (k n : ℕ) → n ≤ k → filter p (from k (n - k)) ≡ []
filter_end p k n l = let e : n - k ≡ 0 = omega arith in ap (λ (i : ℕ). filter p (from k i)) e

and_assoc : (x y z : Bool) → (x && (y && z)) ≡ ((x && y) && z)
and_assoc true y z = refl
and_assoc false y z = refl

-- a literal stands in the function that the table says, and any other row in none
stands_here : (s : Sheet) (t : List ℕ) (l g : ℕ) → true ≡ is_reached s t l → stands_in s t g l ≡ eqb (cell t l 1) g
stands_here s t l g e = and_assoc (is s 52 l) (eqb (cell t l 0) 1) (eqb (cell t l 1) g) ∙ ap (λ (x : Bool). x && eqb (cell t l 1) g) (sym e)

stands_none : (s : Sheet) (t : List ℕ) (l g : ℕ) → false ≡ is_reached s t l → stands_in s t g l ≡ false
stands_none s t l g e = and_assoc (is s 52 l) (eqb (cell t l 0) 1) (eqb (cell t l 1) g) ∙ ap (λ (x : Bool). x && eqb (cell t l 1) g) (sym e)

-- The literals from row l on are chained.
pub record Chained (s : Sheet) (t hs ns : List ℕ) (l : ℕ) : Type 0 where
  pub heads : rows s ≤ length hs
  pub nexts : rows s ≤ length ns
  pub links : (f : ℕ) → f < rows s → Linked ns l (get_or hs f 0) (filter (stands_in s t f) (from l (rows s - l)))

pub chained_none : (s : Sheet) (t hs ns : List ℕ) → rows s ≤ length hs → rows s ≤ length ns → Clear hs → Chained s t hs ns (rows s)
chained_none s t hs ns a b z = record { heads = a; nexts = b; links = links_none }
  where
    links_none : (f : ℕ) → f < rows s → Linked ns (rows s) (get_or hs f 0) (filter (stands_in s t f) (from (rows s) (rows s - rows s)))
    links_none f g = rw (z.zeros f, filter_end (stands_in s t f) (rows s) (rows s) (omega arith)) linked_none

module _ (s : Sheet) (t hs ns : List ℕ) (k : ℕ) (a : 0 < k) (l : k < rows s) (h : Chained s t hs ns (k + 1)) where
  -- a row that is no literal
  none_at : false ≡ is_reached s t k → Chained s t hs ns k
  none_at e = record { heads = h.heads; nexts = h.nexts; links = below }
    where
      below : (f : ℕ) → f < rows s → Linked ns k (get_or hs f 0) (filter (stands_in s t f) (from k (rows s - k)))
      below f g = rw (filter_out (stands_in s t f) k (rows s) l (stands_none s t k f e)) (linked_below k (omega arith) (h.links f g))

  -- a literal that stands in function f
  one_at : (f : ℕ) → true ≡ is_reached s t k → f ≡ cell t k 1 → Chained s t (set hs f k) (set ns k (get_or hs f 0)) k
  one_at f e d = record { heads = rw length-set h.heads; nexts = rw length-set h.nexts; links = below }
    where
      below : (g : ℕ) → g < rows s → Linked (set ns k (get_or hs f 0)) k (get_or (set hs f k) g 0) (filter (stands_in s t g) (from k (rows s - k)))
      below g m = go (eqb f g) refl
        where
          stands : stands_in s t g k ≡ eqb f g
          stands = stands_here s t k g e ∙ ap (λ (i : ℕ). eqb i g) (sym d)

          rest : Linked (set ns k (get_or hs f 0)) k (get_or hs g 0) (filter (stands_in s t g) (from (k + 1) (rows s - (k + 1))))
          rest = linked_set k (get_or hs f 0) (omega arith) (h.links g m)

          head : f ≡ g → get_or (set hs f k) g 0 ≡ k
          head q = ap (λ (i : ℕ). get_or (set hs i k) g 0) q ∙ get_or-set_same hs g k 0 (omega (arith, h.heads))

          next : f ≡ g → get_or hs g 0 ≡ get_or (set ns k (get_or hs f 0)) k 0
          next q = ap (λ (i : ℕ). get_or hs i 0) (sym q) ∙ sym (get_or-set_same ns k (get_or hs f 0) 0 (omega (arith, h.nexts)))

          go : (b : Bool) → eqb f g ≡ b → Linked (set ns k (get_or hs f 0)) k (get_or (set hs f k) g 0) (filter (stands_in s t g) (from k (rows s - k)))
          go true q =
              rw (head (eqb-true f g q), filter_in (stands_in s t g) k (rows s) l (stands ∙ q))
              (linked_one a (omega arith) (subst (λ (i : ℕ). Linked (set ns k (get_or hs f 0)) k i (filter (stands_in s t g) (from (k + 1) (rows s - (k + 1))))) (next (eqb-true f g q)) rest))
          go false q =
              rw (get_or-set_other hs f g k 0 (λ i. eqb-false f g q (sym i)), filter_out (stands_in s t g) k (rows s) l (stands ∙ q)) rest

-- the same, one row below row k
back : (k : ℕ) → 1 < k → k ≡ k - 1 + 1
back k l = omega arith

pub chained_skip : (s : Sheet) (t hs ns : List ℕ) (k : ℕ) → 1 < k → k ≤ rows s → Chained s t hs ns k → false ≡ is_reached s t (k - 1) → Chained s t hs ns (k - 1)
chained_skip s t hs ns k a l h e = none_at s t hs ns (k - 1) (omega arith) (omega arith) (subst (Chained s t hs ns) (back k a) h) e

pub chained_more : (s : Sheet) (t hs ns hs' ns' : List ℕ) (k f x : ℕ) → 1 < k → k ≤ rows s → Chained s t hs ns k → true ≡ is_reached s t (k - 1) → f ≡ cell t (k - 1) 1
    → x ≡ get_or hs f 0 → ns' ≡ set ns (k - 1) x → hs' ≡ set hs f (k - 1) → Chained s t hs' ns' (k - 1)
chained_more s t hs ns hs' ns' k f x a l h e d i n m =
    rw (m, n, i) (one_at s t hs ns (k - 1) (omega arith) (omega arith) (subst (Chained s t hs ns) (back k a) h) f e d)

-- all literals are chained; the header is none
pub chained_all : (s : Sheet) (t hs ns : List ℕ) (k : ℕ) → k ≤ 1 → kind s 0 ≡ 0 → Chained s t hs ns k → LiteralChains s t hs ns
chained_all s t hs ns k l z h = record { chained = all }
  where
    header : (f : ℕ) → stands_in s t f 0 ≡ false
    header f = rw z

    same : rows s - 0 ≡ rows s
    same = omega arith

    whole : (f : ℕ) (i : ℕ) → i ≤ 1 → f < rows s → filter (stands_in s t f) (from i (rows s - i)) ≡ filter (stands_in s t f) (from 0 (rows s))
    whole f zero g m = ap (λ (n : ℕ). filter (stands_in s t f) (from 0 n)) same
    whole f (suc zero) g m = sym (filter_out (stands_in s t f) 0 (rows s) (omega arith) (header f)) ∙ ap (λ (n : ℕ). filter (stands_in s t f) (from 0 n)) same
    whole f (suc (suc i)) g m = absurd (omega arith)

    all : (f : ℕ) → f < rows s → literal_chain (rows s) ns (get_or hs f 0) ≡ filter (stands_in s t f) (from 0 (rows s))
    all f m = chain_linked (rows s) (filter_length (stands_in s t f) 0 (rows s)) (subst (Linked ns k (get_or hs f 0)) (whole f k l m) (h.links f m))
