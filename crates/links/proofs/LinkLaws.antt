-- The two passes over the links: do all rise, and is every row but 0 linked exactly once?
use mathlib.Core.Path.{◌≡◌, refl, sym, ap, ◌∙◌, subst}
use mathlib.Core.Bool.{Bool, true, false, ◌&&◌, ◌||◌}
use Prim.Native.Nat.{ℕ, zero, suc, ◌+◌, ◌-◌, ◌*◌, ◌<◌, ◌≤◌}
use Rattle.std.specs.List.{list_all, range_with_len}
use Rattle.definition.proofs.Lists.Library.{range_same, list_all_same}
use native.Mathlib.Omega.{arith}
use lib.Dec.{eqb}
use lib.ListN.{length, get_or, set, length-set}
use Rattle.definition.specs.Basics.{all, from, when◌then◌else◌, bit, count, concat_map}
use Rattle.definition.specs.Sheet.{Sheet, next, child, rows}
use Rattle.definition.specs.Format.{links_rise, link_rises, linked_once, links}
use Rattle.definition.proofs.Lists.Tests.{T_true, T_and, ℕ-trichotomy}
use Rattle.definition.proofs.Format.Passes.{linked_to, linked_suc}
use mathlib.Core.Logic.{◌⊎◌, inl, inr}
use mathlib.Core.List.{List, [], ◌∷◌}
use native.Mathlib.Numerals.{add-one}
use lib.Seq.{get_or-set_same, get_or-set_other}
use borrow.Author.Tests.{eq-eqb, ne_eqb}
use Rattle.definition.proofs.Lists.Counts.{all_below, pairs_length}
use Rattle.definition.proofs.Format.Links.{Rises}
use Rattle.definition.proofs.Format.Facts.{link_rises_lem}
use Rattle.links.specs.Counting.{Counts}

-- `seen` counts the links from the rows below r
pub record Counted (s : Sheet) (n r : ℕ) (seen : List ℕ) : Type 0 where
  pub size : n ≤ length seen
  pub here : (k : ℕ) → k < n → get_or seen k 0 ≡ linked_to s r k

pub counted_none : (s : Sheet) (n : ℕ) (seen : List ℕ) → n ≤ length seen → ((k : ℕ) → k < n → get_or seen k 0 ≡ 0) → Counted s n 0 seen
counted_none s n seen e f = record { size = e; here = f }

count_le : (p : ℕ → Bool) (xs : List ℕ) → count p xs ≤ length xs
count_le p [] = omega arith
count_le p (x ∷ xs) = go (p x) (count_le p xs)
  where
    go : (t : Bool) → count p xs ≤ length xs → bit t + count p xs ≤ suc (length xs)
    go true h = omega arith
    go false h = omega arith

pub linked_le : (s : Sheet) (r k : ℕ) → linked_to s r k ≤ 2 * r
linked_le s r k =
    omega (arith, count_le (eqb k) (concat_map (λ p. next s p ∷ child s p ∷ []) (from 0 r)), pairs_length (next s) (child s) 0 r)

-- links that rise go to rows
pub link_below : (s : Sheet) → all (links_rise s) (from 0 (rows s)) ≡ true → (r : ℕ) → r < rows s → (next s r < rows s) × (child s r < rows s)
link_below s e r l =
    let h = T_and (link_rises s r (next s r)) (link_rises s r (child s r)) (all_below (links_rise s) (rows s) (T_true _ e) r l) in
    (go (next s r) (link_rises_lem s r (next s r) h.0), go (child s r) (link_rises_lem s r (child s r) h.1))
  where
    go : (x : ℕ) → Rises s r x → x < rows s
    go x (inl z) = omega arith
    go x (inr q) = q.1

-- one more at place x
abbrev pub more : List ℕ → ℕ → List ℕ
more seen x = set seen x (get_or seen x 0 + 1)

more_at : (seen : List ℕ) (x k : ℕ) → x < length seen → get_or (more seen x) k 0 ≡ (when eqb k x then suc (get_or seen k 0) else get_or seen k 0)
more_at seen x k l = go (ℕ-trichotomy k x)
  where
    other : (k ≡ x → ⊥) → get_or (more seen x) k 0 ≡ (when eqb k x then suc (get_or seen k 0) else get_or seen k 0)
    other f = get_or-set_other seen x k (get_or seen x 0 + 1) 0 f ∙ ap (λ (t : Bool). when t then suc (get_or seen k 0) else get_or seen k 0) (sym (ne_eqb k x f))

    go : (k < x) ⊎ ((k ≡ x) ⊎ (x < k)) → get_or (more seen x) k 0 ≡ (when eqb k x then suc (get_or seen k 0) else get_or seen k 0)
    go (inl h) = other (λ e. omega arith)
    go (inr (inl e)) =
        ap (λ (j : ℕ). get_or (more seen x) j 0) e ∙ get_or-set_same seen x (get_or seen x 0 + 1) 0 l
        ∙ omega (arith, ap (λ (j : ℕ). get_or seen j 0) e) ∙ ap (λ (t : Bool). when t then suc (get_or seen k 0) else get_or seen k 0) (sym (eq-eqb k x e))
    go (inr (inr h)) = other (λ e. omega arith)

pub counted_more : (s : Sheet) (n r : ℕ) (seen : List ℕ) → Counted s n r seen → next s r < n → child s r < n → Counted s n (suc r) (more (more seen (next s r)) (child s r))
counted_more s n r seen c ln lc =
    let z : n ≤ length (more seen (next s r)) = omega (arith, length-set seen (next s r) (get_or seen (next s r) 0 + 1), c.size) in
    record {
      size = omega (arith, length-set (more seen (next s r)) (child s r) (get_or (more seen (next s r)) (child s r) 0 + 1), z);
      here = λ k l.
          more_at (more seen (next s r)) (child s r) k (omega (arith, z))
          ∙ go (eqb k (next s r)) (eqb k (child s r)) (get_or seen k 0) (get_or (more seen (next s r)) k 0) (linked_to s r k) (c.here k l) (more_at seen (next s r) k (omega (arith, c.size)))
          ∙ sym (linked_suc s r k);
    }
  where
    go : (t u : Bool) (g h m : ℕ) → g ≡ m → h ≡ (when t then suc g else g)
        → (when u then suc h else h) ≡ m + (bit t + (bit u + 0))
    go true true g h m e w = omega arith
    go true false g h m e w = omega arith
    go false true g h m e w = omega arith
    go false false g h m e w = omega arith

pub counted_next : (s : Sheet) (n r : ℕ) (seen : List ℕ) → Counted s n r seen → next s r < n → child s r < n → Counted s n (r + 1) (more (more seen (next s r)) (child s r))
counted_next s n r seen c ln lc = subst (λ (m : ℕ). Counted s n m (more (more seen (next s r)) (child s r))) (sym (add-one r)) (counted_more s n r seen c ln lc)

pub more_le : (seen : List ℕ) (x k : ℕ) → x < length seen → get_or (more seen x) k 0 ≤ get_or seen k 0 + 1
more_le seen x k l = omega (arith, more_at seen x k l, go (eqb k x))
  where
    go : (t : Bool) → (when t then suc (get_or seen k 0) else get_or seen k 0) ≤ get_or seen k 0 + 1
    go true = omega arith
    go false = omega arith

-- all rows are counted
pub counted_all : (s : Sheet) (r : ℕ) (seen : List ℕ) → rows s ≤ r → r ≤ rows s → Counted s (rows s) r seen → Counts s (rows s) seen
counted_all s r seen a b c = let w : r ≡ rows s = omega arith in record { links_to = λ k l. c.here k l ∙ ap (λ (m : ℕ). linked_to s m k) w }

-- is row k linked once, by the counts in seen?
abbrev once_in : List ℕ → ℕ → Bool
once_in seen k = eqb k 0 || eqb (get_or seen k 0) 1

all_same : (p q : ℕ → Bool) (i n : ℕ) → ((k : ℕ) → i ≤ k → k < i + n → p k ≡ q k) → all p (from i n) ≡ all q (from i n)
all_same p q i zero f = refl
all_same p q i (suc n) f =
    ap (λ (t : Bool). t && all p (from (suc i) n)) (f i (omega arith) (omega arith)) ∙ ap (λ (t : Bool). q i && t) (all_same p q (suc i) n (λ k a b. f k (omega arith) (omega arith)))

-- row 0 is told as any other, since no count of it is asked for
pub once_from : (seen : List ℕ) (n : ℕ) → list_all (λ k. eqb (get_or seen k 0) 1) (range_with_len 1 (n - 1)) ≡ all (once_in seen) (from 0 n)
once_from seen zero = refl
once_from seen (suc n) =
    let m : suc n - 1 ≡ n = omega arith in
    ap (λ (k : ℕ). list_all (λ j. eqb (get_or seen j 0) 1) (range_with_len 1 k)) m ∙ ap (list_all (λ j. eqb (get_or seen j 0) 1)) (range_same 1 n)
    ∙ list_all_same (λ j. eqb (get_or seen j 0) 1) (from 1 n)
    ∙ all_same (λ j. eqb (get_or seen j 0) 1) (once_in seen) 1 n (λ k a b. ap (λ (t : Bool). t || eqb (get_or seen k 0) 1) (sym (ne_eqb k 0 (λ z. omega arith))))

pub once_linked : (s : Sheet) (seen : List ℕ) → Counts s (rows s) seen
    → all (λ k. eqb k 0 || eqb (get_or seen k 0) 1) (from 0 (rows s)) ≡ all (linked_once (links s)) (from 0 (rows s))
once_linked s seen f = all_same (once_in seen) (linked_once (links s)) 0 (rows s) (λ k a b. ap (λ (c : ℕ). eqb k 0 || eqb c 1) (f.links_to k (omega arith)))
