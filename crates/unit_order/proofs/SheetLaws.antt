-- The units of a sheet past question 3, and what they import.
use mathlib.Core.Path.{◌≡◌, refl, sym, ap, ◌∙◌, subst}
use mathlib.Core.Logic.{⊎_elim}
use mathlib.Core.Bool.{Bool, true, false, not, ◌||◌}
use mathlib.Core.List.{List, [], ◌∷◌}
use Prim.Native.Nat.{ℕ, zero, suc, ◌<◌, ◌≤◌}
use native.Mathlib.Omega.{arith}
use lib.Dec.{T, T_not, ltb, ltb→lt}
use Rattle.definition.specs.Basics.{when◌then◌else◌, filter, any, first, from, ◌∈?◌}
use Rattle.definition.specs.Kind.{UNIT, IMPORT}
use Rattle.definition.specs.Sheet.{Sheet, next, child, a, rows, chain, kids, is, kids_of}
use Rattle.definition.proofs.Lists.Tests.{T_and}
use Rattle.definition.proofs.Lists.Counts.{in_head, in_tail, in_cases}
use Rattle.definition.proofs.Lists.Members.{test_mem, mem_test, mem_filter, filter_mem, from_mem, mem_from, map_mem, mem_any}
use Rattle.definition.proofs.Format.Facts.{SheetFacts, link_facts}
use Rattle.definition.proofs.Format.Links.{LinkFacts, higher, chain_bounds, kid_bounds, held}
use Rattle.definition.proofs.Format.Tree.{column_a, not_header, unit_holder}
use Rattle.unit_order.specs.Imports.{Lowest}
use Rattle.unit_order.specs.Order.{units, imports_of}
use Rattle.unit_order.proofs.ChainLaws.{Closed}
use Rattle.unit_order.proofs.StartLaws.{Rising, rising_none, rising_one}

rising_from : (i k : ℕ) → Rising (from i k)
rising_from i zero = rising_none
rising_from i (suc k) = rising_one {u = i} above (rising_from (suc i) k)
  where
    above : (v : ℕ) → T (v ∈? from (suc i) k) → i < v
    above v m = omega (arith, (from_mem v (suc i) k (test_mem v (from (suc i) k) m)).0)

pub rising_filter : (p : ℕ → Bool) {xs : List ℕ} → Rising xs → Rising (filter p xs)
rising_filter p rising_none = rising_none
rising_filter p (rising_one {u} {us} above rise) = go (p u) (rising_filter p rise)
  where
    go : (t : Bool) → Rising (filter p us) → Rising (when t then u ∷ filter p us else filter p us)
    go true r = rising_one (λ v m. above v (mem_test v us (filter_mem p v us (test_mem v (filter p us) m)).0)) r
    go false r = r

pub units_rising : (s : Sheet) → Rising (units s)
unfolding units
units_rising s = rising_filter (is s UNIT) (rising_from 0 (rows s))

-- the units are the rows of their kind
pub unit_row_lem : (s : Sheet) (u : ℕ) → T (u ∈? units s) → (u < rows s) × T (is s UNIT u)
unfolding units
unit_row_lem s u m =
    let q = filter_mem (is s UNIT) u (from 0 (rows s)) (test_mem u (units s) m) in
    let r = from_mem u 0 (rows s) q.0 in
    (omega (arith, r.1), q.1)

pub row_unit : (s : Sheet) (u : ℕ) → u < rows s → T (is s UNIT u) → T (u ∈? units s)
unfolding units
row_unit s u l h = mem_test u (units s) (mem_filter (is s UNIT) u (from 0 (rows s)) h (mem_from u 0 (rows s) (omega arith) (omega arith)))

module _ (n : ℕ) (s : Sheet) (ok : SheetFacts n s) where
  -- a unit is not the header
  pub unit_above : (u : ℕ) → T (u ∈? units s) → 0 < u
  unit_above u m = not_header n s ok 1 u (unit_row_lem s u m).1

  -- what a unit imports is a unit
  pub imports_closed : Closed (imports_of s) (units s)
  unfolding imports_of
  imports_closed u v m e =
      let found = map_mem (a s) v (kids_of s IMPORT u) (test_mem v (imports_of s u) e) in
      let q = filter_mem (is s IMPORT) found.0 (kids s u) found.1 in
      let l = kid_bounds s (link_facts n s ok) u found.0 (unit_row_lem s u m).0 (mem_test found.0 (kids s u) q.0) in
      let h = T_and (ltb (a s found.0) (rows s)) (is s UNIT (a s found.0)) (column_a n s ok IMPORT found.0 q.1 l.1) in
      subst (λ (x : ℕ). T (x ∈? units s)) (sym found.2) (row_unit s (a s found.0) (ltb→lt (a s found.0) (rows s) h.0) h.1)

-- of two rows of a chain the higher is the next after the lower, or comes later
chain_next : (s : Sheet) → LinkFacts s → (m x : ℕ) → x < rows s → (u v : ℕ) → T (u ∈? chain m s x) → T (v ∈? chain m s x) → u < v
    → (next s u ≡ 0 → ⊥) × (next s u ≤ v)
chain_next s ok zero x l u v j k b = absurd j
chain_next s ok (suc m) zero l u v j k b = absurd j
chain_next s ok (suc m) (suc x) l u v j k b =
    ⊎_elim
    (λ (e : u ≡ suc x).
    ⊎_elim (λ (f : v ≡ suc x). absurd (omega arith))
    (λ g.
    let some : next s u ≡ 0 → ⊥ = λ z. subst (λ (ks : List ℕ). T (v ∈? ks)) (ap (chain m s) (sym (ap (next s) e) ∙ z) ∙ chain_none m s) g in
    let rise = higher s (suc x) (next s (suc x)) (ok.nexts (suc x) l) (λ z. some (ap (next s) e ∙ z)) in
    (some, omega (arith, ap (next s) e, (chain_bounds s ok.nexts m (next s (suc x)) v rise.1 g).1)))
    (in_cases v (suc x) (chain m s (next s (suc x))) k))
    (λ h.
    let some : next s (suc x) ≡ 0 → ⊥ = λ z. subst (λ (ks : List ℕ). T (u ∈? ks)) (ap (chain m s) z ∙ chain_none m s) h in
    let rise = higher s (suc x) (next s (suc x)) (ok.nexts (suc x) l) some in
    ⊎_elim (λ (f : v ≡ suc x). absurd (omega (arith, rise.0, (chain_bounds s ok.nexts m (next s (suc x)) u rise.1 h).1)))
    (λ g. chain_next s ok m (next s (suc x)) rise.1 u v h g b)
    (in_cases v (suc x) (chain m s (next s (suc x))) k))
    (in_cases u (suc x) (chain m s (next s (suc x))) j)
  where
    chain_none : (m : ℕ) (s : Sheet) → chain m s 0 ≡ []
    chain_none zero s = refl
    chain_none (suc m) s = refl

-- of two units the higher is the next after the lower, or comes later
pub unit_next : (n : ℕ) (s : Sheet) → SheetFacts n s → (u v : ℕ) → T (u ∈? units s) → T (v ∈? units s) → u < v → (next s u ≡ 0 → ⊥) × (next s u ≤ v)
unit_next n s ok u v j k b =
    chain_next s (link_facts n s ok) (rows s) (child s 0) first_row u v (listed u j) (listed v k) b
  where
    first_row : child s 0 < rows s
    first_row = ⊎_elim (λ (e : child s 0 ≡ 0). omega (arith, (unit_row_lem s u j).0)) (λ q. q.1) ((link_facts n s ok).children 0 (omega (arith, (unit_row_lem s u j).0)))

    listed : (w : ℕ) → T (w ∈? units s) → T (w ∈? kids s 0)
    listed w m =
        let r = unit_row_lem s w m in
        subst (λ (p : ℕ). T (w ∈? kids s p)) (unit_holder n s ok w r.0 r.1) (held s (link_facts n s ok) w (unit_above n s ok w m) r.0).0

-- the first of rising units that passes a test is the lowest
pub first_lowest : (p : ℕ → Bool) (d : ℕ) {us : List ℕ} → Rising us → T (any p us) → Lowest p us (first p d us)
first_lowest p d rising_none h = absurd h
first_lowest p d (rising_one {u} {us} above rise) h = go (p u) (λ k. k) (λ k. k) h (first_lowest p d rise)
  where
    go : (t : Bool) → (T t → T (p u)) → (T (p u) → T t) → T (t || any p us) → (T (any p us) → Lowest p us (first p d us))
        → Lowest p (u ∷ us) (when t then u else first p d us)
    go true f g k later =
        record {
          listed = in_head u u us refl;
          passes = f tt;
          least = λ v m x. ⊎_elim (λ (e : v ≡ u). omega arith) (λ q. let l : u < v = above v q in omega arith) (in_cases v u us m);
        }
    go false f g k later =
        let r = later k in
        record {
          listed = in_tail (first p d us) u us r.listed;
          passes = r.passes;
          least = λ v m x. ⊎_elim (λ (e : v ≡ u). absurd (g (subst (λ (y : ℕ). T (p y)) e x))) (λ q. r.least v q x) (in_cases v u us m);
        }

pub any_none : (p : ℕ → Bool) (us : List ℕ) → T (not (any p us)) → (u : ℕ) → T (u ∈? us) → T (p u) → ⊥
any_none p us f u m h = T_not (any p us) f (mem_any p u us h (test_mem u us m))
