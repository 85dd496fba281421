-- The marks by name find exactly the names that stand twice.
use mathlib.Core.Path.{◌≡◌, refl, sym, ap, ◌∙◌, subst}
use mathlib.Core.Logic.{◌⊎◌, inl, inr}
use mathlib.Core.Bool.{Bool, true, false, not, ◌&&◌}
use mathlib.Core.List.Memᴰ
use mathlib.Core.List.Memᴰ.{head as here}
use mathlib.Core.List.Memᴰ.{tail as there}
use mathlib.Core.List.{List, [], ◌∷◌, map, Memᴰ as Mem}
use Prim.Native.Nat.{ℕ, zero, suc, ◌+◌, ◌*◌, ◌<◌, ◌≤◌}
use native.Mathlib.Omega.{arith}
use lib.Dec.{eqb, T, T_not, not_T, eqb→eq}
use lib.ListN.{length, get_or, set, length-set}
use lib.Seq.{get_or-set_same, get_or-set_other}
use Rattle.definition.specs.Basics.{when◌then◌else◌, ◌⇒◌, any, unlike, filter}
use Rattle.definition.specs.Sheet.{Sheet, kind, a, kids, is}
use Rattle.definition.specs.Format.{names_apart, unit_apart, class_apart}
use Rattle.definition.proofs.Lists.Tests.{T_and, and_both, decide, eqb_of, T-imp, if_true, if_false, kind_apart, ℕ-trichotomy}
use Rattle.definition.proofs.Lists.Members.{mem_any, any_mem}
use Rattle.distinct.specs.Apart.{child_unmarked, child_marked, unmarked, marked, stamp, unit_unmarked, unit_marked, class_unmarked, class_marked, row_unmarked, row_marked, all_unmarked}
use Rattle.first_four.proofs.Clauses.{imp_of}

-- all marks are below v
abbrev pub Under : List ℕ → ℕ → Type 0
Under m v = (i : ℕ) → get_or m i 0 < v

module _ (s : Sheet) (k v : ℕ) where
  abbrev names : List ℕ → List ℕ
  names cs = map (a s) (filter (is s k) cs)

  -- the rows of kind k among cs have names that there are marks for
  abbrev InRange : ℕ → List ℕ → Type 0
  InRange n cs = (c : ℕ) → Mem c cs → T (is s k c) → a s c < n

  names_yes : (c : ℕ) (cs : List ℕ) → T (is s k c) → names (c ∷ cs) ≡ a s c ∷ names cs
  names_yes c cs h = ap (map (a s)) (if_true (is s k c) (c ∷ filter (is s k) cs) (filter (is s k) cs) h)

  names_no : (c : ℕ) (cs : List ℕ) → T (not (is s k c)) → names (c ∷ cs) ≡ names cs
  names_no c cs h = ap (map (a s)) (if_false (is s k c) (c ∷ filter (is s k) cs) (filter (is s k) cs) h)

  -- a mark set at x
  set_other : (m : List ℕ) (x y : ℕ) → (y ≡ x → ⊥) → get_or (set m x v) y 0 ≡ get_or m y 0
  set_other m x y f = get_or-set_other m x y v 0 f

  Apart : List ℕ → List ℕ → Type 0
  Apart m xs = T (unlike eqb xs) × ((y : ℕ) → Mem y xs → get_or m y 0 ≡ v → ⊥)

  cons_apart : (m : List ℕ) (x : ℕ) (xs : List ℕ) → x < length m → (get_or m x 0 ≡ v → ⊥) → Apart (set m x v) xs → Apart m (x ∷ xs)
  unfolding Apart
  cons_apart m x xs l f q = (
    and_both (not (any (eqb x) xs)) (unlike eqb xs) (not_T (any (eqb x) xs)
        (λ t. let w = any_mem (eqb x) xs t in
        q.1 w.0 w.1 (marked_there w.0 (sym (eqb→eq x w.0 w.2)))))
        q.0,
    go,
  )
    where
      marked_there : (y : ℕ) → y ≡ x → get_or (set m x v) y 0 ≡ v
      marked_there y e = ap (λ (z : ℕ). get_or (set m x v) z 0) e ∙ get_or-set_same m x v 0 l

      go : (y : ℕ) → Mem y (x ∷ xs) → get_or m y 0 ≡ v → ⊥
      go y (here e) w = f (ap (λ (z : ℕ). get_or m z 0) (sym e) ∙ w)
      go y (there i) w = q.1 y i (pick (decide (eqb y x)))
        where
          pick : T (eqb y x) ⊎ T (not (eqb y x)) → get_or (set m x v) y 0 ≡ v
          pick (inl t) = marked_there y (eqb→eq y x t)
          pick (inr t) = set_other m x y (λ e. T_not (eqb y x) t (eqb_of y x e)) ∙ w

  apart_cons : (m : List ℕ) (x : ℕ) (xs : List ℕ) → Apart m (x ∷ xs) → (get_or m x 0 ≡ v → ⊥) × Apart (set m x v) xs
  unfolding Apart
  apart_cons m x xs q =
      let w = T_and (not (any (eqb x) xs)) (unlike eqb xs) q.0 in
      (q.1 x (here refl), (w.1, λ y i e. q.1 y (there i) (sym (set_other m x y (λ z. T_not (any (eqb x) xs) w.0 (mem_any (eqb x) y xs (eqb_of x y (sym z)) i))) ∙ e)))

  unmarked_gives : (cs m : List ℕ) → InRange (length m) cs → T (unmarked s k v m cs) → Apart m (names cs)
  unfolding Apart unmarked child_unmarked child_marked
  unmarked_gives [] m r h = (tt, λ y i. absurd (Memᴰ.not-nil i))
  unmarked_gives (c ∷ cs) m r h =
      go (decide (is s k c)) (T_and (child_unmarked s k v m c) (unmarked s k v (child_marked s k v m c) cs) h) (unmarked_gives cs (set m (a s c) v)) (unmarked_gives cs m)
    where
      go : T (is s k c) ⊎ T (not (is s k c)) → T (child_unmarked s k v m c) × T (unmarked s k v (child_marked s k v m c) cs)
          → (InRange (length (set m (a s c) v)) cs → T (unmarked s k v (set m (a s c) v) cs)
          → Apart (set m (a s c) v) (names cs))
          → (InRange (length m) cs → T (unmarked s k v m cs) → Apart m (names cs))
          → Apart m (names (c ∷ cs))
      go (inl t) q on off =
          let f : get_or m (a s c) 0 ≡ v → ⊥ = λ e. T_not (eqb (get_or m (a s c) 0) v) (subst T (if_true (is s k c) (not (eqb (get_or m (a s c) 0) v)) true t) q.0) (eqb_of (get_or m (a s c) 0) v e) in
          let w : T (unmarked s k v (set m (a s c) v) cs) = subst (λ (x : List ℕ). T (unmarked s k v x cs)) (if_true (is s k c) (set m (a s c) v) m t) q.1 in
          subst (Apart m) (sym (names_yes c cs t)) (cons_apart m (a s c) (names cs) (r c (here refl) t) f
          (on (λ d i u. subst (λ (n : ℕ). a s d < n) (sym (length-set m (a s c) v)) (r d (there i) u)) w))
      go (inr t) q on off =
          subst (Apart m) (sym (names_no c cs t)) (off (λ d i u. r d (there i) u) (subst (λ (x : List ℕ). T (unmarked s k v x cs)) (if_false (is s k c) (set m (a s c) v) m t) q.1))

  gives_unmarked : (cs m : List ℕ) → Apart m (names cs) → T (unmarked s k v m cs)
  unfolding unmarked child_unmarked child_marked
  gives_unmarked [] m q = tt
  gives_unmarked (c ∷ cs) m q = go (decide (is s k c)) (gives_unmarked cs (set m (a s c) v)) (gives_unmarked cs m)
    where
      go : T (is s k c) ⊎ T (not (is s k c)) → (Apart (set m (a s c) v) (names cs) → T (unmarked s k v (set m (a s c) v) cs)) → (Apart m (names cs) → T (unmarked s k v m cs))
          → T (child_unmarked s k v m c && unmarked s k v (child_marked s k v m c) cs)
      go (inl t) on off =
          let w = apart_cons m (a s c) (names cs) (subst (Apart m) (names_yes c cs t) q) in
          and_both (child_unmarked s k v m c) (unmarked s k v (child_marked s k v m c) cs)
          (subst T (sym (if_true (is s k c) (not (eqb (get_or m (a s c) 0) v)) true t)) (not_T (eqb (get_or m (a s c) 0) v) (λ x. w.0 (eqb→eq (get_or m (a s c) 0) v x))))
          (subst (λ (x : List ℕ). T (unmarked s k v x cs)) (sym (if_true (is s k c) (set m (a s c) v) m t)) (on w.1))
      go (inr t) on off =
          and_both (child_unmarked s k v m c) (unmarked s k v (child_marked s k v m c) cs)
          (subst T (sym (if_false (is s k c) (not (eqb (get_or m (a s c) 0) v)) true t)) tt)
          (subst (λ (x : List ℕ). T (unmarked s k v x cs)) (sym (if_false (is s k c) (set m (a s c) v) m t)) (off (subst (Apart m) (names_no c cs t) q)))

  -- the marks after it: none above v, and as many as before
  if_both : (P : List ℕ → Type 0) (t : Bool) (x y : List ℕ) → P x → P y → P (when t then x else y)
  if_both P true x y p q = p
  if_both P false x y p q = q

  set_under : (m : List ℕ) (x : ℕ) → Under m (suc v) → Under (set m x v) (suc v)
  set_under m x u i = go (decide (eqb i x)) (ℕ-trichotomy x (length m))
    where
      go : T (eqb i x) ⊎ T (not (eqb i x)) → (x < length m) ⊎ ((x ≡ length m) ⊎ (length m < x)) → get_or (set m x v) i 0 < suc v
      go (inr t) w = omega (arith, u i, set_other m x i (λ e. T_not (eqb i x) t (eqb_of i x e)))
      go (inl t) (inl h) = omega (arith, ap (λ (z : ℕ). get_or (set m x v) z 0) (eqb→eq i x t) ∙ get_or-set_same m x v 0 h)
      go (inl t) (inr w) = omega (arith, u i, ap (λ (l : List ℕ). get_or l i 0) (lib.Seq.set_out m x v (far w)))
        where
          far : (x ≡ length m) ⊎ (length m < x) → length m ≤ x
          far (inl e) = omega arith
          far (inr h) = omega arith

  pub marked_under : (cs m : List ℕ) → Under m (suc v) → Under (marked s k v m cs) (suc v)
  unfolding marked child_marked
  marked_under [] m u = u
  marked_under (c ∷ cs) m u = marked_under cs (child_marked s k v m c) (if_both (λ x. Under x (suc v)) (is s k c) (set m (a s c) v) m (set_under m (a s c) u) u)

  pub marked_length : (cs m : List ℕ) → length (marked s k v m cs) ≡ length m
  unfolding marked child_marked
  marked_length [] m = refl
  marked_length (c ∷ cs) m = marked_length cs (child_marked s k v m c) ∙ if_both (λ x. length x ≡ length m) (is s k c) (set m (a s c) v) m (length-set m (a s c) v) refl

  -- with fresh marks
  pub apart_of : (r : ℕ) (m : List ℕ) → Under m v → InRange (length m) (kids s r) → T (unmarked s k v m (kids s r)) → T (names_apart s k r)
  unfolding Apart
  apart_of r m u i h = (unmarked_gives (kids s r) m i h).0

  pub of_apart : (r : ℕ) (m : List ℕ) → Under m v → T (names_apart s k r) → T (unmarked s k v m (kids s r))
  unfolding Apart
  of_apart r m u h = gives_unmarked (kids s r) m (h, λ y i e. omega (arith, u y))

  under_suc : (m : List ℕ) → Under m v → Under m (suc v)
  under_suc m u i = omega (arith, u i)

  pub marked_fresh : (r : ℕ) (m : List ℕ) → Under m v → Under (marked s k v m (kids s r)) (suc v)
  marked_fresh r m u = marked_under (kids s r) m (under_suc m u)

-- a row: units and classes
module _ (s : Sheet) (r : ℕ) (m : List ℕ) (u : Under m (4 * r + 1)) where
  abbrev Ranges : Type 0
  Ranges = (k c : ℕ) → Mem c (kids s r) → T (is s k c) → (k ≡ 4) ⊎ ((k ≡ 7) ⊎ ((k ≡ 8) ⊎ ((k ≡ 10) ⊎ (k ≡ 6)))) → a s c < length m

  lift : (m' : List ℕ) (v w : ℕ) → suc v ≡ w → Under m' (suc v) → Under m' w
  lift m' v w e f i = omega (arith, f i)

  m1 : (k : ℕ) → List ℕ
  m1 k = marked s k (stamp r 1) m (kids s r)

  under1 : (k : ℕ) → Under (m1 k) (4 * r + 2)
  unfolding m1
  under1 k = lift (marked s k (stamp r 1) m (kids s r)) (4 * r + 1) (4 * r + 2) (omega arith) (marked_fresh s k (4 * r + 1) r m u)

  length1 : (k : ℕ) → length (m1 k) ≡ length m
  unfolding m1
  length1 k = marked_length s k (stamp r 1) (kids s r) m

  m2 : List ℕ
  m2 = marked s 7 (stamp r 2) (m1 4) (kids s r)

  under2 : Under m2 (4 * r + 3)
  unfolding m2
  under2 = lift (marked s 7 (stamp r 2) (m1 4) (kids s r)) (4 * r + 2) (4 * r + 3) (omega arith) (marked_fresh s 7 (4 * r + 2) r (m1 4) (under1 4))

  length2 : length m2 ≡ length m
  unfolding m2
  length2 = marked_length s 7 (stamp r 2) (kids s r) (m1 4) ∙ length1 4

  unit_gives : Ranges → T (unit_unmarked s r m) → T (names_apart s 4 r && names_apart s 7 r && names_apart s 8 r)
  unfolding unit_unmarked m1 m2
  unit_gives g h =
      let q = T_and (unmarked s 4 (stamp r 1) m (kids s r)) (unmarked s 7 (stamp r 2) (m1 4) (kids s r) && unmarked s 8 (stamp r 3) m2 (kids s r)) h in
      let w = T_and (unmarked s 7 (stamp r 2) (m1 4) (kids s r)) (unmarked s 8 (stamp r 3) m2 (kids s r)) q.1 in
      and_both (names_apart s 4 r && names_apart s 7 r) (names_apart s 8 r)
      (and_both (names_apart s 4 r) (names_apart s 7 r) (apart_of s 4 (4 * r + 1) r m u (λ c i t. g 4 c i t (inl refl)) q.0)
      (apart_of s 7 (4 * r + 2) r (m1 4) (under1 4) (λ c i t. omega (arith, length1 4, g 7 c i t (inr (inl refl)))) w.0))
      (apart_of s 8 (4 * r + 3) r m2 under2 (λ c i t. omega (arith, length2, g 8 c i t (inr (inr (inl refl))))) w.1)

  gives_unit : T (names_apart s 4 r && names_apart s 7 r && names_apart s 8 r) → T (unit_unmarked s r m)
  unfolding unit_unmarked m1 m2
  gives_unit h =
      let q = T_and (names_apart s 4 r && names_apart s 7 r) (names_apart s 8 r) h in
      let w = T_and (names_apart s 4 r) (names_apart s 7 r) q.0 in
      and_both (unmarked s 4 (stamp r 1) m (kids s r)) (unmarked s 7 (stamp r 2) (m1 4) (kids s r) && unmarked s 8 (stamp r 3) m2 (kids s r)) (of_apart s 4 (4 * r + 1) r m u w.0)
      (and_both (unmarked s 7 (stamp r 2) (m1 4) (kids s r)) (unmarked s 8 (stamp r 3) m2 (kids s r))
      (of_apart s 7 (4 * r + 2) r (m1 4) (under1 4) w.1) (of_apart s 8 (4 * r + 3) r m2 under2 q.1))

  class_gives : Ranges → T (class_unmarked s r m) → T (names_apart s 10 r && names_apart s 6 r)
  unfolding class_unmarked m1
  class_gives g h =
      let q = T_and (unmarked s 10 (stamp r 1) m (kids s r)) (unmarked s 6 (stamp r 2) (m1 10) (kids s r)) h in
      and_both (names_apart s 10 r) (names_apart s 6 r) (apart_of s 10 (4 * r + 1) r m u (λ c i t. g 10 c i t (inr (inr (inr (inl refl))))) q.0)
      (apart_of s 6 (4 * r + 2) r (m1 10) (under1 10) (λ c i t. omega (arith, length1 10, g 6 c i t (inr (inr (inr (inr refl)))))) q.1)

  gives_class : T (names_apart s 10 r && names_apart s 6 r) → T (class_unmarked s r m)
  unfolding class_unmarked m1
  gives_class h =
      let q = T_and (names_apart s 10 r) (names_apart s 6 r) h in
      and_both (unmarked s 10 (stamp r 1) m (kids s r)) (unmarked s 6 (stamp r 2) (m1 10) (kids s r)) (of_apart s 10 (4 * r + 1) r m u q.0) (of_apart s 6 (4 * r + 2) r (m1 10) (under1 10) q.1)

  pub row_gives : Ranges → T (row_unmarked s r m) → T (unit_apart s r) × T (class_apart s r)
  unfolding row_unmarked
  row_gives g h = go (decide (is s 2 r)) (decide (is s 4 r))
    where
      no : (x y : Bool) → T (not x) → T (x ⇒ y)
      no true y f = absurd f
      no false y f = tt

      go : T (is s 2 r) ⊎ T (not (is s 2 r)) → T (is s 4 r) ⊎ T (not (is s 4 r)) → T (unit_apart s r) × T (class_apart s r)
      go (inl t) w = (
        imp_of (is s 2 r) (names_apart s 4 r && names_apart s 7 r && names_apart s 8 r)
            (λ x. unit_gives g
            (subst T (if_true (is s 2 r) (unit_unmarked s r m) (when is s 4 r then class_unmarked s r m else true) t) h)),
        imp_of (is s 4 r) (names_apart s 10 r && names_apart s 6 r) (λ x. absurd (kind_apart (kind s r) 2 4 tt t x)),
      )
      go (inr t) (inl w) = (
        no (is s 2 r) (names_apart s 4 r && names_apart s 7 r && names_apart s 8 r) t,
        imp_of (is s 4 r) (names_apart s 10 r && names_apart s 6 r)
            (λ x. class_gives g (subst T (if_false (is s 2 r) (unit_unmarked s r m) (when is s 4 r then class_unmarked s r m else true) t ∙ if_true (is s 4 r) (class_unmarked s r m) true w) h)),
      )
      go (inr t) (inr w) = (no (is s 2 r) (names_apart s 4 r && names_apart s 7 r && names_apart s 8 r) t, no (is s 4 r) (names_apart s 10 r && names_apart s 6 r) w)

  pub gives_row : T (unit_apart s r) → T (class_apart s r) → T (row_unmarked s r m)
  unfolding row_unmarked
  gives_row x y = go (decide (is s 2 r)) (decide (is s 4 r))
    where
      go : T (is s 2 r) ⊎ T (not (is s 2 r)) → T (is s 4 r) ⊎ T (not (is s 4 r)) → T (row_unmarked s r m)
      go (inl t) w =
          subst T (sym (if_true (is s 2 r) (unit_unmarked s r m) (when is s 4 r then class_unmarked s r m else true) t))
          (gives_unit (T-imp (is s 2 r) (names_apart s 4 r && names_apart s 7 r && names_apart s 8 r) x t))
      go (inr t) (inl w) =
          subst T (sym (if_false (is s 2 r) (unit_unmarked s r m) (when is s 4 r then class_unmarked s r m else true) t ∙ if_true (is s 4 r) (class_unmarked s r m) true w))
          (gives_class (T-imp (is s 4 r) (names_apart s 10 r && names_apart s 6 r) y w))
      go (inr t) (inr w) = subst T (sym (if_false (is s 2 r) (unit_unmarked s r m) (when is s 4 r then class_unmarked s r m else true) t ∙ if_false (is s 4 r) (class_unmarked s r m) true w)) tt

  -- the marks after it
  three : (x y z : List ℕ) (P : List ℕ → Type 0) (t2 t4 : Bool) → P x → P y → P z → P (when t2 then x else when t4 then y else z)
  three x y z P true t4 p q o = p
  three x y z P false true p q o = q
  three x y z P false false p q o = o

  widen : (m' : List ℕ) (v w : ℕ) → v ≤ w → Under m' v → Under m' w
  widen m' v w h f i = omega (arith, f i)

  pub row_under : Under (row_marked s r m) (4 * suc r + 1)
  unfolding row_marked unit_marked class_marked m1 m2
  row_under =
      three (unit_marked s r m) (class_marked s r m) m (λ x. Under x (4 * suc r + 1)) (eqb (kind s r) 2) (eqb (kind s r) 4)
      (widen (unit_marked s r m) (suc (4 * r + 3)) (4 * suc r + 1) (omega arith) (marked_fresh s 8 (4 * r + 3) r m2 under2))
      (widen (class_marked s r m) (suc (4 * r + 2)) (4 * suc r + 1) (omega arith) (marked_fresh s 6 (4 * r + 2) r (m1 10) (under1 10)))
      (widen m (4 * r + 1) (4 * suc r + 1) (omega arith) u)

  pub row_length : length (row_marked s r m) ≡ length m
  unfolding row_marked unit_marked class_marked m1 m2
  row_length =
      three (unit_marked s r m) (class_marked s r m) m (λ x. length x ≡ length m) (eqb (kind s r) 2) (eqb (kind s r) 4)
      (marked_length s 8 (stamp r 3) (kids s r) m2 ∙ length2) (marked_length s 6 (stamp r 2) (kids s r) (m1 10) ∙ length1 10) refl

-- the rows from r on
pub rows_give : (s : Sheet) (k r : ℕ) (m : List ℕ) → Under m (4 * r + 1) → ((i : ℕ) → r ≤ i → i < r + k → (j c : ℕ) → Mem c (kids s i) → T (is s j c)
    → (j ≡ 4) ⊎ ((j ≡ 7) ⊎ ((j ≡ 8) ⊎ ((j ≡ 10) ⊎ (j ≡ 6)))) → a s c < length m)
    → T (all_unmarked s k r m) → (i : ℕ) → r ≤ i → i < r + k → T (unit_apart s i) × T (class_apart s i)
unfolding all_unmarked
rows_give s zero r m u g h i p q = absurd (omega arith)
rows_give s (suc k) r m u g h i p q =
    let w = T_and (row_unmarked s r m) (all_unmarked s k (suc r) (row_marked s r m)) h in
    go w (ℕ-trichotomy r i) (rows_give s k (suc r) (row_marked s r m) (row_under s r m u)
    (λ x y z j c n t o. subst (λ (l : ℕ). a s c < l) (sym (row_length s r m u))
    (g x (omega arith) (omega arith) j c n t o)))
  where
    go : T (row_unmarked s r m) × T (all_unmarked s k (suc r) (row_marked s r m)) → (r < i) ⊎ ((r ≡ i) ⊎ (i < r))
        → (T (all_unmarked s k (suc r) (row_marked s r m)) → (x : ℕ) → suc r ≤ x → x < suc r + k → T (unit_apart s x) × T (class_apart s x)) → T (unit_apart s i) × T (class_apart s i)
    go w (inl l) up = up w.1 i (omega arith) (omega arith)
    go w (inr (inl e)) up = subst (λ (x : ℕ). T (unit_apart s x) × T (class_apart s x)) e (row_gives s r m u (g r (omega arith) (omega arith)) w.0)
    go w (inr (inr l)) up = absurd (omega arith)

pub give_rows : (s : Sheet) (k r : ℕ) (m : List ℕ) → Under m (4 * r + 1) → ((i : ℕ) → r ≤ i → i < r + k → T (unit_apart s i) × T (class_apart s i)) → T (all_unmarked s k r m)
unfolding all_unmarked
give_rows s zero r m u g = tt
give_rows s (suc k) r m u g =
    and_both (row_unmarked s r m) (all_unmarked s k (suc r) (row_marked s r m)) (let w = g r (omega arith) (omega arith) in gives_row s r m u w.0 w.1)
    (give_rows s k (suc r) (row_marked s r m) (row_under s r m u) (λ i p q. g i (omega arith) (omega arith)))
