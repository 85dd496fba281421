-- Lists and their members.
use mathlib.Core.Path.{◌≡◌, refl, sym, ap, ◌∙◌, subst}
use mathlib.Core.Logic.{◌⊎◌, inl, inr}
use mathlib.Core.List.Memᴰ.{head as here}
use mathlib.Core.List.Memᴰ.{tail as there}
use mathlib.Core.List.{List, [], ◌∷◌, ◌++◌, map, Memᴰ as Mem}
use mathlib.Core.List.Memᴰ
use mathlib.Core.Bool.{Bool, true, false, not, ◌&&◌}
use Prim.Native.Nat.{ℕ, zero, suc, ◌+◌, ◌<◌, ◌≤◌}
use native.Mathlib.Omega.{arith}
use native.Mathlib.Nat.{le_refl}
use lib.ListN.{length, get_or, take, drop}
use lib.Dec.{eqb, T, T_not, not_T, eqb_refl, eqb→eq}
use Rattle.definition.specs.Basics.{when◌then◌else◌, filter, any, first, distinct, place, concat_map, from, bit, count, ◌∈?◌, total}
use Rattle.definition.proofs.Lists.Tests.{or_cases, or_left, or_right, decide, eqb_of, if_true, if_false}

module _ {A : Type 0} where
  -- a property of each element
  pub data Every (P : A → Type 0) : List A → Type 0 where
    every_none : Every P []
    every_one : {x : A} {xs : List A} → P x → Every P xs → Every P (x ∷ xs)

  -- no element twice
  pub data Nodup : List A → Type 0 where
    nodup_none : Nodup []
    nodup_one : {x : A} {xs : List A} → (Mem x xs → ⊥) → Nodup xs → Nodup (x ∷ xs)

  pub every_append : {P : A → Type 0} {xs ys : List A} → Every P xs → Every P ys → Every P (xs ++ ys)
  every_append every_none q = q
  every_append (every_one h p) q = every_one h (every_append p q)

  pub every_mem : {P : A → Type 0} {xs : List A} {x : A} → Every P xs → Mem x xs → P x
  every_mem {P = P} every_none m = elim m [ ]
  every_mem {P = P} (every_one h p) (here e) = subst P (sym e) h
  every_mem (every_one h p) (there m) = every_mem p m

  pub mem_filter : (p : A → Bool) (x : A) (xs : List A) → T (p x) → Mem x xs → Mem x (filter p xs)
  mem_filter p x [] h q = q
  mem_filter p x (y ∷ ys) h (here e) = go (p y) (subst (λ (z : A). T (p z)) e h)
    where
      go : (t : Bool) → T t → Mem x (when t then y ∷ filter p ys else filter p ys)
      go true k = here e
      go false k = absurd k
  mem_filter p x (y ∷ ys) h (there q) = go (p y) (mem_filter p x ys h q)
    where
      go : (t : Bool) → Mem x (filter p ys) → Mem x (when t then y ∷ filter p ys else filter p ys)
      go true k = there k
      go false k = k

  pub filter_mem : (p : A → Bool) (x : A) (xs : List A) → Mem x (filter p xs) → Mem x xs × T (p x)
  filter_mem p x [] m = absurd (Memᴰ.not-nil m)
  filter_mem p x (y ∷ ys) m = go (p y) (λ h. h) (filter_mem p x ys) m
    where
      head_case : T (p y) → (Mem x (filter p ys) → Mem x ys × T (p x)) → Mem x (y ∷ filter p ys) → Mem x (y ∷ ys) × T (p x)
      head_case h below (here e) = (here e, subst (λ (z : A). T (p z)) (sym e) h)
      head_case h below (there q) = let r = below q in (there r.0, r.1)

      go : (t : Bool) → (T t → T (p y)) → (Mem x (filter p ys) → Mem x ys × T (p x)) → Mem x (when t then y ∷ filter p ys else filter p ys) → Mem x (y ∷ ys) × T (p x)
      go true h below q = head_case (h tt) below q
      go false h below q = let r = below q in (there r.0, r.1)

  pub nodup_filter : (p : A → Bool) {xs : List A} → Nodup xs → Nodup (filter p xs)
  nodup_filter p nodup_none = nodup_none
  nodup_filter p (nodup_one {x = x} {xs = xs} h n) = go (p x) (nodup_filter p n)
    where
      go : (t : Bool) → Nodup (filter p xs) → Nodup (when t then x ∷ filter p xs else filter p xs)
      go true k = nodup_one (λ m. h (filter_mem p x xs m).0) k
      go false k = k

  pub nodup_append : {xs ys : List A} → Nodup xs → Nodup ys → ((x : A) → Mem x xs → Mem x ys → ⊥) → Nodup (xs ++ ys)
  nodup_append nodup_none q f = q
  nodup_append {ys = ys} (nodup_one {x = x} {xs = xs} h p) q f =
      nodup_one (λ m. go (Memᴰ.append_cases xs m)) (nodup_append p q (λ y m k. f y (there m) k))
    where
      go : Mem x xs ⊎ Mem x ys → ⊥
      go (inl m) = h m
      go (inr m) = f x (here refl) m

  pub count_append : (p : A → Bool) (xs ys : List A) → count p (xs ++ ys) ≡ count p xs + count p ys
  count_append p [] ys = omega arith
  count_append p (x ∷ xs) ys = omega (arith, count_append p xs ys)

  pub count_mem : (p : A → Bool) (x : A) (xs : List A) → T (p x) → Mem x xs → 1 ≤ count p xs
  count_mem p x [] h m = absurd (Memᴰ.not-nil m)
  count_mem p x (y ∷ ys) h (here e) = go (p y) (subst (λ (z : A). T (p z)) e h)
    where
      go : (t : Bool) → T t → 1 ≤ bit t + count p ys
      go true k = omega arith
      go false k = absurd k
  count_mem p x (y ∷ ys) h (there m) = omega (arith, count_mem p x ys h m)

  pub count_some : (p : A → Bool) (xs : List A) → 1 ≤ count p xs → (x : A) × Mem x xs × T (p x)
  count_some p [] h = absurd (omega arith)
  count_some p (y ∷ ys) h = go (p y) (λ t. t) h (count_some p ys)
    where
      go : (t : Bool) → (T t → T (p y)) → 1 ≤ bit t + count p ys → (1 ≤ count p ys → (x : A) × Mem x ys × T (p x)) → (x : A) × Mem x (y ∷ ys) × T (p x)
      go true k l up = (y, here refl, k tt)
      go false k l up = let q = up (omega arith) in (q.0, there q.1, q.2)

  -- two elements that pass a test that at most one passes are one
  pub count_same : (p : A → Bool) (x y : A) (xs : List A) → T (p x) → T (p y) → Mem x xs → Mem y xs → count p xs ≤ 1 → x ≡ y
  count_same p x y [] h k m q le = absurd (Memᴰ.not-nil m)
  count_same p x y (z ∷ zs) h k (here e) (here f) le = e ∙ sym f
  count_same p x y (z ∷ zs) h k (here e) (there q) le = absurd (go (p z) (subst (λ (w : A). T (p w)) e h) le (count_mem p y zs k q))
    where
      go : (t : Bool) → T t → bit t + count p zs ≤ 1 → 1 ≤ count p zs → ⊥
      go true i j l = omega arith
      go false i j l = i
  count_same p x y (z ∷ zs) h k (there m) (here f) le = absurd (go (p z) (subst (λ (w : A). T (p w)) f k) le (count_mem p x zs h m))
    where
      go : (t : Bool) → T t → bit t + count p zs ≤ 1 → 1 ≤ count p zs → ⊥
      go true i j l = omega arith
      go false i j l = i
  count_same p x y (z ∷ zs) h k (there m) (there q) le = count_same p x y zs h k m q (omega arith)

  -- one that passes a test that at most one passes is all that passes
  filter_none : (p : A → Bool) (xs : List A) → count p xs ≡ 0 → filter p xs ≡ []
  filter_none p [] h = refl
  filter_none p (x ∷ xs) h = go (p x) h (filter_none p xs)
    where
      go : (t : Bool) → bit t + count p xs ≡ 0 → (count p xs ≡ 0 → filter p xs ≡ []) → (when t then x ∷ filter p xs else filter p xs) ≡ []
      go true k up = absurd (omega arith)
      go false k up = up (omega arith)

  pub filter_one : (p : A → Bool) (x : A) (xs : List A) → T (p x) → Mem x xs → count p xs ≤ 1 → filter p xs ≡ x ∷ []
  filter_one p x [] h m le = absurd (Memᴰ.not-nil m)
  filter_one p x (y ∷ ys) h (here e) le = go (p y) (subst (λ (z : A). T (p z)) e h) le
    where
      go : (t : Bool) → T t → bit t + count p ys ≤ 1 → (when t then y ∷ filter p ys else filter p ys) ≡ x ∷ []
      go true k l = ap (λ (z : List A). y ∷ z) (filter_none p ys (omega arith)) ∙ ap (λ (z : A). z ∷ []) (sym e)
      go false k l = absurd k
  filter_one p x (y ∷ ys) h (there m) le = go (p y) le (count_mem p x ys h m) (filter_one p x ys h m)
    where
      go : (t : Bool) → bit t + count p ys ≤ 1 → 1 ≤ count p ys → (count p ys ≤ 1 → filter p ys ≡ x ∷ []) → (when t then y ∷ filter p ys else filter p ys) ≡ x ∷ []
      go true k l up = absurd (omega arith)
      go false k l up = up (omega arith)

  pub first_found : (p : A → Bool) (d x : A) (xs : List A) → T (p x) → Mem x xs → T (p (first p d xs)) × Mem (first p d xs) xs
  first_found p d x [] h m = absurd (Memᴰ.not-nil m)
  first_found p d x (y ∷ ys) h m = go (p y) (λ k. k) (λ k. k) m (first_found p d x ys h)
    where
      miss : T (not (p y)) → Mem x (y ∷ ys) → Mem x ys
      miss n (here e) = absurd (T_not (p y) n (subst (λ (z : A). T (p z)) e h))
      miss n (there q) = q

      go : (t : Bool) → (T t → T (p y)) → (T (not t) → T (not (p y))) → Mem x (y ∷ ys) → (Mem x ys → T (p (first p d ys)) × Mem (first p d ys) ys)
          → T (p (when t then y else first p d ys)) × Mem (when t then y else first p d ys) (y ∷ ys)
      go true k n q below = (k tt, here refl)
      go false k n q below = let r = below (miss (n tt) q) in (r.0, there r.1)

  pub drop_mem : (i : ℕ) (xs : List A) (y : A) (ys : List A) → drop i xs ≡ y ∷ ys → Mem y xs
  drop_mem zero [] y ys e = let z : ◌≡◌ {A = ℕ} 0 1 = cc in absurd (omega arith)
  drop_mem (suc i) [] y ys e = let z : ◌≡◌ {A = ℕ} 0 1 = cc in absurd (omega arith)
  drop_mem zero (x ∷ xs) y ys e = let q : y ≡ x = cc in here q
  drop_mem (suc i) (x ∷ xs) y ys e = there (drop_mem i xs y ys e)

  pub get_or_drop_is : (i : ℕ) (xs : List A) (y d : A) (ys : List A) → drop i xs ≡ y ∷ ys → get_or xs i d ≡ y
  get_or_drop_is zero [] y d ys e = let z : ◌≡◌ {A = ℕ} 0 1 = cc in absurd (omega arith)
  get_or_drop_is (suc i) [] y d ys e = let z : ◌≡◌ {A = ℕ} 0 1 = cc in absurd (omega arith)
  get_or_drop_is zero (x ∷ xs) y d ys e = cc
  get_or_drop_is (suc i) (x ∷ xs) y d ys e = get_or_drop_is i xs y d ys e

  -- the first that passes stands at its place
  pub place_found : (p : A → Bool) (x : A) (xs : List A) → T (p x) → Mem x xs → (y : A) × (ys : List A) × (drop (place p xs) xs ≡ y ∷ ys) × T (p y)
  place_found p x [] h m = absurd (Memᴰ.not-nil m)
  place_found p x (y ∷ ys) h m = go (p y) (λ k. k) (λ k. k) m (place_found p x ys h)
    where
      miss : T (not (p y)) → Mem x (y ∷ ys) → Mem x ys
      miss n (here e) = absurd (T_not (p y) n (subst (λ (z : A). T (p z)) e h))
      miss n (there q) = q

      go : (t : Bool) → (T t → T (p y)) → (T (not t) → T (not (p y))) → Mem x (y ∷ ys) → (Mem x ys → (w : A) × (ws : List A) × (drop (place p ys) ys ≡ w ∷ ws) × T (p w))
          → (w : A) × (ws : List A) × (drop (when t then 0 else suc (place p ys)) (y ∷ ys) ≡ w ∷ ws) × T (p w)
      go true k n q below = (y, ys, refl, k tt)
      go false k n q below = below (miss (n tt) q)

  pub mem_any : (p : A → Bool) (x : A) (xs : List A) → T (p x) → Mem x xs → T (any p xs)
  mem_any p x [] h m = absurd (Memᴰ.not-nil m)
  mem_any p x (y ∷ ys) h (here e) = or_left (p y) (any p ys) (subst (λ (z : A). T (p z)) e h)
  mem_any p x (y ∷ ys) h (there m) = or_right (p y) (any p ys) (mem_any p x ys h m)

  pub any_mem : (p : A → Bool) (xs : List A) → T (any p xs) → (x : A) × Mem x xs × T (p x)
  any_mem p [] h = absurd h
  any_mem p (y ∷ ys) h = go (or_cases (p y) (any p ys) h) (any_mem p ys)
    where
      go : T (p y) ⊎ T (any p ys) → (T (any p ys) → (x : A) × Mem x ys × T (p x)) → (x : A) × Mem x (y ∷ ys) × T (p x)
      go (inl k) below = (y, here refl, k)
      go (inr k) below = let r = below k in (r.0, there r.1, r.2)

  pub none_passes : (p : A → Bool) (xs : List A) → ((x : A) → Mem x xs → T (not (p x))) → filter p xs ≡ []
  none_passes p [] f = refl
  none_passes p (x ∷ xs) f = rw (if_false (p x) (x ∷ filter p xs) (filter p xs) (f x (here refl))) (none_passes p xs (λ y m. f y (there m)))

  pub all_pass : (p : A → Bool) (xs : List A) → ((x : A) → Mem x xs → T (p x)) → filter p xs ≡ xs
  all_pass p [] f = refl
  all_pass p (x ∷ xs) f = rw (if_true (p x) (x ∷ filter p xs) (filter p xs) (f x (here refl))) (ap (λ (l : List A). x ∷ l) (all_pass p xs (λ y m. f y (there m))))

  pub filter_append : (p : A → Bool) (xs ys : List A) → filter p (xs ++ ys) ≡ filter p xs ++ filter p ys
  filter_append p [] ys = refl
  filter_append p (x ∷ xs) ys = go (p x) (filter_append p xs ys)
    where
      go : (t : Bool) → filter p (xs ++ ys) ≡ filter p xs ++ filter p ys
          → (when t then x ∷ filter p (xs ++ ys) else filter p (xs ++ ys)) ≡ (when t then x ∷ filter p xs else filter p xs) ++ filter p ys
      go true e = ap (λ (l : List A). x ∷ l) e
      go false e = e

  pub empty_of : (xs : List A) → ((x : A) → Mem x xs → ⊥) → xs ≡ []
  empty_of [] f = refl
  empty_of (x ∷ xs) f = absurd (f x (here refl))

  pub total_append : (f : A → ℕ) (xs ys : List A) → total f (xs ++ ys) ≡ total f xs + total f ys
  total_append f [] ys = omega arith
  total_append f (x ∷ xs) ys = omega (arith, total_append f xs ys)

module _ {A B : Type 0} where
  pub mem_map : (f : A → B) (x : A) (xs : List A) → Mem x xs → Mem (f x) (map f xs)
  mem_map f x [] m = absurd (Memᴰ.not-nil m)
  mem_map f x (y ∷ ys) (here e) = here (ap f e)
  mem_map f x (y ∷ ys) (there m) = there (mem_map f x ys m)

  pub map_mem : (f : A → B) (y : B) (xs : List A) → Mem y (map f xs) → (x : A) × Mem x xs × (y ≡ f x)
  map_mem f y [] m = absurd (Memᴰ.not-nil m)
  map_mem f y (x ∷ xs) (here e) = (x, here refl, e)
  map_mem f y (x ∷ xs) (there m) = let r = map_mem f y xs m in (r.0, there r.1, r.2)

  pub mem_concat_map : (f : A → List B) (x : A) (y : B) (xs : List A) → Mem x xs → Mem y (f x) → Mem y (concat_map f xs)
  mem_concat_map f x y [] m k = absurd (Memᴰ.not-nil m)
  mem_concat_map f x y (z ∷ zs) (here e) k = Memᴰ.append_left (concat_map f zs) (subst (λ (w : A). Mem y (f w)) e k)
  mem_concat_map f x y (z ∷ zs) (there m) k = Memᴰ.append_right (f z) (mem_concat_map f x y zs m k)

  pub concat_map_mem : (f : A → List B) (y : B) (xs : List A) → Mem y (concat_map f xs) → (x : A) × Mem x xs × Mem y (f x)
  concat_map_mem f y [] m = absurd (Memᴰ.not-nil m)
  concat_map_mem f y (x ∷ xs) m = go (Memᴰ.append_cases (f x) m) (concat_map_mem f y xs)
    where
      go : Mem y (f x) ⊎ Mem y (concat_map f xs) → (Mem y (concat_map f xs) → (z : A) × Mem z xs × Mem y (f z)) → (z : A) × Mem z (x ∷ xs) × Mem y (f z)
      go (inl k) below = (x, here refl, k)
      go (inr k) below = let r = below k in (r.0, there r.1, r.2)

-- numbers
pub test_mem : (n : ℕ) (ns : List ℕ) → T (n ∈? ns) → Mem n ns
test_mem n ns h = let r = any_mem (eqb n) ns h in Memᴰ.cast (eqb→eq n r.0 r.2) r.1

pub mem_test : (n : ℕ) (ns : List ℕ) → Mem n ns → T (n ∈? ns)
mem_test n ns m = mem_any (eqb n) n ns (eqb_refl n) m

pub from_mem : (x i k : ℕ) → Mem x (from i k) → (i ≤ x) × (x < i + k)
from_mem x i zero m = absurd (Memᴰ.not-nil m)
from_mem x i (suc k) (here e) = omega arith
from_mem x i (suc k) (there m) = omega (arith, from_mem x (suc i) k m)

pub mem_from : (x i k : ℕ) → i ≤ x → x < i + k → Mem x (from i k)
mem_from x i zero p q = absurd (omega arith)
mem_from x i (suc k) p q = go (decide (eqb x i)) (mem_from x (suc i) k)
  where
    go : T (eqb x i) ⊎ T (not (eqb x i)) → (suc i ≤ x → x < suc i + k → Mem x (from (suc i) k)) → Mem x (i ∷ from (suc i) k)
    go (inl h) below = here (eqb→eq x i h)
    go (inr h) below =
        let n : x ≡ i → ⊥ = λ e. T_not (eqb x i) h (eqb_of x i e) in
        there (below (omega arith) (omega arith))

-- numbers below n without repeats are at most n
shrink : (n : ℕ) {xs : List ℕ} → Nodup xs → length xs ≤ suc (length (filter (λ x. not (eqb x n)) xs))
shrink n nodup_none = omega arith
shrink n (nodup_one {x = x} {xs = xs} h k) = go (eqb x n) (λ t. t) (shrink n k)
  where
    other : T (eqb x n) → (y : ℕ) → Mem y xs → T (not (eqb y n))
    other t y m = not_T (eqb y n) (λ q. h (Memᴰ.cast (eqb→eq x n t ∙ sym (eqb→eq y n q)) m))

    go : (t : Bool) → (T t → T (eqb x n)) → length xs ≤ suc (length (filter (λ y. not (eqb y n)) xs))
        → suc (length xs) ≤ suc (length (when not t then x ∷ filter (λ y. not (eqb y n)) xs else filter (λ y. not (eqb y n)) xs))
    go true t b = rw (all_pass (λ y. not (eqb y n)) xs (other (t tt))) (le_refl _)
    go false t b = omega arith

pub pigeonhole : (n : ℕ) {xs : List ℕ} → Nodup xs → ((x : ℕ) → Mem x xs → x < n) → length xs ≤ n
pigeonhole zero {xs} k f = rw (empty_of xs (λ x m. let h : x < 0 = f x m in omega arith)) (le_refl 0)
pigeonhole (suc n) {xs} k f =
    omega (
      arith,
      shrink n k,
      pigeonhole n (nodup_filter (λ x. not (eqb x n)) k)
          (λ x m. let r = filter_mem (λ x. not (eqb x n)) x xs m in
          let h : x < suc n = f x r.0 in
          let d : x ≡ n → ⊥ = λ e. T_not (eqb x n) r.1 (eqb_of x n e) in
          omega arith),
    )

-- lists without repeats of a number that each element has
module _ {A : Type 0} (key : A → ℕ) where
  abbrev pub same_key : A → A → Bool
  same_key x y = eqb (key x) (key y)

  pub distinct_mem : (x : A) (xs : List A) → Mem x (distinct same_key xs) → Mem x xs
  distinct_mem x [] m = m
  distinct_mem x (y ∷ ys) (here e) = here e
  distinct_mem x (y ∷ ys) (there m) = there (distinct_mem x ys (filter_mem (λ z. not (same_key y z)) x (distinct same_key ys) m).0)

  pub mem_distinct : (x : A) (xs : List A) → Mem x xs → (y : A) × Mem y (distinct same_key xs) × (key y ≡ key x)
  mem_distinct x [] m = absurd (Memᴰ.not-nil m)
  mem_distinct x (y ∷ ys) (here e) = (y, here refl, ap key (sym e))
  mem_distinct x (y ∷ ys) (there m) = go (mem_distinct x ys m)
    where
      go : (z : A) × Mem z (distinct same_key ys) × (key z ≡ key x) → (z : A) × Mem z (y ∷ filter (λ w. not (same_key y w)) (distinct same_key ys)) × (key z ≡ key x)
      go r = choose (decide (same_key y r.0))
        where
          choose : T (same_key y r.0) ⊎ T (not (same_key y r.0)) → (z : A) × Mem z (y ∷ filter (λ w. not (same_key y w)) (distinct same_key ys)) × (key z ≡ key x)
          choose (inl h) = (y, here refl, eqb→eq (key y) (key r.0) h ∙ r.2)
          choose (inr h) = (r.0, there (mem_filter (λ w. not (same_key y w)) r.0 (distinct same_key ys) h r.1), r.2)

  pub distinct_nodup : (xs : List A) → Nodup (map key (distinct same_key xs))
  distinct_nodup [] = nodup_none
  distinct_nodup (x ∷ xs) = nodup_one head_new (tail_nodup (distinct same_key xs) (distinct_nodup xs))
    where
      head_new : Mem (key x) (map key (filter (λ y. not (same_key x y)) (distinct same_key xs))) → ⊥
      head_new m =
          let r = map_mem key (key x) (filter (λ y. not (same_key x y)) (distinct same_key xs)) m in
          T_not (same_key x r.0) (filter_mem (λ y. not (same_key x y)) r.0 (distinct same_key xs) r.1).1 (eqb_of (key x) (key r.0) r.2)

      tail_nodup : (ys : List A) → Nodup (map key ys) → Nodup (map key (filter (λ y. not (same_key x y)) ys))
      tail_nodup [] n = nodup_none
      tail_nodup (y ∷ ys) (nodup_one h n) = go (not (same_key x y)) (tail_nodup ys n)
        where
          lift : Mem (key y) (map key (filter (λ z. not (same_key x z)) ys)) → Mem (key y) (map key ys)
          lift m =
              let r = map_mem key (key y) (filter (λ z. not (same_key x z)) ys) m in
              Memᴰ.cast r.2 (mem_map key r.0 ys (filter_mem (λ z. not (same_key x z)) r.0 ys r.1).0)

          go : (t : Bool) → Nodup (map key (filter (λ z. not (same_key x z)) ys)) → Nodup (map key (when t then y ∷ filter (λ z. not (same_key x z)) ys else filter (λ z. not (same_key x z)) ys))
          go true k = nodup_one (λ m. h (lift m)) k
          go false k = k

  -- by its number an element has one place
  pub place_same : (i j : ℕ) (xs : List A) (u v : A) (us vs : List A) → Nodup (map key xs) → drop i xs ≡ u ∷ us → drop j xs ≡ v ∷ vs → key u ≡ key v → i ≡ j
  place_same zero zero xs u v us vs n p q e = refl
  place_same zero (suc j) [] u v us vs n p q e = let z : ◌≡◌ {A = ℕ} 0 1 = cc in absurd (omega arith)
  place_same (suc i) j [] u v us vs n p q e = let z : ◌≡◌ {A = ℕ} 0 1 = cc in absurd (omega arith)
  place_same zero (suc j) (x ∷ xs) u v us vs (nodup_one h n) p q e =
      let w : x ≡ u = cc in
      absurd (h (Memᴰ.cast (ap key w ∙ e) (mem_map key v xs (drop_mem j xs v vs q))))
  place_same (suc i) zero (x ∷ xs) u v us vs (nodup_one h n) p q e =
      let w : x ≡ v = cc in
      absurd (h (Memᴰ.cast (ap key w ∙ sym e) (mem_map key u xs (drop_mem i xs u us p))))
  place_same (suc i) (suc j) (x ∷ xs) u v us vs (nodup_one h n) p q e = ap suc (place_same i j xs u v us vs n p q e)

  -- elements by the place of the first with their number
  data Rising (k : A → ℕ) : List A → Type 0 where
    rising_none : Rising k []
    rising_one : {x : A} {xs : List A} → ((y : A) → Mem y xs → k x < k y) → Rising k xs → Rising k (x ∷ xs)

  rising_filter : (k k' : A → ℕ) (p : A → Bool) → ((x y : A) → T (p x) → T (p y) → k x < k y → k' x < k' y) → {xs : List A} → Rising k xs → Rising k' (filter p xs)
  rising_filter k k' p f rising_none = rising_none
  rising_filter k k' p f (rising_one {x = x} {xs = xs} h r) = go (p x) (λ t. t) (rising_filter k k' p f r)
    where
      go : (t : Bool) → (T t → T (p x)) → Rising k' (filter p xs) → Rising k' (when t then x ∷ filter p xs else filter p xs)
      go true t q = rising_one (λ y m. let w = filter_mem p y xs m in f x y (t tt) w.1 (h y w.0)) q
      go false t q = q

  rising_drop : (k : A → ℕ) {xs : List A} → Rising k xs → (i j : ℕ) (u v : A) (us vs : List A) → drop i xs ≡ u ∷ us → drop j xs ≡ v ∷ vs → i < j → k u < k v
  rising_drop k rising_none zero j u v us vs p q l = let z : ◌≡◌ {A = ℕ} 0 1 = cc in absurd (omega arith)
  rising_drop k rising_none (suc i) j u v us vs p q l = let z : ◌≡◌ {A = ℕ} 0 1 = cc in absurd (omega arith)
  rising_drop k (rising_one h r) i zero u v us vs p q l = absurd (omega arith)
  rising_drop k (rising_one {x = x} {xs = xs} h r) zero (suc j) u v us vs p q l =
      let e : x ≡ u = cc in
      subst (λ (w : A). k w < k v) e (h v (drop_mem j xs v vs q))
  rising_drop k (rising_one h r) (suc i) (suc j) u v us vs p q l = rising_drop k r i j u v us vs p q (omega arith)

  flip_not : (x y : A) → T (not (same_key x y)) → T (not (same_key y x))
  flip_not x y t = not_T (same_key y x) (λ q. T_not (same_key x y) t (eqb_of (key x) (key y) (sym (eqb→eq (key y) (key x) q))))

  later_place : (x y : A) (xs : List A) → T (not (same_key x y)) → place (same_key y) (x ∷ xs) ≡ suc (place (same_key y) xs)
  later_place x y xs t = if_false (same_key y x) 0 (suc (place (same_key y) xs)) (flip_not x y t)

  distinct_rising : (xs : List A) → Rising (λ x. place (same_key x) xs) (distinct same_key xs)
  distinct_rising [] = rising_none
  distinct_rising (x ∷ xs) = rising_one first_lowest (rising_filter (λ y. place (same_key y) xs) (λ y. place (same_key y) (x ∷ xs)) (λ y. not (same_key x y)) shifted (distinct_rising xs))
    where
      first_lowest : (y : A) → Mem y (filter (λ z. not (same_key x z)) (distinct same_key xs)) → place (same_key x) (x ∷ xs) < place (same_key y) (x ∷ xs)
      first_lowest y m =
          omega (arith, later_place x y xs (filter_mem (λ z. not (same_key x z)) y (distinct same_key xs) m).1, if_true (same_key x x) 0 (suc (place (same_key x) xs)) (eqb_refl (key x)))

      shifted : (y z : A) → T (not (same_key x y)) → T (not (same_key x z)) → place (same_key y) xs < place (same_key z) xs → place (same_key y) (x ∷ xs) < place (same_key z) (x ∷ xs)
      shifted y z p q l = omega (arith, later_place x y xs p, later_place x z xs q)

  pub distinct_order : (xs : List A) (i j : ℕ) (u v : A) (us vs : List A) → drop i (distinct same_key xs) ≡ u ∷ us → drop j (distinct same_key xs) ≡ v ∷ vs → i < j
      → place (same_key u) xs < place (same_key v) xs
  distinct_order xs i j u v us vs p q l = rising_drop (λ x. place (same_key x) xs) (distinct_rising xs) i j u v us vs p q l

-- lists of numbers by place
nodup_head : (x i : ℕ) (xs : List ℕ) → (Mem x xs → ⊥) → i < length xs → x ≡ get_or xs i 0 → ⊥
nodup_head x i [] f h e = omega arith
nodup_head x zero (y ∷ ys) f h e = f (here e)
nodup_head x (suc i) (y ∷ ys) f h e = nodup_head x i ys (λ m. f (there m)) (omega arith) e

pub nodup_apart : {xs : List ℕ} → Nodup xs → (i j : ℕ) → i < length xs → j < length xs → get_or xs i 0 ≡ get_or xs j 0 → i ≡ j
nodup_apart nodup_none i j h g e = absurd (omega arith)
nodup_apart (nodup_one f n) zero zero h g e = refl
nodup_apart (nodup_one {x = x} {xs = xs} f n) zero (suc j) h g e = absurd (nodup_head x j xs f (omega arith) e)
nodup_apart (nodup_one {x = x} {xs = xs} f n) (suc i) zero h g e = absurd (nodup_head x i xs f (omega arith) (sym e))
nodup_apart (nodup_one f n) (suc i) (suc j) h g e = ap suc (nodup_apart n i j (omega arith) (omega arith) e)

module _ {A : Type 0} where
  pub drop_some : (i : ℕ) (xs : List A) → i < length xs → (y : A) × (ys : List A) × (drop i xs ≡ y ∷ ys)
  drop_some i [] h = absurd (omega arith)
  drop_some zero (x ∷ xs) h = (x, xs, refl)
  drop_some (suc i) (x ∷ xs) h = drop_some i xs (omega arith)

  pub count_filter : (p : A → Bool) (xs : List A) → count p xs ≡ length (filter p xs)
  count_filter p [] = refl
  count_filter p (x ∷ xs) = go (p x) (count_filter p xs)
    where
      go : (t : Bool) → count p xs ≡ length (filter p xs) → bit t + count p xs ≡ length (when t then x ∷ filter p xs else filter p xs)
      go true e = omega arith
      go false e = omega arith

  pub take_front : (xs ys : List A) → take (length xs) (xs ++ ys) ≡ xs
  take_front [] ys = refl
  take_front (x ∷ xs) ys = ap (λ (l : List A). x ∷ l) (take_front xs ys)

module _ {A B : Type 0} where
  pub map_append : (f : A → B) (xs ys : List A) → map f (xs ++ ys) ≡ map f xs ++ map f ys
  map_append f [] ys = refl
  map_append f (x ∷ xs) ys = ap (λ (l : List B). f x ∷ l) (map_append f xs ys)

  -- maps that agree on the elements
  pub map_same : (f g : A → B) (xs : List A) → ((x : A) → Mem x xs → f x ≡ g x) → map f xs ≡ map g xs
  map_same f g [] h = refl
  map_same f g (x ∷ xs) h = cc (h x (here refl), map_same f g xs (λ y m. h y (there m)))

  pub drop_map : (f : A → B) (i : ℕ) (xs : List A) (y : A) (ys : List A) → drop i xs ≡ y ∷ ys → drop i (map f xs) ≡ f y ∷ map f ys
  drop_map f zero [] y ys e = let z : ◌≡◌ {A = ℕ} 0 1 = cc in absurd (omega arith)
  drop_map f (suc i) [] y ys e = let z : ◌≡◌ {A = ℕ} 0 1 = cc in absurd (omega arith)
  drop_map f zero (x ∷ xs) y ys e = ap (map f) e
  drop_map f (suc i) (x ∷ xs) y ys e = drop_map f i xs y ys e

pub map_map : {A B C : Type 0} (f : B → C) (g : A → B) (xs : List A) → map f (map g xs) ≡ map (λ x. f (g x)) xs
map_map f g [] = refl
map_map {C = C} f g (x ∷ xs) = ap (λ (l : List C). f (g x) ∷ l) (map_map f g xs)

-- Places in a list go before places in a list picked from it: what passes P₁ and P₂ there passes p₁ and p₂ here.
module _ {A B : Type 0} (w : A → Bool) (g : A → B) (q p₁ p₂ : B → Bool) (P₁ P₂ : A → Bool) where
  abbrev picked : List A → List B
  picked h = filter q (map g (filter w h))

  step_picked : (p : B → Bool) (m : A) (ms : List A)
      → place p (picked (m ∷ ms)) ≡ (when w m then (when q (g m) then (when p (g m) then 0 else suc (place p (picked ms))) else place p (picked ms)) else place p (picked ms))
  step_picked p m ms = outer (w m) (inner (q (g m)))
    where
      inner : (t : Bool) → place p (when t then g m ∷ picked ms else picked ms) ≡ (when t then (when p (g m) then 0 else suc (place p (picked ms))) else place p (picked ms))
      inner true = refl
      inner false = refl

      outer : (t : Bool) {n : ℕ} → place p (filter q (map g (m ∷ filter w ms))) ≡ n
          → place p (filter q (map g (when t then m ∷ filter w ms else filter w ms))) ≡ (when t then n else place p (picked ms))
      outer true e = e
      outer false e = refl

  pub place_order : (h : List A) → ((m : A) → Mem m h → T (P₁ m) → T (w m && q (g m) && p₁ (g m))) → ((m : A) → Mem m h → T (P₂ m) → T (w m && q (g m) && p₂ (g m)))
      → ((m : A) → Mem m h → T (w m && q (g m) && p₁ (g m)) → T (P₁ m))
      → place p₁ (picked h) < place p₂ (picked h) → place P₁ h < place P₂ h
  place_order [] f₁ f₂ b₁ l = l
  place_order (m ∷ ms) f₁ f₂ b₁ l =
      go (w m) (q (g m)) (p₁ (g m)) (p₂ (g m)) (P₁ m) (P₂ m) (place p₁ (picked ms)) (place p₂ (picked ms)) (place P₁ ms) (place P₂ ms) (f₁ m (here refl)) (f₂ m (here refl)) (b₁ m (here refl))
      (subst (λ (n : ℕ). n
      < (when w m then (when q (g m) then (when p₂ (g m) then 0 else suc (place p₂ (picked ms))) else place p₂ (picked ms))
      else place p₂ (picked ms)))
      (step_picked p₁ m ms) (subst (λ (n : ℕ). place p₁ (picked (m ∷ ms)) < n) (step_picked p₂ m ms) l))
      (place_order ms (λ k i. f₁ k (there i)) (λ k i. f₂ k (there i)) (λ k i. b₁ k (there i)))
    where
      go : (tw tq t₁ t₂ s₁ s₂ : Bool) (a₁ a₂ c₁ c₂ : ℕ) → (T s₁ → T (tw && tq && t₁)) → (T s₂ → T (tw && tq && t₂)) → (T (tw && tq && t₁) → T s₁)
          → (when tw then (when tq then (when t₁ then 0 else suc a₁) else a₁) else a₁) < (when tw then (when tq then (when t₂ then 0 else suc a₂) else a₂) else a₂)
          → (a₁ < a₂ → c₁ < c₂) → (when s₁ then 0 else suc c₁) < (when s₂ then 0 else suc c₂)
      go tw tq t₁ t₂ true true a₁ a₂ c₁ c₂ x y z l up = absurd (both tw tq t₁ t₂ a₁ a₂ (x tt) (y tt) l)
        where
          both : (tw tq t₁ t₂ : Bool) (a₁ a₂ : ℕ) → T (tw && tq && t₁) → T (tw && tq && t₂)
              → (when tw then (when tq then (when t₁ then 0 else suc a₁) else a₁) else a₁) < (when tw then (when tq then (when t₂ then 0 else suc a₂) else a₂) else a₂) → ⊥
          both true true true true a₁ a₂ h k l = omega arith
          both true true true false a₁ a₂ h k l = k
          both true true false t₂ a₁ a₂ h k l = h
          both true false t₁ t₂ a₁ a₂ h k l = h
          both false tq t₁ t₂ a₁ a₂ h k l = h
      go tw tq t₁ t₂ true false a₁ a₂ c₁ c₂ x y z l up = omega arith
      go true true true t₂ false s₂ a₁ a₂ c₁ c₂ x y z l up = absurd (z tt)
      go true true false true false s₂ a₁ a₂ c₁ c₂ x y z l up = absurd (omega arith)
      go true true false false false true a₁ a₂ c₁ c₂ x y z l up = absurd (y tt)
      go true true false false false false a₁ a₂ c₁ c₂ x y z l up = omega (arith, up (omega arith))
      go true false t₁ t₂ false true a₁ a₂ c₁ c₂ x y z l up = absurd (y tt)
      go true false t₁ t₂ false false a₁ a₂ c₁ c₂ x y z l up = omega (arith, up l)
      go false tq t₁ t₂ false true a₁ a₂ c₁ c₂ x y z l up = absurd (y tt)
      go false tq t₁ t₂ false false a₁ a₂ c₁ c₂ x y z l up = omega (arith, up l)
