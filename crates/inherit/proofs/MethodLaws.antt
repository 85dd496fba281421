-- The method of a name after inheritance: the class's own, or else its parent's.
use mathlib.Core.Path.{◌≡◌, refl, sym, ap, ◌∙◌}
use mathlib.Core.Bool.{Bool, true, false, not, ◌||◌}
use mathlib.Core.List.{List, [], ◌∷◌, ◌++◌, map}
use Prim.Native.Nat.{ℕ, zero, suc, ◌-◌, ◌<◌, ◌≤◌}
use native.Mathlib.Omega.{arith}
use lib.Dec.{eqb}
use borrow.Author.Tests.{eq-eqb, ne_eqb, eqb-true, eqb-false}
use Rattle.definition.specs.Basics.{when◌then◌else◌, filter, any, first}
use Rattle.definition.specs.Sheet.{Sheet, child, next, rows, chain, is, kids_of}
use Rattle.definition.specs.Outside.{Outside, Method, record_of}
use Rattle.definition.specs.Classes.{own_methods, method_named, merge_methods, of_sheet, method_of, method_at, no_method}
use Rattle.definition.proofs.Lists.Tests.{T_true}
use Rattle.machine.specs.Machine.{Store, cell}
use Rattle.after.specs.Inherited.{parent_in, methods_in}

-- Methods whose functions are not 0.
data Functions : List Method → Type 0 where
  nil : Functions []
  cons : (x : Method) (xs : List Method) → (x.fun ≡ 0 → ⊥) → Functions xs → Functions (x ∷ xs)

chain_functions : (s : Sheet) (n k : ℕ) → Functions (map (method_at s) (filter (is s 6) (chain n s k)))
chain_functions s zero k = nil
chain_functions s (suc n) zero = nil
chain_functions s (suc n) (suc k) = go (is s 6 (suc k)) (filter (is s 6) (chain n s (next s (suc k)))) (chain_functions s n (next s (suc k)))
  where
    go : (t : Bool) (ks : List ℕ) → Functions (map (method_at s) ks) → Functions (map (method_at s) (when t then suc k ∷ ks else ks))
    go true ks h = cons (method_at s (suc k)) (map (method_at s) ks) (λ z. omega arith) h
    go false ks h = h

-- a class that has a parent is of the sheet, and its methods are rows of it
own_functions : (O : Outside) (s : Sheet) (o : Store) (c : ℕ) → (parent_in s o c ≡ 0 → ⊥) → Functions (own_methods O s c)
unfolding parent_in
own_functions O s o c = go (of_sheet s c)
  where
    go : (t : Bool) → ((when t then cell o.table (c - 256) 1 else 0) ≡ 0 → ⊥) → Functions (when t then map (method_at s) (kids_of s 6 (c - 256)) else (record_of O c).methods)
    go true f = chain_functions s (rows s) (child s (c - 256))
    go false f = absurd (f refl)

-- an inherited method, or the own one of its name
abbrev replaced : List Method → Method → Method
replaced own m = first (λ o. eqb o.name m.name) m own

-- is an own method of a name that is not inherited?
abbrev is_new : List Method → Method → Bool
is_new up o = not (any (λ m. eqb m.name o.name) up)

-- the first method of a name, or another of that name, has the name
first_name : (k : ℕ) (d : Method) (xs : List Method) → d.name ≡ k → (first (λ o. eqb o.name k) d xs).name ≡ k
first_name k d [] e = e
first_name k d (x ∷ xs) e = go (eqb x.name k) refl (first_name k d xs e)
  where
    go : (t : Bool) → eqb x.name k ≡ t → (first (λ o. eqb o.name k) d xs).name ≡ k → (when◌then◌else◌ {A = Method} t x (first (λ o. eqb o.name k) d xs)).name ≡ k
    go true h i = eqb-true x.name k h
    go false h i = i

-- Methods merged, and looked for by name n.
module _ (n : ℕ) where
  abbrev sought : Method → Bool
  sought m = eqb m.name n

  first_replaced : (own ys up : List Method)
      → first sought no_method (map (replaced own) up ++ ys) ≡ (when any sought up then first sought (first sought no_method up) own else first sought no_method ys)
  first_replaced own ys [] = refl
  first_replaced own ys (m ∷ ms) =
      ap (λ (i : ℕ). when eqb i n then replaced own m else first sought no_method (map (replaced own) ms ++ ys)) (first_name m.name m own refl)
      ∙ go (eqb m.name n) refl (first_replaced own ys ms)
    where
      go : (t : Bool) → eqb m.name n ≡ t → first sought no_method (map (replaced own) ms ++ ys) ≡ (when any sought ms then first sought (first sought no_method ms) own else first sought no_method ys)
          → (when t then replaced own m else first sought no_method (map (replaced own) ms ++ ys))
          ≡ (when t || any sought ms then first sought (when t then m else first sought no_method ms) own else first sought no_method ys)
      go true e h = ap (λ (k : ℕ). first (λ o. eqb o.name k) m own) (eqb-true m.name n e)
      go false e h = h

  first_new : (up own : List Method) → any sought up ≡ false → first sought no_method (filter (is_new up) own) ≡ first sought no_method own
  first_new up [] e = refl
  first_new up (x ∷ xs) e = go (is_new up x) (eqb x.name n) refl (λ z. ap (λ (k : ℕ). not (any (λ m. eqb m.name k) up)) (eqb-true x.name n z) ∙ ap not e) (first_new up xs e)
    where
      go : (t u : Bool) → u ≡ eqb x.name n → (u ≡ true → t ≡ true) → first sought no_method (filter (is_new up) xs) ≡ first sought no_method xs
          → first sought no_method (when t then x ∷ filter (is_new up) xs else filter (is_new up) xs) ≡ (when u then x else first sought no_method xs)
      go true true d g h = ap (λ (b : Bool). when b then x else first sought no_method (filter (is_new up) xs)) (sym d)
      go true false d g h = ap (λ (b : Bool). when b then x else first sought no_method (filter (is_new up) xs)) (sym d) ∙ h
      go false true d g h = absurd (T_true false (g refl))
      go false false d g h = h

  first_none : (xs : List Method) → any sought xs ≡ false → first sought no_method xs ≡ no_method
  first_none [] e = refl
  first_none (x ∷ xs) e = go (sought x) e (first_none xs)
    where
      go : (t : Bool) → (t || any sought xs) ≡ false → (any sought xs ≡ false → first sought no_method xs ≡ no_method) → (when t then x else first sought no_method xs) ≡ no_method
      go true h i = absurd (T_true false (sym h))
      go false h i = i h

  -- an own method goes before z
  own_first : (z : Method) (own : List Method) → Functions own → first sought z own ≡ (when eqb (method_named n own) 0 then z else method_of n own)
  own_first z [] h = refl
  own_first z (x ∷ xs) (cons _ _ f h) = go (eqb x.name n) (own_first z xs h)
    where
      go : (t : Bool) → first sought z xs ≡ (when eqb (method_named n xs) 0 then z else method_of n xs)
          → (when t then x else first sought z xs) ≡ (when eqb (when t then x else method_of n xs).fun 0 then z else when t then x else method_of n xs)
      go true i = sym (ap (λ (b : Bool). when b then z else x) (ne_eqb x.fun 0 f))
      go false i = i

  merged : (up own : List Method) → Functions own → method_of n (merge_methods up own) ≡ (when eqb (method_named n own) 0 then method_of n up else method_of n own)
  merged up own h = first_replaced own (filter (is_new up) own) up ∙ go (any sought up) refl
    where
      go : (t : Bool) → any sought up ≡ t
          → (when t then first sought (method_of n up) own else first sought no_method (filter (is_new up) own)) ≡ (when eqb (method_named n own) 0 then method_of n up else method_of n own)
      go true e = own_first (method_of n up) own h
      go false e = first_new up own e ∙ own_first no_method own h ∙ sym (ap (λ (m : Method). when eqb (method_named n own) 0 then m else method_of n own) (first_none up e))

-- The climb: no class is left.
pub method_end : (O : Outside) (s : Sheet) (o : Store) (n k c : ℕ) → k ≤ 0 → no_method ≡ method_of n (methods_in O s o k c)
unfolding methods_in
method_end O s o n zero c l = refl
method_end O s o n (suc k) c l = absurd (omega arith)

-- one class of the climb; x is the function of its own method, p its parent
module _ (O : Outside) (s : Sheet) (o : Store) (n k c : ℕ) (l : 0 < k) {x : ℕ} (e : x ≡ method_named n (own_methods O s c)) where
  abbrev inherited : List Method
  inherited = methods_in O s o (k - 1) (parent_in s o c)

  abbrev own : Method
  own = method_of n (own_methods O s c)

  methods_suc : methods_in O s o k c ≡ (when eqb (parent_in s o c) 0 then own_methods O s c else merge_methods inherited (own_methods O s c))
  unfolding methods_in
  methods_suc = ap (λ (i : ℕ). methods_in O s o i c) below
    where
      below : k ≡ suc (k - 1)
      below = omega arith

  by_parent : method_of n (methods_in O s o k c) ≡ (when eqb (parent_in s o c) 0 then own else when eqb x 0 then method_of n inherited else own)
  by_parent = ap (method_of n) methods_suc ∙ go (eqb (parent_in s o c) 0) refl
    where
      go : (t : Bool) → eqb (parent_in s o c) 0 ≡ t
          → method_of n (when t then own_methods O s c else merge_methods inherited (own_methods O s c)) ≡ (when t then own else when eqb x 0 then method_of n inherited else own)
      go true h = refl
      go false h =
          merged n inherited (own_methods O s c) (own_functions O s o c (eqb-false (parent_in s o c) 0 h))
          ∙ ap (λ (i : ℕ). when eqb i 0 then method_of n inherited else own) (sym e)

  pub method_here : (x ≡ 0 → ⊥) → own ≡ method_of n (methods_in O s o k c)
  method_here f = sym (by_parent ∙ ap (λ (t : Bool). when eqb (parent_in s o c) 0 then own else when t then method_of n inherited else own) (ne_eqb x 0 f) ∙ go (eqb (parent_in s o c) 0))
    where
      go : (t : Bool) → (when t then own else own) ≡ own
      go true = refl
      go false = refl

  module _ (z : x ≡ 0) {p : ℕ} (d : p ≡ parent_in s o c) where
    -- a class without a parent has its own methods alone
    pub method_last : p ≡ 0 → own ≡ method_of n (methods_in O s o k c)
    method_last g = sym (by_parent ∙ ap (λ (t : Bool). when t then own else when eqb x 0 then method_of n inherited else own) (eq-eqb (parent_in s o c) 0 (sym d ∙ g)))

    pub method_up : (p ≡ 0 → ⊥) → method_of n (methods_in O s o (k - 1) p) ≡ method_of n (methods_in O s o k c)
    method_up g =
        ap (λ (i : ℕ). method_of n (methods_in O s o (k - 1) i)) d
        ∙ sym (by_parent ∙ ap (λ (t : Bool). when t then own else when eqb x 0 then method_of n inherited else own) (ne_eqb (parent_in s o c) 0 (λ h. g (d ∙ h)))
        ∙ ap (λ (t : Bool). when t then method_of n inherited else own) (eq-eqb x 0 z))
