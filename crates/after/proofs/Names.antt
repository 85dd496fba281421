-- Methods by their names: no two methods of a class share a name, so each is found by its own.
use mathlib.Core.Path.{◌≡◌, refl, sym, ap, ◌∙◌, subst}
use mathlib.Core.Logic.{◌⊎◌, inl, inr}
use mathlib.Core.List.Memᴰ
use mathlib.Core.List.Memᴰ.{head as here}
use mathlib.Core.List.Memᴰ.{tail as there}
use mathlib.Core.List.{List, [], ◌∷◌, ◌++◌, map, Memᴰ as Mem}
use mathlib.Core.Bool.{Bool, true, false, not, ◌||◌}
use Prim.Native.Nat.{ℕ, zero, suc, ◌-◌}
use lib.Dec.{eqb, leb, T, T_not, eqb→eq}
use Rattle.definition.specs.Basics.{when◌then◌else◌, filter, any, first, unlike, ◌∈?◌}
use Rattle.definition.specs.Sheet.{Sheet, a, is, kids_of}
use Rattle.definition.specs.Outside.{Outside, Method, record_of}
use Rattle.definition.specs.Classes.{of_sheet, own_methods, merge_fields, merge_methods, method_of, method_at}
use Rattle.definition.proofs.Lists.Tests.{and_left, and_right, decide, if_true, if_false, eqb_of}
use Rattle.definition.proofs.Lists.Members.{Nodup, nodup_none, nodup_one, nodup_filter, nodup_append, filter_mem, mem_test, mem_map, map_append, map_map}
use Rattle.definition.proofs.Format.Tree.{class_names}
use Rattle.definition.proofs.Classes.{recorded}
use Rattle.machine.specs.Machine.{Store}
use Rattle.machine.specs.Reads.{PastFour}
use Rattle.machine.proofs.Lists.{eqb_same}
use Rattle.after.specs.Inherited.{parent_in, methods_in, method_names_in}
use Rattle.after.proofs.Ranges.{row_of_kind, past_facts}

abbrev names_of : List Method → List ℕ
names_of ms = map (λ m. m.name) ms

-- a method that replaces another has its name
replaced_name : (m : Method) (own : List Method) → (first (λ o. eqb o.name m.name) m own).name ≡ m.name
replaced_name m [] = refl
replaced_name m (x ∷ xs) = go (eqb x.name m.name) (λ t. t) (replaced_name m xs)
  where
    go : (t : Bool) → (T t → T (eqb x.name m.name)) → (first (λ o. eqb o.name m.name) m xs).name ≡ m.name
        → (when t then x else first (λ o. eqb o.name m.name) m xs).name ≡ m.name
    go true f e = eqb→eq x.name m.name (f tt)
    go false f e = e

replaced_names : (own up : List Method) → names_of (map (λ m. first (λ o. eqb o.name m.name) m own) up) ≡ names_of up
replaced_names own [] = refl
replaced_names own (m ∷ up) = ap (λ (n : ℕ). n ∷ names_of (map (λ m. first (λ o. eqb o.name m.name) m own) up)) (replaced_name m own) ∙ ap (λ (ns : List ℕ). m.name ∷ ns) (replaced_names own up)

named_among : (n : ℕ) (up : List Method) → any (λ m. eqb m.name n) up ≡ n ∈? names_of up
named_among n [] = refl
named_among n (m ∷ up) = ap (λ (t : Bool). t || any (λ m. eqb m.name n) up) (eqb_same m.name n) ∙ ap (λ (t : Bool). eqb n m.name || t) (named_among n up)

new_names_lem : (up own : List Method) → names_of (filter (λ o. not (any (λ m. eqb m.name o.name) up)) own) ≡ filter (λ n. not (n ∈? names_of up)) (names_of own)
new_names_lem up [] = refl
new_names_lem up (x ∷ own) = go (any (λ m. eqb m.name x.name) up) (x.name ∈? names_of up) (named_among x.name up) (new_names_lem up own)
  where
    rest : List Method
    rest = filter (λ o. not (any (λ m. eqb m.name o.name) up)) own

    go : (t u : Bool) → t ≡ u → names_of rest ≡ filter (λ n. not (n ∈? names_of up)) (names_of own)
        → names_of (when not t then x ∷ rest else rest) ≡ (when not u then x.name ∷ filter (λ n. not (n ∈? names_of up)) (names_of own) else filter (λ n. not (n ∈? names_of up)) (names_of own))
    go t u e i = ap (λ (v : Bool). names_of (when not v then x ∷ rest else rest)) e ∙ by u
      where
        by : (v : Bool)
            → names_of (when not v then x ∷ rest else rest)
            ≡ (when not v then x.name ∷ filter (λ n. not (n ∈? names_of up)) (names_of own)
            else filter (λ n. not (n ∈? names_of up)) (names_of own))
        by true = i
        by false = ap (λ (ns : List ℕ). x.name ∷ ns) i

-- names merge as fields do
merged_names : (up own : List Method) → names_of (merge_methods up own) ≡ merge_fields (names_of up) (names_of own)
merged_names up own =
    map_append (λ m. m.name) (map (λ m. first (λ o. eqb o.name m.name) m own) up) (filter (λ o. not (any (λ m. eqb m.name o.name) up)) own)
    ∙ ap (λ (ns : List ℕ). ns ++ names_of (filter (λ o. not (any (λ m. eqb m.name o.name) up)) own)) (replaced_names own up)
    ∙ ap (λ (ns : List ℕ). names_of up ++ ns) (new_names_lem up own)

pub merged_nodup : {up own : List ℕ} → Nodup up → Nodup own → Nodup (merge_fields up own)
merged_nodup {up} {own} p q =
    nodup_append p (nodup_filter (λ n. not (n ∈? up)) q) (λ x m k. T_not (x ∈? up) (filter_mem (λ n. not (n ∈? up)) x own k).1 (mem_test x up m))

unlike_nodup : (xs : List ℕ) → T (unlike eqb xs) → Nodup xs
unlike_nodup [] h = nodup_none
unlike_nodup (x ∷ xs) h =
    nodup_one (λ m. T_not (any (eqb x) xs) (and_left (not (any (eqb x) xs)) (unlike eqb xs) h) (mem_test x xs m)) (unlike_nodup xs (and_right (not (any (eqb x) xs)) (unlike eqb xs) h))

-- a method is found by its name
found_name : (ms : List Method) → Nodup (names_of ms) → (m : Method) → Mem m ms → method_of m.name ms ≡ m
found_name [] _ m x3 = elim x3 [ ]
found_name (x ∷ ms) (nodup_one h n) m (here e) = if_true (eqb x.name m.name) x _ (eqb_of x.name m.name (ap (λ (y : Method). y.name) (sym e))) ∙ sym e
found_name (x ∷ ms) (nodup_one h n) m (there q) = go (decide (eqb x.name m.name)) (found_name ms n m q)
  where
    go : T (eqb x.name m.name) ⊎ T (not (eqb x.name m.name)) → method_of m.name ms ≡ m → method_of m.name (x ∷ ms) ≡ m
    go (inl t) i = absurd (h (Memᴰ.cast (eqb→eq x.name m.name t) (mem_map (λ m. m.name) m ms q)))
    go (inr t) i = if_false (eqb x.name m.name) x _ t ∙ i

map_self : {A : Type 0} (f : A → A) (xs : List A) → ((x : A) → Mem x xs → f x ≡ x) → map f xs ≡ xs
map_self f [] h = refl
map_self {A} f (x ∷ xs) h = ap (λ (y : A). y ∷ map f xs) (h x (here refl)) ∙ ap (λ (l : List A). x ∷ l) (map_self f xs (λ y m. h y (there m)))

-- a list of methods is read off its names
abbrev pub method_by : List Method → ℕ → Method
method_by ms n = record { name = n; fun = (method_of n ms).fun; params = (method_of n ms).params }

pub by_names : (ms : List Method) → Nodup (names_of ms) → ms ≡ map (method_by ms) (names_of ms)
by_names ms n =
    sym (map_map (method_by ms) (λ m. m.name) ms
    ∙ map_self (λ m. method_by ms m.name) ms (λ m q. ap (λ (x : Method). record { name = m.name; fun = x.fun; params = x.params }) (found_name ms n m q)))

pub method_names_lem : (O : Outside) (s : Sheet) (o : Store) (n c : ℕ) → names_of (methods_in O s o n c) ≡ method_names_in O s o n c
unfolding methods_in method_names_in
method_names_lem O s o zero c = refl
method_names_lem O s o (suc n) c = go (eqb (parent_in s o c) 0) (method_names_lem O s o n (parent_in s o c))
  where
    own : List Method
    own = own_methods O s c

    go : (t : Bool) → names_of (methods_in O s o n (parent_in s o c)) ≡ method_names_in O s o n (parent_in s o c)
        → names_of (when t then own else merge_methods (methods_in O s o n (parent_in s o c)) own)
        ≡ (when t then names_of own else merge_fields (method_names_in O s o n (parent_in s o c)) (names_of own))
    go true e = refl
    go false e = merged_names (methods_in O s o n (parent_in s o c)) own ∙ ap (λ (ns : List ℕ). merge_fields ns (names_of own)) e

module _ {O : Outside} {s : Sheet} (ok : PastFour O s) where
  own_nodup : (c : ℕ) → Nodup (names_of (own_methods O s c))
  own_nodup c = go (of_sheet s c) (λ t. t)
    where
      listed : T (of_sheet s c) → Nodup (names_of (map (method_at s) (kids_of s 6 (c - 256))))
      listed t =
          let u : T (is s 4 (c - 256)) = and_right (leb 256 c) (is s 4 (c - 256)) t in
          subst Nodup (sym (map_map (λ m. m.name) (method_at s) (kids_of s 6 (c - 256))))
          (unlike_nodup (map (a s) (kids_of s 6 (c - 256))) (class_names ok.names s (past_facts ok) (c - 256) (row_of_kind ok 3 (c - 256) u) u).1)

      go : (t : Bool) → (T t → T (of_sheet s c)) → Nodup (names_of (when t then map (method_at s) (kids_of s 6 (c - 256)) else (record_of O c).methods))
      go true f = listed (f tt)
      go false f = unlike_nodup (names_of (record_of O c).methods) (recorded O (λ x. unlike eqb (names_of x.methods)) tt ok.outside.methods_apart c)

  names_nodup : (o : Store) (n c : ℕ) → Nodup (method_names_in O s o n c)
  unfolding method_names_in
  names_nodup o zero c = nodup_none
  names_nodup o (suc n) c = go (eqb (parent_in s o c) 0) (names_nodup o n (parent_in s o c))
    where
      go : (t : Bool) → Nodup (method_names_in O s o n (parent_in s o c))
          → Nodup (when t then names_of (own_methods O s c)
          else merge_fields (method_names_in O s o n (parent_in s o c)) (names_of (own_methods O s c)))
      go true p = own_nodup c
      go false p = merged_nodup p (own_nodup c)

  -- the methods of a class, read off their names
  pub methods_by_name : (o : Store) (n c : ℕ) → methods_in O s o n c ≡ map (method_by (methods_in O s o n c)) (method_names_in O s o n c)
  methods_by_name o n c =
      by_names (methods_in O s o n c) (subst Nodup (sym (method_names_lem O s o n c)) (names_nodup o n c))
      ∙ ap (map (method_by (methods_in O s o n c))) (method_names_lem O s o n c)
