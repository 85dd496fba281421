-- Names of a class: its own, and after inheritance one class at a time.
use mathlib.Core.Path.{◌≡◌, refl, sym, ap, ◌∙◌, fun_ext}
use mathlib.Core.Bool.{Bool, true, false, not, ◌&&◌, ◌||◌}
use mathlib.Core.List.{List, [], ◌∷◌, ◌++◌, map}
use Prim.Native.Nat.{ℕ, zero, suc, ◌+◌, ◌-◌, ◌*◌, ◌<◌, ◌≤◌}
use native.Mathlib.Omega.{arith}
use lib.Dec.{eqb}
use borrow.Author.Tests.{eq-eqb, ne_eqb, eqb-true}
use Rattle.std.specs.List.{list_any}
use Rattle.sheet.proofs.ChildLists.{eqb_flip}
use Rattle.definition.specs.Basics.{when◌then◌else◌, filter, ◌∈?◌}
use Rattle.definition.specs.Sheet.{Sheet, a, kids_of}
use Rattle.definition.specs.Outside.{Outside, Method, record_of}
use Rattle.definition.specs.Classes.{of_sheet, own_methods, method_at, merge_fields, inheriting}
use Rattle.machine.specs.Machine.{Store, Node, cell, list_at, chain_to, has_key}
use Rattle.machine.proofs.Lists.{eqb_same, any_append}
use Rattle.after.specs.Inherited.{parent_in, own_fields_in, fields_in, method_names_in}
use Rattle.class_names.specs.Names.{row_names, own_in, names_in, inherited, new_of}

pub or_false : (t : Bool) → (t || false) ≡ t
or_false true = refl
or_false false = refl

-- whether a name is in a list, asked the other way round
pub listed_any : (m : ℕ) (ns : List ℕ) → list_any (λ n. eqb n m) ns ≡ (m ∈? ns)
listed_any m [] = refl
listed_any m (n ∷ ns) = rw (eqb_flip n m) (ap (λ (t : Bool). eqb m n || t) (listed_any m ns))

and_false : (t : Bool) → (t && false) ≡ false
and_false true = refl
and_false false = refl

-- Own names of a row: listed, or stored.

keys_in : (m : ℕ) (ys : List Node) → (m ∈? map (λ y. y.key) ys) ≡ has_key m ys
keys_in m [] = refl
keys_in m (y ∷ ys) = rw (eqb_same m y.key, keys_in m ys)

module _ (s : Sheet) (o : Store) (j r m : ℕ) where
  row_split : (m ∈? row_names s o j r) ≡ ((m ∈? map (a s) (kids_of s j r)) || (m ∈? (when eqb j 10 then map (λ y. y.key) (list_at o (8 * r + 7)) else [])))
  unfolding row_names
  row_split = any_append (eqb m) (map (a s) (kids_of s j r)) (when eqb j 10 then map (λ y. y.key) (list_at o (8 * r + 7)) else [])

  pub row_listed : true ≡ (m ∈? map (a s) (kids_of s j r)) → true ≡ (m ∈? row_names s o j r)
  row_listed e = sym (row_split ∙ rw (sym e))

  module _ (f : false ≡ (m ∈? map (a s) (kids_of s j r))) where
    pub row_stored : {x : Bool} {p : ℕ} → j ≡ 10 → p ≡ cell o.table r 7 → x ≡ has_key m (chain_to o.nodes p) → x ≡ (m ∈? row_names s o j r)
    unfolding list_at
    row_stored e w h = h ∙ ap (λ (p : ℕ). has_key m (chain_to o.nodes p)) w ∙ sym (row_split ∙ rw (sym f, eq-eqb j 10 e) (keys_in m (list_at o (8 * r + 7))))

    pub row_none : (j ≡ 10 → ⊥) → false ≡ (m ∈? row_names s o j r)
    row_none g = sym (row_split ∙ rw (sym f, ne_eqb j 10 g))

-- Names after inheritance.

in_filter : (p : ℕ → Bool) (m : ℕ) (xs : List ℕ) → (m ∈? filter p xs) ≡ ((m ∈? xs) && p m)
in_filter p m [] = refl
in_filter p m (x ∷ xs) = go (eqb m x) refl (p x) refl (in_filter p m xs)
  where
    go : (u : Bool) → eqb m x ≡ u → (t : Bool) → p x ≡ t → (m ∈? filter p xs) ≡ ((m ∈? xs) && p m)
        → (m ∈? (when t then x ∷ filter p xs else filter p xs)) ≡ ((u || (m ∈? xs)) && p m)
    go true e true h i = rw e (sym (ap p (eqb-true m x e) ∙ h))
    go true e false h i = i ∙ rw (ap p (eqb-true m x e) ∙ h) (and_false (m ∈? xs))
    go false e true h i = rw e i
    go false e false h i = i

filter_all : (xs : List ℕ) → new_of [] xs ≡ xs
filter_all [] = refl
filter_all (x ∷ xs) = ap (λ (l : List ℕ). x ∷ l) (filter_all xs)

-- the inherited names, then the new ones
pub names_split : (O : Outside) (s : Sheet) (o : Store) (j n c : ℕ)
    → names_in O s o j (suc n) c ≡ inherited O s o j n (parent_in s o c) ++ new_of (inherited O s o j n (parent_in s o c)) (own_in O s o j c)
unfolding names_in inherited
names_split O s o j n c = go (eqb (parent_in s o c) 0) (names_in O s o j n (parent_in s o c)) (own_in O s o j c)
  where
    go : (t : Bool) (up own : List ℕ) → (when t then own else up ++ new_of up own) ≡ (when t then [] else up) ++ new_of (when t then [] else up) own
    go true up own = sym (filter_all own)
    go false up own = refl

names_step : (O : Outside) (s : Sheet) (o : Store) (j n c m : ℕ) → (m ∈? names_in O s o j (suc n) c) ≡ ((m ∈? own_in O s o j c) || (m ∈? inherited O s o j n (parent_in s o c)))
names_step O s o j n c m =
    ap (λ (l : List ℕ). m ∈? l) (names_split O s o j n c) ∙ any_append (eqb m) up (new_of up (own_in O s o j c))
    ∙ ap (λ (t : Bool). (m ∈? up) || t) (in_filter (λ x. not (x ∈? up)) m (own_in O s o j c)) ∙ go (m ∈? up) (m ∈? own_in O s o j c)
  where
    up : List ℕ
    up = inherited O s o j n (parent_in s o c)

    go : (u v : Bool) → (u || (v && not u)) ≡ (v || u)
    go true true = refl
    go true false = refl
    go false true = refl
    go false false = refl

pub inherits_none : (O : Outside) (s : Sheet) (o : Store) (j n p m : ℕ) → p ≡ 0 → false ≡ (m ∈? inherited O s o j n p)
unfolding inherited
inherits_none O s o j n p m e = rw (eq-eqb p 0 e)

pub inherits_some : (O : Outside) (s : Sheet) (o : Store) (j n p m : ℕ) {x : Bool} → (p ≡ 0 → ⊥) → x ≡ (m ∈? names_in O s o j n p) → x ≡ (m ∈? inherited O s o j n p)
unfolding inherited
inherits_some O s o j n p m f e = rw (ne_eqb p 0 f) e

pub names_none : (O : Outside) (s : Sheet) (o : Store) (j n c m : ℕ) → n ≤ 0 → false ≡ (m ∈? names_in O s o j n c)
unfolding names_in
names_none O s o j zero c m l = refl
names_none O s o j (suc n) c m l = absurd (omega arith)

-- above class c, with n classes left to climb, stands class p
module _ (O : Outside) (s : Sheet) (o : Store) (j n c m : ℕ) (l : 0 < n) where
  step : (m ∈? names_in O s o j n c) ≡ ((m ∈? own_in O s o j c) || (m ∈? inherited O s o j (n - 1) (parent_in s o c)))
  step = let e : n ≡ suc (n - 1) = omega arith in ap (λ (k : ℕ). m ∈? names_in O s o j k c) e ∙ names_step O s o j (n - 1) c m

  pub names_own : true ≡ (m ∈? own_in O s o j c) → true ≡ (m ∈? names_in O s o j n c)
  names_own e = sym (step ∙ rw (sym e))

  module _ (f : false ≡ (m ∈? own_in O s o j c)) {p : ℕ} (e : p ≡ parent_in s o c) where
    others : (m ∈? inherited O s o j (n - 1) p) ≡ (m ∈? names_in O s o j n c)
    others = sym (step ∙ rw (sym f, sym e))

    pub names_top : p ≡ 0 → false ≡ (m ∈? names_in O s o j n c)
    names_top z = inherits_none O s o j (n - 1) p m z ∙ others

    pub names_up : (p ≡ 0 → ⊥) → (m ∈? names_in O s o j (n - 1) p) ≡ (m ∈? names_in O s o j n c)
    names_up z = inherits_some O s o j (n - 1) p m z refl ∙ others

-- Fields and methods.

own_fields_lem : (O : Outside) (s : Sheet) (o : Store) (c : ℕ) → own_in O s o 10 c ≡ own_fields_in O s o c
unfolding own_in row_names own_fields_in
own_fields_lem O s o c = refl

pub names_fields : (O : Outside) (s : Sheet) (o : Store) (n c : ℕ) → names_in O s o 10 n c ≡ fields_in O s o n c
unfolding names_in fields_in
names_fields O s o n c = ap (λ (own : ℕ → List ℕ). inheriting merge_fields (parent_in s o) own n c) (fun_ext (own_fields_lem O s o))

map_names : (s : Sheet) (ks : List ℕ) → map (a s) ks ++ [] ≡ map (λ (m : Method). m.name) (map (method_at s) ks)
map_names s [] = refl
map_names s (k ∷ ks) = ap (λ (l : List ℕ). a s k ∷ l) (map_names s ks)

own_methods_lem : (O : Outside) (s : Sheet) (o : Store) (c : ℕ) → own_in O s o 6 c ≡ map (λ (m : Method). m.name) (own_methods O s c)
unfolding own_in row_names
own_methods_lem O s o c = go (of_sheet s c)
  where
    go : (t : Bool) → (when t then map (a s) (kids_of s 6 (c - 256)) ++ [] else map (λ m. m.name) (record_of O c).methods)
        ≡ map (λ (m : Method). m.name) (when t then map (method_at s) (kids_of s 6 (c - 256)) else (record_of O c).methods)
    go true = map_names s (kids_of s 6 (c - 256))
    go false = refl

pub names_methods : (O : Outside) (s : Sheet) (o : Store) (n c : ℕ) → names_in O s o 6 n c ≡ method_names_in O s o n c
unfolding names_in method_names_in
names_methods O s o n c = ap (λ (own : ℕ → List ℕ). inheriting merge_fields (parent_in s o) own n c) (fun_ext (own_methods_lem O s o))
