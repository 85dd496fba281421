-- What follows from the first row of a name in a child list: a listed field, a method, an export; and class rows.
use mathlib.Core.Path.{◌≡◌, refl, sym, ap, ◌∙◌}
use Rattle.std.proofs.Common.{Option, None, Some, cond, subst}
use mathlib.Core.Bool.{Bool, true, false}
use mathlib.Core.List.{List, [], ◌∷◌, ◌++◌, map}
use Prim.Native.Nat.{ℕ, zero, suc, ◌+◌, ◌-◌, ◌≤◌}
use native.Mathlib.Omega.{arith}
use lib.Dec.{eqb, leb}
use borrow.Author.Tests.{eq-eqb, ne_eqb, eqb-true, eqb-false, leb-true}
use Rattle.definition.specs.Basics.{when◌then◌else◌, filter, first, head}
use Rattle.definition.specs.Sheet.{Sheet, kind, next, child, a, b, rows, is, kids_of}
use Rattle.definition.specs.Meaning.{Meaning, Named, named, nothing, function, class, global}
use Rattle.definition.specs.Outside.{Method}
use Rattle.definition.specs.Classes.{of_sheet, method_at, method_of, arity, no_method}
use Rattle.definition.specs.Walk.{exports, seen}
use Rattle.definition.proofs.Lists.Tests.{and_left, T_true, true_of}
use Rattle.std.specs.List.{find}
use Rattle.std.specs.Option.{MatchOption}
use Rattle.sheet.specs.Exports.{export_of}
use Rattle.std.specs.Option.{unwrap_or}
use Rattle.sheet.proofs.ListLaws.{chain_of, first_named}

-- g of the first row of a list, or d
abbrev pick {ℓ} : {A : Type ℓ} → A → (ℕ → A) → List ℕ → A
pick d g [] = d
pick d g (k ∷ ks) = g k

-- the rows of a list whose name is m
abbrev all_named : Sheet → ℕ → List ℕ → List ℕ
all_named s m ks = filter (λ k. eqb (a s k) m) ks

-- Rows of kind j of one name: none, or the first is of the kind, and not row 0.
data Searched (s : Sheet) (j : ℕ) : List ℕ → Type 0 where
  none : Searched s j []
  some : (k : ℕ) (ks : List ℕ) → (k ≡ 0 → ⊥) → kind s k ≡ j → Searched s j (k ∷ ks)

module _ (s : Sheet) (j m : ℕ) where
  searched : (n k : ℕ) → Searched s j (all_named s m (chain_of s j n k))
  searched zero k = none
  searched (suc n) zero = none
  searched (suc n) (suc k) = by_kind (is s j (suc k)) (chain_of s j n (next s (suc k))) refl (searched n (next s (suc k)))
    where
      by_name : (u : Bool) (ks : List ℕ) → kind s (suc k) ≡ j → Searched s j ks → Searched s j (when u then suc k ∷ ks else ks)
      by_name true ks e h = some (suc k) ks (λ z. omega arith) e
      by_name false ks e h = h

      by_kind : (t : Bool) (ks : List ℕ) → is s j (suc k) ≡ t → Searched s j (all_named s m ks) → Searched s j (all_named s m (when t then suc k ∷ ks else ks))
      by_kind true ks e h = by_name (eqb (a s (suc k)) m) (all_named s m ks) (eqb-true (kind s (suc k)) j e) h
      by_kind false ks e h = h

  -- in the children of row r
  search : (r : ℕ) → Searched s j (all_named s m (kids_of s j r))
  search r = searched (rows s) (child s r)

module _ {ℓ} {A : Type ℓ} (s : Sheet) (j : ℕ) (d : A) (g : ℕ → A) where
  pick_none : (ks : List ℕ) → Searched s j ks → head ks ≡ 0 → pick d g ks ≡ d
  pick_none _ none e = refl
  pick_none _ (some k ks f h) e = absurd (f e)

  pick_some : (ks : List ℕ) → Searched s j ks → (head ks ≡ 0 → ⊥) → pick d g ks ≡ g (head ks)
  pick_some _ none f = absurd (f refl)
  pick_some _ (some k ks h e) f = refl

found_kind : (s : Sheet) (j : ℕ) (ks : List ℕ) → Searched s j ks → (head ks ≡ 0 → ⊥) → kind s (head ks) ≡ j
found_kind s j _ none f = absurd (f refl)
found_kind s j _ (some k ks h e) f = e

-- The first element of a name in a list made from rows, by the first of those rows.
module _ {ℓ} {A : Type ℓ} (s : Sheet) (m : ℕ) (q : A → Bool) (g : ℕ → A) (names : (k : ℕ) → q (g k) ≡ eqb (a s k) m) (d : A) where
  first_pick : (ks : List ℕ) → first q d (map g ks) ≡ pick d g (all_named s m ks)
  first_pick [] = refl
  first_pick (k ∷ ks) = rw (names k) (go (eqb (a s k) m) (first_pick ks))
    where
      go : (t : Bool) → first q d (map g ks) ≡ pick d g (all_named s m ks) → (when t then g k else first q d (map g ks)) ≡ pick d g (when t then k ∷ all_named s m ks else all_named s m ks)
      go true e = refl
      go false e = e

first_append {ℓ} : {A : Type ℓ} (q : A → Bool) (d : A) (xs ys : List A) → first q d (xs ++ ys) ≡ first q (first q d ys) xs
first_append q d [] ys = refl
first_append q d (x ∷ xs) ys = rw (first_append q d xs ys)

-- What `find` finds in the children of row r: a row that is not 0, and the first of the name; or none, and then there is none.

abbrev first_row : List ℕ → Option ℕ
first_row [] = None
first_row (k ∷ ks) = Some k

found_first : (p : ℕ → Bool) (ks : List ℕ) → find p ks ≡ first_row (filter p ks)
found_first p [] = refl
found_first p (k ∷ ks) = go (p k) (found_first p ks)
  where
    go : (t : Bool) → find p ks ≡ first_row (filter p ks) → cond t (Some k) (find p ks) ≡ first_row (when t then k ∷ filter p ks else filter p ks)
    go true e = refl
    go false e = e

-- the row that is found of a kind and a name among the children of row r
abbrev pub found_in : Sheet → ℕ → ℕ → ℕ → Option ℕ
found_in s j m r = find (λ k. eqb (a s k) m) (kids_of s j r)

module _ (s : Sheet) (j m r : ℕ) where
  pub found_row : (x : ℕ) → Some x ≡ found_in s j m r → (x ≡ first_named s m (kids_of s j r)) × (x ≡ 0 → ⊥)
  found_row x e = go (all_named s m (kids_of s j r)) (search s j m r) (e ∙ found_first (λ k. eqb (a s k) m) (kids_of s j r))
    where
      go : (ks : List ℕ) → Searched s j ks → Some x ≡ first_row ks → (x ≡ head ks) × (x ≡ 0 → ⊥)
      go _ none h = absurd (cc)
      go _ (some k ks f q) h = let i : x ≡ k = cc in (i, λ z. f (sym i ∙ z))

  pub found_none_row : None ≡ found_in s j m r → 0 ≡ first_named s m (kids_of s j r)
  found_none_row e = go (all_named s m (kids_of s j r)) (e ∙ found_first (λ k. eqb (a s k) m) (kids_of s j r))
    where
      go : (ks : List ℕ) → None ≡ first_row ks → 0 ≡ head ks
      go [] h = refl
      go (k ∷ ks) h = absurd (cc)

-- Class rows.

-- the number of a class of a sheet is past those of other classes
pub row_number : (s : Sheet) (c : ℕ) → of_sheet s c ≡ true → 256 ≤ c
row_number s c h = leb-true 256 c (true_of (leb 256 c) (and_left (leb 256 c) (is s 4 (c - 256)) (T_true (of_sheet s c) h)))

-- Methods: x is the first row of name m among those of row r.

module _ (s : Sheet) (m r x : ℕ) (e : x ≡ first_named s m (kids_of s 6 r)) where
  by_row : method_of m (map (method_at s) (kids_of s 6 r)) ≡ pick no_method (method_at s) (all_named s m (kids_of s 6 r))
  by_row = first_pick s m (λ y. eqb y.name m) (method_at s) (λ k. refl) no_method (kids_of s 6 r)

  pub method_function : x ≡ (method_of m (map (method_at s) (kids_of s 6 r))).fun
  method_function = e ∙ go (all_named s m (kids_of s 6 r)) ∙ sym (ap (λ (y : Method). y.fun) by_row)
    where
      go : (ks : List ℕ) → head ks ≡ (pick no_method (method_at s) ks).fun
      go [] = refl
      go (k ∷ ks) = refl

  pub method_params : (when eqb x 0 then 0 else arity s x) ≡ (method_of m (map (method_at s) (kids_of s 6 r))).params
  method_params =
      ap (λ (k : ℕ). when eqb k 0 then 0 else arity s k) e ∙ go (all_named s m (kids_of s 6 r)) (search s 6 m r) ∙ sym (ap (λ (y : Method). y.params) by_row)
    where
      go : (ks : List ℕ) → Searched s 6 ks → (when eqb (head ks) 0 then 0 else arity s (head ks)) ≡ (pick no_method (method_at s) ks).params
      go _ none = refl
      go _ (some k ks f h) = ap (λ (t : Bool). when t then 0 else arity s k) (ne_eqb k 0 f)

-- Exports.

module _ (m : ℕ) where
  abbrev is_sought : Named → Bool
  is_sought y = eqb y.name m

  -- what name m means in a list
  abbrev sought : List Named → Meaning
  sought ds = (first is_sought (named 0 nothing) ds).means

-- a unit sees nothing of itself, and the exports of another
pub seen_own : (s : Sheet) (u i m w : ℕ) → w ≡ a s i → w ≡ u → nothing ≡ sought m (seen s u i)
seen_own s u i m w e h = sym (ap (λ (t : Bool). sought m (when t then [] else exports s (a s i))) (eq-eqb (a s i) u (sym e ∙ h)))

pub seen_other : (s : Sheet) (u i m w : ℕ) → w ≡ a s i → (w ≡ u → ⊥) → sought m (exports s w) ≡ sought m (seen s u i)
seen_other s u i m w e f =
    ap (λ (k : ℕ). sought m (exports s k)) e
    ∙ sym (ap (λ (t : Bool). sought m (when t then [] else exports s (a s i))) (ne_eqb (a s i) u (λ h. f (e ∙ h))))

-- an export row by its kind
module _ (s : Sheet) (x : ℕ) (f : x ≡ 0 → ⊥) where
  is_function_lem : kind s x ≡ 7 → export_of s x ≡ function (b s x)
  is_function_lem e = rw (ne_eqb x 0 f, eq-eqb (kind s x) 7 e)

  is_class_lem : kind s x ≡ 4 → export_of s x ≡ class (256 + x)
  is_class_lem e = rw (ne_eqb x 0 f, ne_eqb (kind s x) 7 (λ h. omega arith), eq-eqb (kind s x) 4 e)

  is_constant : kind s x ≡ 8 → export_of s x ≡ global (b s x) 0
  is_constant e = rw (ne_eqb x 0 f, ne_eqb (kind s x) 7 (λ h. omega arith), ne_eqb (kind s x) 4 (λ h. omega arith), eq-eqb (kind s x) 8 e)

-- the exports of unit w of kind j, with what g says they mean; x is the first that is named m, or 0
module _ (s : Sheet) (m w j : ℕ) (g : ℕ → Meaning) (d : Named) (x : ℕ) (e : x ≡ first_named s m (kids_of s j w)) where
  abbrev export : ℕ → Named
  export r = named (a s r) (g r)

  these : first (is_sought m) d (map export (kids_of s j w)) ≡ pick d export (all_named s m (kids_of s j w))
  these = first_pick s m (is_sought m) export (λ k. refl) d (kids_of s j w)

  found_none : x ≡ 0 → first (is_sought m) d (map export (kids_of s j w)) ≡ d
  found_none z = these ∙ pick_none s j d export (all_named s m (kids_of s j w)) (search s j m w) (sym e ∙ z)

  found_one : (x ≡ 0 → ⊥) → (first (is_sought m) d (map export (kids_of s j w))).means ≡ g x
  found_one f = ap (λ (y : Named). y.means) (these ∙ pick_some s j d export (all_named s m (kids_of s j w)) (search s j m w) (λ z. f (e ∙ z))) ∙ ap g (sym e)

  found_of : (x ≡ 0 → ⊥) → kind s x ≡ j
  found_of f = ap (kind s) e ∙ found_kind s j (all_named s m (kids_of s j w)) (search s j m w) (λ z. f (e ∙ z))

module _ (s : Sheet) (m w : ℕ) where
  abbrev as_function : ℕ → Meaning
  as_function r = function (b s r)

  abbrev as_class : ℕ → Meaning
  as_class r = class (256 + r)

  abbrev as_constant : ℕ → Meaning
  as_constant r = global (b s r) 0

  abbrev list_of : ℕ → (ℕ → Meaning) → List Named
  list_of j g = map (λ r. named (a s r) (g r)) (kids_of s j w)

  -- what is sought among the constants, and before them among the classes
  abbrev third : Named
  third = first (is_sought m) (named 0 nothing) (list_of 8 as_constant)

  abbrev second : Named
  second = first (is_sought m) third (list_of 4 as_class)

  by_lists : first (is_sought m) (named 0 nothing) (exports s w) ≡ first (is_sought m) second (list_of 7 as_function)
  by_lists =
      first_append (is_sought m) (named 0 nothing) (list_of 7 as_function ++ list_of 4 as_class) (list_of 8 as_constant)
      ∙ first_append (is_sought m) third (list_of 7 as_function) (list_of 4 as_class)

  module _ (x : ℕ) (e : x ≡ first_named s m (kids_of s 7 w)) where
    pub export_function : (x ≡ 0 → ⊥) → export_of s x ≡ sought m (exports s w)
    export_function f =
        is_function_lem s x f (found_of s m w 7 as_function second x e f)
        ∙ sym (ap (λ (y : Named). y.means) by_lists ∙ found_one s m w 7 as_function second x e f)

    module _ (z : x ≡ 0) (y : ℕ) (h : y ≡ first_named s m (kids_of s 4 w)) where
      no_function : first (is_sought m) (named 0 nothing) (exports s w) ≡ second
      no_function = by_lists ∙ found_none s m w 7 as_function second x e z

      pub export_class : (y ≡ 0 → ⊥) → export_of s y ≡ sought m (exports s w)
      export_class f =
          is_class_lem s y f (found_of s m w 4 as_class third y h f)
          ∙ sym (ap (λ (d : Named). d.means) no_function ∙ found_one s m w 4 as_class third y h f)

      pub export_constant : y ≡ 0 → (k : ℕ) → k ≡ first_named s m (kids_of s 8 w) → export_of s k ≡ sought m (exports s w)
      export_constant v k l = go (eqb k 0) refl ∙ sym (ap (λ (d : Named). d.means) (no_function ∙ found_none s m w 4 as_class third y h v))
        where
          go : (t : Bool) → eqb k 0 ≡ t → export_of s k ≡ third.means
          go true p = rw p (sym (ap (λ (d : Named). d.means) (found_none s m w 8 as_constant (named 0 nothing) k l (eqb-true k 0 p))))
          go false p =
              is_constant s k (eqb-false k 0 p) (found_of s m w 8 as_constant (named 0 nothing) k l (eqb-false k 0 p))
              ∙ sym (found_one s m w 8 as_constant (named 0 nothing) k l (eqb-false k 0 p))

  -- the export of the three kinds that is found first
  pub export_found : (o p q : Option ℕ) → o ≡ found_in s 7 m w → MatchOption o (p ≡ found_in s 4 m w) (λ x. p ≡ Some x) → MatchOption p (q ≡ found_in s 8 m w) (λ x. q ≡ Some x)
      → export_of s (unwrap_or q 0) ≡ sought m (exports s w)
  export_found (Some x) p q e h g =
      let f = found_row s 7 m w x e in
      let i : q ≡ Some x = subst (λ o. MatchOption o (q ≡ found_in s 8 m w) (λ y. q ≡ Some y)) h g in
      ap (λ o. export_of s (unwrap_or o 0)) i ∙ export_function x f.0 f.1
  export_found None (Some y) q e h g =
      let f = found_row s 4 m w y h in
      ap (λ o. export_of s (unwrap_or o 0)) g ∙ export_class 0 (found_none_row s 7 m w e) refl y f.0 f.1
  export_found None None q e h g =
      ap (λ o. export_of s (unwrap_or o 0)) g
      ∙ export_constant 0 (found_none_row s 7 m w e) refl 0 (found_none_row s 4 m w h) refl (unwrap_or (found_in s 8 m w) 0) (go (found_in s 8 m w) refl)
    where
      go : (o : Option ℕ) → o ≡ found_in s 8 m w → unwrap_or o 0 ≡ first_named s m (kids_of s 8 w)
      go None i = found_none_row s 8 m w i
      go (Some k) i = (found_row s 8 m w k i).0
