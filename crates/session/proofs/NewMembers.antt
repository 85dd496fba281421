-- The fields and methods of an entry's classes are good: names, no two alike, and functions of entries up to it.
use mathlib.Core.Path.{◌≡◌, refl, sym, ap, ◌∙◌, subst}
use mathlib.Core.Logic.{◌⊎◌, inl, inr}
use mathlib.Core.Bool.{Bool, true, false, not, ◌&&◌, ◌||◌}
use mathlib.Core.List.Memᴰ.{head as here}
use mathlib.Core.List.Memᴰ.{tail as there}
use mathlib.Core.List.{List, [], ◌∷◌, ◌++◌, map, Memᴰ as Mem}
use Prim.Native.Nat.{ℕ, zero, suc, ◌+◌, ◌-◌, ◌*◌, ◌/◌, ◌<◌, ◌≤◌}
use native.Mathlib.Omega.{arith}
use lib.ListN.{length, get_or-eq_default}
use lib.Dec.{eqb, leb, ltb, T, T_not, eqb→eq}
use borrow.Author.Tests.{ne_eqb, le-leb, lt-ltb, ltb-true, ltb-false, eqb-true}
use Rattle.definition.specs.Basics.{when◌then◌else◌, all, any, unlike, filter, distinct, first, ◌∈?◌}
use Rattle.definition.specs.Sheet.{Sheet, kind, next, child, a, rows, chain, kids, is, kids_of}
use Rattle.definition.specs.Outside.{Outside, Method, ClassRecord, record_of}
use Rattle.definition.specs.Scope.{Moment, visited, visits, within}
use Rattle.definition.specs.Classes.{of_sheet, arity, method_at, own_methods, merge_fields, merge_methods, inheriting, registered, parent_of, own_fields, fields, methods, class_of}
use Rattle.definition.specs.Format.{of_class, parent, tables}
use Rattle.definition.specs.Answer.{raised_function}
use Rattle.definition.proofs.Lists.Tests.{and_both, and_left, and_right, T_true, T-imp, or_cases}
use Rattle.definition.proofs.Lists.Members.{filter_mem, map_mem, mem_test, map_append}
use Rattle.definition.proofs.Format.Facts.{SheetFacts, link_facts}
use Rattle.definition.proofs.Format.Links.{Rises, LinkFacts, parent_is, holder_of, kid_bounds}
use Rattle.definition.proofs.Format.Tree.{column_a, class_names}
use Rattle.definition.proofs.Classes.{recorded}
use Rattle.session.proofs.NameLaws.{eqb_turned}
use Rattle.session.proofs.OutsideLaws.{all_append, all_filter, apart_filter, filter_shorter}
use Rattle.session.proofs.Follows.{is_name, is_function}
use Rattle.session.proofs.NewNames.{apart_joined, filter_all}

-- a list of numbers without repeats
none_kept : (p : ℕ → Bool) (xs : List ℕ) → T (not (any p (filter (λ y. not (p y)) xs)))
none_kept p [] = tt
none_kept p (x ∷ xs) = go (p x) refl (none_kept p xs)
  where
    go : (t : Bool) → p x ≡ t → T (not (any p (filter (λ y. not (p y)) xs)))
        → T (not (any p (when not t then x ∷ filter (λ y. not (p y)) xs else filter (λ y. not (p y)) xs)))
    go true q h = h
    go false q h = subst (λ (t : Bool). T (not (t || any p (filter (λ y. not (p y)) xs)))) (sym q) h

distinct_unlike : (xs : List ℕ) → T (unlike eqb (distinct eqb xs))
distinct_unlike [] = tt
distinct_unlike (x ∷ xs) =
    and_both (not (any (eqb x) (filter (λ y. not (eqb x y)) (distinct eqb xs)))) (unlike eqb (filter (λ y. not (eqb x y)) (distinct eqb xs)))
    (none_kept (eqb x) (distinct eqb xs)) (apart_filter eqb (λ y. not (eqb x y)) (distinct eqb xs) (distinct_unlike xs))

distinct_all : (p : ℕ → Bool) (xs : List ℕ) → T (all p xs) → T (all p (distinct eqb xs))
distinct_all p [] h = tt
distinct_all p (x ∷ xs) h =
    and_both (p x) (all p (filter (λ y. not (eqb x y)) (distinct eqb xs))) (and_left (p x) (all p xs) h)
    (all_filter p (λ y. not (eqb x y)) (distinct eqb xs) (distinct_all p xs (and_right (p x) (all p xs) h)))

-- a test of all, by members
pub all_by : {A : Type 0} (p : A → Bool) (xs : List A) → ((x : A) → Mem x xs → T (p x)) → T (all p xs)
all_by p [] h = tt
all_by p (x ∷ xs) h = and_both (p x) (all p xs) (h x (here refl)) (all_by p xs (λ y m. h y (there m)))

-- names that are unlike
abbrev pub GoodNames : ℕ → List ℕ → Type 0
GoodNames N l = T (all (is_name N) l) × T (unlike eqb l)

merged_names : (N : ℕ) (up own : List ℕ) → GoodNames N up → GoodNames N own → GoodNames N (merge_fields up own)
merged_names N up own g h = (
  all_append (is_name N) up (filter (λ n. not (n ∈? up)) own) g.0 (all_filter (is_name N) (λ n. not (n ∈? up)) own h.0),
  apart_joined eqb eqb_turned up (filter (λ n. not (n ∈? up)) own) g.1 (apart_filter eqb (λ n. not (n ∈? up)) own h.1) (filter_all (λ n. not (n ∈? up)) own),
)

-- a method: a name, a function of an entry up to E once raised by n, at most 2,047 parameters
abbrev pub good_method : (E N n : ℕ) → Method → Bool
good_method E N n m = is_name N m.name && is_function E (raised_function n m.fun) && leb m.params 2047

abbrev pub names_of : List Method → List ℕ
names_of ms = map (λ m. m.name) ms

abbrev pub GoodMethods : (E N n : ℕ) → List Method → Type 0
GoodMethods E N n ms = T (all (good_method E N n) ms) × T (unlike eqb (names_of ms))

-- merged methods: the parent's names, then the other ones
first_name : (m : Method) (own : List Method) → (first (λ o. eqb o.name m.name) m own).name ≡ m.name
first_name m [] = refl
first_name m (o ∷ own) = go (eqb o.name m.name) refl (first_name m own)
  where
    go : (t : Bool) → eqb o.name m.name ≡ t → (first (λ o. eqb o.name m.name) m own).name ≡ m.name → (when t then o else first (λ o. eqb o.name m.name) m own).name ≡ m.name
    go true q e = eqb-true o.name m.name q
    go false q e = e

first_good : (p q : Method → Bool) (m : Method) (own : List Method) → T (p m) → T (all p own) → T (p (first q m own))
first_good p q m [] h k = h
first_good p q m (o ∷ own) h k = go (q o) (first_good p q m own h (and_right (p o) (all p own) k))
  where
    go : (t : Bool) → T (p (first q m own)) → T (p (when t then o else first q m own))
    go true e = and_left (p o) (all p own) k
    go false e = e

replaced_names : (up own : List Method) → names_of (map (λ m. first (λ o. eqb o.name m.name) m own) up) ≡ names_of up
replaced_names [] own = refl
replaced_names (m ∷ up) own = ap (λ (x : ℕ). x ∷ names_of (map (λ m. first (λ o. eqb o.name m.name) m own) up)) (first_name m own)
    ∙ ap (λ (l : List ℕ). m.name ∷ l) (replaced_names up own)

replaced_good : (p : Method → Bool) (up own : List Method) → T (all p up) → T (all p own) → T (all p (map (λ m. first (λ o. eqb o.name m.name) m own) up))
replaced_good p [] own h k = tt
replaced_good p (m ∷ up) own h k =
    and_both (p (first (λ o. eqb o.name m.name) m own)) (all p (map (λ m. first (λ o. eqb o.name m.name) m own) up))
    (first_good p (λ o. eqb o.name m.name) m own (and_left (p m) (all p up) h) k) (replaced_good p up own (and_right (p m) (all p up) h) k)

has_name : (x : ℕ) (up : List Method) → any (λ m. eqb m.name x) up ≡ (x ∈? names_of up)
has_name x [] = refl
has_name x (m ∷ up) = ap (λ (t : Bool). t || any (λ m. eqb m.name x) up) (eqb_turned m.name x) ∙ ap (λ (t : Bool). eqb x m.name || t) (has_name x up)

other_names : (up own : List Method) → names_of (filter (λ o. not (any (λ m. eqb m.name o.name) up)) own) ≡ filter (λ x. not (x ∈? names_of up)) (names_of own)
other_names up [] = refl
other_names up (o ∷ own) =
    go (any (λ m. eqb m.name o.name) up) (other_names up own)
    ∙ ap (λ (t : Bool). when not t then o.name ∷ filter (λ x. not (x ∈? names_of up)) (names_of own) else filter (λ x. not (x ∈? names_of up)) (names_of own)) (has_name o.name up)
  where
    rest : List Method
    rest = filter (λ o. not (any (λ m. eqb m.name o.name) up)) own

    kept : List ℕ
    kept = filter (λ x. not (x ∈? names_of up)) (names_of own)

    go : (t : Bool) → names_of rest ≡ kept → names_of (when not t then o ∷ rest else rest) ≡ (when not t then o.name ∷ kept else kept)
    go true e = e
    go false e = ap (λ (l : List ℕ). o.name ∷ l) e

merged_methods : (E N n : ℕ) (up own : List Method) → GoodMethods E N n up → GoodMethods E N n own → GoodMethods E N n (merge_methods up own)
merged_methods E N n up own g h = (
  all_append (good_method E N n) (map (λ m. first (λ o. eqb o.name m.name) m own) up) rest (replaced_good (good_method E N n) up own g.0 h.0)
      (all_filter (good_method E N n) (λ o. not (any (λ m. eqb m.name o.name) up)) own h.0),
  subst (λ (l : List ℕ). T (unlike eqb l)) (sym names_are)
      (apart_joined eqb eqb_turned (names_of up) (filter (λ x. not (x ∈? names_of up)) (names_of own)) g.1
      (apart_filter eqb (λ x. not (x ∈? names_of up)) (names_of own) h.1) (filter_all (λ x. not (x ∈? names_of up)) (names_of own))),
)
  where
    rest : List Method
    rest = filter (λ o. not (any (λ m. eqb m.name o.name) up)) own

    names_are : names_of (merge_methods up own) ≡ names_of up ++ filter (λ x. not (x ∈? names_of up)) (names_of own)
    names_are =
        map_append (λ m. m.name) (map (λ m. first (λ o. eqb o.name m.name) m own) up) rest
        ∙ ap (λ (l : List ℕ). l ++ names_of rest) (replaced_names up own) ∙ ap (λ (l : List ℕ). names_of up ++ l) (other_names up own)

-- A good record.
abbrev pub good_record : (E N n : ℕ) → ClassRecord → Bool
good_record E N n x = all (is_name N) x.fields && unlike eqb x.fields && all (good_method E N n) x.methods && unlike eqb (names_of x.methods)

-- what is inherited is good if what is own is
module _ {A : Type 0} (P : List A → Type 0) (none : P []) (merge : List A → List A → List A) (join : (up own : List A) → P up → P own → P (merge up own)) where
  inherits : (parent : ℕ → ℕ) (own : ℕ → List A) → ((c : ℕ) → P (own c)) → (n c : ℕ) → P (inheriting merge parent own n c)
  inherits parent own h zero c = none
  inherits parent own h (suc n) c = go (eqb (parent c) 0) (inherits parent own h n (parent c))
    where
      go : (t : Bool) → P (inheriting merge parent own n (parent c)) → P (when t then own c else merge (inheriting merge parent own n (parent c)) (own c))
      go true k = h c
      go false k = join (inheriting merge parent own n (parent c)) (own c) k (h c)

-- a chain of rising links is no longer than the rows from its first on
chain_short : (s : Sheet) → LinkFacts s → (n r : ℕ) → r < rows s → length (chain n s r) + r ≤ rows s
chain_short s lf zero r l = omega arith
chain_short s lf (suc n) zero l = omega arith
chain_short s lf (suc n) (suc r) l = go (next s (suc r)) refl (lf.nexts (suc r) l) (chain_short s lf n (next s (suc r)))
  where
    empty : (n : ℕ) → length (chain n s 0) ≡ 0
    empty zero = refl
    empty (suc n) = refl

    go : (k : ℕ) → next s (suc r) ≡ k → Rises s (suc r) (next s (suc r)) → (next s (suc r) < rows s → length (chain n s (next s (suc r))) + next s (suc r) ≤ rows s)
        → length (chain (suc n) s (suc r)) + suc r ≤ rows s
    go k q (inl e) f = omega (arith, ap (λ (j : ℕ). length (chain n s j)) e, empty n)
    go k q (inr h) f = omega (arith, f h.1, h.0)

module _ (E N : ℕ) (O : Outside) (s : Sheet) (facts : SheetFacts (24 + N) s) (whole : length s ≡ 8 * rows s) (few : rows s ≤ 2048) (base : O.base ≡ 2048 * E) where
  lf : LinkFacts s
  lf = link_facts (24 + N) s facts

  -- past the rows there is no kind
  pub in_range : (k r : ℕ) → T (is s (suc k) r) → r < rows s
  in_range k r h = go (ltb r (rows s)) refl
    where
      go : (t : Bool) → ltb r (rows s) ≡ t → r < rows s
      go true q = ltb-true r (rows s) q
      go false q =
          let l : rows s ≤ r = ltb-false r (rows s) q in
          absurd (omega (arith, eqb→eq (kind s r) (suc k) h, get_or-eq_default s 0 {n = 8 * r + 0} (omega (arith, whole))))

  -- a function of the sheet has its row's number in the entry
  pub raised_row_lem : (r : ℕ) → 0 < r → r < rows s → raised_function O.base r ≡ r + 2048 * E
  raised_row_lem r z l = ap (λ (t : Bool). when t then r + O.base else r - 2048) (lt-ltb r 2048 (omega arith)) ∙ ap (λ (k : ℕ). r + k) base

  pub own_function : (r : ℕ) → 0 < r → r < rows s → T (is_function E (r + 2048 * E))
  own_function r z l =
      let q : (r + 2048 * E) / 2048 ≡ E = omega arith in
      and_both (leb ((r + 2048 * E) / 2048) E) (not (eqb (r + 2048 * E) (2048 * ((r + 2048 * E) / 2048))))
      (T_true (leb ((r + 2048 * E) / 2048) E) (le-leb ((r + 2048 * E) / 2048) E (omega arith)))
      (T_true (not (eqb (r + 2048 * E) (2048 * ((r + 2048 * E) / 2048)))) (ap not (ne_eqb (r + 2048 * E) (2048 * ((r + 2048 * E) / 2048)) (λ e. omega arith))))

  -- the names of rows
  pub class_name_lem : (r : ℕ) → T (is s 4 r) → T (is_name N (a s r))
  class_name_lem r h = column_a (24 + N) s facts 4 r h (in_range 3 r h)

  field_name : (r : ℕ) → T (is s 10 r) → T (is_name N (a s r))
  field_name r h = column_a (24 + N) s facts 10 r h (in_range 9 r h)

  member_name_lem : (r : ℕ) → T (is s 54 r) → T (is_name N (a s r))
  member_name_lem r h = column_a (24 + N) s facts 54 r h (in_range 53 r h)

  pub let_name : (r : ℕ) → T (is s 29 r) → T (is_name N (a s r))
  let_name r h = column_a (24 + N) s facts 29 r h (in_range 28 r h)

  module _ (records : T (all (good_record E N O.base) O.records)) (h : List Moment) where
    record_good : (c : ℕ) → T (good_record E N O.base (record_of O c))
    record_good c = recorded O (good_record E N O.base) tt records c

    own_fields_lem : (c : ℕ) → GoodNames N (own_fields O s h c)
    own_fields_lem c = go (of_sheet s c)
      where
        r : ℕ
        r = c - 256

        all_names_lem : T (all (is_name N) (map (a s) (kids_of s 10 r) ++ registered s h r))
        all_names_lem = all_append (is_name N) (map (a s) (kids_of s 10 r)) (registered s h r)
            (all_by (is_name N) (map (a s) (kids_of s 10 r)) (λ x m.
            let q = map_mem (a s) x (kids_of s 10 r) m in
            subst (λ (y : ℕ). T (is_name N y)) (sym q.2) (field_name q.0 (filter_mem (is s 10) q.0 (kids s r) q.1).1)))
            (all_by (is_name N) (registered s h r) (λ x m.
            let q = map_mem (λ (m : Moment). a s (child s (visited m.event))) x (filter (λ m. is s 54 (child s (visited m.event)) && eqb (class_of s (within s m)) r) (visits s h 21)) m in
            let f = filter_mem (λ (m : Moment). is s 54 (child s (visited m.event)) && eqb (class_of s (within s m)) r) q.0 (visits s h 21) q.1 in
            subst (λ (y : ℕ). T (is_name N y)) (sym q.2)
            (member_name_lem (child s (visited q.0.event)) (and_left (is s 54 (child s (visited q.0.event))) (eqb (class_of s (within s q.0)) r) f.1))))

        go : (t : Bool) → GoodNames N (when t then distinct eqb (map (a s) (kids_of s 10 r) ++ registered s h r) else (record_of O c).fields)
        go true = (distinct_all (is_name N) (map (a s) (kids_of s 10 r) ++ registered s h r) all_names_lem, distinct_unlike (map (a s) (kids_of s 10 r) ++ registered s h r))
        go false =
            let x : ClassRecord = record_of O c in
            let b₀ : Bool = all (is_name N) x.fields in
            let b₁ : Bool = unlike eqb x.fields in
            let b₂ : Bool = all (good_method E N O.base) x.methods in
            let k : T (b₀ && b₁) = and_left (b₀ && b₁) b₂ (and_left (b₀ && b₁ && b₂) (unlike eqb (names_of x.methods)) (record_good c)) in
            (and_left b₀ b₁ k, and_right b₀ b₁ k)

    pub fields_good : (n c : ℕ) → GoodNames N (fields O s h n c)
    fields_good = inherits (GoodNames N) (tt, tt) merge_fields (merged_names N) (parent_of s h) (own_fields O s h) own_fields_lem

    own_method : (c f : ℕ) → T (is s 4 c) → Mem f (kids s c) → T (is s 6 f) → T (good_method E N O.base (method_at s f))
    own_method c f hc m hf =
        and_both (is_name N (a s f) && is_function E (raised_function O.base f)) (leb (arity s f) 2047)
        (and_both (is_name N (a s f)) (is_function E (raised_function O.base f)) named
        (subst (λ (k : ℕ). T (is_function E k)) (sym (raised_row_lem f (omega (arith, at.0)) at.1)) (own_function f (omega (arith, at.0)) at.1)))
        (T_true (leb (arity s f) 2047) (le-leb (arity s f) 2047 (omega (arith, filter_shorter (is s 11) (kids s f), short (lf.children f at.1)))))
      where
        there : T (f ∈? kids s c)
        there = mem_test f (kids s c) m

        at : (c < f) × (f < rows s)
        at = kid_bounds s lf c f (in_range 3 c hc) there

        of_class_lem : T (of_class s (tables s) f)
        of_class_lem =
            and_both (is s 6 f) (is s 4 (parent (tables s) f)) hf
            (subst (λ (p : ℕ). T (is s 4 p)) (sym (parent_is s lf f at.1 ∙ holder_of s lf f c (in_range 3 c hc) there)) hc)

        not_zero : T (not (eqb (a s f) 0))
        not_zero = T-imp (of_class s (tables s) f) (not (eqb (a s f) 0)) (facts.row f at.1).named of_class_lem

        named : T (is_name N (a s f))
        named = go (or_cases (eqb (a s f) 0) (is_name N (a s f)) (column_a (24 + N) s facts 6 f hf at.1))
          where
            go : T (eqb (a s f) 0) ⊎ T (is_name N (a s f)) → T (is_name N (a s f))
            go (inl e) = absurd (T_not (eqb (a s f) 0) not_zero e)
            go (inr e) = e

        none : (n : ℕ) → length (chain n s 0) ≡ 0
        none zero = refl
        none (suc n) = refl

        short : Rises s f (child s f) → length (kids s f) ≤ 2047
        short (inl e) = omega (arith, ap (λ (k : ℕ). length (chain (rows s) s k)) e, none (rows s))
        short (inr l) = omega (arith, chain_short s lf (rows s) (child s f) l.1, l.0, at.0, few)

    own_methods_lem : (c : ℕ) → GoodMethods E N O.base (own_methods O s c)
    own_methods_lem c = go (of_sheet s c) refl
      where
        r : ℕ
        r = c - 256

        same_names : (ks : List ℕ) → names_of (map (method_at s) ks) ≡ map (a s) ks
        same_names [] = refl
        same_names (k ∷ ks) = ap (λ (l : List ℕ). a s k ∷ l) (same_names ks)

        go : (t : Bool) → of_sheet s c ≡ t → GoodMethods E N O.base (when t then map (method_at s) (kids_of s 6 r) else (record_of O c).methods)
        go true q =
            let hc : T (is s 4 r) = and_right (leb 256 c) (is s 4 r) (T_true (of_sheet s c) q) in (
              all_by (good_method E N O.base) (map (method_at s) (kids_of s 6 r)) (λ x m.
                  let k = map_mem (method_at s) x (kids_of s 6 r) m in
                  let f = filter_mem (is s 6) k.0 (kids s r) k.1 in
                  subst (λ (y : Method). T (good_method E N O.base y)) (sym k.2) (own_method r k.0 hc f.0 f.1)),
              subst (λ (l : List ℕ). T (unlike eqb l)) (sym (same_names (kids_of s 6 r))) (class_names (24 + N) s facts r (in_range 3 r hc) hc).1,
            )
        go false q =
            let x : ClassRecord = record_of O c in
            let b₀ : Bool = all (is_name N) x.fields && unlike eqb x.fields in
            let b₁ : Bool = all (good_method E N O.base) x.methods in
            let b₂ : Bool = unlike eqb (names_of x.methods) in
            (and_right b₀ b₁ (and_left (b₀ && b₁) b₂ (record_good c)), and_right (b₀ && b₁) b₂ (record_good c))

    pub methods_good : (n c : ℕ) → GoodMethods E N O.base (methods O s h n c)
    methods_good = inherits (GoodMethods E N O.base) (tt, tt) merge_methods (merged_methods E N O.base) (parent_of s h) (own_methods O s) own_methods_lem
