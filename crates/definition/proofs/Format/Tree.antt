-- The tree of a sheet that fits: kinds of rows and their children, units and their functions, class declarations.
use mathlib.Core.Path.{◌≡◌, refl, sym, ap, ◌∙◌, subst}
use mathlib.Core.Logic.{◌⊎◌, inl, inr}
use mathlib.Core.List.{List, [], ◌∷◌, ◌++◌, map, append_assoc}
use mathlib.Core.Bool.{Bool, true, false, not, ◌&&◌, ◌||◌}
use Prim.Native.Nat.{ℕ, zero, suc, ◌<◌}
use native.Mathlib.Omega.{arith}
use lib.Dec.{eqb, leb, ltb, T, T_not, eqb→eq, ltb→lt}
use Rattle.definition.specs.Basics.{when◌then◌else◌, ◌⇒◌, filter, all, count, from, bit, ◌∈?◌}
use Rattle.definition.specs.Sheet.{Sheet, kind, a, b, rows, kids, is, kids_of, holder}
use Rattle.definition.specs.Shape.{Part, one, many, only, holds, fits, shape_of}
use Rattle.definition.specs.Format.{tables, at, parent_table, function_entry, parent, names_apart, function, class, of_unit}
use Rattle.definition.proofs.Lists.Tests.{T_and, and_both, or_cases, T-imp, T_true, eqb_of, ℕ-trichotomy}
use Rattle.definition.proofs.Lists.Counts.{in_head, in_tail, in_cases, once_some, once_only}
use Rattle.definition.proofs.Format.Shapes.{every_edge, edge, fits_named, no_children, one_child, many_children}
use Rattle.definition.proofs.Format.Tables.{table_at}
use Rattle.definition.proofs.Format.Links.{held, header_held, parent_is, function_step, class_step}
use Rattle.definition.proofs.Format.Facts.{SheetFacts, header_kind, link_facts}

kind_in : (f : ℕ → ℕ) (r : ℕ) (xs : List ℕ) → T (r ∈? xs) → T (f r ∈? map f xs)
kind_in f r [] h = absurd h
kind_in f r (x ∷ xs) h = go (kind_in f r xs) (in_cases r x xs h)
  where
    go : (T (r ∈? xs) → T (f r ∈? map f xs)) → (r ≡ x) ⊎ T (r ∈? xs) → T (f r ∈? (f x ∷ map f xs))
    go g (inl e) = in_head (f r) (f x) (map f xs) (ap f e)
    go g (inr y) = in_tail (f r) (f x) (map f xs) (g y)

module _ (n : ℕ) (s : Sheet) (ok : SheetFacts n s) where
  -- The shape of a row of kind k.
  pub children_of : (k r : ℕ) → T (is s k r) → r < rows s → T (fits (shape_of k).children (map (kind s) (kids s r)))
  children_of k r h l = subst (λ (j : ℕ). T (fits (shape_of j).children (map (kind s) (kids s r)))) (eqb→eq (kind s r) k h) (ok.row r l).children

  pub column_a : (k r : ℕ) → T (is s k r) → r < rows s → T (holds s n (shape_of k).a (a s r))
  column_a k r h l =
      subst (λ (j : ℕ). T (holds s n (shape_of j).a (a s r))) (eqb→eq (kind s r) k h)
      (T_and (holds s n (shape_of (kind s r)).a (a s r)) (holds s n (shape_of (kind s r)).b (b s r)) (ok.row r l).columns).0

  -- What every kind with every kind of child passes, a row with a child of it passes, and a holder with its row.
  pub kid_edge : (test : ℕ → ℕ → Bool) → T (every_edge test) → (p r : ℕ) → p < rows s → T (r ∈? kids s p) → T (test (kind s p) (kind s r))
  kid_edge test h p r l m =
      edge test h (kind s p) (kind s r) (fits_named (kind s r) (shape_of (kind s p)).children (map (kind s) (kids s p)) (ok.row p l).children (kind_in (kind s) r (kids s p) m))

  pub holder_edge : (test : ℕ → ℕ → Bool) → T (every_edge test) → (r : ℕ) → 0 < r → r < rows s → T (test (kind s (holder s r)) (kind s r))
  holder_edge test h r z l =
      let p = held s (link_facts n s ok) r z l in
      kid_edge test h (holder s r) r (omega (arith, p.1)) p.0

  -- kind 0 is the header's alone
  pub header_only : (r : ℕ) → r < rows s → kind s r ≡ 0 → r ≡ 0
  header_only r l e = go (ℕ-trichotomy 0 r)
    where
      go : (0 < r) ⊎ ((0 ≡ r) ⊎ (r < 0)) → r ≡ 0
      go (inl z) = absurd (T_not (eqb (kind s r) 0) (holder_edge (λ p k. not (eqb k 0)) tt r z l) (eqb_of _ 0 e))
      go (inr (inl w)) = sym w
      go (inr (inr w)) = absurd (omega arith)

  -- a row of a kind other than 0 is not the header
  pub not_header : (k r : ℕ) → T (is s (suc k) r) → 0 < r
  not_header k r h = go (ℕ-trichotomy 0 r)
    where
      go : (0 < r) ⊎ ((0 ≡ r) ⊎ (r < 0)) → 0 < r
      go (inl z) = z
      go (inr (inl w)) = absurd (omega (arith, eqb→eq (kind s r) (suc k) h, header_kind n s ok, ap (kind s) w))
      go (inr (inr w)) = absurd (omega arith)

  -- the unit of a class, the header of a unit
  pub class_holder : (c : ℕ) → c < rows s → T (is s 4 c) → T (is s 2 (holder s c))
  class_holder c l h = T-imp (is s 4 c) (is s 2 (holder s c)) (holder_edge (λ p k. eqb k 4 ⇒ eqb p 2) tt c (not_header 3 c h) l) h

  pub unit_holder : (u : ℕ) → u < rows s → T (is s 2 u) → holder s u ≡ 0
  unit_holder u l h =
      let z = not_header 1 u h in
      let q = held s (link_facts n s ok) u z l in
      header_only (holder s u) (omega (arith, q.1))
      (eqb→eq _ 0 (T-imp (is s 2 u) (is s 0 (holder s u)) (holder_edge (λ p k. eqb k 2 ⇒ eqb p 0) tt u z l) h))

-- row r is row p or lies in it
pub data Inside (s : Sheet) (p : ℕ) : ℕ → Type 0 where
  self : Inside s p p
  up : {r : ℕ} → 0 < r → Inside s p (holder s r) → Inside s p r

-- f is the innermost function that row r lies in
pub data Innermost (s : Sheet) (f : ℕ) : ℕ → Type 0 where
  here : {r : ℕ} → T (is s 6 (holder s r)) → holder s r ≡ f → Innermost s f r
  further : {r : ℕ} → T (not (is s 6 (holder s r))) → 0 < holder s r → Innermost s f (holder s r) → Innermost s f r

-- a row has one kind
one_kind : (s : Sheet) (j k r : ℕ) → T (is s j r) → T (is s k r) → j ≡ k
one_kind s j k r x y = sym (eqb→eq (kind s r) j x) ∙ eqb→eq (kind s r) k y

all_append : (p : ℕ → Bool) (xs ys : List ℕ) → T (all p xs) → T (all p ys) → T (all p (xs ++ ys))
all_append p [] ys x y = y
all_append p (a ∷ xs) ys x y = go (p a) (T_and (p a) (all p xs) x).0 (all_append p xs ys (T_and (p a) (all p xs) x).1 y)
  where
    go : (t : Bool) → T t → T (all p (xs ++ ys)) → T (t && all p (xs ++ ys))
    go true x y = y
    go false x y = absurd x

all_wider : (p q : ℕ → Bool) (xs : List ℕ) → ((x : ℕ) → T (p x) → T (q x)) → T (all p xs) → T (all q xs)
all_wider p q [] f h = tt
all_wider p q (x ∷ xs) f h = go (q x) (f x (T_and (p x) (all p xs) h).0) (all_wider p q xs f (T_and (p x) (all p xs) h).1)
  where
    go : (t : Bool) → T t → T (all q xs) → T (t && all q xs)
    go true x y = y
    go false x y = absurd x

-- Lists of rows that end in a function.
module _ (s : Sheet) (wide : List ℕ) where
  abbrev pub Ends : List ℕ → Type 0
  Ends rs = (xs : List ℕ) × (f : ℕ) × (rs ≡ xs ++ f ∷ []) × T (is s 6 f) × T (all (λ r. kind s r ∈? wide) xs)

  pub only_kind : (r k : ℕ) → T (kind s r ∈? only k) → T (is s k r)
  only_kind r k h = go (in_cases (kind s r) k [] h)
    where
      go : (kind s r ≡ k) ⊎ T (kind s r ∈? []) → T (is s k r)
      go (inl e) = eqb_of (kind s r) k e
      go (inr x) = absurd x

  pub end_one : (rs : List ℕ) → T (fits (one (only 6) ∷ []) (map (kind s) rs)) → Ends rs
  end_one rs h =
      let o = one_child (kind s) (only 6) [] rs h in
      ([], o.0, o.2 ∙ ap (λ (zs : List ℕ). o.0 ∷ zs) (no_children (kind s) o.1 o.4), only_kind o.0 6 o.3, tt)

  pub end_many : (k : ℕ) (ps : List Part) → T (k ∈? wide) → ((zs : List ℕ) → T (fits ps (map (kind s) zs)) → Ends zs)
      → (rs : List ℕ) → T (fits (many (only k) ∷ ps) (map (kind s) rs)) → Ends rs
  end_many k ps w f rs h =
      let m = many_children (kind s) (only k) ps rs h in
      let e = f m.1 m.4 in (
        m.0 ++ e.0,
        e.1,
        m.2 ∙ ap (λ (zs : List ℕ). m.0 ++ zs) e.2 ∙ sym (append_assoc m.0 e.0 (e.1 ∷ [])),
        e.3,
        all_append (λ r. kind s r ∈? wide) m.0 e.0
            (all_wider (λ r. kind s r ∈? only k) (λ r. kind s r ∈? wide) m.0 (λ r h. subst (λ (j : ℕ). T (j ∈? wide)) (sym (eqb→eq (kind s r) k (only_kind r k h))) w) m.3) e.4,
      )

module _ (n : ℕ) (s : Sheet) (ok : SheetFacts n s) where
  -- b 1 stands at a unit's function
  pub marked : (f : ℕ) → f < rows s → T (is s 6 f) → b s f ≡ bit (is s 2 (holder s f))
  marked f l h =
      eqb→eq (b s f) (bit (of_unit s (tables s) f)) (T-imp (is s 6 f) (eqb (b s f) (bit (of_unit s (tables s) f))) (ok.row f l).marked h)
      ∙ go (is s 6 f) h ∙ ap (λ (p : ℕ). bit (is s 2 p)) (parent_is s (link_facts n s ok) f l)
    where
      go : (t : Bool) → T t → bit (t && is s 2 (parent (tables s) f)) ≡ bit (is s 2 (parent (tables s) f))
      go true x = refl
      go false x = absurd x

  -- a unit's function has a block and nothing else
  pub unit_body_lem : (f : ℕ) → f < rows s → T (is s 6 f) → T (is s 2 (holder s f)) → (k : ℕ) × (kids s f ≡ k ∷ []) × T (is s 25 k)
  unit_body_lem f l h u =
      let test : T (fits (one (only 25) ∷ []) (map (kind s) (kids s f))) =
      T-imp (of_unit s (tables s) f) (fits (one (only 25) ∷ []) (map (kind s) (kids s f))) (ok.row f l).body
      (and_both (is s 6 f) (is s 2 (parent (tables s) f)) h (subst (λ (p : ℕ). T (is s 2 p)) (sym (parent_is s (link_facts n s ok) f l)) u)) in
      let o = one_child (kind s) (only 25) [] (kids s f) test in
      (o.0, o.2 ∙ ap (λ (zs : List ℕ). o.0 ∷ zs) (no_children (kind s) o.1 o.4), only_kind s [] o.0 25 o.3)

  pub unit_parameters : (f : ℕ) → f < rows s → T (is s 6 f) → T (is s 2 (holder s f)) → kids_of s 11 f ≡ []
  unit_parameters f l h u =
      let k = unit_body_lem f l h u in
      ap (filter (is s 11)) k.1 ∙ go k.0 (is s 11 k.0) refl k.2
    where
      go : (r : ℕ) (t : Bool) → is s 11 r ≡ t → T (is s 25 r) → (when t then r ∷ [] else []) ≡ []
      go r true e x = let z : ◌≡◌ {A = ℕ} 11 25 = one_kind s 11 25 r (T_true (is s 11 r) e) x in absurd (omega arith)
      go r false e x = refl

  -- the class of a declaration
  pub declares_class : (d : ℕ) → d < rows s → T (is s 30 d) → (a s d < rows s) × T (is s 4 (a s d))
  declares_class d l h =
      let c = T_and (ltb (a s d) (rows s)) (is s 4 (a s d)) (column_a n s ok 30 d h l) in
      (ltb→lt (a s d) (rows s) c.0, c.1)

  pub function_header : 0 < rows s → function (tables s) 0 ≡ 0
  function_header l =
      table_at (function_entry s (parent_table s)) (rows s) 0 l
      ∙ ap (λ (p : ℕ). when is s 6 p then p else at [] p) (parent_is s (link_facts n s ok) 0 l ∙ header_held s (link_facts n s ok))
      ∙ ap (λ (k : ℕ). when eqb k 6 then 0 else 0) (header_kind n s ok)

  -- the function of the table is the innermost, or there is none
  abbrev Found : ℕ → ℕ → Type 0
  Found r f = (f ≡ 0) ⊎ (Innermost s f r × T (is s 6 f) × (f < r))

  function_found : (m r : ℕ) → r < m → 0 < r → r < rows s → Found r (function (tables s) r)
  function_found zero r h z l = absurd (omega arith)
  function_found (suc m) r h z l =
      let q = held s (link_facts n s ok) r z l in
      subst (Found r) (sym (function_step s (link_facts n s ok) r z l))
      (go (λ y. function_found m (holder s r) (omega (arith, q.1)) y (omega (arith, q.1))) (is s 6 (holder s r)) refl (ℕ-trichotomy 0 (holder s r)))
    where
      below : holder s r < r
      below = (held s (link_facts n s ok) r z l).1

      wider : 0 < holder s r → T (not (is s 6 (holder s r))) → Found (holder s r) (function (tables s) (holder s r)) → Found r (function (tables s) (holder s r))
      wider y e (inl w) = inl w
      wider y e (inr w) = inr (further e y w.0, w.1, omega (arith, w.2, below))

      go : (0 < holder s r → Found (holder s r) (function (tables s) (holder s r)))
          → (t : Bool) → is s 6 (holder s r) ≡ t → (0 < holder s r) ⊎ ((0 ≡ holder s r) ⊎ (holder s r < 0))
          → Found r (when t then holder s r else function (tables s) (holder s r))
      go f true e c = inr (here (T_true _ e) refl, T_true _ e, below)
      go f false e (inl y) = wider y (T_true _ (ap not e)) (f y)
      go f false e (inr (inl w)) = inl (ap (function (tables s)) (sym w) ∙ function_header (omega arith))
      go f false e (inr (inr w)) = absurd (omega arith)

  -- A class declaration stands in the function of its class's unit,
  pub declared_in : (d : ℕ) → d < rows s → T (is s 30 d)
      → (f : ℕ) × Innermost s f d × (f < d) × T (is s 6 f) × (holder s f ≡ holder s (a s d)) × T (is s 2 (holder s f)) × (b s f ≡ 1)
      × (f ≡ function (tables s) d)
  declared_in d l h =
      let z = not_header n s ok 29 d h in
      let c = declares_class d l h in
      go (function (tables s) d) (function_found (suc d) d (omega arith) z l)
      (eqb→eq _ _ (T-imp (is s 30 d) (eqb (parent (tables s) (function (tables s) d)) (parent (tables s) (a s d))) (ok.row d l).in_unit h) ∙ parent_is s (link_facts n s ok) (a s d) c.0)
      (class_holder n s ok (a s d) c.0 c.1) refl
    where
      go : (f : ℕ) → Found d f → parent (tables s) f ≡ holder s (a s d) → T (is s 2 (holder s (a s d))) → f ≡ function (tables s) d
          → (f : ℕ) × Innermost s f d × (f < d) × T (is s 6 f) × (holder s f ≡ holder s (a s d)) × T (is s 2 (holder s f)) × (b s f ≡ 1) × (f ≡ function (tables s) d)
      go f (inl w) e u y =
          let g : holder s (a s d) ≡ 0 = sym e ∙ ap (parent (tables s)) w ∙ parent_is s (link_facts n s ok) 0 (omega arith) ∙ header_held s (link_facts n s ok) in
          absurd (omega (arith, eqb→eq (kind s (holder s (a s d))) 2 u, ap (kind s) g, header_kind n s ok))
      go f (inr w) e u y =
          let lf : f < rows s = omega (arith, w.2) in
          let g : holder s f ≡ holder s (a s d) = sym (parent_is s (link_facts n s ok) f lf) ∙ e in
          let v : T (is s 2 (holder s f)) = subst (λ (p : ℕ). T (is s 2 p)) (sym g) u in
          (f, w.0, w.2, w.1, g, v, marked f lf w.1 ∙ bit_of_lem (is s 2 (holder s f)) v, y)
        where
          bit_of_lem : (t : Bool) → T t → bit t ≡ 1
          bit_of_lem true x = refl
          bit_of_lem false x = absurd x

  -- statements and expressions other than literals lie in such or in a function
  abbrev Plain : ℕ → Type 0
  Plain r = T (leb 20 (kind s r)) × T (not (is s 52 r))

  inner_plain : (x : ℕ) {f r : ℕ} → Innermost s f r → 0 < r → r < rows s → Plain r → Inside s x r → Plain x ⊎ Inside s x f
  inner_plain x {f} {r} i z l p self = inl p
  inner_plain x {f} {r} (here h e) z l p (up y j) = inr (subst (Inside s x) e j)
  inner_plain x {f} {r} (further h w i) z l p (up y j) =
      let k : ℕ = kind s (holder s r) in
      let q = holder_edge n s ok (λ p k. leb 20 k ⇒ eqb p 6 || (leb 20 p && not (eqb p 52))) tt r z l in
      inner_plain x i w (omega (arith, (held s (link_facts n s ok) r z l).1))
      (go (or_cases (eqb k 6) (leb 20 k && not (eqb k 52)) (T-imp (leb 20 (kind s r)) (eqb k 6 || (leb 20 k && not (eqb k 52))) q p.0))) j
    where
      go : T (is s 6 (holder s r)) ⊎ T (leb 20 (kind s (holder s r)) && not (is s 52 (holder s r))) → Plain (holder s r)
      go (inl v) = absurd (T_not (is s 6 (holder s r)) h v)
      go (inr v) = T_and (leb 20 (kind s (holder s r))) (not (is s 52 (holder s r))) v

  -- what a unit's function lies in
  inside_header : {r : ℕ} (x : ℕ) → r ≡ 0 → Inside s x r → x ≡ 0
  inside_header x e self = e
  inside_header x e (up z i) = absurd (omega arith)

  inside_unit : {u : ℕ} (x : ℕ) → u < rows s → T (is s 2 u) → Inside s x u → (x ≡ u) ⊎ (x ≡ 0)
  inside_unit x l h self = inl refl
  inside_unit {u} x l h (up z i) = inr (inside_header x (unit_holder n s ok u l h) i)

  inside_function : {f : ℕ} (x : ℕ) → f < rows s → T (is s 2 (holder s f)) → Inside s x f → (x ≡ f) ⊎ ((x ≡ holder s f) ⊎ (x ≡ 0))
  inside_function x l h self = inl refl
  inside_function {f} x l h (up z i) = inr (inside_unit x (omega (arith, (held s (link_facts n s ok) f z l).1)) h i)

  not_kind : (j k r : ℕ) → kind s r ≡ j → T (not (eqb j k)) → T (not (is s k r))
  not_kind j k r e h = subst (λ (i : ℕ). T (not (eqb i k))) (sym e) h

  -- no class, no unit and no header lies in a function
  no_header_in : {r : ℕ} (f : ℕ) → T (is s 6 f) → Inside s f r → r ≡ 0 → ⊥
  no_header_in f h self e = omega (arith, eqb→eq (kind s f) 6 h, ap (kind s) e, header_kind n s ok)
  no_header_in f h (up z i) e = omega arith

  no_unit_in : {r : ℕ} (f : ℕ) → T (is s 6 f) → Inside s f r → r < rows s → T (is s 2 r) → ⊥
  no_unit_in f h self l u = let z : ◌≡◌ {A = ℕ} 6 2 = one_kind s 6 2 f h u in omega arith
  no_unit_in {r} f h (up z i) l u = no_header_in f h i (unit_holder n s ok r l u)

  no_class_in : {r : ℕ} (f : ℕ) → T (is s 6 f) → Inside s f r → r < rows s → T (is s 4 r) → ⊥
  no_class_in f h self l u = let z : ◌≡◌ {A = ℕ} 6 4 = one_kind s 6 4 f h u in omega arith
  no_class_in {r} f h (up z i) l u = no_unit_in f h i (omega (arith, (held s (link_facts n s ok) r z l).1)) (class_holder n s ok r l u)

  -- the table of classes at the rows of a method
  class_inside : (f : ℕ) {r : ℕ} → f < rows s → T (is s 6 f) → T (is s 4 (holder s f)) → r < rows s → Inside s f r → class (tables s) r ≡ holder s f
  class_inside f l h c lr self = class_step s (link_facts n s ok) f (not_header n s ok 5 f h) l ∙ go (is s 6 f) (is s 4 (holder s f)) h c
    where
      go : (t u : Bool) → T t → T u → (when t && u then holder s f else class (tables s) (holder s f)) ≡ holder s f
      go true true x y = refl
      go true false x y = absurd y
      go false u x y = absurd x
  class_inside f {r} l h c lr (up z i) =
      let b : holder s r < rows s = omega (arith, (held s (link_facts n s ok) r z lr).1) in
      class_step s (link_facts n s ok) r z lr ∙ go (is s 6 r) (is s 4 (holder s r)) (no_class_in f h i b) (class_inside f l h c b i)
    where
      go : (t u : Bool) → (T u → ⊥) → class (tables s) (holder s r) ≡ holder s f → (when t && u then holder s r else class (tables s) (holder s r)) ≡ holder s f
      go true true x e = absurd (x tt)
      go true false x e = e
      go false u x e = e

  -- every class has one declaration
  once_declared : (c : ℕ) → c < rows s → T (is s 4 c) → count (λ d. is s 30 d && eqb (a s d) c) (from 0 (rows s)) ≡ 1
  once_declared c l h =
      eqb→eq (count (λ d. is s 30 d && eqb (a s d) c) (from 0 (rows s))) 1
      (T-imp (is s 4 c) (eqb (count (λ d. is s 30 d && eqb (a s d) c) (from 0 (rows s))) 1) (ok.row c l).declared h)

  pub class_declared : (c : ℕ) → c < rows s → T (is s 4 c) → (d : ℕ) × (d < rows s) × T (is s 30 d) × (a s d ≡ c)
  class_declared c l h =
      let d = once_some (λ d. is s 30 d && eqb (a s d) c) (rows s) (once_declared c l h) in
      let q = T_and (is s 30 d.0) (eqb (a s d.0) c) d.2 in
      (d.0, d.1, q.0, eqb→eq (a s d.0) c q.1)

  pub declared_once_lem : (d e : ℕ) → d < rows s → e < rows s → T (is s 30 d) → T (is s 30 e) → a s d ≡ a s e → d ≡ e
  declared_once_lem d e ld le hd he w =
      let c = declares_class d ld hd in
      once_only (λ x. is s 30 x && eqb (a s x) (a s d)) (rows s) (once_declared (a s d) c.0 c.1) d e ld le
      (and_both (is s 30 d) _ hd (eqb_of (a s d) (a s d) refl)) (and_both (is s 30 e) _ he (eqb_of (a s e) (a s d) (sym w)))

  pub class_names : (c : ℕ) → c < rows s → T (is s 4 c) → T (names_apart s 10 c) × T (names_apart s 6 c)
  class_names c l h = T_and (names_apart s 10 c) (names_apart s 6 c) (T-imp (is s 4 c) (names_apart s 10 c && names_apart s 6 c) (ok.row c l).class_apart_lem h)
