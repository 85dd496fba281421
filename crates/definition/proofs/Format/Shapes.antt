-- What the fitting of children says: which kinds a row can have as children, and how a child list splits.
use mathlib.Core.Path.{◌≡◌, refl, ap}
use mathlib.Core.Logic.{◌⊎◌, inl, inr}
use mathlib.Core.List.{List, [], ◌∷◌, ◌++◌, map}
use mathlib.Core.Bool.{Bool, true, false, ◌&&◌, ◌||◌}
use Prim.Native.Nat.{ℕ}
use lib.Dec.{eqb, T, eqb→eq}
use Rattle.definition.specs.Basics.{when◌then◌else◌, any, all, first, ◌∈?◌}
use Rattle.definition.specs.Shape.{Part, one, perhaps, many, never, rest, fits, Shape, shape, nought, shapes, shape_of}
use Rattle.definition.proofs.Lists.Tests.{T_and, or_cases, T_true, or_left, or_right}
use Rattle.definition.proofs.Lists.Counts.{in_cases}

-- the kinds that a part names
abbrev pub part_kinds : Part → List ℕ
part_kinds (one ks) = ks
part_kinds (perhaps ks) = ks
part_kinds (many ks) = ks

-- is kind k named in a list of parts?
abbrev pub in_parts : ℕ → List Part → Bool
in_parts k ps = any (λ p. k ∈? part_kinds p) ps

-- does a test hold of each kind with each kind that it may have as a child?
abbrev pub every_edge : (ℕ → ℕ → Bool) → Bool
every_edge test = all (λ x. all (λ p. all (test x.of) (part_kinds p)) x.children) shapes

fits_never : (ks : List ℕ) → T (fits never ks) → ⊥
fits_never [] h = h
fits_never (k ∷ ks) h = fits_never ks h

-- what is left after a child was there before
module _ (j k : ℕ) where
  left : (t : Bool) (xs ys ps : List Part) → (T (in_parts j xs) → T (in_parts j ps)) → (T (in_parts j ys) → T (in_parts j ps))
      → T (in_parts j (when t then xs else ys)) → T (in_parts j ps)
  left true xs ys ps f g h = f h
  left false xs ys ps f g h = g h

  rest_in : (ps : List Part) → T (in_parts j (rest k ps)) → T (in_parts j ps)
  rest_in [] h = h
  rest_in (one ks ∷ ps) h = left (k ∈? ks) ps never (one ks ∷ ps) (or_right (j ∈? ks) (in_parts j ps)) (λ x. absurd x) h
  rest_in (perhaps ks ∷ ps) h =
      left (k ∈? ks) ps (rest k ps) (perhaps ks ∷ ps) (or_right (j ∈? ks) (in_parts j ps)) (λ x. or_right (j ∈? ks) (in_parts j ps) (rest_in ps x)) h
  rest_in (many ks ∷ ps) h =
      left (k ∈? ks) (many ks ∷ ps) (rest k ps) (many ks ∷ ps) (λ x. x) (λ x. or_right (j ∈? ks) (in_parts j ps) (rest_in ps x)) h

-- a child that fits is named
named_if : (k : ℕ) (ks js : List ℕ) (xs ys : List Part) (tail : T (fits ys js) → T (in_parts k xs))
    → (zs : List Part) → (t : Bool) → k ∈? ks ≡ t → T (fits (when t then zs else ys) js) → T (k ∈? ks || in_parts k xs)
named_if k ks js xs ys tail zs true e h = or_left (k ∈? ks) (in_parts k xs) (T_true _ e)
named_if k ks js xs ys tail zs false e h = or_right (k ∈? ks) (in_parts k xs) (tail h)

named_first : (k : ℕ) (ps : List Part) (js : List ℕ) → T (fits (rest k ps) js) → T (in_parts k ps)
named_first k [] js h = fits_never js h
named_first k (one ks ∷ ps) js h = named_if k ks js ps never (λ x. absurd (fits_never js x)) ps (k ∈? ks) refl h
named_first k (perhaps ks ∷ ps) js h = named_if k ks js ps (rest k ps) (named_first k ps js) ps (k ∈? ks) refl h
named_first k (many ks ∷ ps) js h = named_if k ks js ps (rest k ps) (named_first k ps js) (many ks ∷ ps) (k ∈? ks) refl h

pub fits_named : (k : ℕ) (ps : List Part) (ks : List ℕ) → T (fits ps ks) → T (k ∈? ks) → T (in_parts k ps)
fits_named k ps [] h m = absurd m
fits_named k ps (x ∷ ks) h m = go (λ y. fits_named k (rest x ps) ks h y) (in_cases k x ks m)
  where
    go : (T (k ∈? ks) → T (in_parts k (rest x ps))) → (k ≡ x) ⊎ T (k ∈? ks) → T (in_parts k ps)
    go f (inl e) = rw e (named_first x ps ks h)
    go f (inr y) = rest_in k x ps (f y)

-- A test that every edge passes, so that of a row and a child.
module _ (test : ℕ → ℕ → Bool) where
  in_all : (p k : ℕ) (ks : List ℕ) → T (all (test p) ks) → T (k ∈? ks) → T (test p k)
  in_all p k [] h m = absurd m
  in_all p k (x ∷ ks) h m = go (in_all p k ks (T_and (test p x) (all (test p) ks) h).1) (in_cases k x ks m)
    where
      go : (T (k ∈? ks) → T (test p k)) → (k ≡ x) ⊎ T (k ∈? ks) → T (test p k)
      go f (inl e) = rw e (T_and (test p x) (all (test p) ks) h).0
      go f (inr y) = f y

  in_parts_lem : (p k : ℕ) (ps : List Part) → T (all (λ q. all (test p) (part_kinds q)) ps) → T (in_parts k ps) → T (test p k)
  in_parts_lem p k [] h m = absurd m
  in_parts_lem p k (q ∷ ps) h m =
      let c = T_and (all (test p) (part_kinds q)) (all (λ q. all (test p) (part_kinds q)) ps) h in
      go (in_parts_lem p k ps c.1) c.0 (or_cases (k ∈? part_kinds q) (in_parts k ps) m)
    where
      go : (T (in_parts k ps) → T (test p k)) → T (all (test p) (part_kinds q)) → T (k ∈? part_kinds q) ⊎ T (in_parts k ps) → T (test p k)
      go f c (inl y) = in_all p k (part_kinds q) c y
      go f c (inr y) = f y

  in_shapes : (p k : ℕ) (d : Shape) (xs : List Shape) → (T (in_parts k d.children) → ⊥)
      → T (all (λ x. all (λ q. all (test x.of) (part_kinds q)) x.children) xs)
      → T (in_parts k (first (λ x. eqb x.of p) d xs).children) → T (test p k)
  in_shapes p k d [] z h m = absurd (z m)
  in_shapes p k d (x ∷ xs) z h m =
      let c = T_and (all (λ q. all (test x.of) (part_kinds q)) x.children) (all (λ x. all (λ q. all (test x.of) (part_kinds q)) x.children) xs) h in
      go (in_shapes p k d xs z c.1) c.0 (eqb x.of p) refl m
    where
      go : (T (in_parts k (first (λ x. eqb x.of p) d xs).children) → T (test p k))
          → T (all (λ q. all (test x.of) (part_kinds q)) x.children)
          → (t : Bool) → eqb x.of p ≡ t → T (in_parts k (when t then x else first (λ x. eqb x.of p) d xs).children) → T (test p k)
      go f c true e m = rw (eqb→eq x.of p (T_true (eqb x.of p) e)) at (in_parts_lem x.of k x.children c m)
      go f c false e m = f m

  pub edge : T (every_edge test) → (p k : ℕ) → T (in_parts k (shape_of p).children) → T (test p k)
  edge h p k m = in_shapes p k (shape p nought nought never) shapes (λ x. x) h m

-- How a list of rows splits, f giving their kinds.
module _ (f : ℕ → ℕ) where
  pub no_children : (rs : List ℕ) → T (fits [] (map f rs)) → rs ≡ []
  no_children [] h = refl
  no_children (r ∷ rs) h = absurd (fits_never (map f rs) h)

  pub one_child : (ks : List ℕ) (ps : List Part) (rs : List ℕ) → T (fits (one ks ∷ ps) (map f rs))
      → (r : ℕ) × (zs : List ℕ) × (rs ≡ r ∷ zs) × T (f r ∈? ks) × T (fits ps (map f zs))
  one_child ks ps [] h = absurd h
  one_child ks ps (r ∷ rs) h = go (f r ∈? ks) refl h
    where
      go : (t : Bool) → f r ∈? ks ≡ t → T (fits (when t then ps else never) (map f rs))
          → (x : ℕ) × (zs : List ℕ) × (r ∷ rs ≡ x ∷ zs) × T (f x ∈? ks) × T (fits ps (map f zs))
      go true e h = (r, rs, refl, T_true _ e, h)
      go false e h = absurd (fits_never (map f rs) h)

  pub many_children : (ks : List ℕ) (ps : List Part) (rs : List ℕ) → T (fits (many ks ∷ ps) (map f rs))
      → (ys : List ℕ) × (zs : List ℕ) × (rs ≡ ys ++ zs) × T (all (λ r. f r ∈? ks) ys) × T (fits ps (map f zs))
  many_children ks ps [] h = ([], [], refl, tt, h)
  many_children ks ps (r ∷ rs) h = go (many_children ks ps rs) (f r ∈? ks) refl h
    where
      Split : List ℕ → Type 0
      Split rs = (ys : List ℕ) × (zs : List ℕ) × (rs ≡ ys ++ zs) × T (all (λ r. f r ∈? ks) ys) × T (fits ps (map f zs))

      both : (x y : Bool) → T x → T y → T (x && y)
      both true y p q = q
      both false y p q = absurd p

      go : (T (fits (many ks ∷ ps) (map f rs)) → Split rs) → (t : Bool) → f r ∈? ks ≡ t
          → T (fits (when t then many ks ∷ ps else rest (f r) ps) (map f rs)) → Split (r ∷ rs)
      go g true e h =
          let q = g h in
          (r ∷ q.0, q.1, ap (λ (xs : List ℕ). r ∷ xs) q.2, both (f r ∈? ks) _ (T_true _ e) q.3, q.4)
      go g false e h = ([], r ∷ rs, refl, tt, h)
