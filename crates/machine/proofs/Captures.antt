-- Captures after one moment more: adding at an identifier, in every function inside the variable's own, gives the definition's captures.
use mathlib.Core.Path.{◌≡◌, refl, ap, ◌∙◌}
use mathlib.Core.List.{List, [], ◌∷◌, ◌++◌, map, append-nil}
use mathlib.Core.Bool.{Bool, true, false, not, ◌&&◌}
use Prim.Native.Nat.{ℕ}
use lib.Dec.{eqb, T}
use Rattle.definition.specs.Basics.{when◌then◌else◌, filter, any, distinct, ◌∈?◌}
use Rattle.definition.specs.Sheet.{Sheet, is, a}
use Rattle.definition.specs.Meaning.{is_variable, row_of, owner_of}
use Rattle.definition.specs.Scope.{Moment, around, visited, visits}
use Rattle.definition.specs.Capture.{Use, use_at, beyond, is_outer, same, uses, captures}
use Rattle.definition.proofs.Lists.Members.{filter_append, map_append}
use Rattle.machine.specs.Machine.{Node, has_key}
use Rattle.machine.proofs.Nodes.{is_before, add_key}
use Rattle.machine.proofs.Lists.{only, any_map, distinct_key}
use Rattle.machine.proofs.Stacks.{beyond_early, WellFormed, owned_find}

-- the node of a captured local or argument
abbrev pub node_of : Use → Node
node_of u = record { key = row_of u.means; one = owner_of u.means; two = u.slot }

-- what an identifier means, if a function around it has captured it, every function further out up to the variable's own has captured too
abbrev pub Outward : Sheet → List Moment → Moment → Type 0
Outward s h m =
    T (is s 50 (visited m.event)) → (g f : ℕ) → T (g ∈? around s m.stack) → T (f ∈? beyond g (around s m.stack)) → T (is_outer f (use_at s m))
    → T (any (λ v. same v (use_at s m)) (captures s h g)) → T (any (λ v. same v (use_at s m)) (captures s h f))

module _ (s : Sheet) (h : List Moment) (m : Moment) where
  outer_snoc : (f : ℕ) → filter (is_outer f) (uses s (h ++ m ∷ [])) ≡ filter (is_outer f) (uses s h) ++ only (is s 50 (visited m.event) && is_outer f (use_at s m)) (use_at s m)
  outer_snoc f =
      ap (λ (l : List Moment). filter (is_outer f) (map (use_at s) l)) (filter_append (λ x. is s 50 (visited x.event)) h (m ∷ []))
      ∙ ap (filter (is_outer f)) (map_append (use_at s) (visits s h 50) (only (is s 50 (visited m.event)) m))
      ∙ filter_append (is_outer f) (uses s h) (map (use_at s) (only (is s 50 (visited m.event)) m))
      ∙ ap (λ (l : List Use). filter (is_outer f) (uses s h) ++ l) (go (is s 50 (visited m.event)))
    where
      go : (t : Bool) → filter (is_outer f) (map (use_at s) (only t m)) ≡ only (t && is_outer f (use_at s m)) (use_at s m)
      go true = refl
      go false = refl

  pub captures_snoc : (f : ℕ)
      → captures s (h ++ m ∷ []) f
      ≡ (when is s 50 (visited m.event) && is_outer f (use_at s m)
      then captures s h f ++ only (not (any (λ v. same v (use_at s m)) (captures s h f))) (use_at s m)
      else captures s h f)
  captures_snoc f = ap (distinct same) (outer_snoc f) ∙ go (is s 50 (visited m.event) && is_outer f (use_at s m))
    where
      go : (t : Bool) → distinct same (filter (is_outer f) (uses s h) ++ only t (use_at s m))
          ≡ (when t then captures s h f ++ only (not (any (λ v. same v (use_at s m)) (captures s h f))) (use_at s m) else captures s h f)
      go true = distinct_key (λ (u : Use). row_of u.means) (filter (is_outer f) (uses s h)) (use_at s m)
      go false = ap (distinct same) (append-nil (filter (is_outer f) (uses s h)))

  keys_add : (f : ℕ)
      → map node_of (captures s h f ++ only (not (any (λ v. same v (use_at s m)) (captures s h f))) (use_at s m)) ≡ add_key (node_of (use_at s m)) (map node_of (captures s h f))
  keys_add f =
      map_append node_of (captures s h f) (only (not (any (λ v. same v (use_at s m)) (captures s h f))) (use_at s m))
      ∙ go (any (λ v. same v (use_at s m)) (captures s h f)) (any_map (λ y. eqb y.key (row_of (use_at s m).means)) node_of (captures s h f))
    where
      go : (t : Bool) → has_key (row_of (use_at s m).means) (map node_of (captures s h f)) ≡ t
          → map node_of (captures s h f) ++ map node_of (only (not t) (use_at s m)) ≡ add_key (node_of (use_at s m)) (map node_of (captures s h f))
      go true e = rw e (append-nil (map node_of (captures s h f)))
      go false e = rw e

  -- what the captures of f are after one moment more
  pub keys_snoc : WellFormed s m.stack → (f : ℕ)
      → map node_of (captures s (h ++ m ∷ []) f)
      ≡ (when is s 50 (visited m.event) && is_variable (use_at s m).means
      then (when is_before (owner_of (use_at s m).means) (around s m.stack) f then add_key (node_of (use_at s m)) (map node_of (captures s h f)) else map node_of (captures s h f))
      else map node_of (captures s h f))
  keys_snoc o f = ap (map node_of) (captures_snoc f) ∙ go (is s 50 (visited m.event)) (is_variable (use_at s m).means) refl
    where
      by : (t : Bool)
          → map node_of (when t then captures s h f ++ only (not (any (λ v. same v (use_at s m)) (captures s h f))) (use_at s m) else captures s h f)
          ≡ (when t then add_key (node_of (use_at s m)) (map node_of (captures s h f)) else map node_of (captures s h f))
      by true = keys_add f
      by false = refl

      go : (t u : Bool) → is_variable (use_at s m).means ≡ u
          → map node_of (when t && (u && owner_of (use_at s m).means ∈? beyond f (around s m.stack))
          then captures s h f ++ only (not (any (λ v. same v (use_at s m)) (captures s h f))) (use_at s m) else captures s h f)
          ≡ (when t && u
          then (when is_before (owner_of (use_at s m).means) (around s m.stack) f then add_key (node_of (use_at s m)) (map node_of (captures s h f)) else map node_of (captures s h f))
          else map node_of (captures s h f))
      go true true e =
          by (owner_of (use_at s m).means ∈? beyond f (around s m.stack))
          ∙ ap (λ (t : Bool). when t then add_key (node_of (use_at s m)) (map node_of (captures s h f)) else map node_of (captures s h f))
          (beyond_early f (owner_of (use_at s m).means) o.apart (owned_find s (a s (visited m.event)) o.owned e))
      go true false e = refl
      go false u e = refl
