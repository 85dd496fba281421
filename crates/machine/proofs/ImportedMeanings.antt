-- Imports: nothing that the walk imports is a let of a unit, so every imported meaning has its number before the walk.
use mathlib.Core.Path.{◌≡◌, refl}
use mathlib.Core.List.{List, [], ◌∷◌, map}
use mathlib.Core.Bool.{Bool, true, false, ◌||◌, ◌&&◌}
use Prim.Native.Nat.{ℕ, zero, suc}
use lib.Dec.{eqb}
use Rattle.definition.specs.Basics.{when◌then◌else◌, filter, first, concat_map}
use Rattle.definition.specs.Sheet.{Sheet, is, a, b, child, kids, kids_of}
use Rattle.definition.specs.Meaning.{Named, named, nothing, is_toplevel}
use Rattle.definition.specs.Walk.{Event, enter, leave, loop, declare, bring, visit, seen, imports, literal_let, before, after, after_part, parts, each, trace}
use Rattle.definition.proofs.Lists.Members.{Every, every_none, every_one, every_append}

-- is a let of a unit imported?
abbrev imports_let : Event → Bool
imports_let (enter r) = false
imports_let leave = false
imports_let loop = false
imports_let (declare r) = false
imports_let (bring r n d) = is_toplevel d
imports_let (visit r) = false

abbrev pub NoLet : Event → Type 0
NoLet e = imports_let e ≡ false

abbrev Fixed : Named → Type 0
Fixed x = is_toplevel x.means ≡ false

module _ {A : Type 0} where
  every_if : {P : A → Type 0} (t : Bool) {xs ys : List A} → Every P xs → Every P ys → Every P (when t then xs else ys)
  every_if true f g = f
  every_if false f g = g

  every_to : {B : Type 0} {P : B → Type 0} (f : A → B) (xs : List A) → ((x : A) → P (f x)) → Every P (map f xs)
  every_to f [] h = every_none
  every_to f (x ∷ xs) h = every_one (h x) (every_to f xs h)

  every_along : {B : Type 0} {Q : A → Type 0} {P : B → Type 0} (f : A → B) {xs : List A} → ((x : A) → Q x → P (f x)) → Every Q xs → Every P (map f xs)
  every_along f h every_none = every_none
  every_along f h (every_one {x = x} q r) = every_one (h x q) (every_along f h r)

first_fixed : (p : Named → Bool) (d : Named) {xs : List Named} → Fixed d → Every Fixed xs → Fixed (first p d xs)
first_fixed p d h every_none = h
first_fixed p d h (every_one {x = x} {xs = xs} q r) = by (p x) (first_fixed p d h r)
  where
    by : (t : Bool) → Fixed (first p d xs) → Fixed (when t then x else first p d xs)
    by true i = q
    by false i = i

seen_fixed : (s : Sheet) (u i : ℕ) → Every Fixed (seen s u i)
seen_fixed s u i =
    every_if (eqb (a s i) u) every_none
    (every_append (every_append (every_to _ (kids_of s 7 (a s i)) (λ r. refl)) (every_to _ (kids_of s 4 (a s i)) (λ r. refl))) (every_to _ (kids_of s 8 (a s i)) (λ r. refl)))

imports_fixed : (s : Sheet) (u : ℕ) (js : List ℕ) → Every NoLet (concat_map (imports s u) js)
imports_fixed s u [] = every_none
imports_fixed s u (i ∷ js) =
    every_append
    (every_append (every_if (eqb (b s i) 1) (every_along (λ x. bring i x.name x.means) (λ x q. q) (seen_fixed s u i)) every_none)
    (every_to (λ k. bring i (a s k) (first (λ x. eqb x.name (a s k)) (named 0 nothing) (seen s u i)).means)
    (kids s i) (λ k. first_fixed (λ x. eqb x.name (a s k)) (named 0 nothing) refl (seen_fixed s u i))))
    (imports_fixed s u js)

declares_fixed : (rs : List ℕ) → Every NoLet (map declare rs)
declares_fixed rs = every_to declare rs (λ r. refl)

one_fixed : (e : Event) → NoLet e → Every NoLet (e ∷ [])
one_fixed e h = every_one h every_none

before_fixed : (s : Sheet) (r : ℕ) → Every NoLet (before s r)
before_fixed s r =
    every_if (is s 2 r) (every_one refl (every_append (imports_fixed s r (kids_of s 3 r)) (declares_fixed (kids_of s 4 r))))
    (every_if (is s 6 r) (every_one refl (declares_fixed (kids_of s 11 r)))
    (every_if (is s 25 r) (every_one refl (declares_fixed (filter (literal_let s) (kids s r))))
    (every_if (is s 27 r) (one_fixed (enter r) refl)
    (every_if (is s 30 r) (one_fixed (visit r) refl) every_none))))

part_fixed : (s : Sheet) (r i : ℕ) → Every NoLet (after_part s r i)
part_fixed s r i = every_if (is s 59 r && eqb i 0) (one_fixed (visit r) refl) (every_if (is s 27 r && eqb i 1) (one_fixed loop refl) every_none)

after_fixed : (s : Sheet) (r : ℕ) → Every NoLet (after s r)
after_fixed s r =
    every_if (is s 2 r || is s 6 r || is s 25 r || is s 27 r) (one_fixed leave refl)
    (every_if (is s 29 r) (every_if (is s 52 (child s r)) every_none (one_fixed (declare r) refl))
    (every_if (is s 21 r || is s 23 r || is s 24 r || is s 50 r || is s 51 r || is s 52 r || is s 55 r) (one_fixed (visit r) refl) every_none))

each_fixed : (s : Sheet) (go : ℕ → List Event) (r i : ℕ) (ks : List ℕ) → ((k : ℕ) → Every NoLet (go k)) → Every NoLet (each go s r i ks)
each_fixed s go r i [] h = every_none
each_fixed s go r i (k ∷ ks) h = every_append (every_append (h k) (part_fixed s r i)) (each_fixed s go r (suc i) ks h)

pub trace_fixed : (d : ℕ) (s : Sheet) (r : ℕ) → Every NoLet (trace d s r)
trace_fixed zero s r = every_none
trace_fixed (suc d) s r =
    every_append (every_append (before_fixed s r) (each_fixed s (trace d s) r 0 (parts s r) (trace_fixed d s))) (after_fixed s r)
