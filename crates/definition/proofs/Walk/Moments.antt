-- How the walk's state and moments go through joined lists of events.
use mathlib.Core.Path.{◌≡◌, refl, sym, ap}
use mathlib.Core.List.Memᴰ
use mathlib.Core.List.Memᴰ.{head as here}
use mathlib.Core.List.Memᴰ.{tail as there}
use mathlib.Core.List.{List, [], ◌∷◌, ◌++◌, map, Memᴰ as Mem}
use Rattle.definition.specs.Sheet.{Sheet}
use Rattle.definition.specs.Meaning.{Named}
use Rattle.definition.specs.Walk.{Event}
use Rattle.definition.specs.Scope.{Stack, Moment, bound, around, step, run, moments}

pub run_append : (s : Sheet) (z : Stack) (xs ys : List Event) → run s z (xs ++ ys) ≡ run s (run s z xs) ys
run_append s z [] ys = refl
run_append s z (x ∷ xs) ys = run_append s (step s z x) xs ys

pub moments_append : (s : Sheet) (z : Stack) (xs ys : List Event) → moments s z (xs ++ ys) ≡ moments s z xs ++ moments s (run s z xs) ys
moments_append s z [] ys = refl
moments_append s z (x ∷ xs) ys = ap (λ (l : List Moment). record { event = x; stack = z } ∷ l) (moments_append s (step s z x) xs ys)

-- moments of events
pub mem_moments : (s : Sheet) (z : Stack) (e : Event) (es : List Event) → Mem e es → (m : Moment) × Mem m (moments s z es) × (m.event ≡ e)
mem_moments s z e [] q = absurd (Memᴰ.not-nil q)
mem_moments s z e (x ∷ es) (here p) = (record { event = x; stack = z }, here refl, sym p)
mem_moments s z e (x ∷ es) (there q) = let r = mem_moments s (step s z x) e es q in (r.0, there r.1, r.2)

-- what stands outside is in no function
pub around_names : (s : Sheet) (xs : List Named) → around s (map (λ x. bound x.name x.means) xs) ≡ []
around_names s [] = refl
around_names s (x ∷ xs) = around_names s xs
