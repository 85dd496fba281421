-- How many globals there are: at most the starting count and one for each row.
use mathlib.Core.Path.{◌≡◌, refl, ap}
use mathlib.Core.List.Memᴰ.{head as here}
use mathlib.Core.List.Memᴰ.{tail as there}
use mathlib.Core.List.{List, [], ◌∷◌, Memᴰ as Mem}
use mathlib.Core.Bool.{Bool, true, false}
use Prim.Native.Nat.{ℕ, suc, ◌+◌, ◌≤◌}
use native.Mathlib.Omega.{arith}
use lib.ListN.{length, length-map}
use lib.Dec.{T, leb}
use borrow.Author.Tests.{leb-true}
use Rattle.definition.specs.Basics.{when◌then◌else◌, filter, count, bit}
use Rattle.definition.specs.Sheet.{Sheet, kind, rows, is, a}
use Rattle.definition.specs.Outside.{Outside}
use Rattle.definition.specs.Meaning.{is_toplevel}
use Rattle.definition.specs.Walk.{Event, enter, leave, loop, declare, bring, visit, walk}
use Rattle.definition.specs.Scope.{Stack, Moment, start, step, moments, history, declares, declarings, declaration}
use Rattle.definition.specs.Slots.{global_lets, final_globals}
use Rattle.definition.specs.Bounds.{is_declare}
use Rattle.definition.proofs.Lists.Tests.{true_of, eqb_of}
use Rattle.definition.proofs.Lists.Members.{count_filter}
use Rattle.definition.proofs.Format.Facts.{SheetFacts}
use Rattle.definition.proofs.Format.Tree.{column_a}
use Rattle.definition.proofs.Walk.Fits.{Fits}
use Rattle.definition.proofs.Walk.Rows.{is_not_zero}
use Rattle.definition.proofs.Walk.Bounds.{declares_bound}

pub count_moments : (s : Sheet) (q : Event → Bool) (z : Stack) (es : List Event) → count (λ m. q m.event) (moments s z es) ≡ count q es
count_moments s q z [] = refl
count_moments s q z (e ∷ es) = ap (λ (n : ℕ). bit (q e) + n) (count_moments s q (step s z e) es)

pub count_less : (p q : Moment → Bool) (xs : List Moment) → ((x : Moment) → Mem x xs → T (p x) → T (q x)) → count p xs ≤ count q xs
count_less p q [] h = omega arith
count_less p q (x ∷ xs) h = by (p x) (q x) (h x (here refl)) (count_less p q xs (λ y m. h y (there m)))
  where
    by : (t u : Bool) → (T t → T u) → count p xs ≤ count q xs → bit t + count p xs ≤ bit u + count q xs
    by true true f i = omega arith
    by true false f i = absurd (f tt)
    by false true f i = omega arith
    by false false f i = omega arith

filter_length : (p : Moment → Bool) (xs : List Moment) → length (filter p xs) ≤ length xs
filter_length p [] = omega arith
filter_length p (x ∷ xs) = by (p x) (filter_length p xs)
  where
    by : (t : Bool) → length (filter p xs) ≤ length xs → length (when t then x ∷ filter p xs else filter p xs) ≤ suc (length xs)
    by true h = omega arith
    by false h = omega arith

module _ (n : ℕ) {O : Outside} {s : Sheet} (ok : Fits O s) (fa : SheetFacts n s) where
  only_declares : (e : Event) → T (is s 29 (declares e)) → T (is_declare e)
  only_declares (enter r) h = absurd (is_not_zero ok 29 tt h)
  only_declares leave h = absurd (is_not_zero ok 29 tt h)
  only_declares loop h = absurd (is_not_zero ok 29 tt h)
  only_declares (declare r) h = tt
  only_declares (bring r k d) h = absurd (is_not_zero ok 29 tt h)
  only_declares (visit r) h = absurd (is_not_zero ok 29 tt h)

  lets_bound : length (global_lets s (history O s)) ≤ rows s
  lets_bound =
      omega (
        arith,
        length-map (filter (λ m. is_toplevel (declaration s m)) (declarings s (history O s) 29)) (λ m. declares m.event),
        filter_length (λ m. is_toplevel (declaration s m)) (declarings s (history O s) 29),
        count_filter (λ m. is s 29 (declares m.event)) (history O s),
        count_less (λ m. is s 29 (declares m.event)) (λ m. is_declare m.event) (history O s) (λ m q h. only_declares m.event h),
        count_moments s is_declare (start O) (walk s),
        declares_bound ok,
      )

  pub globals_bound : final_globals s (history O s) ≤ 1000000 + rows s
  globals_bound =
      let h : a s 0 ≤ 1000000 = leb-true (a s 0) 1000000 (true_of (leb (a s 0) 1000000) (column_a n s fa 0 0 (eqb_of (kind s 0) 0 ok.header) ok.some_row)) in
      omega (arith, lets_bound)
