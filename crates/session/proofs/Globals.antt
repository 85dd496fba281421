-- How many globals there are where a walk stopped: at least the starting count, at most one more for each row.
use mathlib.Core.Path.{◌≡◌, refl, ap}
use mathlib.Core.List.{List, [], ◌∷◌}
use mathlib.Core.Bool.{Bool, true, false}
use Prim.Native.Nat.{ℕ, ◌+◌, ◌≤◌}
use native.Mathlib.Omega.{arith}
use lib.ListN.{length, length-map}
use lib.Dec.{T, eqb, leb}
use borrow.Author.Tests.{leb-true}
use Rattle.definition.specs.Basics.{when◌then◌else◌, filter, count, bit}
use Rattle.definition.specs.Sheet.{Sheet, kind, rows, is, a}
use Rattle.definition.specs.Outside.{Outside}
use Rattle.definition.specs.Meaning.{is_toplevel}
use Rattle.definition.specs.Walk.{Event, enter, leave, loop, declare, bring, visit, walk}
use Rattle.definition.specs.Scope.{Stack, Moment, start, step, moments, history, declares, declarings, declaration}
use Rattle.definition.specs.Slots.{global_lets, final_globals}
use Rattle.definition.specs.Question.{ask_event, open_on, until_no}
use Rattle.definition.specs.Bounds.{is_declare}
use Rattle.definition.proofs.Lists.Tests.{true_of, eqb_of}
use Rattle.definition.proofs.Lists.Members.{count_filter}
use Rattle.definition.proofs.Format.Facts.{SheetFacts}
use Rattle.definition.proofs.Format.Tree.{column_a}
use Rattle.definition.proofs.Walk.Fits.{Fits}
use Rattle.definition.proofs.Walk.Rows.{is_not_zero}
use Rattle.definition.proofs.Walk.Bounds.{declares_bound}
use Rattle.session.specs.Enter.{next_global}
use Rattle.session.proofs.OutsideLaws.{filter_shorter}

count_moments : (s : Sheet) (q : Event → Bool) (z : Stack) (es : List Event) → count (λ m. q m.event) (moments s z es) ≡ count q es
count_moments s q z [] = refl
count_moments s q z (e ∷ es) = ap (λ (n : ℕ). bit (q e) + n) (count_moments s q (step s z e) es)

count_implied : (p q : Moment → Bool) → ((x : Moment) → T (p x) → T (q x)) → (xs : List Moment) → count p xs ≤ count q xs
count_implied p q h [] = omega arith
count_implied p q h (x ∷ xs) = by (p x) (q x) (h x) (count_implied p q h xs)
  where
    by : (t u : Bool) → (T t → T u) → count p xs ≤ count q xs → bit t + count p xs ≤ bit u + count q xs
    by true true f i = omega arith
    by true false f i = absurd (f tt)
    by false true f i = omega arith
    by false false f i = omega arith

-- the moments up to a no are some of all
count_until : (p : Moment → Bool) (O : Outside) (s : Sheet) (h : List Moment) → count p (until_no O s h) ≤ count p h
count_until p O s [] = omega arith
count_until p O s (m ∷ ms) = go (eqb (ask_event O s m.event (open_on s m.stack)).number 0) (count_until p O s ms)
  where
    go : (t : Bool) → count p (until_no O s ms) ≤ count p ms → count p (when t then m ∷ until_no O s ms else []) ≤ bit (p m) + count p ms
    go true l = omega arith
    go false l = omega arith

module _ (n : ℕ) {O : Outside} {s : Sheet} (ok : Fits O s) (fa : SheetFacts n s) where
  only_declares : (e : Event) → T (is s 29 (declares e)) → T (is_declare e)
  only_declares (enter r) h = absurd (is_not_zero ok 29 tt h)
  only_declares leave h = absurd (is_not_zero ok 29 tt h)
  only_declares loop h = absurd (is_not_zero ok 29 tt h)
  only_declares (declare r) h = tt
  only_declares (bring r k d) h = absurd (is_not_zero ok 29 tt h)
  only_declares (visit r) h = absurd (is_not_zero ok 29 tt h)

  -- lets among some moments
  lets_among : (h : List Moment) → length (global_lets s h) ≤ count (λ m. is_declare m.event) h
  lets_among h =
      omega (
        arith,
        length-map (filter (λ m. is_toplevel (declaration s m)) (declarings s h 29)) (λ m. declares m.event),
        filter_shorter (λ m. is_toplevel (declaration s m)) (declarings s h 29),
        count_filter (λ m. is s 29 (declares m.event)) h,
        count_implied (λ m. is s 29 (declares m.event)) (λ m. is_declare m.event) (λ m t. only_declares m.event t) h,
      )

  lets_bound : length (global_lets s (until_no O s (history O s))) ≤ rows s
  lets_bound =
      omega (
        arith,
        lets_among (until_no O s (history O s)),
        count_until (λ m. is_declare m.event) O s (history O s),
        count_moments s is_declare (start O) (walk s),
        declares_bound ok,
      )

  pub started : a s 0 ≤ 1000000
  started = leb-true (a s 0) 1000000 (true_of (leb (a s 0) 1000000) (column_a n s fa 0 0 (eqb_of (kind s 0) 0 ok.header) ok.some_row))

  -- where the walk stopped, and after all of it
  pub next_bound : next_global O s ≤ 1000000 + rows s
  next_bound = omega (arith, started, lets_bound)

  pub final_bound : final_globals s (history O s) ≤ 1000000 + rows s
  final_bound = omega (arith, started, lets_among (history O s), count_moments s is_declare (start O) (walk s), declares_bound ok)

pub next_above : (O : Outside) (s : Sheet) → a s 0 ≤ next_global O s
next_above O s = omega arith
