-- The theorems of F-10: of every input its outcome says what `OrderClaims` has in words of chains. That there is one order alone, with every unit once and
-- after all that it imports, is in OrderLaws, over any units (`order_only`, `order_once`, `order_after`, `order_units`).
use mathlib.Core.Path.{◌≡◌, refl, sym, ap, subst}
use mathlib.Core.Logic.{⊎_elim}
use mathlib.Core.Bool.{Bool, true, false, not}
use mathlib.Core.List.{List, [], ◌∷◌, map}
use Prim.Native.Nat.{ℕ}
use native.Mathlib.Omega.{arith}
use lib.Dec.{T, leb}
use lib.ListN.{length}
use Rattle.definition.specs.Basics.{when◌then◌else◌, any, first, head, ◌∈?◌}
use Rattle.definition.specs.Sheet.{Sheet, rows}
use Rattle.definition.specs.Names.{names_fit, name_count}
use Rattle.definition.specs.Format.{sheet_fits, depths_fit}
use Rattle.definition.specs.Outcome.{Outcome, refused, refused_at, rows_fit}
use Rattle.definition.proofs.Lists.Tests.{decide, if_true, if_false}
use Rattle.definition.proofs.Format.Facts.{SheetFacts, facts}
use Rattle.unit_order.specs.Imports.{Chain, OrderFrom}
use Rattle.unit_order.specs.Order.{units, imports_of, circles, order, unit_row, order_asked, order_outcome}
use Rattle.unit_order.specs.Claims.{LowestCircling, OrderClaims}
use Rattle.unit_order.proofs.OrderLaws.{order_no_circle, order_exists, left_circle, circle_chain, chain_circle}
use Rattle.unit_order.proofs.SheetLaws.{units_rising, unit_row_lem, imports_closed, first_lowest, any_none}

-- the units by the rows that tell them
pub told_units : (us : List ℕ) → map head (map unit_row us) ≡ us
told_units [] = refl
told_units (u ∷ us) = ap (λ (x : List ℕ). u ∷ x) (told_units us)

module _ (n : ℕ) (s : Sheet) (ok : SheetFacts n s) where
  -- a unit circles exactly if a chain of imports leads from it back to it
  pub circles_chain : (u : ℕ) → T (circles s u) → Chain (imports_of s) u u
  unfolding circles
  circles_chain u h = circle_chain (imports_of s) (units s) u h

  pub chain_circles : (u : ℕ) → T (u ∈? units s) → Chain (imports_of s) u u → T (circles s u)
  unfolding circles
  chain_circles u m c = chain_circle (imports_of s) (units s) (imports_closed n s ok) u m c

  -- there is an order exactly if no unit is on a circle
  pub order_there : ((u : ℕ) → T (u ∈? units s) → Chain (imports_of s) u u → ⊥) → OrderFrom (imports_of s) (units s) [] (order s)
  unfolding order
  order_there off = order_exists (imports_of s) (units s) (units_rising s) (imports_closed n s ok) (rows s) (λ u m. (unit_row_lem s u m).0) off

  pub order_free : {xs : List ℕ} → OrderFrom (imports_of s) (units s) [] xs → (u : ℕ) → T (u ∈? units s) → Chain (imports_of s) u u → ⊥
  order_free p = order_no_circle (imports_of s) (units s) p

  -- where some unit never starts, one is on a circle
  pub left_circles : (u : ℕ) → T (u ∈? units s) → T (not (u ∈? order s)) → T (any (circles s) (units s))
  unfolding order
  left_circles u m f =
      let found = left_circle (imports_of s) (units s) (units_rising s) (imports_closed n s ok) (rows s) (λ v k. (unit_row_lem s v k).0) u m f in
      ⊎_elim (λ h. h) (λ g. absurd (any_none (circles s) (units s) g found.0 found.1 (chain_circles found.0 found.1 found.2)))
      (decide (any (circles s) (units s)))

  -- the lowest unit that circles
  pub lowest_circling : T (any (circles s) (units s)) → LowestCircling s (first (circles s) 0 (units s))
  lowest_circling h =
      let low = first_lowest (circles s) 0 (units_rising s) h in
      record { unit = low.listed; circling = circles_chain _ low.passes; lowest = λ v m c. low.least v m (chain_circles v m c) }

  none_circles : T (not (any (circles s) (units s))) → (u : ℕ) → T (u ∈? units s) → Chain (imports_of s) u u → ⊥
  none_circles f u m c = any_none (circles s) (units s) f u m (chain_circles u m c)

  pub asked_claims : (lent : ℕ) → OrderClaims s (order_asked lent s)
  unfolding order_asked
  asked_claims lent = ⊎_elim refusing (λ f. granting f) (decide (any (circles s) (units s)))
    where
      told : Outcome
      told = record { number = 0; file = 0; line = 0; column = 0; name = 0; rows = map unit_row (order s); globals = 0 }

      rest : Outcome
      rest = when leb (length (order s)) lent then told else refused 22

      at : ℕ
      at = first (circles s) 0 (units s)

      refusing : T (any (circles s) (units s)) → OrderClaims s (when any (circles s) (units s) then refused_at 29 s at 0 else rest)
      refusing h =
          subst (OrderClaims s) (sym (if_true (any (circles s) (units s)) (refused_at 29 s at 0) rest h))
          (record {
            order = λ e. absurd (omega (arith, e));
            circle = λ e. (at, lowest_circling h, refl);
            free = λ e u m c. ⊎_elim (λ z. omega (arith, z)) (λ z. omega (arith, z)) e;
          })

      granted : T (not (any (circles s) (units s))) → (t : Bool) → OrderClaims s (when t then told else refused 22)
      granted f true =
          record {
            order = λ e. subst (OrderFrom (imports_of s) (units s) []) (sym (told_units (order s))) (order_there (none_circles f));
            circle = λ e. absurd (omega (arith, e));
            free = λ e. none_circles f;
          }
      granted f false = record { order = λ e. absurd (omega (arith, e)); circle = λ e. absurd (omega (arith, e)); free = λ e. none_circles f }

      granting : T (not (any (circles s) (units s))) → OrderClaims s (when any (circles s) (units s) then refused_at 29 s at 0 else rest)
      granting f =
          subst (OrderClaims s) (sym (if_false (any (circles s) (units s)) (refused_at 29 s at 0) rest f)) (granted f (leb (length (order s)) lent))

-- of every input
pub order_claims : (s : Sheet) (ns : List ℕ) (lent : ℕ) → OrderClaims s (order_outcome s ns lent)
unfolding order_outcome
order_claims s ns lent = go (rows_fit s) (names_fit ns) (sheet_fits (name_count ns) s) refl (depths_fit s)
  where
    early : (q : ℕ) → (q ≡ 0 → ⊥) → (q ≡ 22 → ⊥) → (q ≡ 29 → ⊥) → OrderClaims s (refused q)
    early q x y z = record { order = λ e. absurd (x e); circle = λ e. absurd (z e); free = λ e u m c. ⊎_elim x y e }

    go : (x y z : Bool) → sheet_fits (name_count ns) s ≡ z → (w : Bool)
        → OrderClaims s (when not x then refused 1 else when not y then refused 2 else when not z then refused 3 else when not w then refused 4 else order_asked lent s)
    go false y z e w = early 1 (λ q. omega (arith, q)) (λ q. omega (arith, q)) (λ q. omega (arith, q))
    go true false z e w = early 2 (λ q. omega (arith, q)) (λ q. omega (arith, q)) (λ q. omega (arith, q))
    go true true false e w = early 3 (λ q. omega (arith, q)) (λ q. omega (arith, q)) (λ q. omega (arith, q))
    go true true true e false = early 4 (λ q. omega (arith, q)) (λ q. omega (arith, q)) (λ q. omega (arith, q))
    go true true true e true = asked_claims (name_count ns) s (facts (name_count ns) s e) lent
