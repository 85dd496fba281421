-- The search from a unit finds all that chains of imports lead to, and nothing else.
use mathlib.Core.Path.{◌≡◌, refl, sym, ap, ◌∙◌, subst}
use mathlib.Core.Logic.{⊎_elim}
use mathlib.Core.Bool.{true, false, not}
use mathlib.Core.List.{List, [], ◌∷◌}
use Prim.Native.Nat.{ℕ, zero, suc, ◌+◌, ◌<◌, ◌≤◌}
use native.Mathlib.Omega.{arith}
use lib.Dec.{T, T_not, eqb}
use lib.ListN.{length, get_or}
use borrow.Author.Tests.{ne_eqb}
use Rattle.definition.specs.Basics.{◌∈?◌}
use Rattle.definition.specs.Sheet.{Sheet}
use Rattle.definition.proofs.Lists.Tests.{true_of, T_true, decide}
use Rattle.definition.proofs.Lists.Counts.{in_head, in_tail, in_cases}
use Rattle.unit_order.specs.Imports.{Chain, one, more}
use Rattle.unit_order.specs.Order.{units, imports_of, circles}
use Rattle.unit_order.proofs.ChainLaws.{Closed, joined, chain_stays}
use Rattle.unit_order.proofs.OrderLaws.{circle_chain, chain_circle}
use Rattle.start_units.specs.Starting.{Importing, marked}
use Rattle.start_units.proofs.ReadyLaws.{false_of, same_or}
use Rattle.import_circle.specs.Search.{added, Holds}
use Rattle.import_circle.proofs.FoundLaws.{added_kept, added_new, added_from, added_places}

-- members by place
in_place : (xs : List ℕ) (i : ℕ) → i < length xs → T (get_or xs i 0 ∈? xs)
in_place [] i l = absurd (omega arith)
in_place (x ∷ xs) zero l = in_head x x xs refl
in_place (x ∷ xs) (suc i) l = in_tail (get_or xs i 0) x xs (in_place xs i (omega arith))

place_of : (xs : List ℕ) (x : ℕ) → T (x ∈? xs) → (i : ℕ) × (i < length xs) × (get_or xs i 0 ≡ x)
place_of [] x m = absurd m
place_of (y ∷ ys) x m =
    ⊎_elim (λ (e : x ≡ y). (0, omega arith, sym e)) (λ k. let p = place_of ys x k in (suc p.0, omega (arith, p.1), p.2)) (in_cases x y ys m)

-- Of unit u circles by chains, for a sheet whose imports are units.
module _ (s : Sheet) (ok : Importing s) (u : ℕ) where
  pub circles_if : T (u ∈? units s) → Chain (imports_of s) u u → circles s u ≡ true
  unfolding circles
  circles_if m c = true_of (circles s u) (chain_circle (imports_of s) (units s) ok.closed u m c)

  pub circles_not : (Chain (imports_of s) u u → ⊥) → circles s u ≡ false
  unfolding circles
  circles_not f = false_of (circles s u) (λ h. f (circle_chain (imports_of s) (units s) u h))

-- The search from unit u: chains lead to all units found, and all that the first `passed` of them import is found.
pub record Searching (s : Sheet) (u passed : ℕ) (found : List ℕ) : Type 0 where
  pub led : (v : ℕ) → T (v ∈? found) → Chain (imports_of s) u v
  pub first : (v : ℕ) → T (v ∈? imports_of s u) → T (v ∈? found)
  pub on : (i : ℕ) → i < passed → (v : ℕ) → T (v ∈? imports_of s (get_or found i 0)) → T (v ∈? found)

pub searching_start : (s : Sheet) (u : ℕ) → Searching s u 0 (added [] (imports_of s u))
searching_start s u =
    record {
      led = λ v m. ⊎_elim absurd one (added_from (imports_of s u) [] v m);
      first = added_new (imports_of s u) [];
      on = λ i l. absurd (omega arith);
    }

module _ (s : Sheet) (ok : Importing s) (u passed : ℕ) (found : List ℕ) (h : Searching s u passed found) where
  -- what is found is a unit
  pub found_unit : T (u ∈? units s) → (v : ℕ) → T (v ∈? found) → T (v ∈? units s)
  found_unit m v k = chain_stays (imports_of s) (units s) ok.closed m (h.led v k)

  module _ (l : passed < length found) where
    pub passed_found : T (get_or found passed 0 ∈? found)
    passed_found = in_place found passed l

    pub searching_more : Searching s u (passed + 1) (added found (imports_of s (get_or found passed 0)))
    searching_more =
        record {
          led = λ v m. ⊎_elim (h.led v) (λ e. joined (imports_of s) (h.led w passed_found) (one e)) (added_from (imports_of s w) found v m);
          first = λ v e. added_kept (imports_of s w) found v (h.first v e);
          on = λ i b v e. ⊎_elim (λ (q : i ≡ passed). new i q v e) (λ f. old i (omega arith) v e) (same_or i passed);
        }
      where
        w : ℕ
        w = get_or found passed 0

        same : (i : ℕ) → i < length found → get_or (added found (imports_of s w)) i 0 ≡ get_or found i 0
        same = (added_places (imports_of s w) found).1

        old : (i : ℕ) → i < passed → (v : ℕ) → T (v ∈? imports_of s (get_or (added found (imports_of s w)) i 0)) → T (v ∈? added found (imports_of s w))
        old i b v e = added_kept (imports_of s w) found v (h.on i b v (subst (λ (x : ℕ). T (v ∈? imports_of s x)) (same i (omega arith)) e))

        new : (i : ℕ) → i ≡ passed → (v : ℕ) → T (v ∈? imports_of s (get_or (added found (imports_of s w)) i 0)) → T (v ∈? added found (imports_of s w))
        new i q v e =
            added_new (imports_of s w) found v
            (subst (λ (x : ℕ). T (v ∈? imports_of s x)) (same i (omega arith) ∙ ap (λ (j : ℕ). get_or found j 0) q) e)

  -- the unit itself is found
  pub back_yes : T (u ∈? units s) → T (u ∈? found) → true ≡ circles s u
  back_yes m k = sym (circles_if s ok u m (h.led u k))

  pub back_met : T (u ∈? units s) → (m : List ℕ) {x : ℕ} → ((v : ℕ) → marked m v ≡ (v ∈? found)) → x ≡ get_or m u 0 → (x ≡ 0 → ⊥) → true ≡ circles s u
  back_met k m {x} marks e f = back_yes k (T_true (u ∈? found) (sym (marks u) ∙ ap not (ne_eqb (get_or m u 0) 0 (λ z. f (e ∙ z)))))

  -- all is passed
  module _ (l : length found ≤ passed) where
    found_closed : Closed (imports_of s) found
    found_closed v w k e =
        let p = place_of found v k in
        h.on p.0 (omega (arith, p.1)) w (subst (λ (x : ℕ). T (w ∈? imports_of s x)) (sym p.2) e)

    found_all : {v : ℕ} → Chain (imports_of s) u v → T (v ∈? found)
    found_all {v} (one e) = h.first v e
    found_all {v} (more {v = x} e c) = chain_stays (imports_of s) found found_closed (h.first x e) c

    pub back_no : (T (u ∈? found) → ⊥) → false ≡ circles s u
    back_no f = sym (circles_not s ok u (λ c. f (found_all c)))

    -- as the mark of u tells
    pub back_end : T (u ∈? units s) → (m : List ℕ) {x : ℕ} → ((v : ℕ) → marked m v ≡ (v ∈? found)) → x ≡ get_or m u 0 → not (eqb x 0) ≡ circles s u
    back_end k m {x} marks e =
        let told : not (eqb x 0) ≡ (u ∈? found) = ap (λ (y : ℕ). not (eqb y 0)) e ∙ marks u in
        told
        ∙ ⊎_elim (λ t. true_of (u ∈? found) t ∙ back_yes k t) (λ t. false_of (u ∈? found) (T_not (u ∈? found) t) ∙ back_no (T_not (u ∈? found) t))
        (decide (u ∈? found))

-- the next unit of the queue
module _ (s : Sheet) (ok : Importing s) (u : ℕ) (m q : List ℕ) (n passed : ℕ) (found : List ℕ) (h : Holds m q n found) (g : Searching s u passed found)
    (l : passed < n) (v : ℕ) (to : v ≡ get_or q passed 0) where
  next_place_lem : passed < length found
  next_place_lem = omega (arith, h.count)

  next_is : v ≡ get_or found passed 0
  next_is = to ∙ h.queue passed l

  pub next_unit : T (u ∈? units s) → T (v ∈? units s)
  next_unit k = found_unit s ok u passed found g k v (subst (λ (x : ℕ). T (x ∈? found)) (sym next_is) (passed_found s ok u passed found g next_place_lem))

  pub next_found : {m' q' : List ℕ} {n' : ℕ} → Holds m' q' n' (added found (imports_of s v))
      → (more : List ℕ) × Holds m' q' n' more × Searching s u (passed + 1) more × (passed + 1 ≤ n')
  next_found {m'} {q'} {n'} k = (
    added found (imports_of s v),
    k,
    subst (λ (x : ℕ). Searching s u (passed + 1) (added found (imports_of s x))) (sym next_is) (searching_more s ok u passed found g next_place_lem),
    omega (arith, k.count, (added_places (imports_of s v) found).0, next_place_lem),
  )
