-- The order, over any units: when there is one, that there is one alone, and what stands in it.
use mathlib.Core.Path.{◌≡◌, refl, sym, ap, ◌∙◌, subst}
use mathlib.Core.Logic.{⊎_elim}
use mathlib.Core.Bool.{not}
use mathlib.Core.List.{List, [], ◌∷◌, ◌++◌, append-nil, append_assoc}
use Prim.Native.Nat.{ℕ, zero, suc, ◌+◌, ◌<◌, ◌≤◌}
use native.Mathlib.Omega.{arith}
use lib.Dec.{T, T_not, eqb, eqb→eq}
use lib.ListN.{length, length-append}
use Rattle.definition.specs.Basics.{all, count, bit, ◌∈?◌}
use Rattle.definition.proofs.Lists.Tests.{T_and, decide, true_of, eqb_of, bit_not}
use Rattle.unit_order.specs.Imports.{Chain, on_circle, ready, started_after, OrderFrom, ends, next}
use Rattle.unit_order.proofs.ChainLaws.{Closed, leads_chain, chain_leads}
use Rattle.unit_order.proofs.StartLaws.{Rising, Orderly, orderly_none, orderly_more, in_before, in_last, in_either, all_member, passing, stuck_same, stuck_after, stuck_circle}

-- membership in a list with one more at its end, counted
bit_last : (x y : ℕ) (xs : List ℕ) → (T (y ∈? xs) → ⊥) → bit (x ∈? (xs ++ y ∷ [])) ≡ bit (x ∈? xs) + bit (eqb x y)
bit_last x y xs new =
    ⊎_elim
    (λ m.
    let apart : T (eqb x y) → ⊥ = λ h. new (subst (λ (z : ℕ). T (z ∈? xs)) (eqb→eq x y h) m) in
    omega (arith, ap bit (true_of (x ∈? (xs ++ y ∷ [])) (in_before x y xs m)), ap bit (true_of (x ∈? xs) m), bit_not (eqb x y) apart))
    (λ f.
    ⊎_elim
    (λ h.
    omega (
      arith,
      ap bit (true_of (x ∈? (xs ++ y ∷ [])) (in_last x y xs (eqb→eq x y h))),
      bit_not (x ∈? xs) (T_not (x ∈? xs) f),
      ap bit (true_of (eqb x y) h),
    ))
    (λ g.
    let apart : x ≡ y → ⊥ = λ e. T_not (eqb x y) g (eqb_of x y e) in
    omega (
      arith,
      bit_not (x ∈? (xs ++ y ∷ [])) (λ m. ⊎_elim (T_not (x ∈? xs) f) apart (in_either x y xs m)),
      bit_not (x ∈? xs) (T_not (x ∈? xs) f),
      bit_not (eqb x y) (T_not (eqb x y) g),
    ))
    (decide (eqb x y)))
    (decide (x ∈? xs))

module _ (imports : ℕ → List ℕ) (us : List ℕ) where
  -- what is ready has not started, and all that it imports has
  pub ready_new : (started : List ℕ) (u : ℕ) → T (ready imports started u) → T (u ∈? started) → ⊥
  ready_new started u h = T_not (u ∈? started) (T_and (not (u ∈? started)) (all (λ v. v ∈? started) (imports u)) h).0

  pub ready_imports : (started : List ℕ) (u : ℕ) → T (ready imports started u) → (v : ℕ) → T (v ∈? imports u) → T (v ∈? started)
  ready_imports started u h = all_member (λ v. v ∈? started) (imports u) (T_and (not (u ∈? started)) (all (λ v. v ∈? started) (imports u)) h).1

  -- there is one order alone
  pub order_only : {started xs ys : List ℕ} → OrderFrom imports us started xs → OrderFrom imports us started ys → xs ≡ ys
  order_only (ends a) (ends b) = refl
  order_only {started} (ends a) (next {u = u} low q) = absurd (ready_new started u low.passes (a u low.listed))
  order_only {started} (next {u = u} low p) (ends b) = absurd (ready_new started u low.passes (b u low.listed))
  order_only {started} (next {xs = xs} {u = u} low p) (next {xs = ys} {u = v} lower q) =
      let le : u ≤ v = low.least v lower.listed lower.passes in
      let ge : v ≤ u = lower.least u low.listed low.passes in
      let e : v ≡ u = omega arith in
      let same : xs ≡ ys = order_only p (subst (λ (x : ℕ). OrderFrom imports us (started ++ x ∷ []) ys) e q) in
      cc

  -- where there is one, no unit is on a circle
  order_off : {started xs : List ℕ} → OrderFrom imports us started xs → Orderly imports us started → (u : ℕ) → T (u ∈? us) → Chain imports u u → ⊥
  order_off (ends a) h u m c = h.free u (a u m) c
  order_off {started} (next {u = v} low p) h u m c = order_off p (orderly_more imports us started v h low) u m c

  pub order_no_circle : {xs : List ℕ} → OrderFrom imports us [] xs → (u : ℕ) → T (u ∈? us) → Chain imports u u → ⊥
  order_no_circle p = order_off p (orderly_none imports us)

  -- every unit stands in it once
  once_from : {started xs : List ℕ} → OrderFrom imports us started xs → (u : ℕ) → T (u ∈? us) → bit (u ∈? started) + count (eqb u) xs ≡ 1
  once_from {started} (ends a) u m = omega (arith, ap bit (true_of (u ∈? started) (a u m)))
  once_from {started} (next {u = v} low p) u m =
      omega (arith, once_from p u m, bit_last u v started (ready_new started v low.passes))

  pub order_once : {xs : List ℕ} → OrderFrom imports us [] xs → (u : ℕ) → T (u ∈? us) → count (eqb u) xs ≡ 1
  order_once p u m = omega (arith, once_from p u m)

  -- after all that it imports
  after_from : {started xs : List ℕ} → OrderFrom imports us started xs → (before after : List ℕ) (u v : ℕ) → xs ≡ before ++ u ∷ after
      → T (v ∈? imports u) → T (v ∈? (started ++ before))
  after_from (ends a) before after u v e m = absurd (omega (arith, ap length e, length-append before (u ∷ after)))
  after_from {started} (next {u = w} low p) [] after u v e m =
      let same : w ≡ u = cc in
      subst (λ (x : List ℕ). T (v ∈? x)) (sym (append-nil started)) (ready_imports started w low.passes v (subst (λ (x : ℕ). T (v ∈? imports x)) (sym same) m))
  after_from {started} (next {xs = xs} {u = w} low p) (b ∷ bs) after u v e m =
      let same : w ≡ b = cc in
      let rest : xs ≡ bs ++ u ∷ after = cc in
      subst (λ (x : List ℕ). T (v ∈? x)) (append_assoc started (w ∷ []) bs ∙ ap (λ (x : ℕ). started ++ x ∷ bs) same) (after_from p bs after u v rest m)

  pub order_after : {xs : List ℕ} → OrderFrom imports us [] xs → (before after : List ℕ) (u v : ℕ) → xs ≡ before ++ u ∷ after
      → T (v ∈? imports u) → T (v ∈? before)
  order_after p = after_from p

  -- and nothing but units
  pub order_units : {started xs : List ℕ} → OrderFrom imports us started xs → (u : ℕ) → T (not (u ∈? us)) → count (eqb u) xs ≡ 0
  order_units (ends a) u f = refl
  order_units (next {u = v} low p) u f =
      let apart : T (eqb u v) → ⊥ = λ h. T_not (u ∈? us) f (subst (λ (x : ℕ). T (x ∈? us)) (sym (eqb→eq u v h)) low.listed) in
      omega (arith, order_units p u f, bit_not (eqb u v) apart)

  module _ (rise : Rising us) where
    -- where all units have started after n steps: from step i on the order goes on with what the j further steps start
    goes_on : (n : ℕ) → ((u : ℕ) → T (u ∈? us) → T (u ∈? started_after imports us n)) → (j i : ℕ) → j + i ≡ n
        → (xs : List ℕ) × OrderFrom imports us (started_after imports us i) xs × (started_after imports us i ++ xs ≡ started_after imports us n)
    goes_on n whole zero i e =
        let same : n ≡ i = omega arith in (
          [],
          ends (subst (λ (k : ℕ). (u : ℕ) → T (u ∈? us) → T (u ∈? started_after imports us k)) same whole),
          append-nil (started_after imports us i) ∙ ap (started_after imports us) (sym same),
        )
    goes_on n whole (suc j) i e =
        let started = started_after imports us i in
        let later = goes_on n whole j (suc i) (omega arith) in
        ⊎_elim
        (λ r.
        let same = stuck_same imports us rise i r.1 in
        (later.0, subst (λ (x : List ℕ). OrderFrom imports us x later.0) same later.1, ap (λ (x : List ℕ). x ++ later.0) (sym same) ∙ later.2))
        (λ r.
        let grow : started_after imports us (suc i) ≡ started ++ r.0 ∷ [] = ap (λ (x : List ℕ). started ++ x) r.1 in (
          r.0 ∷ later.0,
          next r.2 (subst (λ (x : List ℕ). OrderFrom imports us x later.0) grow later.1),
          sym (append_assoc started (r.0 ∷ []) later.0) ∙ ap (λ (x : List ℕ). x ++ later.0) (sym grow) ∙ later.2,
        ))
        (passing (ready imports started) rise)

    -- where all units start, what has started is the order
    pub started_order : (n : ℕ) → ((u : ℕ) → T (u ∈? us) → T (u ∈? started_after imports us n)) → OrderFrom imports us [] (started_after imports us n)
    started_order n whole = let found = goes_on n whole n 0 (omega arith) in subst (OrderFrom imports us []) found.2 found.1

    module _ (closed : Closed imports us) (n : ℕ) (below : (u : ℕ) → T (u ∈? us) → u < n) where
      -- a unit that has not started after n steps leads into a circle
      pub left_circle : (u : ℕ) → T (u ∈? us) → T (not (u ∈? started_after imports us n)) → (v : ℕ) × T (v ∈? us) × Chain imports v v
      left_circle = stuck_circle imports us (started_after imports us n) closed (stuck_after imports us rise n below)

      -- where no unit is on a circle there is an order
      pub order_exists : ((u : ℕ) → T (u ∈? us) → Chain imports u u → ⊥) → OrderFrom imports us [] (started_after imports us n)
      order_exists off =
          started_order n
          (λ u m. ⊎_elim (λ h. h) (λ f. let found = left_circle u m f in absurd (off found.0 found.1 found.2)) (decide (u ∈? started_after imports us n)))

  -- `on_circle` says that some chain comes back
  pub circle_chain : (u : ℕ) → T (on_circle imports us u) → Chain imports u u
  circle_chain u = leads_chain imports us u u

  pub chain_circle : Closed imports us → (u : ℕ) → T (u ∈? us) → Chain imports u u → T (on_circle imports us u)
  chain_circle closed u m c = chain_leads imports us closed m c
