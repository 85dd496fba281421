-- The units that have started after so many steps.
use mathlib.Core.Path.{◌≡◌, refl, sym, ap, ◌∙◌, subst}
use mathlib.Core.Logic.{◌⊎◌, inl, inr, ⊎_elim}
use mathlib.Core.Bool.{Bool, true, false, not}
use mathlib.Core.List.{List, [], ◌∷◌, ◌++◌, append-nil}
use Prim.Native.Nat.{ℕ, zero, suc, ◌<◌, ◌≤◌}
use native.Mathlib.Omega.{arith}
use lib.Dec.{T, T_not}
use lib.ListN.{length, take, length-append}
use Rattle.definition.specs.Basics.{when◌then◌else◌, filter, all, ◌∈?◌}
use Rattle.definition.proofs.Lists.Tests.{T_and, and_both, decide}
use Rattle.definition.proofs.Lists.Counts.{in_head, in_tail, in_cases}
use Rattle.definition.proofs.Lists.Members.{Nodup, nodup_none, nodup_one, nodup_append, test_mem, mem_test, mem_filter, filter_mem, pigeonhole}
use Rattle.unit_order.specs.Imports.{Chain, one, more, ready, started_after, Lowest}
use Rattle.unit_order.proofs.ChainLaws.{Closed, chain_stays, comes_back}

-- Members of a list with one more at its end.
pub in_before : (x y : ℕ) (xs : List ℕ) → T (x ∈? xs) → T (x ∈? (xs ++ y ∷ []))
in_before x y [] m = absurd m
in_before x y (z ∷ zs) m = ⊎_elim (λ e. in_head x z (zs ++ y ∷ []) e) (λ k. in_tail x z (zs ++ y ∷ []) (in_before x y zs k)) (in_cases x z zs m)

pub in_last : (x y : ℕ) (xs : List ℕ) → x ≡ y → T (x ∈? (xs ++ y ∷ []))
in_last x y [] e = in_head x y [] e
in_last x y (z ∷ zs) e = in_tail x z (zs ++ y ∷ []) (in_last x y zs e)

pub in_either : (x y : ℕ) (xs : List ℕ) → T (x ∈? (xs ++ y ∷ [])) → T (x ∈? xs) ⊎ (x ≡ y)
in_either x y [] m = ⊎_elim inr absurd (in_cases x y [] m)
in_either x y (z ∷ zs) m =
    ⊎_elim (λ e. inl (in_head x z zs e)) (λ k. ⊎_elim (λ l. inl (in_tail x z zs l)) inr (in_either x y zs k)) (in_cases x z (zs ++ y ∷ []) m)

-- numbers that rise
pub data Rising : List ℕ → Type 0 where
  rising_none : Rising []
  rising_one : {u : ℕ} {us : List ℕ} → ((v : ℕ) → T (v ∈? us) → u < v) → Rising us → Rising (u ∷ us)

-- Of units that rise: none passes a test, or the first that does is the lowest.
abbrev pub Passing : (ℕ → Bool) → List ℕ → Type 0
Passing p us =
    (((v : ℕ) → T (v ∈? us) → T (p v) → ⊥) × (take 1 (filter p us) ≡ [])) ⊎ ((u : ℕ) × (take 1 (filter p us) ≡ u ∷ []) × Lowest p us u)

pub passing : (p : ℕ → Bool) {us : List ℕ} → Rising us → Passing p us
passing p rising_none = inl (λ v m h. m, refl)
passing p (rising_one {u} {us} above rise) = go (p u) (λ h. h) (λ h. h) (passing p rise)
  where
    yes : T (p u) → (v : ℕ) → T (v ∈? (u ∷ us)) → u ≤ v
    yes h v m = ⊎_elim (λ (e : v ≡ u). omega arith) (λ k. let l : u < v = above v k in omega arith) (in_cases v u us m)

    go : (t : Bool) → (T t → T (p u)) → (T (p u) → T t) → Passing p us
        → (((v : ℕ) → T (v ∈? (u ∷ us)) → T (p v) → ⊥) × (take 1 (when t then u ∷ filter p us else filter p us) ≡ []))
        ⊎ ((x : ℕ) × (take 1 (when t then u ∷ filter p us else filter p us) ≡ x ∷ []) × Lowest p (u ∷ us) x)
    go true f g r = inr (u, refl, record { listed = in_head u u us refl; passes = f tt; least = λ v m h. yes (f tt) v m })
    go false f g (inl r) =
        inl (λ v m h. ⊎_elim (λ (e : v ≡ u). g (subst (λ (x : ℕ). T (p x)) e h)) (λ k. r.0 v k h) (in_cases v u us m), r.1)
    go false f g (inr r) =
        inr (
          r.0,
          r.1,
          record {
            listed = in_tail r.0 u us r.2.listed;
            passes = r.2.passes;
            least = λ v m h. ⊎_elim (λ (e : v ≡ u). absurd (g (subst (λ (x : ℕ). T (p x)) e h))) (λ k. r.2.least v k h) (in_cases v u us m);
          },
        )

-- all of a list pass, or one that does not
pub all_or_one : (p : ℕ → Bool) (xs : List ℕ) → T (all p xs) ⊎ ((x : ℕ) × T (x ∈? xs) × T (not (p x)))
all_or_one p [] = inl tt
all_or_one p (x ∷ xs) =
    ⊎_elim
    (λ h. ⊎_elim (λ k. inl (and_both (p x) (all p xs) h k)) (λ r. inr (r.0, in_tail r.0 x xs r.1, r.2)) (all_or_one p xs))
    (λ h. inr (x, in_head x x xs refl, h))
    (decide (p x))

pub all_member : (p : ℕ → Bool) (xs : List ℕ) → T (all p xs) → (x : ℕ) → T (x ∈? xs) → T (p x)
all_member p [] h x m = absurd m
all_member p (y ∷ ys) h x m =
    let q = T_and (p y) (all p ys) h in
    ⊎_elim (λ (e : x ≡ y). subst (λ (z : ℕ). T (p z)) (sym e) q.0) (λ k. all_member p ys q.1 x k) (in_cases x y ys m)

module _ (imports : ℕ → List ℕ) (us : List ℕ) where
  -- none of the units is ready
  abbrev pub Stuck : List ℕ → Type 0
  Stuck started = (v : ℕ) → T (v ∈? us) → T (ready imports started v) → ⊥

  -- what holds of the units that have started after any number of steps
  pub record Orderly (started : List ℕ) : Type 0 where
    pub listed : (u : ℕ) → T (u ∈? started) → T (u ∈? us)
    pub closed : Closed imports started
    pub free : (u : ℕ) → T (u ∈? started) → Chain imports u u → ⊥
    pub once : Nodup started

  pub orderly_none : Orderly []
  orderly_none = record { listed = λ u m. absurd m; closed = λ u v m e. absurd m; free = λ u m c. m; once = nodup_none }

  -- a unit that is ready is on no circle: all that it leads to has started
  module _ (started : List ℕ) (u : ℕ) (h : Orderly started) (low : Lowest (ready imports started) us u) where
    new : T (u ∈? started) → ⊥
    new m = T_not (u ∈? started) (T_and (not (u ∈? started)) (all (λ v. v ∈? started) (imports u)) low.passes).0 m

    imported : (v : ℕ) → T (v ∈? imports u) → T (v ∈? started)
    imported v e =
        all_member (λ x. x ∈? started) (imports u) (T_and (not (u ∈? started)) (all (λ x. x ∈? started) (imports u)) low.passes).1 v e

    no_circle : {v : ℕ} → Chain imports u v → T (v ∈? started)
    no_circle {v} (one e) = imported v e
    no_circle {v} (more {v = x} e c) = chain_stays imports started h.closed (imported x e) c

    pub orderly_more : Orderly (started ++ u ∷ [])
    orderly_more =
        record {
          listed = λ v m. ⊎_elim (h.listed v) (λ (e : v ≡ u). subst (λ (x : ℕ). T (x ∈? us)) (sym e) low.listed) (in_either v u started m);
          closed = λ v w m e.
              in_before w u started
              (⊎_elim (λ k. h.closed v w k e) (λ (p : v ≡ u). imported w (subst (λ (x : ℕ). T (w ∈? imports x)) p e)) (in_either v u started m));
          free = λ v m c.
              ⊎_elim (λ k. h.free v k c) (λ (p : v ≡ u). new (no_circle (subst (λ (x : ℕ). Chain imports x x) p c))) (in_either v u started m);
          once = nodup_append h.once (nodup_one (λ q. absurd (mem_test u [] q)) nodup_none)
              (λ x k q. new (subst (λ (y : ℕ). T (y ∈? started)) (same x (mem_test x (u ∷ []) q)) (mem_test x started k)));
        }
      where
        same : (x : ℕ) → T (x ∈? (u ∷ [])) → x ≡ u
        same x m = ⊎_elim (λ e. e) absurd (in_cases x u [] m)

  module _ (rise : Rising us) where
    -- one step
    next_ready : (n : ℕ) → Passing (ready imports (started_after imports us n)) us
    next_ready n = passing (ready imports (started_after imports us n)) rise

    pub orderly : (n : ℕ) → Orderly (started_after imports us n)
    orderly zero = orderly_none
    orderly (suc n) =
        let started = started_after imports us n in
        let h : Orderly started = orderly n in
        ⊎_elim (λ r. subst (λ (x : List ℕ). Orderly (started ++ x)) (sym r.1) (subst Orderly (sym (append-nil started)) h))
        (λ r. subst (λ (x : List ℕ). Orderly (started ++ x)) (sym r.1) (orderly_more started r.0 h r.2))
        (next_ready n)

    -- where none is ready, further steps start none
    pub stuck_same : (n : ℕ) → take 1 (filter (ready imports (started_after imports us n)) us) ≡ [] → started_after imports us (suc n) ≡ started_after imports us n
    stuck_same n e = ap (λ (x : List ℕ). started_after imports us n ++ x) e ∙ append-nil (started_after imports us n)

    -- each step starts one, until none is ready
    grown : (n : ℕ) → Stuck (started_after imports us n) ⊎ (length (started_after imports us n) ≡ n)
    grown zero = inr refl
    grown (suc n) =
        let started = started_after imports us n in
        ⊎_elim
        (λ r. inl (subst Stuck (sym (stuck_same n r.1)) r.0))
        (λ r.
        ⊎_elim (λ (s : Stuck started). absurd (s r.0 r.2.listed r.2.passes))
        (λ l. inr (ap (λ (x : List ℕ). length (started ++ x)) r.1 ∙ length-append started (r.0 ∷ []) ∙ omega arith))
        (grown n))
        (next_ready n)

    -- after as many steps as there are numbers below which all units lie, none is ready
    pub stuck_after : (n : ℕ) → ((u : ℕ) → T (u ∈? us) → u < n) → Stuck (started_after imports us n)
    stuck_after n below = ⊎_elim (λ r. r.0) (λ r. absurd (more_than r)) (next_ready n)
      where
        started : List ℕ
        started = started_after imports us n

        more_than : ((u : ℕ) × (take 1 (filter (ready imports started) us) ≡ u ∷ []) × Lowest (ready imports started) us u) → ⊥
        more_than r =
            let h : Orderly (started ++ r.0 ∷ []) = orderly_more started r.0 (orderly n) r.2 in
            let few : length (started ++ r.0 ∷ []) ≤ n = pigeonhole n h.once (λ x m. below x (h.listed x (mem_test x (started ++ r.0 ∷ []) m))) in
            ⊎_elim (λ (s : Stuck started). s r.0 r.2.listed r.2.passes)
            (λ (l : length started ≡ n). omega (arith, length-append started (r.0 ∷ []), few))
            (grown n)

  -- where none is ready, a unit that has not started leads into a circle
  pub stuck_circle : (started : List ℕ) → Closed imports us → Stuck started → (u : ℕ) → T (u ∈? us) → T (not (u ∈? started))
      → (v : ℕ) × T (v ∈? us) × Chain imports v v
  stuck_circle started closed stuck u m f =
      let found = comes_back imports left u (into u m f) step in
      (found.0, (out found.0 found.1).0, found.2)
    where
      left : List ℕ
      left = filter (λ v. not (v ∈? started)) us

      into : (v : ℕ) → T (v ∈? us) → T (not (v ∈? started)) → T (v ∈? left)
      into v k g = mem_test v left (mem_filter (λ x. not (x ∈? started)) v us g (test_mem v us k))

      out : (v : ℕ) → T (v ∈? left) → T (v ∈? us) × T (not (v ∈? started))
      out v k = let q = filter_mem (λ x. not (x ∈? started)) v us (test_mem v left k) in (mem_test v us q.0, q.1)

      step : (v : ℕ) → T (v ∈? left) → (w : ℕ) × T (w ∈? left) × Chain imports v w
      step v k =
          let q = out v k in
          ⊎_elim (λ h. absurd (stuck v q.0 (and_both (not (v ∈? started)) (all (λ x. x ∈? started) (imports v)) q.1 h)))
          (λ r. (r.0, into r.0 (closed v r.0 q.0 r.1) r.2, one r.1))
          (all_or_one (λ x. x ∈? started) (imports v))
