-- Chains of imports: joined, found by `leads`, and coming back where every unit of a list leads to one of it.
use mathlib.Core.Path.{◌≡◌, refl, subst}
use mathlib.Core.Logic.{⊎_elim}
use mathlib.Core.Bool.{◌&&◌}
use mathlib.Core.List.{List, [], ◌∷◌}
use Prim.Native.Nat.{ℕ}
use lib.Dec.{T}
use Rattle.definition.specs.Basics.{◌∈?◌}
use Rattle.definition.proofs.Lists.Tests.{T_and, and_both, or_cases, or_left, or_right}
use Rattle.definition.proofs.Lists.Counts.{in_head, in_tail, in_cases}
use Rattle.unit_order.specs.Imports.{Chain, one, more, leads}

-- what a unit of the list imports is of the list
abbrev pub Closed : (ℕ → List ℕ) → List ℕ → Type 0
Closed imports xs = (u v : ℕ) → T (u ∈? xs) → T (v ∈? imports u) → T (v ∈? xs)

-- from each unit of the list a chain leads to one of the list
abbrev pub Leading : (ℕ → List ℕ) → List ℕ → Type 0
Leading imports xs = (u : ℕ) → T (u ∈? xs) → (v : ℕ) × T (v ∈? xs) × Chain imports u v

module _ (imports : ℕ → List ℕ) where
  pub joined : {u v w : ℕ} → Chain imports u v → Chain imports v w → Chain imports u w
  joined (one e) d = more e d
  joined (more e c) d = more e (joined c d)

  -- a chain from a unit of a closed list ends in it
  pub chain_stays : (xs : List ℕ) → Closed imports xs → {u v : ℕ} → T (u ∈? xs) → Chain imports u v → T (v ∈? xs)
  chain_stays xs closed {u} {v} m (one e) = closed u v m e
  chain_stays xs closed {u} {v} m (more {v = x} e c) = chain_stays xs closed (closed u x m e) c

  -- `leads` finds chains alone
  pub leads_chain : (ws : List ℕ) (u v : ℕ) → T (leads imports ws u v) → Chain imports u v
  leads_chain [] u v h = one h
  leads_chain (w ∷ ws) u v h =
      ⊎_elim (leads_chain ws u v)
      (λ b. let q = T_and (leads imports ws u w) (leads imports ws w v) b in joined (leads_chain ws u w q.0) (leads_chain ws w v q.1))
      (or_cases (leads imports ws u v) (leads imports ws u w && leads imports ws w v) h)

  import_leads : (ws : List ℕ) (u v : ℕ) → T (v ∈? imports u) → T (leads imports ws u v)
  import_leads [] u v e = e
  import_leads (w ∷ ws) u v e = or_left (leads imports ws u v) (leads imports ws u w && leads imports ws w v) (import_leads ws u v e)

  -- what leads on from w, with w listed too, leads on without it
  leads_from : (w : ℕ) (ws : List ℕ) (v : ℕ) → T (leads imports (w ∷ ws) w v) → T (leads imports ws w v)
  leads_from w ws v h =
      ⊎_elim (λ b. b) (λ b. (T_and (leads imports ws w w) (leads imports ws w v) b).1)
      (or_cases (leads imports ws w v) (leads imports ws w w && leads imports ws w v) h)

  -- one import more, to a unit that is listed
  longer : (ws : List ℕ) (u x v : ℕ) → T (x ∈? imports u) → T (x ∈? ws) → T (leads imports ws x v) → T (leads imports ws u v)
  longer [] u x v e m h = absurd m
  longer (w ∷ ws) u x v e m h =
      ⊎_elim
      (λ (p : x ≡ w).
      or_right (leads imports ws u v) (leads imports ws u w && leads imports ws w v)
      (and_both (leads imports ws u w) (leads imports ws w v) (import_leads ws u w (subst (λ (y : ℕ). T (y ∈? imports u)) p e))
      (leads_from w ws v (subst (λ (y : ℕ). T (leads imports (w ∷ ws) y v)) p h))))
      (λ k.
      ⊎_elim (λ b. or_left (leads imports ws u v) (leads imports ws u w && leads imports ws w v) (longer ws u x v e k b))
      (λ b.
      let q = T_and (leads imports ws x w) (leads imports ws w v) b in
      or_right (leads imports ws u v) (leads imports ws u w && leads imports ws w v)
      (and_both (leads imports ws u w) (leads imports ws w v) (longer ws u x w e k q.0) q.1))
      (or_cases (leads imports ws x v) (leads imports ws x w && leads imports ws w v) h))
      (in_cases x w ws m)

  -- and it finds every chain from a unit of a closed list
  pub chain_leads : (ws : List ℕ) → Closed imports ws → {u v : ℕ} → T (u ∈? ws) → Chain imports u v → T (leads imports ws u v)
  chain_leads ws closed {u} {v} m (one e) = import_leads ws u v e
  chain_leads ws closed {u} {v} m (more {v = x} e c) = longer ws u x v e (closed u x m e) (chain_leads ws closed (closed u x m e) c)

  -- a list without its first unit r is still leading, where r leads to one of the others: go around r
  around : (r : ℕ) (rs : List ℕ) (z : ℕ) → T (z ∈? rs) → Chain imports r z → Leading imports (r ∷ rs) → Leading imports rs
  around r rs z m c step u k =
      let q = step u (in_tail u r rs k) in
      ⊎_elim (λ (e : q.0 ≡ r). (z, m, joined (subst (Chain imports u) e q.2) c)) (λ l. (q.0, l, q.2)) (in_cases q.0 r rs q.1)

  -- in a leading list that is not empty some chain comes back
  pub comes_back : (rs : List ℕ) (x : ℕ) → T (x ∈? rs) → Leading imports rs → (u : ℕ) × T (u ∈? rs) × Chain imports u u
  comes_back [] x m step = absurd m
  comes_back (r ∷ rs) x m step =
      let q = step r (in_head r r rs refl) in
      ⊎_elim (λ (e : q.0 ≡ r). (r, in_head r r rs refl, subst (Chain imports r) e q.2))
      (λ k.
      let found = comes_back rs q.0 k (around r rs q.0 k q.2 step) in
      (found.0, in_tail found.0 r rs found.1, found.2))
      (in_cases q.0 r rs q.1)
