-- Chains of imports, and the order in which units start. Units are numbers, and `imports u` lists those that unit u imports.
use Rattle.std.specs.Prelude.{Bool, not, ◌&&◌, ◌||◌, List, [], ◌∷◌, ◌++◌, ℕ, zero, suc, ◌≤◌, T, take}
use Rattle.definition.specs.Basics.{filter, all, ◌∈?◌}

-- a chain of one or more imports, from a unit to one that it leads to
pub data Chain (imports : ℕ → List ℕ) : ℕ → ℕ → Type 0 where
  one : {u v : ℕ} → T (v ∈? imports u) → Chain imports u v
  more : {u v w : ℕ} → T (v ∈? imports u) → Chain imports v w → Chain imports u w

module _ (imports : ℕ → List ℕ) where
  -- does a chain lead from u to v that passes between them no units but those listed? With one listed more: a chain that does not pass it, or one to it
  -- and one from it
  abbrev pub leads : List ℕ → ℕ → ℕ → Bool
  leads [] u v = v ∈? imports u
  leads (w ∷ ws) u v = leads ws u v || leads ws u w && leads ws w v

  -- is u ready, where the units `started` have started? It has not started, and all that it imports have
  abbrev pub ready : List ℕ → ℕ → Bool
  ready started u = not (u ∈? started) && all (λ v. v ∈? started) (imports u)

  -- among the units us, listed in rising order: is u on a circle, does some chain of imports come back to it?
  module _ (us : List ℕ) where
    abbrev pub on_circle : ℕ → Bool
    on_circle u = leads us u u

    -- the units that have started after n steps: each step starts the lowest of those ready, if there is one
    abbrev pub started_after : ℕ → List ℕ
    started_after zero = []
    started_after (suc n) = started_after n ++ take 1 (filter (ready (started_after n)) us)

-- u is the lowest of the units us that pass a test
pub record Lowest (test : ℕ → Bool) (us : List ℕ) (u : ℕ) : Type 0 where
  pub listed : T (u ∈? us)
  pub passes : T (test u)
  pub least : (v : ℕ) → T (v ∈? us) → T (test v) → u ≤ v

-- Where the units `started` have started, the order of the units us goes on with a list: with the lowest of all that are ready, and then as it goes on
-- after that one; it ends where every unit has started. `OrderFrom imports us [] xs` says that xs is the order.
pub data OrderFrom (imports : ℕ → List ℕ) (us : List ℕ) : List ℕ → List ℕ → Type 0 where
  ends : {started : List ℕ} → ((u : ℕ) → T (u ∈? us) → T (u ∈? started)) → OrderFrom imports us started []
  next : {started xs : List ℕ} {u : ℕ} → Lowest (ready imports started) us u → OrderFrom imports us (started ++ u ∷ []) xs
      → OrderFrom imports us started (u ∷ xs)
