-- Ranks that spare a search, and the lowest unit on a circle, row by row.
use mathlib.Core.Path.{◌≡◌, refl, sym, ap, ◌∙◌, subst}
use mathlib.Core.Logic.{◌⊎◌, inl, inr, ⊎_elim}
use mathlib.Core.Bool.{Bool, true, false, cond, ◌&&◌}
use mathlib.Core.List.{List, [], ◌∷◌, map}
use Prim.Native.Nat.{ℕ, suc, ◌+◌, ◌-◌, ◌<◌, ◌≤◌}
use native.Mathlib.Omega.{arith}
use native.Mathlib.Numerals.{add-one}
use lib.Dec.{T}
use lib.ListN.{get_or}
use Rattle.std.specs.Prelude.{Option, Some, None}
use Rattle.std.specs.Option.{unwrap_or}
use Rattle.std.specs.List.{find}
use Rattle.definition.specs.Basics.{when◌then◌else◌, filter, first, from, ◌∈?◌}
use Rattle.definition.specs.Kind.{UNIT, IMPORT}
use Rattle.definition.specs.Sheet.{Sheet, a, rows, is, kids_of}
use Rattle.definition.proofs.Lists.Counts.{in_cases}
use Rattle.unit_order.specs.Imports.{Chain, one, more}
use Rattle.unit_order.specs.Order.{units, imports_of, circles}
use Rattle.unit_order.proofs.SheetLaws.{unit_row_lem}
use Rattle.start_units.specs.Starting.{Importing}
use Rattle.start_units.proofs.ReadyLaws.{same_or}
use Rattle.import_circle.specs.Search.{Falling}
use Rattle.import_circle.proofs.SearchLaws.{circles_not}

-- The loop over the imports of unit u has those of rows ks left: no other has a rank above x.
abbrev pub Ranked : Sheet → ℕ → List ℕ → List ℕ → ℕ → Type 0
Ranked s u ranks ks x = (v : ℕ) → T (v ∈? imports_of s u) → (get_or ranks v 0 ≤ x) ⊎ T (v ∈? map (a s) ks)

pub ranked_start : (s : Sheet) (u : ℕ) (ranks : List ℕ) {ks : List ℕ} → ks ≡ kids_of s IMPORT u → Ranked s u ranks ks 0
unfolding imports_of
ranked_start s u ranks e v m = inr (subst (λ (l : List ℕ). T (v ∈? map (a s) l)) (sym e) m)

pub ranked_more : (s : Sheet) (u : ℕ) (ranks : List ℕ) (x : ℕ) {ks js : List ℕ} {k y : ℕ} → Ranked s u ranks ks x → ks ≡ k ∷ js → x ≤ y → get_or ranks (a s k) 0 ≤ y
    → Ranked s u ranks js y
ranked_more s u ranks x {js = js} {k = k} h e up here v m =
    ⊎_elim (λ b. inl (omega (arith, b)))
    (λ g.
    ⊎_elim (λ (q : v ≡ a s k). inl (rw q here)) inr
    (in_cases v (a s k) (map (a s) js) (subst (λ (l : List ℕ). T (v ∈? map (a s) l)) e g)))
    (h v m)

pub ranked_end : (s : Sheet) (u : ℕ) (ranks : List ℕ) (x : ℕ) {ks : List ℕ} → Ranked s u ranks ks x → ks ≡ [] → (v : ℕ) → T (v ∈? imports_of s u) → get_or ranks v 0 ≤ x
ranked_end s u ranks x h e v m = ⊎_elim (λ b. b) (λ g. absurd (subst (λ (l : List ℕ). T (v ∈? map (a s) l)) e g)) (h v m)

-- Ranks fall along the imports of all units below row n.
abbrev pub Fallen : Sheet → List ℕ → ℕ → Type 0
Fallen s ranks n = (u v : ℕ) → u < n → T (u ∈? units s) → T (v ∈? imports_of s u) → get_or ranks v 0 ≤ get_or ranks u 0

pub fallen_more : (s ranks : List ℕ) (n : ℕ) → Fallen s ranks n → {x y : ℕ} → y ≡ get_or ranks n 0 → ((v : ℕ) → T (v ∈? imports_of s n) → get_or ranks v 0 ≤ x)
    → x ≤ y → Fallen s ranks (n + 1)
fallen_more s ranks n h at most l u v b m e =
    ⊎_elim (λ (q : u ≡ n). rw q (omega (arith, at, most v (subst (λ (i : ℕ). T (v ∈? imports_of s i)) q e)))) (λ f. h u v (omega arith) m e) (same_or u n)

pub fallen_all : (s ranks : List ℕ) (n : ℕ) → Fallen s ranks n → rows s ≤ n → Falling s ranks
fallen_all s ranks n h l = record { falls = λ u v m e. h u v (omega (arith, (unit_row_lem s u m).0)) m e }

-- Where ranks fall, a unit all of whose imports have lower ranks is on no circle.
module _ (s : Sheet) (ok : Importing s) (ranks : List ℕ) (h : Falling s ranks) where
  chain_falls : {u v : ℕ} → T (u ∈? units s) → Chain (imports_of s) u v → get_or ranks v 0 ≤ get_or ranks u 0
  chain_falls {u} {v} m (one e) = h.falls u v m e
  chain_falls {u} {v} m (more {v = x} e c) = omega (arith, chain_falls (ok.closed u x m e) c, h.falls u x m e)

  pub no_search : (u : ℕ) → T (u ∈? units s) → {x y : ℕ} → y ≡ get_or ranks u 0 → ((v : ℕ) → T (v ∈? imports_of s u) → get_or ranks v 0 ≤ x) → x < y → circles s u ≡ false
  no_search u m {x} {y} at most l = circles_not s ok u off
    where
      off : Chain (imports_of s) u u → ⊥
      off (one e) = omega (arith, at, most u e)
      off (more {v = v} e c) = omega (arith, at, most v e, chain_falls (ok.closed u v m e) c)

-- A row as the routine tells it: no unit, or a unit.
pub row_other : (s : Sheet) (u : ℕ) → is s UNIT u ≡ false → false ≡ (is s UNIT u && circles s u)
row_other s u f = sym (ap (λ (t : Bool). t && circles s u) f)

pub row_circles : (s : Sheet) (u : ℕ) → is s UNIT u ≡ true → {x : Bool} → x ≡ circles s u → x ≡ (is s UNIT u && circles s u)
row_circles s u e told = told ∙ sym (ap (λ (t : Bool). t && circles s u) e)

-- The lowest unit on a circle from row u on.
abbrev pub lowest_from : Sheet → ℕ → Option ℕ
lowest_from s u = find (circles s) (filter (is s UNIT) (from u (rows s - u)))

pub lowest_start : (s : Sheet) → lowest_from s 0 ≡ find (circles s) (units s)
unfolding units
lowest_start s = let e : rows s - 0 ≡ rows s = omega arith in ap (λ (n : ℕ). find (circles s) (filter (is s UNIT) (from 0 n))) e

module _ (s : Sheet) (u : ℕ) (l : u < rows s) where
  lowest_step : lowest_from s u ≡ (when is s UNIT u && circles s u then Some u else lowest_from s (u + 1))
  lowest_step =
      let e : rows s - u ≡ suc (rows s - (u + 1)) = omega arith in
      ap (λ (n : ℕ). find (circles s) (filter (is s UNIT) (from u n))) e
      ∙ ap (λ (i : ℕ). find (circles s) (filter (is s UNIT) (u ∷ from i (rows s - (u + 1))))) (sym (add-one u)) ∙ go (is s UNIT u)
    where
      later : List ℕ
      later = filter (is s UNIT) (from (u + 1) (rows s - (u + 1)))

      go : (t : Bool) → find (circles s) (when t then u ∷ later else later) ≡ (when t && circles s u then Some u else find (circles s) later)
      go true = here (circles s u)
        where
          here : (x : Bool) → cond x (Some u) (find (circles s) later) ≡ (when x then Some u else find (circles s) later)
          here true = refl
          here false = refl
      go false = refl

  pub lowest_here : {x : Bool} {r : Option ℕ} → x ≡ (is s UNIT u && circles s u) → x ≡ true → lowest_from s u ≡ r → Some u ≡ r
  lowest_here told e h = sym (lowest_step ∙ ap (λ (t : Bool). when t then Some u else lowest_from s (u + 1)) (sym told ∙ e)) ∙ h

  pub lowest_more : {x : Bool} {r : Option ℕ} → x ≡ (is s UNIT u && circles s u) → x ≡ false → lowest_from s u ≡ r → lowest_from s (u + 1) ≡ r
  lowest_more told e h = sym (lowest_step ∙ ap (λ (t : Bool). when t then Some u else lowest_from s (u + 1)) (sym told ∙ e)) ∙ h

pub lowest_none : (s : Sheet) (u : ℕ) (r : Option ℕ) → rows s ≤ u → lowest_from s u ≡ r → None ≡ r
lowest_none s u r l h = let e : rows s - u ≡ 0 = omega arith in sym (ap (λ (n : ℕ). find (circles s) (filter (is s UNIT) (from u n))) e) ∙ h

-- the row of what is found, or 0
pub row_found : (p : ℕ → Bool) (l : List ℕ) → unwrap_or (find p l) 0 ≡ first p 0 l
row_found p [] = refl
row_found p (x ∷ xs) = go (p x) (row_found p xs)
  where
    go : (t : Bool) → unwrap_or (find p xs) 0 ≡ first p 0 xs → unwrap_or (cond t (Some x) (find p xs)) 0 ≡ (when t then x else first p 0 xs)
    go true e = refl
    go false e = e
