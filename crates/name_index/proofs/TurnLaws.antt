-- The words of a table from a place on, around the end: place by place, and how many stand before a free one.
use mathlib.Core.Path.{◌≡◌, refl, sym, ap, ◌∙◌}
use mathlib.Core.Bool.{Bool}
use mathlib.Core.Logic.{⊎_elim}
use mathlib.Core.List.{List, [], ◌∷◌}
use lib.Dec.{eqb}
use Rattle.std.specs.List.{range_with_len}
use Rattle.definition.specs.Basics.{place}
use Prim.Native.Nat.{ℕ, suc, ◌+◌, ◌-◌, ◌%◌, ◌<◌, ◌≤◌}
use native.Mathlib.Omega.{arith}
use lib.ListN.{length, get_or, take, drop, length-append, length-drop, get_or-append}
use lib.Seq.{length-take-le, get_or-append-add, get_or-take, get_or-drop}
use Rattle.names.proofs.Laws.{side}
use Rattle.name_index.specs.Index.{turned, run}

-- the first of some places at which a word is free
place_places : (q : ℕ → Bool) (ws : List ℕ) (i : ℕ) → ((j : ℕ) → j < length ws → q (i + j) ≡ eqb (get_or ws j 0) 0)
    → place q (range_with_len i (length ws)) ≡ run ws
place_places q [] i f = refl
place_places q (w ∷ ws) i f =
    let z : i + 0 ≡ i = omega arith in
    rw (
      sym (ap q z) ∙ f 0 (omega arith),
      place_places q ws (i + 1) (λ j h. let s : i + 1 + j ≡ i + suc j = omega arith in ap q s ∙ f (suc j) (omega arith)),
    ) refl

module _ (t : List ℕ) (p : ℕ) (size : length t ≡ 2048) (first : p < 2048) where
  pub turned_length : length (turned p t) ≡ 2048
  turned_length = omega (arith, length-append (drop p t) (take p t), length-drop p t, length-take-le p t (omega arith))

  ahead : (j : ℕ) → p + j < 2048 → get_or (turned p t) j 0 ≡ get_or t ((p + j) % 2048) 0
  ahead j h =
      let e : p + j ≡ (p + j) % 2048 = omega arith in
      get_or-append (drop p t) (take p t) 0 j (omega (arith, length-drop p t)) ∙ get_or-drop p t j 0 ∙ ap (λ (i : ℕ). get_or t i 0) e

  around : (j : ℕ) → j < 2048 → 2048 ≤ p + j → get_or (turned p t) j 0 ≡ get_or t ((p + j) % 2048) 0
  around j l h =
      let i = p + j - 2048 in
      let e : length (drop p t) + i ≡ j = omega (arith, length-drop p t) in
      let f : i ≡ (p + j) % 2048 = omega arith in
      sym (ap (λ (k : ℕ). get_or (turned p t) k 0) e)
      ∙ get_or-append-add (drop p t) (take p t) i 0 ∙ get_or-take p t i 0 (omega arith) ∙ ap (λ (k : ℕ). get_or t k 0) f

  pub turned_at : (j : ℕ) → j < 2048 → get_or (turned p t) j 0 ≡ get_or t ((p + j) % 2048) 0
  turned_at j l = ⊎_elim (ahead j) (around j l) (side (p + j) 2048)

  -- a search of the places in turn reads as many as a run has words
  pub run_places : place (λ j. eqb (get_or t ((p + j) % 2048) 0) 0) (range_with_len 0 2048) ≡ run (turned p t)
  run_places =
      ap (λ (n : ℕ). place (λ j. eqb (get_or t ((p + j) % 2048) 0) 0) (range_with_len 0 n)) (sym turned_length)
      ∙ place_places (λ j. eqb (get_or t ((p + j) % 2048) 0) 0) (turned p t) 0
      (λ j h. let z : 0 + j ≡ j = omega arith in
      ap (λ (k : ℕ). eqb (get_or t ((p + k) % 2048) 0) 0) z ∙ ap (λ (w : ℕ). eqb w 0) (sym (turned_at j (omega (arith, turned_length)))))
