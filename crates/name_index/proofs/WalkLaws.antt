-- The walk over words, and the full places before the first free one: step by step for the loops, and what a walk finds.
use mathlib.Core.Path.{◌≡◌, refl, sym, ap, ◌∙◌}
use mathlib.Core.Bool.{Bool, true, false, not}
use mathlib.Core.List.{List, [], ◌∷◌}
use Prim.Native.Nat.{ℕ, zero, suc, ◌+◌, ◌<◌, ◌≤◌}
use native.Mathlib.Omega.{arith}
use borrow.Author.Tests.{eq-eqb, ne_eqb, eqb-true, eqb-false}
use lib.Dec.{eqb}
use lib.ListN.{length, get_or, drop, drop_of_length-le}
use Rattle.definition.specs.Basics.{when◌then◌else◌, count, bit}
use Rattle.definition.specs.Names.{Name, same_name}
use Rattle.definition.proofs.Lists.Tests.{T_true}
use Rattle.names.specs.Listed.{named}
use Rattle.names.proofs.Laws.{drop_step}
use Rattle.name_index.specs.Index.{run, further, walk}

-- The words from place j on.
module _ (ws : List ℕ) (j : ℕ) where
  pub run_out : length ws ≤ j → run (drop j ws) ≡ 0
  run_out h = ap run (drop_of_length-le ws h)

  module _ (inside : j < length ws) where
    run_step : run (drop j ws) ≡ (when eqb (get_or ws j 0) 0 then 0 else suc (run (drop (j + 1) ws)))
    run_step = ap run (drop_step ws j 0 inside)

    pub run_free : get_or ws j 0 ≡ 0 → run (drop j ws) ≡ 0
    run_free e = run_step ∙ ap (λ (t : Bool). when t then 0 else suc (run (drop (j + 1) ws))) (eq-eqb _ _ e)

    pub run_full : (get_or ws j 0 ≡ 0 → ⊥) → run (drop j ws) ≡ suc (run (drop (j + 1) ws))
    run_full f = run_step ∙ ap (λ (t : Bool). when t then 0 else suc (run (drop (j + 1) ws))) (ne_eqb _ _ f)

  module _ (l : List Name) (b : Name) where
    pub walk_out : length ws ≤ j → walk l b (drop j ws) ≡ (0, 0)
    walk_out h = ap (walk l b) (drop_of_length-le ws h)

    module _ (inside : j < length ws) where
      walk_step : walk l b (drop j ws)
          ≡ (when eqb (get_or ws j 0) 0 then (0, 1) else when same_name b (named l (get_or ws j 0)) then (get_or ws j 0, 1) else further (walk l b (drop (j + 1) ws)))
      walk_step = ap (walk l b) (drop_step ws j 0 inside)

      pub walk_free : get_or ws j 0 ≡ 0 → walk l b (drop j ws) ≡ (0, 1)
      walk_free e = walk_step ∙ rw (eq-eqb (get_or ws j 0) 0 e)

      pub walk_here : (get_or ws j 0 ≡ 0 → ⊥) → same_name b (named l (get_or ws j 0)) ≡ true → walk l b (drop j ws) ≡ (get_or ws j 0, 1)
      walk_here f e = walk_step ∙ rw (ne_eqb (get_or ws j 0) 0 f, e)

      pub walk_on : (get_or ws j 0 ≡ 0 → ⊥) → same_name b (named l (get_or ws j 0)) ≡ false → walk l b (drop j ws) ≡ further (walk l b (drop (j + 1) ws))
      walk_on f e = walk_step ∙ rw (ne_eqb (get_or ws j 0) 0 f, e)

-- a walk has passed j places: what is left is the walk from place j on
pub record Passed (l : List Name) (b : Name) (ws : List ℕ) (j : ℕ) : Type 0 where
  pub number : (walk l b ws).0 ≡ (walk l b (drop j ws)).0
  pub places : (walk l b ws).1 ≡ j + (walk l b (drop j ws)).1

pub passed_none : (l : List Name) (b : Name) (ws : List ℕ) → Passed l b ws 0
passed_none l b ws = record { number = refl; places = omega arith }

-- and ends, or goes on
module _ {l : List Name} {b : Name} {ws : List ℕ} {j : ℕ} (before : Passed l b ws j) where
  ended : {n k : ℕ} → walk l b (drop j ws) ≡ (n, k) → (n ≡ (walk l b ws).0) × (j + k ≡ (walk l b ws).1)
  ended e =
      (sym (before.number ∙ ap (λ (a : ℕ × ℕ). a.0) e), sym (before.places ∙ ap (λ (a : ℕ × ℕ). j + a.1) e))

  pub passed_all : length ws ≤ j → (0 ≡ (walk l b ws).0) × (j ≡ (walk l b ws).1)
  passed_all h = let e = ended (walk_out ws j l b h) in (e.0, omega (arith, e.1))

  pub passed_free : j < length ws → get_or ws j 0 ≡ 0 → (0 ≡ (walk l b ws).0) × (j + 1 ≡ (walk l b ws).1)
  passed_free h e = ended (walk_free ws j l b h e)

  pub passed_here : j < length ws → (get_or ws j 0 ≡ 0 → ⊥) → same_name b (named l (get_or ws j 0)) ≡ true
      → (get_or ws j 0 ≡ (walk l b ws).0) × (j + 1 ≡ (walk l b ws).1)
  passed_here h f e = ended (walk_here ws j l b h f e)

  pub passed_on : j < length ws → (get_or ws j 0 ≡ 0 → ⊥) → same_name b (named l (get_or ws j 0)) ≡ false → Passed l b ws (j + 1)
  passed_on h f e =
      let s = walk_on ws j l b h f e in
      record {
        number = before.number ∙ ap (λ (a : ℕ × ℕ). a.0) s;
        places = omega (arith, before.places, ap (λ (a : ℕ × ℕ). a.1) s);
      }

-- The first free word ends a run; before it all words are full.
pub run_ends : (ws : List ℕ) → get_or ws (run ws) 0 ≡ 0
run_ends [] = refl
run_ends (w ∷ ws) = go (eqb w 0) (eqb-true w 0) (run_ends ws)
  where
    go : (t : Bool) → (t ≡ true → w ≡ 0) → get_or ws (run ws) 0 ≡ 0 → get_or (w ∷ ws) (when t then 0 else suc (run ws)) 0 ≡ 0
    go true e rest = e refl
    go false e rest = rest

pub run_before : (ws : List ℕ) (m : ℕ) → m < run ws → get_or ws m 0 ≡ 0 → ⊥
run_before [] m h e = absurd (omega arith)
run_before (w ∷ ws) zero h e = absurd (first (eqb w 0) (eq-eqb w 0 e) h)
  where
    first : (t : Bool) → t ≡ true → 0 < (when t then 0 else suc (run ws)) → ⊥
    first true e h = absurd (omega arith)
    first false e h = T_true false e
run_before (w ∷ ws) (suc m) h e = run_before ws m (later (eqb w 0) h) e
  where
    later : (t : Bool) → suc m < (when t then 0 else suc (run ws)) → m < run ws
    later true h = absurd (omega arith)
    later false h = omega arith

-- how many places are full
abbrev pub full : List ℕ → ℕ
full = count (λ w. not (eqb w 0))

pub run_full_places : (ws : List ℕ) → run ws ≤ full ws
run_full_places [] = omega arith
run_full_places (w ∷ ws) = go (eqb w 0) (run_full_places ws)
  where
    go : (t : Bool) → run ws ≤ full ws → (when t then 0 else suc (run ws)) ≤ bit (not t) + full ws
    go true h = omega arith
    go false h = omega arith

-- What a walk finds.
module _ (l : List Name) (b : Name) where
  -- a walk that starts with word w: nothing, w, or what the rest finds
  by_word : (P : ℕ × ℕ → Type 0) (w : ℕ) (ws : List ℕ) → (w ≡ 0 → P (0, 1)) → ((w ≡ 0 → ⊥) → same_name b (named l w) ≡ true → P (w, 1))
      → (same_name b (named l w) ≡ false → P (further (walk l b ws))) → P (walk l b (w ∷ ws))
  by_word P w ws none here on = go (eqb w 0) (same_name b (named l w)) (eqb-true w 0) (eqb-false w 0) here on
    where
      go : (t u : Bool) → (t ≡ true → w ≡ 0) → (t ≡ false → w ≡ 0 → ⊥) → ((w ≡ 0 → ⊥) → u ≡ true → P (w, 1))
          → (u ≡ false → P (further (walk l b ws))) → P (when t then (0, 1) else when u then (w, 1) else further (walk l b ws))
      go true u e f p q = none (e refl)
      go false true e f p q = p (f refl) refl
      go false false e f p q = q refl

  -- a number that it finds has these bytes,
  pub walk_same : (ws : List ℕ) → ((walk l b ws).0 ≡ 0 → ⊥) → same_name b (named l (walk l b ws).0) ≡ true
  walk_same [] = λ f. absurd (f refl)
  walk_same (w ∷ ws) =
      by_word (λ a. (a.0 ≡ 0 → ⊥) → same_name b (named l a.0) ≡ true) w ws (λ z f. absurd (f refl)) (λ f e g. e) (λ e. walk_same ws)

  -- and is one of the words
  pub walk_low : (k : ℕ) (ws : List ℕ) → ((j : ℕ) → get_or ws j 0 ≤ k) → (walk l b ws).0 ≤ k
  walk_low k [] h = omega arith
  walk_low k (w ∷ ws) h = by_word (λ a. a.0 ≤ k) w ws (λ z. omega arith) (λ f e. h 0) (λ e. walk_low k ws (λ j. h (suc j)))

  -- a number with these bytes, with full places alone before it, is not passed over
  pub walk_finds : (ws : List ℕ) (j : ℕ) → j < length ws → (get_or ws j 0 ≡ 0 → ⊥) → same_name b (named l (get_or ws j 0)) ≡ true
      → ((m : ℕ) → m < j → get_or ws m 0 ≡ 0 → ⊥) → (walk l b ws).0 ≡ 0 → ⊥
  walk_finds [] j h f e before = absurd (omega arith)
  walk_finds (w ∷ ws) zero h f e before =
      by_word (λ a. a.0 ≡ 0 → ⊥) w ws (λ z. absurd (f z)) (λ g u. g) (λ u. absurd (T_true false (sym u ∙ e)))
  walk_finds (w ∷ ws) (suc j) h f e before =
      by_word (λ a. a.0 ≡ 0 → ⊥) w ws (λ z. absurd (before 0 (omega arith) z)) (λ g u. g)
      (λ u. walk_finds ws j (omega arith) f e (λ m h. before (suc m) (omega arith)))

  -- and no place is read past the first free one
  pub walk_places : (ws : List ℕ) → (walk l b ws).1 ≤ suc (run ws)
  walk_places [] = omega arith
  walk_places (w ∷ ws) = go (eqb w 0) (same_name b (named l w)) (walk_places ws)
    where
      go : (t u : Bool) → (walk l b ws).1 ≤ suc (run ws)
          → (when t then (0, 1) else when u then (w, 1) else further (walk l b ws)).1 ≤ suc (when t then 0 else suc (run ws))
      go true u h = omega arith
      go false true h = omega arith
      go false false h = omega arith
