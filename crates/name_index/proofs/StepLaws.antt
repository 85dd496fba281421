-- One place more of a table is read, by the loops over places: j places from p on are passed.
use mathlib.Core.Path.{◌≡◌, sym, ap, ◌∙◌}
use mathlib.Core.Bool.{Bool, true, false}
use mathlib.Core.List.{List}
use Prim.Native.Nat.{ℕ, ◌+◌, ◌%◌, ◌<◌, ◌≤◌}
use native.Mathlib.Omega.{arith}
use lib.ListN.{length, get_or, drop}
use Rattle.definition.specs.Names.{Name, same_name}
use Rattle.names.specs.Listed.{named}
use Rattle.name_index.specs.Index.{turned, run, walk}
use Rattle.name_index.proofs.TurnLaws.{turned_length, turned_at}
use Rattle.name_index.proofs.WalkLaws.{run_out, run_free, run_full, Passed, passed_all, passed_free, passed_here, passed_on}

-- j places are full
abbrev pub Full : List ℕ → ℕ → ℕ → Type 0
Full t p j = run (turned p t) ≡ j + run (drop j (turned p t))

module _ (t : List ℕ) (p j : ℕ) (size : length t ≡ 2048) (first : p < 2048) where
  -- all places are passed
  module _ (out : 2048 ≤ j) where
    outside : length (turned p t) ≤ j
    outside = omega (arith, turned_length t p size first)

    pub full_all : Full t p j → run (turned p t) ≡ j
    full_all e = omega (arith, e, run_out (turned p t) j outside)

    pub walked_all : {l : List Name} {b : Name} → Passed l b (turned p t) j → (0 ≡ (walk l b (turned p t)).0) × (j ≡ (walk l b (turned p t)).1)
    walked_all w = passed_all w outside

  -- the next place is read
  module _ (next : j < 2048) where
    inside : j < length (turned p t)
    inside = omega (arith, turned_length t p size first)

    word : get_or (turned p t) j 0 ≡ get_or t ((p + j) % 2048) 0
    word = turned_at t p size first j next

    pub full_end : Full t p j → get_or t ((p + j) % 2048) 0 ≡ 0 → j ≡ run (turned p t)
    full_end e free = omega (arith, e, run_free (turned p t) j inside (word ∙ free))

    pub full_on : Full t p j → (get_or t ((p + j) % 2048) 0 ≡ 0 → ⊥) → Full t p (j + 1)
    full_on e f = omega (arith, e, run_full (turned p t) j inside (λ z. f (sym word ∙ z)))

    module _ {l : List Name} {b : Name} (w : Passed l b (turned p t) j) where
      pub walked_free : get_or t ((p + j) % 2048) 0 ≡ 0 → (0 ≡ (walk l b (turned p t)).0) × (j + 1 ≡ (walk l b (turned p t)).1)
      walked_free free = passed_free w inside (word ∙ free)

      -- the place is full: has its number these bytes?
      module _ (f : get_or t ((p + j) % 2048) 0 ≡ 0 → ⊥) {u : Bool} (same : u ≡ same_name b (named l (get_or t ((p + j) % 2048) 0))) where
        test : same_name b (named l (get_or (turned p t) j 0)) ≡ u
        test = ap (λ (n : ℕ). same_name b (named l n)) word ∙ sym same

        pub walked_here : u ≡ true → (get_or t ((p + j) % 2048) 0 ≡ (walk l b (turned p t)).0) × (j + 1 ≡ (walk l b (turned p t)).1)
        walked_here e = let end = passed_here w inside (λ z. f (sym word ∙ z)) (test ∙ e) in (sym word ∙ end.0, end.1)

        pub walked_on : u ≡ false → Passed l b (turned p t) (j + 1)
        walked_on e = passed_on w inside (λ z. f (sym word ∙ z)) (test ∙ e)
