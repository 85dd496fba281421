-- What finding bytes in a list that passes question 2 promises: a name is found exactly if it has a number, and under it; at most one
-- place more is read than there are names.
use mathlib.Core.Path.{◌≡◌, sym, ap, ◌∙◌, subst}
use mathlib.Core.Bool.{Bool, true, false}
use mathlib.Core.Logic.{⊎_elim}
use mathlib.Core.List.{List, [], append-nil}
use Prim.Native.Nat.{ℕ, suc, ◌+◌, ◌-◌, ◌<◌, ◌≤◌}
use native.Mathlib.Omega.{arith}
use lib.ListN.{length, get_or, take, drop, length-append}
use lib.Seq.{split_at, length-take-le, get_or-take}
use Rattle.definition.specs.Basics.{when◌then◌else◌, unlike}
use Rattle.definition.specs.Names.{Name, fixed, listed, name_count, same_name, names_fit}
use Rattle.definition.proofs.Lists.Tests.{T_true}
use Rattle.names.specs.Listed.{numbered, named}
use Rattle.names.proofs.Laws.{side}
use Rattle.names.proofs.Question.{fit_small, fit_unlike}
use Rattle.name_index.specs.Index.{index_of, searched, find}
use Rattle.name_index.proofs.IndexLaws.{Entered, entered_index, same_equal, same_itself, found_low, found_same, absent_none, places_few}
use Rattle.name_index.proofs.UnlikeLaws.{unlike_not}

-- of names that are unlike, a later one has other bytes
later_other : (l : List Name) → unlike same_name l ≡ true → (i j : ℕ) → i < j → j < length l → get_or l i [] ≡ get_or l j [] → ⊥
later_other l u i j h k e =
    let size : length (take j l) ≡ j = length-take-le j l (omega arith) in
    let same : same_name (get_or (take j l) i []) (get_or l j []) ≡ true =
    ap (λ (n : Name). same_name n (get_or l j [])) (get_or-take j l i [] h ∙ e) ∙ same_itself (get_or l j []) in
    T_true false (sym (ap (unlike same_name) (split_at l j [] k) ∙ unlike_not (take j l) (get_or l j []) (drop (suc j) l) i (omega arith) same) ∙ u)

names_apart_lem : (l : List Name) → unlike same_name l ≡ true → (i j : ℕ) → i < length l → j < length l → get_or l i [] ≡ get_or l j [] → i ≡ j
names_apart_lem l u i j h k e =
    ⊎_elim (λ (b : i < j). absurd (later_other l u i j b k e))
    (λ (b : j ≤ i). ⊎_elim (λ (d : j < i). absurd (later_other l u j i d h (sym e))) (λ (d : i ≤ j). omega arith) (side j i)) (side i j)

-- The index of any names, if they are at most 2,048.
module _ (l : List Name) (room : length l ≤ 2048) where
  entered : Entered l (length l) (index_of l)
  entered = subst (λ (m : List Name). Entered m (length l) (index_of l)) (append-nil l) (entered_index l [] room)

  -- the number found is that of a name with these bytes,
  pub search_has : (b : Name) → ((searched l (index_of l) b).0 ≡ 0 → ⊥)
      → ((searched l (index_of l) b).0 ≤ length l) × (named l (searched l (index_of l) b).0 ≡ b)
  search_has b f = (found_low entered b, sym (same_equal b (named l (searched l (index_of l) b).0) (found_same entered b f)))

  -- each of names that are unlike is found under its number,
  pub search_each : unlike same_name l ≡ true → (i : ℕ) → i < length l → (searched l (index_of l) (get_or l i [])).0 ≡ suc i
  search_each u i h =
      let b = get_or l i [] in
      let n = (searched l (index_of l) b).0 in
      let some : (n ≡ 0 → ⊥) = λ z. T_true false (sym (absent_none entered b z i h) ∙ same_itself b) in
      let has = search_has b some in
      let e : i ≡ n - 1 = names_apart_lem l u i (n - 1) h (omega (arith, has.0, some)) (sym has.1) in
      omega (arith, e, some)

  -- at most one place more is read than there are names
  pub search_places : (b : Name) → (searched l (index_of l) b).1 ≤ length l + 1
  search_places b = omega (arith, places_few entered b)

-- Finding bytes in a list of names: one that is refused,
pub find_refused : (ns : List ℕ) (b : Name) → names_fit ns ≡ false → find ns b ≡ (0, 0)
find_refused ns b e = ap (λ (u : Bool). when u then searched (numbered ns) (index_of (numbered ns)) b else (0, 0)) e

-- and one that passes question 2
module _ (ns : List ℕ) (fit : names_fit ns ≡ true) where
  count : length (numbered ns) ≡ name_count ns
  count = length-append fixed (listed ns)

  few : name_count ns ≤ 1048
  few = omega (arith, (fit_small ns fit).0)

  searching : (b : Name) → find ns b ≡ searched (numbered ns) (index_of (numbered ns)) b
  searching b = ap (λ (u : Bool). when u then searched (numbered ns) (index_of (numbered ns)) b else (0, 0)) fit

  pub find_has : (b : Name) → ((find ns b).0 ≡ 0 → ⊥) → ((find ns b).0 ≤ name_count ns) × (named (numbered ns) (find ns b).0 ≡ b)
  find_has b f =
      let e : (find ns b).0 ≡ (searched (numbered ns) (index_of (numbered ns)) b).0 = ap (λ (a : ℕ × ℕ). a.0) (searching b) in
      let has = search_has (numbered ns) (omega (arith, count, few)) b (λ z. f (e ∙ z)) in
      (omega (arith, e, has.0, count), ap (named (numbered ns)) e ∙ has.1)

  pub find_each : (i : ℕ) → i < name_count ns → (find ns (get_or (numbered ns) i [])).0 ≡ suc i
  find_each i h =
      ap (λ (a : ℕ × ℕ). a.0) (searching (get_or (numbered ns) i []))
      ∙ search_each (numbered ns) (omega (arith, count, few)) (fit_unlike ns fit) i (omega (arith, count))

  pub find_places : (b : Name) → ((find ns b).1 ≤ name_count ns + 1) × ((find ns b).1 ≤ 1049)
  find_places b =
      let e = ap (λ (a : ℕ × ℕ). a.1) (searching b) in
      let p = search_places (numbered ns) (omega (arith, count, few)) b in
      (omega (arith, e, p, count), omega (arith, e, p, count, few))
