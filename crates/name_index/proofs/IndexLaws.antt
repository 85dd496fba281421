-- A table of names: entering a further name keeps what it holds. A search in it finds a name exactly if it was entered,
-- and reads at most one place more than there are names.
use mathlib.Core.Path.{◌≡◌, refl, sym, ap, ◌∙◌, subst}
use mathlib.Core.Bool.{Bool, true, false, not, ◌&&◌}
use mathlib.Core.Logic.{⊎_elim}
use mathlib.Core.List.{List, [], ◌∷◌, ◌++◌}
use Prim.Native.Nat.{ℕ, zero, suc, ◌+◌, ◌-◌, ◌%◌, ◌<◌, ◌≤◌}
use native.Mathlib.Omega.{arith}
use borrow.Author.Tests.{eq-eqb, eqb-true}
use lib.Dec.{eqb}
use lib.ListN.{length, get_or, take, drop, set, replicate, length-set, length-replicate, take-append-drop, get_or-append, get_or-eq_default}
use lib.Seq.{get_or-set_same, get_or-set_other}
use Rattle.definition.specs.Names.{Name, same_name}
use Rattle.definition.proofs.Lists.Tests.{T_true, bit_le}
use Rattle.definition.proofs.Lists.Members.{count_append}
use Rattle.names.specs.Listed.{named}
use Rattle.names.proofs.Laws.{side}
use Rattle.name_index.specs.Index.{place_of, turned, run, enter, enter_all, index_of, searched}
use Rattle.name_index.proofs.TurnLaws.{turned_length, turned_at}
use Rattle.name_index.proofs.WalkLaws.{full, run_ends, run_before, run_full_places, walk_same, walk_low, walk_finds, walk_places}

-- Names with the same bytes are equal.
pub same_equal : (a b : Name) → same_name a b ≡ true → a ≡ b
same_equal [] [] e = refl
same_equal [] (y ∷ b) e = absurd (T_true false e)
same_equal (x ∷ a) [] e = absurd (T_true false e)
same_equal (x ∷ a) (y ∷ b) e = go (eqb x y) (eqb-true x y) (same_equal a b) e
  where
    go : (t : Bool) → (t ≡ true → x ≡ y) → (same_name a b ≡ true → a ≡ b) → (t && same_name a b) ≡ true → x ∷ a ≡ y ∷ b
    go true p q e = ap (λ (z : ℕ). z ∷ a) (p refl) ∙ ap (λ (n : Name). y ∷ n) (q e)
    go false p q e = absurd (T_true false e)

pub same_itself : (a : Name) → same_name a a ≡ true
same_itself [] = refl
same_itself (x ∷ a) = ap (λ (t : Bool). t && same_name a a) (eq-eqb x x refl) ∙ same_itself a

-- Full places.
full_set : (t : List ℕ) (q n : ℕ) → full (set t q n) ≤ suc (full t)
full_set [] q n = omega arith
full_set (w ∷ t) zero n = omega (arith, bit_le (not (eqb n 0)))
full_set (w ∷ t) (suc q) n = omega (arith, full_set t q n)

full_turned : (p : ℕ) (t : List ℕ) → full (turned p t) ≡ full t
full_turned p t =
    omega (
      arith,
      count_append (λ w. not (eqb w 0)) (drop p t) (take p t),
      count_append (λ w. not (eqb w 0)) (take p t) (drop p t),
      ap full (take-append-drop p t),
    )

full_none : (n : ℕ) → full (replicate n 0) ≡ 0
full_none zero = refl
full_none (suc n) = omega (arith, full_none n)

-- Words up to k.
low_none : (n j : ℕ) → get_or (replicate n 0) j 0 ≤ 0
low_none zero j = omega arith
low_none (suc n) zero = omega arith
low_none (suc n) (suc j) = low_none n j

low_set : (k : ℕ) (t : List ℕ) (q v : ℕ) → v ≤ k → ((j : ℕ) → get_or t j 0 ≤ k) → (j : ℕ) → get_or (set t q v) j 0 ≤ k
low_set k [] q v h low j = low j
low_set k (w ∷ t) zero v h low zero = h
low_set k (w ∷ t) zero v h low (suc j) = low (suc j)
low_set k (w ∷ t) (suc q) v h low zero = low 0
low_set k (w ∷ t) (suc q) v h low (suc j) = low_set k t q v h (λ i. low (suc i)) j

low_turned : (k : ℕ) (t : List ℕ) (p : ℕ) → length t ≡ 2048 → p < 2048 → ((j : ℕ) → get_or t j 0 ≤ k) → (j : ℕ) → get_or (turned p t) j 0 ≤ k
low_turned k t p size first low j =
    ⊎_elim (λ h. subst (λ (n : ℕ). n ≤ k) (sym (turned_at t p size first j h)) (low ((p + j) % 2048)))
    (λ h. subst (λ (n : ℕ). n ≤ k) (sym (get_or-eq_default (turned p t) 0 (omega (arith, turned_length t p size first)))) (omega arith))
    (side j 2048)

-- number n stands in a walk from place p on before every free place
pub record Reached (t : List ℕ) (p n : ℕ) : Type 0 where
  pub at : ℕ
  pub inside : at < 2048
  pub here : get_or t ((p + at) % 2048) 0 ≡ n
  pub before : (m : ℕ) → m < at → get_or t ((p + m) % 2048) 0 ≡ 0 → ⊥

-- a number v is stored at a free place q
module _ (t : List ℕ) (q v : ℕ) (free : get_or t q 0 ≡ 0) where
  stays : (i : ℕ) → (get_or t i 0 ≡ 0 → ⊥) → get_or (set t q v) i 0 ≡ get_or t i 0
  stays i f = get_or-set_other t q i v 0 (λ e. f (ap (λ (k : ℕ). get_or t k 0) e ∙ free))

  still_full : (i : ℕ) → (get_or t i 0 ≡ 0 → ⊥) → get_or (set t q v) i 0 ≡ 0 → ⊥
  still_full i f e = f (sym (stays i f) ∙ e)

  reached_still : (p n : ℕ) → (n ≡ 0 → ⊥) → Reached t p n → Reached (set t q v) p n
  reached_still p n f r =
      record {
        at = r.at;
        inside = r.inside;
        here = stays ((p + r.at) % 2048) (λ e. f (sym r.here ∙ e)) ∙ r.here;
        before = λ m h. still_full ((p + m) % 2048) (r.before m h);
      }

-- the first k of the names l are entered in the table t: no other numbers stand there, at most k places are full, and each name's walk
-- reaches its number
pub record Entered (l : List Name) (k : ℕ) (t : List ℕ) : Type 0 where
  pub size : length t ≡ 2048
  pub low : (j : ℕ) → get_or t j 0 ≤ k
  pub few : full t ≤ k
  pub reached : (i : ℕ) → i < k → Reached t (place_of (get_or l i [])) (suc i)

first_inside : (b : Name) → place_of b < 2048
first_inside b = omega arith

pub entered_none : (l : List Name) → Entered l 0 (replicate 2048 0)
entered_none l =
    record {
      size = length-replicate {A = ℕ} 2048 0;
      low = low_none 2048;
      few = omega (arith, full_none 2048);
      reached = λ i h. absurd (omega arith);
    }

module _ {l : List Name} {k : ℕ} {t : List ℕ} (e : Entered l k t) where
  -- at most as many places are full before the first free one as names are entered,
  pub run_few : (p : ℕ) → run (turned p t) ≤ k
  run_few p = omega (arith, run_full_places (turned p t), full_turned p t, e.few)

  -- so there is a free place, and a further name can be entered at the first
  module _ (room : k < 2048) (p : ℕ) (first : p < 2048) where
    place_free : get_or t ((p + run (turned p t)) % 2048) 0 ≡ 0
    place_free = sym (turned_at t p e.size first (run (turned p t)) (omega (arith, run_few p))) ∙ run_ends (turned p t)

    place_new : Reached (enter t p (suc k)) p (suc k)
    place_new =
        record {
          at = run (turned p t);
          inside = omega (arith, run_few p);
          here = get_or-set_same t ((p + run (turned p t)) % 2048) (suc k) 0 (omega (arith, e.size));
          before = λ m h. still_full t ((p + run (turned p t)) % 2048) (suc k) place_free ((p + m) % 2048)
              (λ z. run_before (turned p t) m h (turned_at t p e.size first m (omega (arith, run_few p)) ∙ z));
        }

  pub entered_next : k < 2048 → Entered l (suc k) (enter t (place_of (get_or l k [])) (suc k))
  entered_next room =
      let p = place_of (get_or l k []) in
      let q = (p + run (turned p t)) % 2048 in
      let first = first_inside (get_or l k []) in
      record {
        size = length-set t q (suc k) ∙ e.size;
        low = low_set (suc k) t q (suc k) (omega arith) (λ j. omega (arith, e.low j));
        few = omega (arith, full_set t q (suc k), e.few);
        reached = λ i h. ⊎_elim
            (λ (before : i < k). reached_still t q (suc k) (place_free room p first) (place_of (get_or l i [])) (suc i) (λ z. omega arith) (e.reached i before))
            (λ (last : k ≤ i).
            let same : k ≡ i = omega arith in
            subst (λ (n : ℕ). Reached (enter t p (suc k)) (place_of (get_or l n [])) (suc n)) same (place_new room p first))
            (side i k);
      }

  -- A search for bytes b.
  module _ (b : Name) where
    -- finds a number of an entered name that has these bytes,
    pub found_low : (searched l t b).0 ≤ k
    found_low = walk_low l b k (turned (place_of b) t) (low_turned k t (place_of b) e.size (first_inside b) e.low)

    pub found_same : ((searched l t b).0 ≡ 0 → ⊥) → same_name b (named l (searched l t b).0) ≡ true
    found_same = walk_same l b (turned (place_of b) t)

    reached_found : (i : ℕ) → Reached t (place_of b) (suc i) → same_name b (named l (suc i)) ≡ true → (searched l t b).0 ≡ 0 → ⊥
    reached_found i r same =
        let p = place_of b in
        let word : (j : ℕ) → j < 2048 → get_or (turned p t) j 0 ≡ get_or t ((p + j) % 2048) 0 = turned_at t p e.size (first_inside b) in
        let here : get_or (turned p t) r.at 0 ≡ suc i = word r.at r.inside ∙ r.here in
        walk_finds l b (turned p t) r.at (omega (arith, turned_length t p e.size (first_inside b), r.inside)) (λ z. omega (arith, sym here ∙ z))
        (ap (λ (n : ℕ). same_name b (named l n)) here ∙ same)
        (λ m h z. r.before m h (sym (word m (omega (arith, h, r.inside))) ∙ z))

    -- nothing only if none has them,
    pub absent_none : (searched l t b).0 ≡ 0 → (i : ℕ) → i < k → same_name b (get_or l i []) ≡ false
    absent_none none i h = go (same_name b (get_or l i [])) refl
      where
        go : (u : Bool) → same_name b (get_or l i []) ≡ u → u ≡ false
        go false same = refl
        go true same =
            let n : suc i - 1 ≡ i = omega arith in
            absurd (reached_found i
            (subst (λ (a : Name). Reached t (place_of a) (suc i)) (sym (same_equal b (get_or l i []) same)) (e.reached i h))
            (ap (λ (j : ℕ). same_name b (get_or l j [])) n ∙ same) none)

    -- and reads at most one place more than names are entered
    pub places_few : (searched l t b).1 ≤ suc k
    places_few = omega (arith, walk_places l b (turned (place_of b) t), run_few (place_of b))

-- Names entered one after another.
entered_all : (l : List Name) (k : ℕ) (t : List ℕ) (xs : List Name) → Entered l k t
    → ((i : ℕ) → i < length xs → get_or l (k + i) [] ≡ get_or xs i []) → k + length xs ≤ 2048 → Entered l (k + length xs) (enter_all t (suc k) xs)
entered_all l k t [] e same room = let z : k ≡ k + 0 = omega arith in subst (λ (n : ℕ). Entered l n t) z e
entered_all l k t (x ∷ xs) e same room =
    let z : k + 0 ≡ k = omega arith in
    let first : get_or l k [] ≡ x = ap (λ (n : ℕ). get_or l n []) (sym z) ∙ same 0 (omega arith) in
    let next : Entered l (suc k) (enter t (place_of x) (suc k)) =
    subst (λ (a : Name). Entered l (suc k) (enter t (place_of a) (suc k))) first (entered_next e (omega arith)) in
    let count : suc k + length xs ≡ k + suc (length xs) = omega arith in
    subst (λ (n : ℕ). Entered l n (enter_all (enter t (place_of x) (suc k)) (suc (suc k)) xs)) count
    (entered_all l (suc k) (enter t (place_of x) (suc k)) xs next
    (λ i h. let m : suc k + i ≡ k + suc i = omega arith in ap (λ (n : ℕ). get_or l n []) m ∙ same (suc i) (omega arith)) (omega arith))

-- the table of some names, and others not entered yet
pub entered_index : (xs ys : List Name) → length xs ≤ 2048 → Entered (xs ++ ys) (length xs) (index_of xs)
unfolding index_of
entered_index xs ys h =
    subst (λ (n : ℕ). Entered (xs ++ ys) n (index_of xs)) (add_zero_left (length xs))
    (entered_all (xs ++ ys) 0 (replicate 2048 0) xs (entered_none (xs ++ ys))
    (λ i l. ap (λ (n : ℕ). get_or (xs ++ ys) n []) (add_zero_left i) ∙ get_or-append xs ys [] i l) (omega arith))
  where
    add_zero_left : (n : ℕ) → 0 + n ≡ n
    add_zero_left n = omega arith

enter_append : (t : List ℕ) (n : ℕ) (xs ys : List Name) → enter_all t n (xs ++ ys) ≡ enter_all (enter_all t n xs) (n + length xs) ys
enter_append t n [] ys = let z : n ≡ n + 0 = omega arith in ap (λ (m : ℕ). enter_all t m ys) z
enter_append t n (x ∷ xs) ys =
    let z : suc n + length xs ≡ n + suc (length xs) = omega arith in
    enter_append (enter t (place_of x) n) (suc n) xs ys
    ∙ ap (λ (m : ℕ). enter_all (enter_all (enter t (place_of x) n) (suc n) xs) m ys) z

-- a further name is entered under the next number
pub index_next : (xs : List Name) (y : Name) → index_of (xs ++ y ∷ []) ≡ enter (index_of xs) (place_of y) (suc (length xs))
unfolding index_of
index_next xs y =
    let z : 1 + length xs ≡ suc (length xs) = omega arith in
    enter_append (replicate 2048 0) 1 xs (y ∷ []) ∙ ap (enter (index_of xs) (place_of y)) z

pub index_none : index_of [] ≡ replicate 2048 0
unfolding index_of
index_none = refl

pub index_size : (xs : List Name) → length xs ≤ 2048 → length (index_of xs) ≡ 2048
index_size xs h = (entered_index xs [] h).size
