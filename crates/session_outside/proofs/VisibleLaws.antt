-- The visible names of session words: each once, at most 1,048, functions, classes and globals.
use mathlib.Core.Path.{◌≡◌, refl, sym, ap, ◌∙◌, subst}
use mathlib.Core.Logic.{⊎_elim}
use mathlib.Core.Bool.{Bool, true, false, ◌&&◌}
use mathlib.Core.List.Memᴰ
use mathlib.Core.List.Memᴰ.{head as here}
use mathlib.Core.List.Memᴰ.{tail as there}
use mathlib.Core.List.{List, [], ◌∷◌, map, Memᴰ as Mem}
use Prim.Native.Nat.{ℕ, zero, suc, ◌+◌, ◌<◌, ◌≤◌, min}
use native.Mathlib.Omega.{arith}
use lib.ListN.{length, get_or, replicate, length-append, length-map, length-replicate}
use lib.Dec.{eqb, leb, T}
use lib.Seq.{sets}
use borrow.Author.Tests.{leb-true}
use Rattle.definition.specs.Basics.{when◌then◌else◌, all, distinct, concat_map, from}
use Rattle.definition.specs.Meaning.{Named, function, class, global}
use Rattle.definition.specs.Outside.{is_outward, core}
use Rattle.definition.proofs.Lists.Tests.{and_both, and_left, and_right, true_of, T_true}
use Rattle.definition.proofs.Lists.Members.{nodup_one, all_pass, map_mem, from_mem, distinct_mem, distinct_nodup, pigeonhole}
use Rattle.session.specs.Session.{backward, earlier}
use Rattle.session.specs.Words.{whole, laid_place, laid_in}
use Rattle.session.proofs.OutsideLaws.{distinct_shorter, backward_length}
use Rattle.session.proofs.SessionLaws.{from_length, all_mem}
use Rattle.session_outside.specs.Written.{name_row, seen, firsts, NameRows, name_rows, names_below, visible_names}
use Rattle.session_outside.specs.Readable.{Readable}
use Rattle.session_outside.proofs.NameLaws.{same_name, unmarked, firsts_are}

backward_mem : (x : Named) (xs : List Named) → Mem x (backward xs) → Mem x xs
backward_mem x [] m = m
backward_mem x (y ∷ ys) m = ⊎_elim (λ h. there (backward_mem x ys h)) (λ h. here (Memᴰ.eq_of_singleton h)) (Memᴰ.append_cases (backward ys) m)

-- what holds of the declarations and of the core names holds of all
below_all : (w : List ℕ) (k : ℕ) (P : Named → Type 0) → ((i : ℕ) → i < k → P (laid_in whole w [] i)) → ((x : Named) → Mem x core.names → P x)
    → (x : Named) → Mem x (names_below w k) → P x
unfolding names_below
below_all w k P f g x m = ⊎_elim of_declared (g x) (Memᴰ.append_cases (backward (map (laid_in whole w []) (from 0 k))) m)
  where
    of_declared : Mem x (backward (map (laid_in whole w []) (from 0 k))) → P x
    of_declared h =
        let r = map_mem (laid_in whole w []) x (from 0 k) (backward_mem x (map (laid_in whole w []) (from 0 k)) h) in
        subst P (sym r.2) (f r.0 (omega (arith, (from_mem r.0 0 k r.1).1)))

abbrev is_name : Named → Bool
is_name x = leb 1 x.name && leb x.name 1048

name_bounds : (x : Named) → T (is_name x) → (1 ≤ x.name) × (x.name ≤ 1048)
name_bounds x h = (
  leb-true 1 x.name (true_of (leb 1 x.name) (and_left (leb 1 x.name) (leb x.name 1048) h)),
  leb-true x.name 1048 (true_of (leb x.name 1048) (and_right (leb 1 x.name) (leb x.name 1048) h)),
)

laid_outward : (w : List ℕ) (i : ℕ) → T (is_outward (earlier (laid_in whole w [] i).means))
laid_outward w i = go (eqb (get_or w (laid_place whole i + 1) 0) 1) (eqb (get_or w (laid_place whole i + 1) 0) 2)
  where
    x : ℕ
    x = get_or w (laid_place whole i + 2) 0

    go : (t u : Bool) → T (is_outward (earlier (when t then function x else when u then class x else global x (get_or w (laid_place whole i + 3) 0))))
    go true u = tt
    go false true = tt
    go false false = tt

outward_all : (xs : List Named) → ((x : Named) → Mem x xs → T (is_outward (earlier x.means))) → T (all (λ x. is_outward x.means) (map seen xs))
outward_all [] f = tt
outward_all (x ∷ xs) f = and_both (is_outward (earlier x.means)) (all (λ x. is_outward x.means) (map seen xs)) (f x (here refl)) (outward_all xs (λ y m. f y (there m)))

zero_there : (n k : ℕ) → get_or {A = ℕ} (replicate n 0) k 0 ≡ 0
zero_there zero k = refl
zero_there (suc n) zero = refl
zero_there (suc n) (suc k) = zero_there n k

-- those of the words, without repeats
abbrev latest : List ℕ → List Named
latest w = distinct same_name (names_below w (get_or w 5 0))

pub visible_outward : (w : List ℕ) → T (all (λ x. is_outward x.means) (visible_names w))
unfolding visible_names
visible_outward w =
    outward_all (latest w)
    (λ x m. below_all w (get_or w 5 0) (λ x. T (is_outward (earlier x.means))) (λ i l. laid_outward w i)
    (λ x m. all_mem (λ x. is_outward (earlier x.means)) core.names x tt m) x (distinct_mem (λ x. x.name) x (names_below w (get_or w 5 0)) m))

module _ {w : List ℕ} (r : Readable w) where
  bounded : (x : Named) → Mem x (names_below w (get_or w 5 0)) → (1 ≤ x.name) × (x.name ≤ 1048)
  bounded =
      below_all w (get_or w 5 0) (λ x. (1 ≤ x.name) × (x.name ≤ 1048)) (λ i l. r.named i l)
      (λ x m. name_bounds x (all_mem is_name core.names x tt m))

  -- the rows of all names, from a table without marks that has a place for each number
  module _ (b : ℕ) (large : 1048 < b) where
    pub marks_find : firsts (replicate b 0) (names_below w (get_or w 5 0)) ≡ latest w
    marks_find =
        firsts_are (names_below w (get_or w 5 0)) (replicate b 0) (λ x m. omega (arith, bounded x m, length-replicate {A = ℕ} b 0))
        ∙ all_pass (unmarked (replicate b 0)) (latest w) (λ x m. T_true (unmarked (replicate b 0) x) (ap (λ (k : ℕ). eqb k 0) (zero_there b x.name)))

    pub names_laid : (x v : List ℕ) {m y : List ℕ} {k : ℕ} → m ≡ replicate b 0 → name_rows k v y [] ≡ name_rows 1 m x (names_below w (get_or w 5 0))
        → (k ≡ suc (length (visible_names w))) × (y ≡ sets x 8 (concat_map name_row (visible_names w)))
    unfolding name_rows firsts visible_names
    names_laid x v {m} {y} {k} em e =
        let rows : List Named → NameRows = λ fs. record { end = 1 + length fs; words = sets x 8 (concat_map name_row (map seen fs)) } in
        let g : record { end = k + 0; words = y } ≡ rows (latest w) =
        e ∙ ap (λ (l : List ℕ). name_rows 1 l x (names_below w (get_or w 5 0))) em ∙ ap rows marks_find in
        (omega (arith, ap (λ (q : NameRows). q.end) g, length-map (latest w) seen), ap (λ (q : NameRows). q.words) g)

  latest_few : length (latest w) ≤ 1048
  latest_few =
      let ns : List ℕ = map (λ (x : Named). x.name) (latest w) in
      omega (arith, length-map (latest w) (λ (x : Named). x.name), pigeonhole 1049 {xs = 0 ∷ ns} (nodup_one none (distinct_nodup (λ x. x.name) (names_below w (get_or w 5 0)))) small)
    where
      of : (n : ℕ) → Mem n (map (λ (x : Named). x.name) (latest w)) → (1 ≤ n) × (n ≤ 1048)
      of n m =
          let q = map_mem (λ (x : Named). x.name) n (latest w) m in
          let b = bounded q.0 (distinct_mem (λ x. x.name) q.0 (names_below w (get_or w 5 0)) q.1) in
          (omega (arith, b, q.2), omega (arith, b, q.2))

      none : Mem 0 (map (λ (x : Named). x.name) (latest w)) → ⊥
      none m = omega (arith, of 0 m)

      small : (n : ℕ) → Mem n (0 ∷ map (λ (x : Named). x.name) (latest w)) → n < 1049
      small n (here e) = omega arith
      small n (there m) = omega (arith, of n m)

  -- the names are few: of 1,048 numbers, and no more than declarations and core names
  pub names_few_lem : length (visible_names w) ≤ min (get_or w 5 0 + 9) 1048
  unfolding visible_names names_below
  names_few_lem =
      omega (
        arith,
        length-map (latest w) seen,
        latest_few,
        distinct_shorter same_name (names_below w (get_or w 5 0)),
        length-append (backward (map (laid_in whole w []) (from 0 (get_or w 5 0)))) core.names,
        backward_length (map (laid_in whole w []) (from 0 (get_or w 5 0))),
        length-map (from 0 (get_or w 5 0)) (laid_in whole w []),
        from_length 0 (get_or w 5 0),
      )
