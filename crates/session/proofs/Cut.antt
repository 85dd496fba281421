-- A session cut to its first entries: words that have the counts after these and the rows of before pass question 23, and hold these entries.
use mathlib.Core.Path.{◌≡◌, refl, sym, ap, ◌∙◌, subst}
use mathlib.Core.Bool.{Bool, true, ◌&&◌}
use mathlib.Core.List.{List, [], ◌∷◌, ◌++◌, map, Memᴰ as Mem}
use Prim.Native.Nat.{ℕ, zero, suc, ◌+◌, ◌-◌, ◌<◌, ◌≤◌}
use native.Mathlib.Omega.{arith}
use lib.ListN.{length, get_or, take, drop, get_or-append, length-map, take-append-drop}
use lib.Seq.{take_at, take-take, length-take-le}
use lib.Dec.{eqb, leb, T, eqb→eq, leb→le}
use borrow.Author.Tests.{le-leb}
use Rattle.definition.specs.Basics.{all, every, from, concat_map}
use Rattle.definition.specs.Names.{Name, listed, same_name, names_fit}
use Rattle.definition.proofs.Lists.Tests.{and_both, and_left, and_right, T_true, true_of, pick, eqb_of}
use Rattle.definition.proofs.Lists.Members.{from_mem, map_same, map_append}
use Rattle.session.specs.Words.{Room, ended, fixed_bytes, session_size, count_after, part_of, name_bytes, laid_in, members_before, class_in, entry_in, session_in}
use Rattle.session.specs.Words.{counts_fit, session_names_fit, bytes_of, row_fits, laid_fits, class_fits, entry_numbers_fit, numbers_fit, runs_fit}
use Rattle.session.proofs.Renaming.{all_from}
use Rattle.session.proofs.SessionLaws.{from_length, clauses, limits, entry_tests, rises, last_are}
use Rattle.session.proofs.HeldRuns.{from_split, names_listed}
use Rattle.session.proofs.CountLaws.{list_fits}
use Rattle.session.proofs.Extended.{all_turned}
use Rattle.session.proofs.FirstNames.{first_bytes, first_bytes_lem, first_listed, first_fit}
use Rattle.session.proofs.SameRows.{count_same, part_same, laid_same, before_same, class_same, laid_fits_same, class_fits_same}

-- The words v are those of w, cut to the first E entries.
pub record Cut (R : Room) (w n v : List ℕ) (E : ℕ) : Type 0 where
  pub fewer : E ≤ get_or w 1 0
  pub long : length v ≡ length w
  pub globals : get_or v 0 0 ≡ get_or w 0 0
  pub entries : get_or v 1 0 ≡ E
  pub counts : (c : ℕ) → c < 5 → get_or v (3 + c) 0 ≡ count_after R w n E c
  pub rows : (p : ℕ) → 8 ≤ p → get_or v p 0 ≡ get_or w p 0

module _ (R : Room) (w n : List ℕ) (fit : runs_fit R w n ≡ true) where
  fits : T (runs_fit R w n)
  fits = T_true (runs_fit R w n) fit

  -- no count falls over several entries
  rises_more : (i k c : ℕ) → i + k ≤ get_or w 1 0 → c < 5 → count_after R w n i c ≤ count_after R w n (i + k) c
  rises_more i zero c l h = let q : i + 0 ≡ i = omega arith in omega (arith, ap (λ (j : ℕ). count_after R w n j c) q)
  rises_more i (suc k) c l h =
      let q : i + suc k ≡ suc (i + k) = omega arith in
      omega (arith, ap (λ (j : ℕ). count_after R w n j c) q, (rises R w n fits (i + k) c (omega arith) h).0, rises_more i k c (omega arith) h)

  pub rises_to : (i j c : ℕ) → i ≤ j → j ≤ get_or w 1 0 → c < 5 → count_after R w n i c ≤ count_after R w n j c
  rises_to i j c l h b =
      let q : i + (j - i) ≡ j = omega arith in
      omega (arith, rises_more i (j - i) c (omega arith) b, ap (λ (k : ℕ). count_after R w n k c) q)

  -- the bytes of the names after some entries are those that the words say
  bytes_told : (e : ℕ) → e ≤ get_or w 1 0 → count_after R w n e 1 ≡ bytes_of R w n (count_after R w n e 0)
  bytes_told zero l = refl
  bytes_told (suc e) l =
      let p : ℕ → Bool = λ c. leb (count_after R w n e c) (count_after R w n (suc e) c) && leb (count_after R w n (suc e) c) (get_or w (3 + c) 0) in
      let same : Bool = eqb (count_after R w n (suc e) 1) (bytes_of R w n (count_after R w n (suc e) 0)) in
      eqb→eq (count_after R w n (suc e) 1) (bytes_of R w n (count_after R w n (suc e) 0)) (and_right (all p (from 0 5)) same (entry_tests R w n fits e (omega arith) 0))

  module _ (v : List ℕ) (E : ℕ) (x : Cut R w n v E) where
    at_most : (c : ℕ) → c < 5 → get_or v (3 + c) 0 ≤ get_or w (3 + c) 0
    at_most c h = omega (arith, x.counts c h, rises_to E (get_or w 1 0) c x.fewer (omega arith) h, last_are R w n fits c h)

    few_names : count_after R w n E 0 ≤ length (listed (name_bytes R w n))
    few_names = omega (arith, x.counts 0 (omega arith), at_most 0 (omega arith), names_listed R w n fit)

    bytes_are : name_bytes R v n ≡ first_bytes (name_bytes R w n) (list_fits R w n fit) (count_after R w n E 0)
    bytes_are =
        let first : List ℕ = first_bytes (name_bytes R w n) (list_fits R w n fit) (count_after R w n E 0) in
        let q : get_or v 4 0 ≡ length first = x.counts 1 (omega arith) ∙ bytes_told E x.fewer in
        sym (take-take (get_or v 4 0) (get_or w 4 0) (drop (length fixed_bytes) n) (at_most 1 (omega arith)))
        ∙ ap (λ (k : ℕ). take k (name_bytes R w n)) q ∙ first_bytes_lem (name_bytes R w n) (list_fits R w n fit) (count_after R w n E 0)

    listed_are : listed (name_bytes R v n) ≡ take (count_after R w n E 0) (listed (name_bytes R w n))
    listed_are = ap listed bytes_are ∙ first_listed (name_bytes R w n) (list_fits R w n fit) (count_after R w n E 0)

    names_left : length (listed (name_bytes R v n)) ≡ count_after R w n E 0
    names_left = ap length listed_are ∙ length-take-le (count_after R w n E 0) (listed (name_bytes R w n)) few_names

    bytes_same : (k : ℕ) → k ≤ count_after R w n E 0 → bytes_of R v n k ≡ bytes_of R w n k
    bytes_same k h =
        ap (λ (z : List Name). length (concat_map ended (take k z))) listed_are
        ∙ ap (λ (z : List Name). length (concat_map ended z)) (take-take k (count_after R w n E 0) (listed (name_bytes R w n)) h)

    -- the tests of an entry that is left
    row_kept : (e : ℕ) → e < E → T (row_fits R v n e)
    row_kept e h =
        and_both (all (tests v) (from 0 5)) (eqb (count_after R v n (suc e) 1) (bytes_of R v n (count_after R v n (suc e) 0)))
        (all_from (tests v) 0 5 (λ c b. counted c (omega (arith, b))))
        (eqb_of (count_after R v n (suc e) 1) (bytes_of R v n (count_after R v n (suc e) 0))
        (same (suc e) 1 ∙ bytes_told (suc e) (omega (arith, x.fewer))
        ∙ sym (bytes_same (count_after R w n (suc e) 0) (rises_to (suc e) E 0 (omega arith) x.fewer (omega arith)))
        ∙ ap (bytes_of R v n) (sym (same (suc e) 0))))
      where
        tests : List ℕ → ℕ → Bool
        tests u c = leb (count_after R u n e c) (count_after R u n (suc e) c) && leb (count_after R u n (suc e) c) (get_or u (3 + c) 0)

        same : (i c : ℕ) → count_after R v n i c ≡ count_after R w n i c
        same i c = count_same R w n v x.globals x.rows i c

        counted : (c : ℕ) → c < 5 → T (tests v c)
        counted c b =
            and_both (leb (count_after R v n e c) (count_after R v n (suc e) c)) (leb (count_after R v n (suc e) c) (get_or v (3 + c) 0))
            (T_true (leb (count_after R v n e c) (count_after R v n (suc e) c)) (le-leb (count_after R v n e c) (count_after R v n (suc e) c)
            (omega (arith, same e c, same (suc e) c, (rises R w n fits e c (omega (arith, x.fewer)) b).0))))
            (T_true (leb (count_after R v n (suc e) c) (get_or v (3 + c) 0)) (le-leb (count_after R v n (suc e) c) (get_or v (3 + c) 0)
            (omega (arith, same (suc e) c, x.counts c b, rises_to (suc e) E c (omega arith) x.fewer b))))

    entry_kept : (e : ℕ) → e < E → T (entry_numbers_fit R v n e)
    entry_kept e h =
        and_both (row_fits R v n e) (every (laids ∷ classes ∷ members ∷ [])) (row_kept e h)
        (and_both laids (every (classes ∷ members ∷ []))
        (rw (part_same R w n v x.globals x.rows e 2)
        (all_turned (laid_fits R w n e) (laid_fits R v n e) (part_of R w n e 2) (λ i m t. subst T (sym (laid_fits_same R w n v x.globals x.rows e i)) t) (old 1)))
        (and_both classes (members && true)
        (rw (part_same R w n v x.globals x.rows e 3)
        (all_turned (class_fits R w n e) (class_fits R v n e) (part_of R w n e 3) (λ i m t. subst T (sym (class_fits_same R w n v x.globals x.rows e i)) t) (old 2)))
        (and_both members true
        (rw (
          count_same R w n v x.globals x.rows (suc e) 3,
          count_same R w n v x.globals x.rows (suc e) 4,
          before_same R w n v x.globals x.rows (count_after R w n (suc e) 3),
        ) (old 3)) tt)))
      where
        laids : Bool
        laids = all (laid_fits R v n e) (part_of R v n e 2)

        classes : Bool
        classes = all (class_fits R v n e) (part_of R v n e 3)

        members : Bool
        members = eqb (members_before R v n (count_after R v n (suc e) 3)) (count_after R v n (suc e) 4)

        old : (i : ℕ) → T (get_or (row_fits R w n e ∷ all (laid_fits R w n e) (part_of R w n e 2) ∷ all (class_fits R w n e) (part_of R w n e 3)
            ∷ eqb (members_before R w n (count_after R w n (suc e) 3)) (count_after R w n (suc e) 4) ∷ []) i true)
        old = entry_tests R w n fits e (omega (arith, x.fewer))

    -- and of the session
    counts_kept : counts_fit R v n ≡ true
    counts_kept =
        rw (
          x.globals,
          x.long,
          true_of (leb (get_or w 0 0) 1002048) (limit 0),
          le-leb (get_or v 1 0) R.entries (omega (arith, x.entries, x.fewer, leb→le (get_or w 1 0) R.entries (limit 1))),
          le-leb (get_or v 3 0) 1024 (omega (arith, at_most 0 (omega arith), leb→le (get_or w 3 0) 1024 (limit 2))),
          le-leb (get_or v 4 0) R.bytes (omega (arith, at_most 1 (omega arith), leb→le (get_or w 4 0) R.bytes (limit 3))),
          le-leb (get_or v 5 0) R.laid (omega (arith, at_most 2 (omega arith), leb→le (get_or w 5 0) R.laid (limit 4))),
          le-leb (get_or v 6 0) R.classes (omega (arith, at_most 3 (omega arith), leb→le (get_or w 6 0) R.classes (limit 5))),
          le-leb (get_or v 7 0) R.members (omega (arith, at_most 4 (omega arith), leb→le (get_or w 7 0) R.members (limit 6))),
          true_of (leb (session_size R) (length w)) (limit 7),
          true_of (leb (length fixed_bytes + R.bytes) (length n)) (limit 8),
        )
      where
        limit : (i : ℕ) → T (get_or (limits R w n fits) i true)
        limit i = pick (limits R w n fits) (clauses R w n fits 0) i

    names_kept : session_names_fit R v n ≡ true
    names_kept =
        true_of (session_names_fit R v n)
        (and_both (same_name (take (length fixed_bytes) n) fixed_bytes && names_fit (name_bytes R v n)) (eqb (length (listed (name_bytes R v n))) (get_or v 3 0))
        (and_both (same_name (take (length fixed_bytes) n) fixed_bytes) (names_fit (name_bytes R v n))
        (and_left (same_name (take (length fixed_bytes) n) fixed_bytes) (names_fit (name_bytes R w n))
        (and_left (same_name (take (length fixed_bytes) n) fixed_bytes && names_fit (name_bytes R w n)) (eqb (length (listed (name_bytes R w n))) (get_or w 3 0))
        (clauses R w n fits 1)))
        (T_true (names_fit (name_bytes R v n)) (ap names_fit bytes_are ∙ first_fit (name_bytes R w n) (list_fits R w n fit) (count_after R w n E 0))))
        (eqb_of (length (listed (name_bytes R v n))) (get_or v 3 0) (names_left ∙ sym (x.counts 0 (omega arith)))))

    numbers_kept : numbers_fit R v n ≡ true
    numbers_kept =
        rw x.entries
        (true_of (all (entry_numbers_fit R v n) (from 0 E) && all (λ c. eqb (count_after R v n E c) (get_or v (3 + c) 0)) (from 0 5))
        (and_both (all (entry_numbers_fit R v n) (from 0 E)) (all (λ c. eqb (count_after R v n E c) (get_or v (3 + c) 0)) (from 0 5))
        (all_from (entry_numbers_fit R v n) 0 E (λ e b. entry_kept e (omega (arith, b))))
        (all_from (λ c. eqb (count_after R v n E c) (get_or v (3 + c) 0)) 0 5 (λ c b.
        eqb_of (count_after R v n E c) (get_or v (3 + c) 0) (count_same R w n v x.globals x.rows E c ∙ sym (x.counts c (omega (arith, b))))))))

    pub cut_fits : runs_fit R v n ≡ true
    cut_fits = rw (counts_kept, names_kept, numbers_kept)

    -- what an entry that is left reads
    name_same : (e : ℕ) → e < E → (i : ℕ) → Mem i (part_of R w n e 0) → get_or (listed (name_bytes R v n)) i [] ≡ get_or (listed (name_bytes R w n)) i []
    name_same e h i m =
        let k : ℕ = count_after R w n E 0 in
        let names : List Name = listed (name_bytes R w n) in
        let below = from_mem i (count_after R w n e 0) (count_after R w n (suc e) 0 - count_after R w n e 0) m in
        ap (λ (z : List Name). get_or z i []) listed_are
        ∙ sym (get_or-append (take k names) (drop k names) [] i
        (omega (
          arith,
          length-take-le k names few_names,
          below.1,
          (rises R w n fits e 0 (omega (arith, x.fewer)) (omega arith)).0,
          rises_to (suc e) E 0 (omega arith) x.fewer (omega arith),
        )))
        ∙ ap (λ (z : List Name). get_or z i []) (take-append-drop k names)

    entry_read : (e : ℕ) → e < E → entry_in R v n e ≡ entry_in R w n e
    entry_read e h =
        rw (
          part_same R w n v x.globals x.rows e 0,
          part_same R w n v x.globals x.rows e 2,
          part_same R w n v x.globals x.rows e 3,
          map_same (λ i. get_or (listed (name_bytes R v n)) i []) (λ i. get_or (listed (name_bytes R w n)) i []) (part_of R w n e 0) (name_same e h),
          map_same (laid_in R v n) (laid_in R w n) (part_of R w n e 2) (λ i m. laid_same R w n v x.globals x.rows i),
          map_same (class_in R v n) (class_in R w n) (part_of R w n e 3) (λ i m. class_same R w n v x.globals x.rows i),
        )

    pub cut_held : session_in R v n ≡ record { globals = get_or w 0 0; entries = take E (session_in R w n).entries }
    cut_held = λ i. record { globals = x.globals i; entries = entries i }
      where
        whole_run : map (entry_in R w n) (from 0 (get_or w 1 0)) ≡ map (entry_in R w n) (from 0 E) ++ map (entry_in R w n) (from (0 + E) (get_or w 1 0 - E))
        whole_run =
            let q : get_or w 1 0 ≡ E + (get_or w 1 0 - E) = omega (arith, x.fewer) in
            ap (λ (k : ℕ). map (entry_in R w n) (from 0 k)) q ∙ ap (map (entry_in R w n)) (from_split 0 E (get_or w 1 0 - E))
            ∙ map_append (entry_in R w n) (from 0 E) (from (0 + E) (get_or w 1 0 - E))

        entries : map (entry_in R v n) (from 0 (get_or v 1 0)) ≡ take E (map (entry_in R w n) (from 0 (get_or w 1 0)))
        entries =
            ap (λ (k : ℕ). map (entry_in R v n) (from 0 k)) x.entries
            ∙ map_same (entry_in R v n) (entry_in R w n) (from 0 E) (λ e m. entry_read e (omega (arith, from_mem e 0 E m)))
            ∙ sym (ap (take E) whole_run
            ∙ take_at (map (entry_in R w n) (from 0 E)) (map (entry_in R w n) (from (0 + E) (get_or w 1 0 - E))) E (length-map (from 0 E) (entry_in R w n) ∙ from_length 0 E))
