-- Lines of parents that end, what the marks tell of them, and the climb with marks as the climb without.
use mathlib.Core.Path.{◌≡◌, refl, sym, ap, subst, ◌∙◌}
use mathlib.Core.Bool.{Bool, true, false, not, ◌||◌}
use mathlib.Core.List.{List, [], ◌∷◌, map}
use Prim.Native.Nat.{ℕ, zero, suc, ◌+◌, ◌<◌, ◌≤◌}
use native.Mathlib.Omega.{arith}
use lib.Dec.{T, eqb, ltb}
use lib.ListN.{length, get_or, set, length-set}
use lib.Seq.{get_or-set_same, get_or-set_other, set_out}
use borrow.Author.Tests.{eq-eqb, ne_eqb, eqb-true, eqb-false, ltb-true, ltb-false, lt-ltb}
use Rattle.definition.specs.Basics.{when◌then◌else◌, first, from, ◌∈?◌}
use Rattle.machine.specs.Machine.{one_more}
use Rattle.std.specs.Prelude.{Ok, Err}
use Rattle.climb.specs.declared.ClimbError.TheVariants.{Circle, NoRecord}
use Rattle.climb.specs.Process.{Ending, NO_RECORD, run_size, Climbed, leaving, is_pending, in_lineage, lacks_record, process, climbed, is_top}
use Rattle.climb.specs.Process.{process_all, climbed_all, climb_from, first_ending}
use Rattle.climb.proofs.CountLaws.{unmarked, unmarked_most, unmarked_less}
use Rattle.climb.proofs.StepLaws.{chosen, chosen_1, chosen_2, chosen_3, chosen_4, Met, outside, again, earlier, new, meet}
use Rattle.climb.proofs.StepLaws.{process_outside, process_again, process_earlier, process_lacking, process_up, mark_some, climb_start}
use Rattle.climb.proofs.StepLaws.{all_over, all_next}

-- from c on there are exactly n classes, each the parent of the one before, and none of them has a parent without a record
unfoldable Ends : List ℕ → ℕ → ℕ → ℕ → Type 0
Ends parents size zero c = ltb c size ≡ false
Ends parents size (suc n) c = (ltb c size ≡ true) × (lacks_record parents c ≡ false) × Ends parents size n (get_or parents c 0)

-- from every class that has a mark the line of parents ends
record Ended (parents : List ℕ) (size : ℕ) (m : List ℕ) : Type 0 where
  ended : (j : ℕ) → (get_or m j 0 ≡ 0 → ⊥) → (n : ℕ) × Ends parents size n j

-- A climb with mark k has come to class c: classes with another mark have lines that end, and if the line of c ends, that of a class with
-- mark k ends later.
record Climbing (parents : List ℕ) (size k : ℕ) (m : List ℕ) (c : ℕ) : Type 0 where
  by_others : (j : ℕ) → (get_or m j 0 ≡ 0 → ⊥) → (get_or m j 0 ≡ k → ⊥) → (n : ℕ) × Ends parents size n j
  longer : (j n : ℕ) → get_or m j 0 ≡ k → Ends parents size n c → (i : ℕ) × (n < i) × Ends parents size i j

module _ (parents : List ℕ) (size : ℕ) where
  -- a line ends after one number of classes only
  ends_once : (n k c : ℕ) → Ends parents size n c → Ends parents size k c → n ≡ k
  unfolding Ends
  ends_once zero zero c h g = refl
  ends_once zero (suc k) c h g = absurd (subst T (sym g.0 ∙ h) tt)
  ends_once (suc n) zero c h g = absurd (subst T (sym h.0 ∙ g) tt)
  ends_once (suc n) (suc k) c h g = ap suc (ends_once n k (get_or parents c 0) h.2 g.2)

  ends_top : (c : ℕ) → ltb c size ≡ false → Ends parents size 0 c
  unfolding Ends
  ends_top c h = h

  ends_more : (n c : ℕ) → c < size → lacks_record parents c ≡ false → Ends parents size n (get_or parents c 0) → Ends parents size (suc n) c
  unfolding Ends
  ends_more n c l r h = (lt-ltb c size l, r, h)

  climbing_start : (k : ℕ) (m : List ℕ) (c : ℕ) → ((j : ℕ) → get_or m j 0 < k) → Ended parents size m → Climbing parents size k m c
  climbing_start k m c h g = record { by_others = λ j f e. g.ended j f; longer = λ j n e d. absurd (omega (arith, h j)) }

  module _ (k : ℕ) (m : List ℕ) (c : ℕ) (h : Climbing parents size k m c) where
    -- where the line of c ends, every marked class's does
    climbing_end : (n : ℕ) → Ends parents size n c → Ended parents size m
    climbing_end n e = record { ended = λ j f. go j f (eqb (get_or m j 0) k) refl }
      where
        go : (j : ℕ) → (get_or m j 0 ≡ 0 → ⊥) → (t : Bool) → eqb (get_or m j 0) k ≡ t → (i : ℕ) × Ends parents size i j
        go j f true d =
            let x = h.longer j n (eqb-true (get_or m j 0) k d) e in
            (x.0, x.2)
        go j f false d = h.by_others j f (eqb-false (get_or m j 0) k d)

    -- one class more is marked
    climbing_up : size ≤ length m → c < size → lacks_record parents c ≡ false → Climbing parents size k (set m c k) (get_or parents c 0)
    climbing_up l b r = record { by_others = λ j f d. before j f d (eqb j c) refl; longer = λ j n d x. after j n d x (eqb j c) refl }
      where
        before : (j : ℕ) → (get_or (set m c k) j 0 ≡ 0 → ⊥) → (get_or (set m c k) j 0 ≡ k → ⊥) → (t : Bool) → eqb j c ≡ t → (n : ℕ) × Ends parents size n j
        before j f d true x = absurd (d (ap (λ (i : ℕ). get_or (set m c k) i 0) (eqb-true j c x) ∙ get_or-set_same m c k 0 (omega arith)))
        before j f d false x =
            let y : get_or (set m c k) j 0 ≡ get_or m j 0 = get_or-set_other m c j k 0 (eqb-false j c x) in
            h.by_others j (λ z. f (y ∙ z)) (λ z. d (y ∙ z))

        after : (j n : ℕ) → get_or (set m c k) j 0 ≡ k → Ends parents size n (get_or parents c 0) → (t : Bool) → eqb j c ≡ t
            → (i : ℕ) × (n < i) × Ends parents size i j
        after j n d x true y = (suc n, omega arith, subst (Ends parents size (suc n)) (sym (eqb-true j c y)) (ends_more n c b r x))
        after j n d x false y =
            let z = h.longer j (suc n) (sym (get_or-set_other m c j k 0 (eqb-false j c y)) ∙ d) (ends_more n c b r x) in
            (z.0, omega (arith, z.1), z.2)

-- the marks k tell the classes of a lineage
abbrev Agree : ℕ → List ℕ → List ℕ → Type 0
Agree k m lineage = (j : ℕ) → eqb (get_or m j 0) k ≡ (j ∈? lineage)

agree_more : (k : ℕ) (m lineage : List ℕ) (c : ℕ) → c < length m → Agree k m lineage → Agree k (set m c k) (c ∷ lineage)
agree_more k m lineage c l h j = go (eqb j c) refl
  where
    go : (t : Bool) → eqb j c ≡ t → eqb (get_or (set m c k) j 0) k ≡ (eqb j c || (j ∈? lineage))
    go true d =
        eq-eqb (get_or (set m c k) j 0) k (ap (λ (n : ℕ). get_or (set m c k) n 0) (eqb-true j c d) ∙ get_or-set_same m c k 0 l)
        ∙ sym (ap (λ (t : Bool). t || (j ∈? lineage)) d)
    go false d =
        ap (λ (n : ℕ). eqb n k) (get_or-set_other m c j k 0 (eqb-false j c d)) ∙ h j ∙ sym (ap (λ (t : Bool). t || (j ∈? lineage)) d)

module _ (parents : List ℕ) (size : ℕ) (lineage : List ℕ) (c i : ℕ) where
  from_outside : ltb c size ≡ false → climb_from parents size (suc i) lineage c ≡ (Ok tt)
  from_outside p = chosen_1 (Ok tt) (Err (Circle c)) (Err (NoRecord c)) _ (ltb c size) (c ∈? lineage) (lacks_record parents c) p

  from_again : c < size → (c ∈? lineage) ≡ true → climb_from parents size (suc i) lineage c ≡ Err (Circle c)
  from_again p q = chosen_2 (Ok tt) (Err (Circle c)) (Err (NoRecord c)) _ (ltb c size) (c ∈? lineage) (lacks_record parents c) (lt-ltb c size p) q

  from_lacking : c < size → (c ∈? lineage) ≡ false → lacks_record parents c ≡ true → climb_from parents size (suc i) lineage c ≡ Err (NoRecord c)
  from_lacking p q r = chosen_3 (Ok tt) (Err (Circle c)) (Err (NoRecord c)) _ (ltb c size) (c ∈? lineage) (lacks_record parents c) (lt-ltb c size p) q r

  from_up : c < size → (c ∈? lineage) ≡ false → lacks_record parents c ≡ false
      → climb_from parents size (suc i) lineage c ≡ climb_from parents size i (c ∷ lineage) (get_or parents c 0)
  from_up p q r = chosen_4 (Ok tt) (Err (Circle c)) (Err (NoRecord c)) _ (ltb c size) (c ∈? lineage) (lacks_record parents c) (lt-ltb c size p) q r

module _ (parents : List ℕ) (size : ℕ) where
  -- a climb that comes to a line that ends ends at the top, if the lines of the classes met are longer
  line_top : (n i : ℕ) (lineage : List ℕ) (c : ℕ) → Ends parents size n c
      → ((j : ℕ) → (j ∈? lineage) ≡ true → (k : ℕ) × (n < k) × Ends parents size k j) → climb_from parents size i lineage c ≡ (Ok tt)
  unfolding Ends
  line_top n zero lineage c e h = refl
  line_top zero (suc i) lineage c e h = from_outside parents size lineage c i e
  line_top (suc n) (suc i) lineage c e h =
      from_up parents size lineage c i (ltb-true c size e.0) (unmet (c ∈? lineage) refl) e.1
      ∙ line_top n i (c ∷ lineage) (get_or parents c 0) e.2 (λ j d. longer j d (eqb j c) refl)
    where
      unmet : (t : Bool) → (c ∈? lineage) ≡ t → t ≡ false
      unmet false d = refl
      unmet true d =
          let x = h c d in
          absurd (omega (arith, x.1, ends_once parents size (suc n) x.0 c e x.2))

      longer : (j : ℕ) → (eqb j c || (j ∈? lineage)) ≡ true → (t : Bool) → eqb j c ≡ t → (k : ℕ) × (n < k) × Ends parents size k j
      longer j d true g = (suc n, omega arith, subst (Ends parents size (suc n)) (sym (eqb-true j c g)) e)
      longer j d false g =
          let x = h j (sym (ap (λ (t : Bool). t || (j ∈? lineage)) g) ∙ d) in
          (x.0, omega (arith, x.1), x.2)

  -- A climb with marks answers as that without. If it ends at the top, the lines of all classes that then have a mark end.
  abbrev Answers : Climbed → Ending → Type 0
  Answers x y = (x.ending ≡ y) × (x.ending ≡ (Ok tt) → Ended parents size x.marks)

  module _ (k : ℕ) where
    -- what marking a class keeps `process` keeps
    process_keeps : (P : List ℕ → Type 0) → ((m : List ℕ) (c : ℕ) → P m → P (set m c k))
        → (n : ℕ) (m : List ℕ) (c : ℕ) → P m → P (process parents size k n m c).marks
    process_keeps P s zero m c h = h
    process_keeps P s (suc n) m c h =
        go (is_pending size k m c) (in_lineage k m c) (lacks_record parents c)
        (process_keeps P s n (set m c k) (get_or parents c 0) (s m c h))
      where
        go : (t u v : Bool) → P (process parents size k n (set m c k) (get_or parents c 0)).marks
            → P (chosen (leaving (Ok tt) m) (leaving (Err (Circle c)) m) (leaving (Err (NoRecord c)) m) (process parents size k n (set m c k) (get_or parents c 0)) t u v).marks
        go false u v g = h
        go true true v g = h
        go true false true g = h
        go true false false g = g

    module _ (m lineage : List ℕ) (c : ℕ) (l : size ≤ length m) (a : Agree k m lineage) (h : Climbing parents size k m c) where
      at_top : {x : Climbed} {y : Ending} → x ≡ leaving (Ok tt) m → y ≡ (Ok tt) → (n : ℕ) → Ends parents size n c → Answers x y
      at_top {x} d e n g =
          (ap (λ (z : Climbed). z.ending) d ∙ sym e, λ q. subst (λ (z : Climbed). Ended parents size z.marks) (sym d) (climbing_end parents size k m c h n g))

      refused : {x : Climbed} {y z : Ending} → x ≡ leaving z m → y ≡ z → (z ≡ (Ok tt) → ⊥) → Answers x y
      refused {x} d e f = (ap (λ (u : Climbed). u.ending) d ∙ sym e, λ q. absurd (f (sym (ap (λ (u : Climbed). u.ending) d) ∙ q)))

      one_answer : (n i : ℕ)
          → (c < size → get_or m c 0 ≡ 0 → lacks_record parents c ≡ false
          → Answers (process parents size k n (set m c k) (get_or parents c 0)) (climb_from parents size i (c ∷ lineage) (get_or parents c 0)))
          → Answers (process parents size k (suc n) m c) (climb_from parents size (suc i) lineage c)
      one_answer n i more = go (meet size k m c)
        where
          go : Met size k m c → Answers (process parents size k (suc n) m c) (climb_from parents size (suc i) lineage c)
          go (outside p) =
              at_top (process_outside parents size k m c p (suc n)) (from_outside parents size lineage c i p) 0 (ends_top parents size c p)
          go (again p q) =
              refused (process_again parents size k m c p q n)
              (from_again parents size lineage c i p (sym (a c) ∙ eq-eqb (get_or m c 0) k q))
              (λ e. let z : ◌≡◌ {A = ℕ} 0 1 = cc in omega arith)
          go (earlier p f d) =
              let x = h.by_others c f d in
              at_top (process_earlier parents size k m c p f d (suc n))
              (line_top x.0 (suc i) lineage c x.1 (λ j g. h.longer j x.0 (eqb-true (get_or m j 0) k (a j ∙ g)) x.1))
              x.0 x.1
          go (new p z d) = decided (lacks_record parents c) refl
            where
              unmet : (c ∈? lineage) ≡ false
              unmet = sym (a c) ∙ ne_eqb (get_or m c 0) k d

              decided : (t : Bool) → lacks_record parents c ≡ t → Answers (process parents size k (suc n) m c) (climb_from parents size (suc i) lineage c)
              decided true r =
                  refused (process_lacking parents size k m c p z d r n) (from_lacking parents size lineage c i p unmet r)
                  (λ e. let y : ◌≡◌ {A = ℕ} 0 1 = cc in omega arith)
              decided false r =
                  let g = more p z r in
                  let x = process_up parents size k m c p z d r n in (
                    ap (λ (u : Climbed). u.ending) x ∙ g.0 ∙ sym (from_up parents size lineage c i p unmet r),
                    λ q. subst (λ (u : Climbed). Ended parents size u.marks) (sym x) (g.1 (sym (ap (λ (u : Climbed). u.ending) x) ∙ q)),
                  )

    -- so it does where the marks k tell the lineage, and other marks classes whose lines end
    answers : (k ≡ 0 → ⊥) → (n i : ℕ) (m lineage : List ℕ) (c : ℕ) → size ≤ length m → unmarked m size < n → unmarked m size < i
        → Agree k m lineage → Climbing parents size k m c → Answers (process parents size k n m c) (climb_from parents size i lineage c)
    answers z zero i m lineage c l x y a h = absurd (omega arith)
    answers z (suc n) zero m lineage c l x y a h = absurd (omega arith)
    answers z (suc n) (suc i) m lineage c l x y a h =
        one_answer m lineage c l a h n i
        (λ p q r. answers z n i (set m c k) (c ∷ lineage) (get_or parents c 0) (omega (arith, length-set m c k))
        (omega (arith, unmarked_less m c k z (omega arith) q size p)) (omega (arith, unmarked_less m c k z (omega arith) q size p))
        (agree_more k m lineage c (omega arith) a) (climbing_up parents size k m c h l p r))

-- as many marks as there were, and none over k
record Marks (n k : ℕ) (m : List ℕ) : Type 0 where
  as_many : length m ≡ n
  most : (j : ℕ) → get_or m j 0 ≤ k

marks_kept : (n k : ℕ) (m : List ℕ) (c : ℕ) → Marks n k m → Marks n k (set m c k)
marks_kept n k m c h = record { as_many = length-set m c k ∙ h.as_many; most = λ j. go j (eqb j c) refl (ltb c (length m)) refl }
  where
    go : (j : ℕ) (t : Bool) → eqb j c ≡ t → (u : Bool) → ltb c (length m) ≡ u → get_or (set m c k) j 0 ≤ k
    go j true d true e =
        omega (
          arith,
          ap (λ (i : ℕ). get_or (set m c k) i 0) (eqb-true j c d),
          get_or-set_same m c k 0 (ltb-true c (length m) e),
        )
    go j true d false e = omega (arith, ap (λ (i : List ℕ). get_or i j 0) (set_out m c k (ltb-false c (length m) e)), h.most j)
    go j false d u e = omega (arith, get_or-set_other m c j k 0 (eqb-false j c d), h.most j)

module _ (parents m : List ℕ) (h : (j : ℕ) → get_or m j 0 ≡ 0) where
  -- no marks, no lines to know of
  none_ended : Ended parents (run_size parents m) m
  none_ended = record { ended = λ j f. absurd (f (h j)) }

  -- without marks at its start a climb answers as that without marks
  pub climb_plain : (c : ℕ) → (climbed parents m c).ending ≡ climb_from parents (run_size parents m) (suc (run_size parents m)) [] c
  climb_plain c =
      ap (λ (x : Climbed). x.ending) (sym (climb_start parents m c refl refl))
      ∙ (answers parents size (one_more c) (mark_some c) (suc size) (suc size) m [] c (omega arith) (omega (arith, unmarked_most m size)) (omega (arith, unmarked_most m size))
      (λ j. ne_eqb (get_or m j 0) (one_more c) (λ e. mark_some c (sym e ∙ h j)))
      (climbing_start parents size (one_more c) m c (λ j. below (one_more c) (mark_some c) j) none_ended)).0
    where
      size : ℕ
      size = run_size parents m

      below : (k : ℕ) → (k ≡ 0 → ⊥) → (j : ℕ) → get_or m j 0 < k
      below zero z j = absurd (z refl)
      below (suc k) z j = omega (arith, h j)

top_of : (x : Ending) → is_top x ≡ true → x ≡ (Ok tt)
top_of (Ok x) e = refl
top_of (Err x) e = absurd (subst T (sym e) tt)

-- the climb from class c, where the marks are those of climbs from classes below it
module _ (parents : List ℕ) (size c : ℕ) (m : List ℕ) (e : size ≡ run_size parents m) (l : c < size) (g : (j : ℕ) → get_or m j 0 ≤ c) where
  as_process : climbed parents m c ≡ process parents size (suc c) (suc size) m c
  as_process = sym (climb_start parents m c e (sym (ap (λ (t : Bool). when t then suc c else c) (lt-ltb c NO_RECORD (omega arith)))))

  next_marks : Marks (length m) (suc c) (climbed parents m c).marks
  next_marks =
      subst (λ (x : Climbed). Marks (length m) (suc c) x.marks) (sym as_process)
      (process_keeps parents size (suc c) (Marks (length m) (suc c)) (marks_kept (length m) (suc c)) (suc size) m c
      (record { as_many = refl; most = λ j. omega (arith, g j) }))

  next_answers : Ended parents size m → Answers parents size (climbed parents m c) (climb_from parents size (suc size) [] c)
  next_answers h =
      subst (λ (x : Climbed). Answers parents size x (climb_from parents size (suc size) [] c)) (sym as_process)
      (answers parents size (suc c) (λ z. omega arith) (suc size) (suc size) m [] c (omega arith) (omega (arith, unmarked_most m size))
      (omega (arith, unmarked_most m size)) (λ j. ne_eqb (get_or m j 0) (suc c) (λ z. omega (arith, g j)))
      (climbing_start parents size (suc c) m c (λ j. omega (arith, g j)) h))

-- the climbs from class c on
later_answers : (parents : List ℕ) (size n c : ℕ) (m : List ℕ) → size ≡ run_size parents m → c + n ≡ size → ((j : ℕ) → get_or m j 0 ≤ c) → Ended parents size m
    → (process_all parents n m c).ending ≡ first (λ x. not (is_top x)) (Ok tt) (map (climb_from parents size (suc size) []) (from c n))
later_answers parents size zero c m e s g h = refl
later_answers parents size (suc n) c m e s g h =
    go (is_top (climbed parents m c).ending) refl
    (λ d. later_answers parents size n (suc c) (climbed parents m c).marks (omega (arith, kept.as_many)) (omega arith) kept.most
    (found.1 (top_of (climbed parents m c).ending d)))
  where
    kept : Marks (length m) (suc c) (climbed parents m c).marks
    kept = next_marks parents size c m e (omega arith) g

    found : Answers parents size (climbed parents m c) (climb_from parents size (suc size) [] c)
    found = next_answers parents size c m e (omega arith) g h

    rest : Ending
    rest = first (λ x. not (is_top x)) (Ok tt) (map (climb_from parents size (suc size) []) (from (suc c) n))

    plain : Ending
    plain = climb_from parents size (suc size) [] c

    tested : (t : Bool) → is_top (climbed parents m c).ending ≡ t → (when not (is_top plain) then plain else rest) ≡ (when not t then plain else rest)
    tested t d = ap (λ (u : Bool). when not u then plain else rest) (sym (ap is_top found.0) ∙ d)

    go : (t : Bool) → is_top (climbed parents m c).ending ≡ t
        → (is_top (climbed parents m c).ending ≡ true → (process_all parents n (climbed parents m c).marks (suc c)).ending ≡ rest)
        → (process_all parents (suc n) m c).ending ≡ (when not (is_top plain) then plain else rest)
    go true d i = ap (λ (x : Climbed). x.ending) (sym (all_next parents m (suc n) n c (suc c) refl refl refl d)) ∙ i d ∙ sym (tested true d)
    go false d i = ap (λ (x : Climbed). x.ending) (sym (all_over parents m (suc n) n c (suc c) refl refl refl d)) ∙ found.0 ∙ sym (tested false d)

-- without marks at the start, all climbs answer as the climbs without marks
pub climb_all_plain : (parents m : List ℕ) → ((j : ℕ) → get_or m j 0 ≡ 0) → (climbed_all parents m).ending ≡ first_ending parents (run_size parents m)
unfolding climbed_all first_ending
climb_all_plain parents m h =
    later_answers parents (run_size parents m) (run_size parents m) 0 m refl (omega arith) (λ j. omega (arith, h j)) (none_ended parents m h)
