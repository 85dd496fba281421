-- One step of the climb, and how it leads through `process`.
use mathlib.Core.Path.{◌≡◌, refl, sym, ap, subst, ◌∙◌}
use mathlib.Core.Bool.{Bool, true, false, not, ◌&&◌, ◌||◌}
use mathlib.Core.List.{List}
use Prim.Native.Nat.{ℕ, zero, suc, ◌<◌, ◌≤◌}
use native.Mathlib.Omega.{arith}
use lib.Dec.{T, eqb, ltb}
use lib.ListN.{length, get_or, set, length-set}
use borrow.Author.Tests.{eq-eqb, ne_eqb, eqb-true, eqb-false, ltb-true, ltb-false, lt-ltb, le-ltb}
use Rattle.definition.specs.Basics.{when◌then◌else◌}
use Rattle.machine.specs.Machine.{one_more}
use Rattle.std.specs.Prelude.{Ok, Err, Some, None}
use Rattle.std.specs.Result.{IsErrAnd}
use Rattle.climb.specs.declared.ClimbError.TheVariants.{Circle, NoRecord}
use Rattle.climb.specs.declared.ClimbError.{ClimbError}
use Rattle.climb.specs.Process.{Ending, Step, NO_RECORD, run_size, Climbed, leaving, is_pending, in_lineage, lacks_record, process, climbed, step_at, marks_after}
use Rattle.climb.specs.Process.{is_top, process_all, climbed_all}
use Rattle.climb.proofs.CountLaws.{unmarked, unmarked_most, unmarked_less}

-- a choice by three tests, in the order of `process`: pending, in the lineage, parent without a record
abbrev pub chosen {ℓ} : {A : Type ℓ} → A → A → A → A → Bool → Bool → Bool → A
chosen w x y z t u v = when not t then w else when u then x else when v then y else z

module _ {ℓ} {A : Type ℓ} (w x y z : A) (t u v : Bool) where
  pub chosen_1 : t ≡ false → chosen w x y z t u v ≡ w
  chosen_1 p = ap (λ (b : Bool). chosen w x y z b u v) p

  pub chosen_2 : t ≡ true → u ≡ true → chosen w x y z t u v ≡ x
  chosen_2 p q = ap (λ (b : Bool). chosen w x y z b u v) p ∙ ap (λ (b : Bool). chosen w x y z true b v) q

  pub chosen_3 : t ≡ true → u ≡ false → v ≡ true → chosen w x y z t u v ≡ y
  chosen_3 p q r = ap (λ (b : Bool). chosen w x y z b u v) p ∙ ap (λ (b : Bool). chosen w x y z true b v) q ∙ ap (chosen w x y z true false) r

  pub chosen_4 : t ≡ true → u ≡ false → v ≡ false → chosen w x y z t u v ≡ z
  chosen_4 p q r = ap (λ (b : Bool). chosen w x y z b u v) p ∙ ap (λ (b : Bool). chosen w x y z true b v) q ∙ ap (chosen w x y z true false) r

-- the test of a class, by the mark e that it has
module _ (size mark : ℕ) (marks : List ℕ) (c : ℕ) where
  pub pending_not : size ≤ c → false ≡ is_pending size mark marks c
  pending_not l = sym (ap (λ (t : Bool). t && (eqb (get_or marks c 0) 0 || eqb (get_or marks c 0) mark)) (le-ltb c size l))

  module _ (l : c < size) {e : ℕ} (h : e ≡ get_or marks c 0) where
    inside : is_pending size mark marks c ≡ (eqb e 0 || eqb e mark)
    inside =
        ap (λ (t : Bool). t && (eqb (get_or marks c 0) 0 || eqb (get_or marks c 0) mark)) (lt-ltb c size l)
        ∙ ap (λ (i : ℕ). eqb i 0 || eqb i mark) (sym h)

    pub pending_free : e ≡ 0 → true ≡ is_pending size mark marks c
    pending_free z = sym (inside ∙ ap (λ (t : Bool). t || eqb e mark) (eq-eqb e 0 z))

    pub pending_marked : (e ≡ 0 → ⊥) → eqb e mark ≡ is_pending size mark marks c
    pending_marked z = sym (inside ∙ ap (λ (t : Bool). t || eqb e mark) (ne_eqb e 0 z))

-- A step by the three tests of `climb_step`: t is it pending, u is it in the lineage, k its parent number.
module _ (parents : List ℕ) (size mark : ℕ) (m : List ℕ) (c : ℕ) {t : Bool} (e : t ≡ is_pending size mark m c) where
  pub step_top : t ≡ false → Ok None ≡ step_at parents size mark m c
  step_top p = sym (chosen_1 _ _ _ _ (is_pending size mark m c) (in_lineage mark m c) (lacks_record parents c) (sym e ∙ p))

  module _ (p : t ≡ true) {u : Bool} (f : u ≡ in_lineage mark m c) where
    pub step_circle : u ≡ true → Err (Circle c) ≡ step_at parents size mark m c
    step_circle q =
        sym (chosen_2 _ _ _ _ (is_pending size mark m c) (in_lineage mark m c) (lacks_record parents c) (sym e ∙ p) (sym f ∙ q))

    module _ (q : u ≡ false) {k : ℕ} (g : k ≡ get_or parents c 0) where
      pub step_lacking : k ≡ NO_RECORD → Err (NoRecord c) ≡ step_at parents size mark m c
      step_lacking r =
          sym (chosen_3 _ _ _ _ (is_pending size mark m c) (in_lineage mark m c) (lacks_record parents c) (sym e ∙ p) (sym f ∙ q)
          (eq-eqb (get_or parents c 0) NO_RECORD (sym g ∙ r)))

      pub step_parent : (k ≡ NO_RECORD → ⊥) → Ok (Some k) ≡ step_at parents size mark m c
      step_parent r =
          let up : ℕ → Step = λ i. Ok (Some i) in
          ap up g
          ∙ sym (chosen_4 _ _ _ _ (is_pending size mark m c) (in_lineage mark m c) (lacks_record parents c) (sym e ∙ p) (sym f ∙ q)
          (ne_eqb (get_or parents c 0) NO_RECORD (λ z. r (g ∙ z))))

-- what a class is to a climb: none of the run, met in this climb, met in an earlier one, or new
pub data Met (size mark : ℕ) (m : List ℕ) (c : ℕ) : Type 0 where
  outside : ltb c size ≡ false → Met size mark m c
  again : c < size → get_or m c 0 ≡ mark → Met size mark m c
  earlier : c < size → (get_or m c 0 ≡ 0 → ⊥) → (get_or m c 0 ≡ mark → ⊥) → Met size mark m c
  new : c < size → get_or m c 0 ≡ 0 → (get_or m c 0 ≡ mark → ⊥) → Met size mark m c

pub meet : (size mark : ℕ) (m : List ℕ) (c : ℕ) → Met size mark m c
meet size mark m c = go (ltb c size) refl (eqb (get_or m c 0) mark) refl (eqb (get_or m c 0) 0) refl
  where
    go : (t : Bool) → ltb c size ≡ t → (u : Bool) → eqb (get_or m c 0) mark ≡ u → (v : Bool) → eqb (get_or m c 0) 0 ≡ v → Met size mark m c
    go false p u q v r = outside p
    go true p true q v r = again (ltb-true c size p) (eqb-true (get_or m c 0) mark q)
    go true p false q true r = new (ltb-true c size p) (eqb-true (get_or m c 0) 0 r) (eqb-false (get_or m c 0) mark q)
    go true p false q false r = earlier (ltb-true c size p) (eqb-false (get_or m c 0) 0 r) (eqb-false (get_or m c 0) mark q)

module _ (parents : List ℕ) (size mark : ℕ) (m : List ℕ) (c : ℕ) where
  -- `process` by what the class is
  pub process_outside : ltb c size ≡ false → (n : ℕ) → process parents size mark n m c ≡ leaving (Ok tt) m
  process_outside p zero = refl
  process_outside p (suc n) =
      chosen_1 _ _ _ _ (is_pending size mark m c) (in_lineage mark m c) (lacks_record parents c)
      (ap (λ (t : Bool). t && (eqb (get_or m c 0) 0 || eqb (get_or m c 0) mark)) p)

  pub process_again : c < size → get_or m c 0 ≡ mark → (n : ℕ) → process parents size mark (suc n) m c ≡ leaving (Err (Circle c)) m
  process_again l e n =
      chosen_2 _ _ _ _ (is_pending size mark m c) (in_lineage mark m c) (lacks_record parents c) (pending (eqb (get_or m c 0) 0) refl)
      (eq-eqb (get_or m c 0) mark e)
    where
      pending : (t : Bool) → eqb (get_or m c 0) 0 ≡ t → is_pending size mark m c ≡ true
      pending true d = sym (pending_free size mark m c l refl (eqb-true (get_or m c 0) 0 d))
      pending false d = sym (pending_marked size mark m c l refl (eqb-false (get_or m c 0) 0 d)) ∙ eq-eqb (get_or m c 0) mark e

  pub process_earlier : c < size → (get_or m c 0 ≡ 0 → ⊥) → (get_or m c 0 ≡ mark → ⊥) → (n : ℕ) → process parents size mark n m c ≡ leaving (Ok tt) m
  process_earlier l f d zero = refl
  process_earlier l f d (suc n) =
      chosen_1 _ _ _ _ (is_pending size mark m c) (in_lineage mark m c) (lacks_record parents c)
      (sym (pending_marked size mark m c l refl f) ∙ ne_eqb (get_or m c 0) mark d)

  module _ (l : c < size) (z : get_or m c 0 ≡ 0) (d : get_or m c 0 ≡ mark → ⊥) where
    pub process_lacking : lacks_record parents c ≡ true → (n : ℕ) → process parents size mark (suc n) m c ≡ leaving (Err (NoRecord c)) m
    process_lacking r n =
        chosen_3 _ _ _ _ (is_pending size mark m c) (in_lineage mark m c) (lacks_record parents c) (sym (pending_free size mark m c l refl z))
        (ne_eqb (get_or m c 0) mark d) r

    pub process_up : lacks_record parents c ≡ false
        → (n : ℕ) → process parents size mark (suc n) m c ≡ process parents size mark n (set m c mark) (get_or parents c 0)
    process_up r n =
        chosen_4 _ _ _ _ (is_pending size mark m c) (in_lineage mark m c) (lacks_record parents c) (sym (pending_free size mark m c l refl z))
        (ne_eqb (get_or m c 0) mark d) r

-- the climb after a step
abbrev go_on : List ℕ → ℕ → ℕ → ℕ → List ℕ → Step → Climbed
go_on parents size mark n m (Ok (Some p)) = process parents size mark n m p
go_on parents size mark n m (Ok None) = leaving (Ok tt) m
go_on parents size mark n m (Err e) = leaving (Err e) m

-- a step up is chosen by the last of three tests
last_chosen : (x y : ClimbError) (q p : ℕ) (t u v : Bool) → chosen {A = Step} (Ok None) (Err x) (Err y) (Ok (Some q)) t u v ≡ Ok (Some p) → (t ≡ true) × (u ≡ false)
last_chosen x y q p false u v e = let z : ◌≡◌ {A = ℕ} 0 1 = cc in absurd (omega arith)
last_chosen x y q p true true v e = let z : ◌≡◌ {A = ℕ} 0 1 = cc in absurd (omega arith)
last_chosen x y q p true false v e = (refl, refl)

-- how a refusal is handed on
pub handed : (r : Ending) (e : ClimbError) → IsErrAnd r (λ x. x ≡ e) → r ≡ Err e
handed (Ok x) e h = absurd h
handed (Err x) e h = ap Err h

module _ (parents : List ℕ) (size mark : ℕ) (m : List ℕ) (c : ℕ) {x : Step} (e : x ≡ step_at parents size mark m c) where
  by_step : (n : ℕ) → process parents size mark (suc n) m c ≡ go_on parents size mark n (marks_after mark m c x) x
  by_step n =
      go (is_pending size mark m c) (in_lineage mark m c) (lacks_record parents c)
      ∙ ap (λ (s : Step). go_on parents size mark n (marks_after mark m c s) s) (sym e)
    where
      go : (t u v : Bool)
          → chosen (leaving (Ok tt) m) (leaving (Err (Circle c)) m) (leaving (Err (NoRecord c)) m) (process parents size mark n (set m c mark) (get_or parents c 0)) t u v
          ≡ go_on parents size mark n
          (marks_after mark m c (chosen (Ok None) (Err (Circle c)) (Err (NoRecord c)) (Ok (Some (get_or parents c 0))) t u v))
          (chosen (Ok None) (Err (Circle c)) (Err (NoRecord c)) (Ok (Some (get_or parents c 0))) t u v)
      go false u v = refl
      go true true v = refl
      go true false true = refl
      go true false false = refl

  module _ {m₂ : List ℕ} (h : m₂ ≡ marks_after mark m c x) where
    pub step_over : x ≡ Ok None → (n : ℕ) → leaving (Ok tt) m₂ ≡ process parents size mark (suc n) m c
    step_over f n =
        ap (leaving (Ok tt)) (h ∙ ap (marks_after mark m c) f)
        ∙ sym (by_step n ∙ ap (λ (s : Step). go_on parents size mark n (marks_after mark m c s) s) f)

    pub step_refused : {e : ClimbError} → x ≡ Err e → (n : ℕ) → leaving (Err e) m₂ ≡ process parents size mark (suc n) m c
    step_refused {e} f n =
        ap (leaving (Err e)) (h ∙ ap (marks_after mark m c) f)
        ∙ sym (by_step n ∙ ap (λ (s : Step). go_on parents size mark n (marks_after mark m c s) s) f)

    module _ {p : ℕ} (f : x ≡ Ok (Some p)) where
      marked : m₂ ≡ set m c mark
      marked = h ∙ ap (marks_after mark m c) f

      pub step_up : (n : ℕ) → process parents size mark n m₂ p ≡ process parents size mark (suc n) m c
      step_up n =
          ap (λ (k : List ℕ). process parents size mark n k p) marked
          ∙ sym (by_step n ∙ ap (λ (s : Step). go_on parents size mark n (marks_after mark m c s) s) f)

      pub step_length : length m₂ ≡ length m
      step_length = ap length marked ∙ length-set m c mark

      -- a class that is gone up from gets its first mark
      pub step_less : (mark ≡ 0 → ⊥) → size ≤ length m → suc (unmarked m₂ size) ≡ unmarked m size
      step_less z l =
          ap (λ (k : List ℕ). suc (unmarked k size)) marked
          ∙ go (meet size mark m c)
          (last_chosen (Circle c) (NoRecord c) (get_or parents c 0) p (is_pending size mark m c) (in_lineage mark m c) (lacks_record parents c) (sym e ∙ f))
        where
          go : Met size mark m c → (is_pending size mark m c ≡ true) × (in_lineage mark m c ≡ false) → suc (unmarked (set m c mark) size) ≡ unmarked m size
          go (outside q) g = absurd (subst T (sym g.0 ∙ ap (λ (t : Bool). t && (eqb (get_or m c 0) 0 || eqb (get_or m c 0) mark)) q) tt)
          go (again a b) g = absurd (eqb-false (get_or m c 0) mark g.1 b)
          go (earlier a b d) g = absurd (subst T (sym g.0 ∙ sym (pending_marked size mark m c a refl b) ∙ ne_eqb (get_or m c 0) mark d) tt)
          go (new a b d) g = unmarked_less m c mark z (omega arith) b size a

-- more steps than there are classes to mark change nothing
pub process_more : (parents : List ℕ) (size mark : ℕ) → (mark ≡ 0 → ⊥) → (n i : ℕ) (m : List ℕ) (c : ℕ)
    → size ≤ length m → unmarked m size < n → unmarked m size < i → process parents size mark n m c ≡ process parents size mark i m c
process_more parents size mark z zero i m c l a b = absurd (omega arith)
process_more parents size mark z (suc n) zero m c l a b = absurd (omega arith)
process_more parents size mark z (suc n) (suc i) m c l a b = go (step_at parents size mark m c) refl (λ p. process_more parents size mark z n i (set m c mark) p)
  where
    go : (x : Step) → x ≡ step_at parents size mark m c
        → ((p : ℕ) → size ≤ length (set m c mark) → unmarked (set m c mark) size < n → unmarked (set m c mark) size < i
        → process parents size mark n (set m c mark) p ≡ process parents size mark i (set m c mark) p)
        → process parents size mark (suc n) m c ≡ process parents size mark (suc i) m c
    go (Ok None) e h = sym (step_over parents size mark m c e refl refl n) ∙ step_over parents size mark m c e refl refl i
    go (Err y) e h = sym (step_refused parents size mark m c e refl refl n) ∙ step_refused parents size mark m c e refl refl i
    go (Ok (Some p)) e h =
        let g : suc (unmarked (set m c mark) size) ≡ unmarked m size = step_less parents size mark m c e refl refl z l in
        sym (step_up parents size mark m c e refl refl n)
        ∙ h p (omega (arith, length-set m c mark)) (omega arith) (omega arith)
        ∙ step_up parents size mark m c e refl refl i

-- the mark of a climb is none
pub mark_some : (c : ℕ) → one_more c ≡ 0 → ⊥
mark_some c = go (ltb c NO_RECORD) refl
  where
    go : (t : Bool) → ltb c NO_RECORD ≡ t → (when t then suc c else c) ≡ 0 → ⊥
    go true d e = omega arith
    go false d e = omega (arith, ltb-false c NO_RECORD d)

pub climb_start : (parents m : List ℕ) (c : ℕ) {size mark : ℕ} → size ≡ run_size parents m → mark ≡ one_more c
    → process parents size mark (suc size) m c ≡ climbed parents m c
unfolding climbed
climb_start parents m c {size} {mark} e f =
    ap (λ (n : ℕ). process parents n mark (suc n) m c) e
    ∙ ap (λ (k : ℕ). process parents (run_size parents m) k (suc (run_size parents m)) m c) f

-- any bound over the number of classes gives the same
pub bound_enough : (parents m : List ℕ) (c n : ℕ) → run_size parents m < n
    → process parents (run_size parents m) (one_more c) n m c ≡ climbed parents m c
bound_enough parents m c n l =
    process_more parents (run_size parents m) (one_more c) (mark_some c) n (suc (run_size parents m)) m c (omega arith)
    (omega (arith, unmarked_most m (run_size parents m)))
    (omega (arith, unmarked_most m (run_size parents m)))
    ∙ climb_start parents m c refl refl

pub climb_up : (parents : List ℕ) (size mark : ℕ) (m : List ℕ) (c : ℕ) → (mark ≡ 0 → ⊥) → size ≤ length m
    → {x : Step} {m₂ : List ℕ} {p : ℕ} → x ≡ step_at parents size mark m c → m₂ ≡ marks_after mark m c x → x ≡ Ok (Some p)
    → process parents size mark (suc size) m₂ p ≡ process parents size mark (suc size) m c
climb_up parents size mark m c z l {x} {m₂} {p} e h f =
    let g : suc (unmarked m₂ size) ≡ unmarked m size = step_less parents size mark m c e h f z l in
    process_more parents size mark z (suc size) size m₂ p (omega (arith, step_length parents size mark m c e h f))
    (omega (arith, unmarked_most m size))
    (omega (arith, unmarked_most m size))
    ∙ step_up parents size mark m c e h f size

-- the k climbs from class c on, of which the first leaves x and the marks m₂; d is the next class
module _ (parents m : List ℕ) (k n c d : ℕ) (s : k ≡ suc n) (t : d ≡ suc c) {x : Ending} {m₂ : List ℕ} (e : leaving x m₂ ≡ climbed parents m c) where
  first_of_all : process_all parents k m c ≡ (when is_top x then process_all parents n m₂ d else leaving x m₂)
  first_of_all =
      ap (λ (i : ℕ). process_all parents i m c) s
      ∙ ap (λ (i : ℕ). when is_top (climbed parents m c).ending then process_all parents n (climbed parents m c).marks i else climbed parents m c) (sym t)
      ∙ ap (λ (y : Climbed). when is_top y.ending then process_all parents n y.marks d else y) (sym e)

  pub all_over : is_top x ≡ false → leaving x m₂ ≡ process_all parents k m c
  all_over h = sym (first_of_all ∙ ap (λ (b : Bool). when b then process_all parents n m₂ d else leaving x m₂) h)

  pub all_next : is_top x ≡ true → process_all parents n m₂ d ≡ process_all parents k m c
  all_next h = sym (first_of_all ∙ ap (λ (b : Bool). when b then process_all parents n m₂ d else leaving x m₂) h)

pub all_end : (parents m : List ℕ) (n c : ℕ) → n ≡ 0 → leaving (Ok tt) m ≡ process_all parents n m c
all_end parents m n c e = sym (ap (λ (i : ℕ). process_all parents i m c) e)

pub all_start : (parents m : List ℕ) (size n : ℕ) → size ≡ run_size parents m → n ≡ size → process_all parents n m 0 ≡ climbed_all parents m
unfolding climbed_all
all_start parents m size n e f = ap (λ (i : ℕ). process_all parents i m 0) (f ∙ e)
