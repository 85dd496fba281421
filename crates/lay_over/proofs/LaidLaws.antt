-- What an open entry leaves, as words; and words written one after another.
use mathlib.Core.Path.{◌≡◌, refl, sym, ap, ◌∙◌}
use mathlib.Core.List.{List, [], ◌∷◌, ◌++◌, append_assoc, append-nil}
use mathlib.Core.Bool.{Bool, true, false}
use Prim.Native.Nat.{ℕ, suc, ◌+◌, ◌-◌, ◌*◌, ◌<◌, ◌≤◌}
use native.Mathlib.Omega.{arith}
use lib.ListN.{length, length-append}
use lib.Seq.{sets, length-sets}
use lib.Dec.{eqb, leb, ltb}
use borrow.Author.Tests.{ne_eqb, le-leb, lt-leb, ltb-true, ltb-false}
use Rattle.definition.specs.Basics.{when◌then◌else◌, bit, concat_map}
use Rattle.definition.specs.Sheet.{Sheet, b}
use Rattle.definition.specs.Meaning.{Meaning, Named, named, nothing, function, class, global, toplevel, variable}
use Rattle.definition.specs.Answer.{raised_function, raised_class}
use Rattle.machine.specs.Machine.{entry_word}
use Rattle.machine.proofs.Words.{sets_more}
use Rattle.session.specs.Words.{laid_words}
use Rattle.entry_walk.specs.Laid.{left_by, left_in, left_from}

-- open entry i, of which m is the name, t the tag, x and y the values
module _ (s : Sheet) (n : ℕ) (v : List ℕ) (i : ℕ) {m t x y : ℕ} (em : m ≡ entry_word v i 1) (et : t ≡ entry_word v i 0) (ex : x ≡ entry_word v i 2) (ey : y ≡ entry_word v i 3) where
  abbrev words : List ℕ
  words = laid_words (named (entry_word v i 1) (left_by s n (entry_word v i 0) (entry_word v i 2) (entry_word v i 3)))

  same : laid_words (named m (left_by s n t x y)) ≡ words
  same =
      ap (λ (k : ℕ). laid_words (named k (left_by s n t x y))) em ∙ ap (λ (k : ℕ). laid_words (named (entry_word v i 1) (left_by s n k x y))) et
      ∙ ap (λ (k : ℕ). laid_words (named (entry_word v i 1) (left_by s n (entry_word v i 0) k y))) ex
      ∙ ap (λ (k : ℕ). laid_words (named (entry_word v i 1) (left_by s n (entry_word v i 0) (entry_word v i 2) k))) ey

  pub function_words : {f : ℕ} → t ≡ 3 → f ≡ raised_function n x → (m ∷ 1 ∷ f ∷ 0 ∷ []) ≡ words
  function_words {f} e h = ap (λ (k : ℕ). m ∷ 1 ∷ k ∷ 0 ∷ []) h ∙ sym (ap (λ (k : ℕ). laid_words (named m (left_by s n k x y))) e) ∙ same

  pub class_words_lem : {c : ℕ} → t ≡ 4 → c ≡ raised_class n x → (m ∷ 2 ∷ c ∷ 0 ∷ []) ≡ words
  class_words_lem {c} e h = ap (λ (k : ℕ). m ∷ 2 ∷ k ∷ 0 ∷ []) h ∙ sym (ap (λ (k : ℕ). laid_words (named m (left_by s n k x y))) e) ∙ same

  pub global_words : t ≡ 5 → (m ∷ 3 ∷ x ∷ y ∷ []) ≡ words
  global_words e = sym (ap (λ (k : ℕ). laid_words (named m (left_by s n k x y))) e) ∙ same

  pub let_words : {k : ℕ} → t ≡ 7 → k ≡ bit (eqb (b s x) 1) → (m ∷ 3 ∷ y ∷ k ∷ []) ≡ words
  let_words {k} e h = ap (λ (q : ℕ). m ∷ 3 ∷ y ∷ q ∷ []) h ∙ sym (ap (λ (k : ℕ). laid_words (named m (left_by s n k x y))) e) ∙ same

  pub other_words : (t ≡ 3 → ⊥) → (t ≡ 4 → ⊥) → (t ≡ 5 → ⊥) → (t ≡ 7 → ⊥) → (m ∷ 0 ∷ 0 ∷ 0 ∷ []) ≡ words
  other_words h₃ h₄ h₅ h₇ = none ∙ same
    where
      none : (m ∷ 0 ∷ 0 ∷ 0 ∷ []) ≡ laid_words (named m (left_by s n t x y))
      none = rw (ne_eqb t 3 h₃, ne_eqb t 4 h₄, ne_eqb t 5 h₅, ne_eqb t 7 h₇)

-- what open entry i leaves: nothing, if it is a mark
pub mark_left : (s : Sheet) (n : ℕ) (v : List ℕ) (i : ℕ) → entry_word v i 0 ≤ 1 → left_in s n v i ≡ []
mark_left s n v i h = rw (le-leb (entry_word v i 0) 1 h)

pub name_left : (s : Sheet) (n : ℕ) (v : List ℕ) (i : ℕ) → 1 < entry_word v i 0
    → left_in s n v i ≡ named (entry_word v i 1) (left_by s n (entry_word v i 0) (entry_word v i 2) (entry_word v i 3)) ∷ []
name_left s n v i h = rw (lt-leb (entry_word v i 0) 1 h)

pub count_left : (s : Sheet) (n : ℕ) (v : List ℕ) (i : ℕ) {t : ℕ} → t ≡ entry_word v i 0 → bit (ltb 1 t) ≡ length (left_in s n v i)
count_left s n v i {t} e = ap (λ (x : ℕ). bit (ltb 1 x)) e ∙ go (ltb 1 (entry_word v i 0)) refl
  where
    go : (a : Bool) → ltb 1 (entry_word v i 0) ≡ a → bit (ltb 1 (entry_word v i 0)) ≡ length (left_in s n v i)
    go true e = ap bit e ∙ sym (ap length (name_left s n v i (ltb-true 1 (entry_word v i 0) e)))
    go false e = ap bit e ∙ sym (ap length (mark_left s n v i (ltb-false 1 (entry_word v i 0) e)))

module _ (s : Sheet) (n : ℕ) (v : List ℕ) (i e : ℕ) where
  -- from open entry i on, up to entry e
  left_end : e ≤ i → left_from s n v i (e - i) ≡ []
  unfolding left_from
  left_end h = let z : e - i ≡ 0 = omega arith in ap (left_from s n v i) z

  left_step : i < e → left_from s n v i (e - i) ≡ left_in s n v i ++ left_from s n v (i + 1) (e - (i + 1))
  unfolding left_from
  left_step h =
      let z : e - i ≡ suc (e - (i + 1)) = omega arith in
      let y : suc i ≡ i + 1 = omega arith in
      ap (left_from s n v i) z ∙ ap (λ (k : ℕ). left_in s n v i ++ left_from s n v k (e - (i + 1))) y

-- A loop that writes what the entries from `first` up to `end` leave, from a place on, has come to entry i and place p of the words w.
pub record Laying (w₀ : List ℕ) (place : ℕ) (s : Sheet) (v : List ℕ) (first end n : ℕ) (w : List ℕ) (i p : ℕ) : Type 0 where
  pub lays : sets w p (concat_map laid_words (left_from s n v i (end - i))) ≡ sets w₀ place (concat_map laid_words (left_from s n v first (end - first)))
  pub further : first ≤ i
  pub near : p ≤ place + 4 * (i - first)
  pub long : length w ≡ length w₀

-- four words at most for one entry
left_short : (s : Sheet) (n : ℕ) (v : List ℕ) (i : ℕ) → length (concat_map laid_words (left_in s n v i)) ≤ 4
left_short s n v i = by (leb (entry_word v i 0) 1)
  where
    by : (t : Bool) → length (concat_map laid_words (when t then [] else named (entry_word v i 1) (left_by s n (entry_word v i 0) (entry_word v i 2) (entry_word v i 3)) ∷ [])) ≤ 4
    by true = omega arith
    by false = four (left_by s n (entry_word v i 0) (entry_word v i 2) (entry_word v i 3))
      where
        four : (d : Meaning) → length (concat_map laid_words (named (entry_word v i 1) d ∷ [])) ≤ 4
        four nothing = omega arith
        four (function f) = omega arith
        four (class c) = omega arith
        four (global g m) = omega arith
        four (toplevel r) = omega arith
        four (variable r f) = omega arith

module _ {w₀ : List ℕ} {place : ℕ} {s : Sheet} {v : List ℕ} {first end n : ℕ} where
  pub laying_start : Laying w₀ place s v first end n w₀ first place
  laying_start = record { lays = refl; further = omega arith; near = omega arith; long = refl }

  module _ {w : List ℕ} {i p : ℕ} (h : Laying w₀ place s v first end n w i p) where
    pub laying_more : {w' : List ℕ} {k : ℕ} → i < end → w' ≡ sets w p (concat_map laid_words (left_in s n v i)) → k ≡ length (concat_map laid_words (left_in s n v i))
        → Laying w₀ place s v first end n w' (i + 1) (p + k)
    laying_more {w'} {k} l d e =
        record {
          lays =
              ap (λ (u : List ℕ). sets u (p + k) rest) d ∙ sym (sets_more w p (concat_map laid_words (left_in s n v i)) rest (ap (λ (j : ℕ). p + j) e))
              ∙ ap (sets w p) (sym (concat_append (left_in s n v i) (left_from s n v (i + 1) (end - (i + 1)))))
              ∙ ap (λ (xs : List Named). sets w p (concat_map laid_words xs)) (sym (left_step s n v i end l)) ∙ h.lays;
          further = omega (arith, h.further);
          near = omega (arith, h.near, h.further, left_short s n v i, e);
          long = ap length d ∙ length-sets w p (concat_map laid_words (left_in s n v i)) ∙ h.long;
        }
      where
        rest : List ℕ
        rest = concat_map laid_words (left_from s n v (i + 1) (end - (i + 1)))

        concat_append : (xs ys : List Named) → concat_map laid_words (xs ++ ys) ≡ concat_map laid_words xs ++ concat_map laid_words ys
        concat_append [] ys = refl
        concat_append (x ∷ xs) ys =
            ap (λ (l : List ℕ). laid_words x ++ l) (concat_append xs ys) ∙ sym (append_assoc (laid_words x) (concat_map laid_words xs) (concat_map laid_words ys))

    -- the next place is at most the last
    pub laying_near : i < end → p ≤ place + 4 * (end - first)
    laying_near l = omega (arith, h.near, h.further)

    pub laying_end : end ≤ i → w ≡ sets w₀ place (concat_map laid_words (left_from s n v first (end - first)))
    laying_end l = ap (λ (xs : List Named). sets w p (concat_map laid_words xs)) (sym (left_end s n v i end l)) ∙ h.lays

-- A loop that counts them has come to entry i, with a count of c.
pub record Counting (v : List ℕ) (first end i c : ℕ) : Type 0 where
  pub counts : (s : Sheet) (n : ℕ) → c + length (left_from s n v i (end - i)) ≡ length (left_from s n v first (end - first))
  pub further : first ≤ i
  pub near : c ≤ i - first

left_one : (s : Sheet) (n : ℕ) (v : List ℕ) (i : ℕ) → length (left_in s n v i) ≤ 1
left_one s n v i = by (leb (entry_word v i 0) 1)
  where
    by : (t : Bool) → length (when t then [] else named (entry_word v i 1) (left_by s n (entry_word v i 0) (entry_word v i 2) (entry_word v i 3)) ∷ []) ≤ 1
    by true = omega arith
    by false = omega arith

module _ {v : List ℕ} {first end : ℕ} where
  pub counting_start : Counting v first end first 0
  counting_start = record { counts = λ s n. omega arith; further = omega arith; near = omega arith }

  module _ {i c : ℕ} (h : Counting v first end i c) where
    pub counting_more : {k : ℕ} → i < end → ((s : Sheet) (n : ℕ) → k ≡ length (left_in s n v i)) → Counting v first end (i + 1) (c + k)
    counting_more {k} l e =
        record {
          counts = λ s n. omega (arith, ap length (left_step s n v i end l), length-append (left_in s n v i) (left_from s n v (i + 1) (end - (i + 1))), e s n, h.counts s n);
          further = omega (arith, h.further);
          near = omega (arith, h.near, h.further, e [] 0, left_one [] 0 v i);
        }

    pub counting_end : end ≤ i → (s : Sheet) (n : ℕ) → c ≡ length (left_from s n v first (end - first))
    counting_end l s n = omega (arith, ap length (left_end s n v i end l), h.counts s n)

-- what is written of open entry i, and how many words
module _ (s : Sheet) (n : ℕ) (v : List ℕ) (i : ℕ) (w : List ℕ) (p : ℕ) where
  pub mark_written : entry_word v i 0 ≤ 1 → (w ≡ sets w p (concat_map laid_words (left_in s n v i))) × (0 ≡ length (concat_map laid_words (left_in s n v i)))
  mark_written h =
      let e = sym (mark_left s n v i h) in
      (ap (λ (xs : List Named). sets w p (concat_map laid_words xs)) e, ap (λ (xs : List Named). length (concat_map laid_words xs)) e)

  pub name_written : {w' : List ℕ} {a b c d : ℕ} → 1 < entry_word v i 0
      → (a ∷ b ∷ c ∷ d ∷ []) ≡ laid_words (named (entry_word v i 1) (left_by s n (entry_word v i 0) (entry_word v i 2) (entry_word v i 3)))
      → w' ≡ sets w p (a ∷ b ∷ c ∷ d ∷ [])
      → (w' ≡ sets w p (concat_map laid_words (left_in s n v i))) × (4 ≡ length (concat_map laid_words (left_in s n v i)))
  name_written {w'} {a} {b} {c} {d} h e g =
      let x : concat_map laid_words (left_in s n v i) ≡ a ∷ b ∷ c ∷ d ∷ [] = ap (concat_map laid_words) (name_left s n v i h) ∙ append-nil _ ∙ sym e in
      (g ∙ ap (sets w p) (sym x), ap length (sym x))
