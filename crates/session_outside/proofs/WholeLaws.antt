-- The words written hold what the session is to an entry.
use mathlib.Core.Path.{◌≡◌, refl, sym, ap, ◌∙◌}
use mathlib.Core.Bool.{true}
use mathlib.Core.List.{List, [], ◌∷◌, ◌++◌, map}
use Prim.Native.Nat.{ℕ, zero, suc, ◌+◌, ◌-◌, ◌*◌, ◌≤◌}
use native.Mathlib.Omega.{arith}
use lib.ListN.{length, get_or, drop, length-append, length-map}
use lib.Seq.{sets, sets-eq}
use lib.Dec.{eqb}
use Rattle.definition.specs.Basics.{distinct, concat_map, total, from}
use Rattle.definition.specs.Meaning.{Named}
use Rattle.definition.specs.Outside.{Outside, ClassRecord, core, based}
use Rattle.outside.specs.Words.{over}
use Rattle.session.specs.Session.{Class, backward, visible, names_shown, earlier_record, outside_of}
use Rattle.session.specs.Words.{whole, fields_in, methods_in, class_in, session_in, runs_fit, session_fits}
use Rattle.session.proofs.HeldRuns.{held_laid, held_classes}
use Rattle.session.proofs.SessionLaws.{from_length, runs_of}
use Rattle.session_outside.specs.Written.{name_row, member_run, record_rows, outside_words, seen, names_below, records_from, visible_names, outside_in}
use Rattle.session_outside.specs.Readable.{Readable, outside_size}
use Rattle.session_outside.proofs.StoreLaws.{four_stored}
use Rattle.session_outside.proofs.ReadLaws.{names_length, rows_length, run_length, read_back}
use Rattle.session_outside.proofs.RecordLaws.{record_in, fields_count, methods_count}
use Rattle.session_outside.proofs.VisibleLaws.{visible_outward, names_few_lem}

-- how many words the members of classes take
members_length : (w : List ℕ) (i k : ℕ)
    → length (concat_map member_run (map earlier_record (map (class_in whole w []) (from i k)))) ≤ 3 * total (λ j. fields_in whole w [] j + methods_in whole w [] j) (from i k)
members_length w i zero = omega arith
members_length w i (suc k) =
    omega (
      arith,
      length-append (member_run (record_in w i)) (concat_map member_run (map earlier_record (map (class_in whole w []) (from (suc i) k)))),
      run_length (record_in w i),
      fields_count w i,
      methods_count w i,
      members_length w (suc i) k,
    )

concat_append : (f : ClassRecord → List ℕ) (xs ys : List ClassRecord) → length (concat_map f (xs ++ ys)) ≡ length (concat_map f xs) + length (concat_map f ys)
concat_append f [] ys = sym (omega arith)
concat_append f (x ∷ xs) ys =
    omega (arith, length-append (f x) (concat_map f (xs ++ ys)), length-append (f x) (concat_map f xs), concat_append f xs ys)

pub records_count : (w : List ℕ) → length (records_from w 0) ≡ get_or w 6 0 + 3
unfolding records_from
records_count w =
    let cs : List Class = map (class_in whole w []) (from 0 (get_or w 6 0 - 0)) in
    omega (
      arith,
      length-append (map earlier_record cs) core.records,
      length-map cs earlier_record,
      length-map (from 0 (get_or w 6 0 - 0)) (class_in whole w []),
      from_length 0 (get_or w 6 0 - 0),
    )

module _ {w : List ℕ} (r : Readable w) where
  runs_few : length (concat_map member_run (records_from w 0)) ≤ 3 * get_or w 7 0 + 14
  unfolding records_from
  runs_few =
      let n : ℕ = get_or w 6 0 in
      let z : n - 0 ≡ n = omega arith in
      let f : ℕ → ℕ = λ j. fields_in whole w [] j + methods_in whole w [] j in
      omega (
        arith,
        concat_append member_run (map earlier_record (map (class_in whole w []) (from 0 (n - 0)))) core.records,
        members_length w 0 (n - 0),
        ap (λ (k : ℕ). total f (from 0 k)) z,
        r.members_counted,
      )

  -- there is room for all words
  pub words_few : length (outside_words (outside_in w)) ≤ outside_size w
  unfolding outside_words outside_size
  words_few =
      let a : List ℕ = concat_map name_row (visible_names w) in
      let n : ℕ = suc (length (visible_names w)) + length (records_from w 0) in
      let b : List ℕ = record_rows (8 * n) (records_from w 0) in
      let c : List ℕ = concat_map member_run (records_from w 0) in
      omega (
        arith,
        length-append (a ++ b) c,
        length-append a b,
        names_length (visible_names w),
        rows_length (8 * n) (records_from w 0),
        records_count w,
        names_few_lem r,
        runs_few,
      )

-- the bound of all sessions
pub size_few : {w : List ℕ} → Readable w → outside_size w ≤ 41198
unfolding outside_size
size_few {w} r = omega (arith, r.few_classes, r.few_members)

-- the words, written in four parts
parts_written : (w x : List ℕ) {x₁ x₂ x₃ x₄ : List ℕ} {m n : ℕ} → m ≡ suc (length (visible_names w)) → n ≡ m + get_or w 6 0 + 3
    → x₁ ≡ sets x 8 (concat_map name_row (visible_names w)) → x₂ ≡ sets x₁ (8 * m) (record_rows (8 * n) (records_from w 0))
    → x₃ ≡ sets x₂ (8 * n) (concat_map member_run (records_from w 0)) → x₄ ≡ sets x₃ (8 * 0) (m ∷ n ∷ 0 ∷ 0 ∷ 0 ∷ 0 ∷ 0 ∷ 0 ∷ [])
    → x₄ ≡ sets x 0 (outside_words (outside_in w))
unfolding outside_words
parts_written w x {x₁} {x₂} {x₃} {x₄} {m} {n} em en e₁ e₂ e₃ e₄ =
    e₄ ∙ ap (λ (v : List ℕ). sets v 0 (row m n)) (e₃ ∙ ap (λ (v : List ℕ). sets v (8 * n) c) (e₂ ∙ ap (λ (v : List ℕ). sets v (8 * m) (b n)) e₁))
    ∙ four_stored x (row m n) a (b n) c refl j k
    ∙ ap (λ (i : ℕ). sets x 0 (row i n ++ a ++ b n ++ c)) em
    ∙ ap (λ (i : ℕ). sets x 0 (row (suc (length (visible_names w))) i ++ a ++ b i ++ c)) l
  where
    row : ℕ → ℕ → List ℕ
    row m n = m ∷ n ∷ 0 ∷ 0 ∷ 0 ∷ 0 ∷ 0 ∷ 0 ∷ []

    a : List ℕ
    a = concat_map name_row (visible_names w)

    b : ℕ → List ℕ
    b n = record_rows (8 * n) (records_from w 0)

    c : List ℕ
    c = concat_map member_run (records_from w 0)

    j : 8 * m ≡ 8 + length a
    j = omega (arith, names_length (visible_names w))

    k : 8 * n ≡ 8 * m + length (b n)
    k = omega (arith, rows_length (8 * n) (records_from w 0), records_count w)

    l : n ≡ suc (length (visible_names w)) + length (records_from w 0)
    l = omega (arith, records_count w)

-- what they are to hold
pub session_outside : (w n : List ℕ) → runs_fit whole w n ≡ true → outside_in w ≡ based (outside_of (session_in whole w n)) 0
unfolding visible_names names_below records_from
session_outside w n fit =
    let z : get_or w 6 0 - 0 ≡ get_or w 6 0 = omega arith in
    let ns : List Named → List Named = λ l. map seen (distinct (λ x y. eqb x.name y.name) (backward l ++ core.names)) in
    let rs : List Class → List ClassRecord = λ l. map earlier_record l ++ core.records in
    ap (λ (l : List Named). record { names = ns l; records = records_from w 0; base = 0 }) (sym (held_laid whole w n fit))
    ∙ ap (λ (k : ℕ). record { names = (outside_of (session_in whole w n)).names; records = rs (map (class_in whole w []) (from 0 k)); base = 0 }) z
    ∙ ap (λ (l : List Class). record { names = (outside_of (session_in whole w n)).names; records = rs l; base = 0 }) (sym (held_classes whole w n fit))

-- so the visible names of words with good runs are as many as the session shows
pub names_shown_lem : (w n : List ℕ) → runs_fit whole w n ≡ true → length (visible_names w) ≡ names_shown (session_in whole w n)
names_shown_lem w n runs = ap (λ (O : Outside). length O.names) (session_outside w n runs) ∙ length-map (visible (session_in whole w n)) seen

-- and that they do, where there is room
pub words_hold : (w x : List ℕ) {x₁ x₂ x₃ x₄ : List ℕ} {m n : ℕ} → Readable w → outside_size w ≤ length x
    → m ≡ suc (length (visible_names w)) → n ≡ m + get_or w 6 0 + 3
    → x₁ ≡ sets x 8 (concat_map name_row (visible_names w)) → x₂ ≡ sets x₁ (8 * m) (record_rows (8 * n) (records_from w 0))
    → x₃ ≡ sets x₂ (8 * n) (concat_map member_run (records_from w 0)) → x₄ ≡ sets x₃ (8 * 0) (m ∷ n ∷ 0 ∷ 0 ∷ 0 ∷ 0 ∷ 0 ∷ 0 ∷ [])
    → (k : List ℕ) → session_fits whole w k ≡ true → over x₄ ≡ based (outside_of (session_in whole w k)) 0
words_hold w x {x₁} {x₂} {x₃} {x₄} {m} {n} r room em en e₁ e₂ e₃ e₄ k fit =
    let l : List ℕ = outside_words (outside_in w) in
    let all : sets x 0 l ≡ l ++ drop (0 + length l) x = sets-eq l x 0 (omega (arith, words_few r)) in
    ap over (parts_written w x em en e₁ e₂ e₃ e₄ ∙ all) ∙ read_back (outside_in w) (drop (0 + length l) x) (visible_outward w) ∙ session_outside w k (runs_of whole w k fit)
