-- What is read, ordered and printed. Assumes nothing.
use mathlib.Core.Path.{◌≡◌, refl, sym, ap, subst, ◌∙◌}
use mathlib.Core.Bool.{Bool, true, false, not}
use mathlib.Core.List.{List, [], ◌∷◌, ◌++◌, map, append_assoc}
use Prim.Native.Nat.{ℕ, ◌+◌, ◌-◌, ◌*◌, ◌<◌, ◌≤◌}
use native.Mathlib.Numerals.{add-one}
use native.Mathlib.Omega.{arith}
use lib.ListN.{length, get_or, set, take, drop, replicate, length-map, length-take, length-replicate, replicate-append-replicate}
use lib.Dec.{T, leb, leb→le}
use lib.Seq.{take-suc, take_all, take_at, set_at, length-take-le}
use Rattle.definition.specs.Basics.{when◌then◌else◌, any, first, head, concat_map}
use Rattle.definition.specs.Sheet.{Sheet}
use Rattle.definition.specs.Names.{names_fit, name_count}
use Rattle.definition.specs.Format.{sheet_fits, depths_fit}
use Rattle.definition.specs.Text.{sheet_of, text_of}
use Rattle.definition.specs.Outcome.{Outcome, rows_fit, refused, refused_at, report}
use Rattle.definition.proofs.Format.Accepted.{Eights}
use Rattle.names.proofs.Longer.{same_cut as same_names_cut}
use Rattle.text.specs.Reading.{SheetRead}
use Rattle.text.proofs.Lists.{concat_append, concat_map_lem, pieces_length}
use Rattle.text.proofs.Longer.{same_read, same_cut}
use Rattle.answer.specs.declared.Answer.{Answer}
use Rattle.answer.specs.Tells.{Tells}
use Rattle.report.specs.Report.{Begins, reply, Printed}
use Rattle.report.proofs.Laws.{report_printed}
use Rattle.unit_order.specs.Order.{units, circles, order, unit_row, order_asked, order_outcome, list_after}
use Rattle.unit_order.proofs.Theorems.{told_units}
use Rattle.order_units.specs.Ordered.{Ordered}
use Rattle.order_text.specs.Reply.{printed_order, RepliedOfOrder}

-- the words of the rows that tell units
abbrev pub unit_words : List ℕ → List ℕ
unit_words us = concat_map unit_row us

unit_words_length : (us : List ℕ) → length (unit_words us) ≡ 8 * length us
unit_words_length us = pieces_length 8 unit_row 0 us (λ i l. refl)

-- the words of a report of `size` words before any unit is written, after those of us, and after one more
pub units_none : (size : ℕ) (w : List ℕ) → 8 ≤ size → w ≡ replicate size 0 → w ≡ unit_words (0 ∷ []) ++ replicate (size - 8) 0
units_none size w l e =
    let same : size ≡ 8 + (size - 8) = omega arith in
    e ∙ ap (λ (k : ℕ). replicate k 0) same ∙ sym (replicate-append-replicate 8 (size - 8) 0)

pub units_more : (us w : List ℕ) (k p v : ℕ) → w ≡ unit_words us ++ replicate k 0 → 8 ≤ k → p ≡ 8 * length us
    → set w p v ≡ unit_words (us ++ v ∷ []) ++ replicate (k - 8) 0
units_more us w k p v e l at =
    let same : k ≡ 8 + (k - 8) = omega arith in
    let rest : List ℕ = replicate 7 0 ++ replicate (k - 8) 0 in
    ap (λ (t : List ℕ). set t p v)
    (e ∙ ap (λ (t : List ℕ). unit_words us ++ t) (ap (λ (n : ℕ). replicate n 0) same ∙ sym (replicate-append-replicate 8 (k - 8) 0)))
    ∙ set_at (unit_words us) 0 rest v p (unit_words_length us ∙ sym at)
    ∙ sym (append_assoc (unit_words us) (unit_row v) (replicate (k - 8) 0))
    ∙ ap (λ (t : List ℕ). t ++ replicate (k - 8) 0) (sym (concat_append unit_row us (v ∷ [])))

pub zeros_size : (size : ℕ) (w : List ℕ) → w ≡ replicate size 0 → length w ≡ size
zeros_size size w e = ap length e ∙ length-replicate size 0

-- the part of a list of 2,048 words that is lent
pub list_length : (lent : ℕ) → lent ≤ 2048 → length (take {A = ℕ} lent (replicate 2048 0)) ≡ lent
list_length lent l = length-take-le lent (replicate 2048 0) (omega (arith, length-replicate {A = ℕ} 2048 0))

-- the loop that writes a list into `size` words: i of its words are written, one more, and all
abbrev pub written : ℕ → List ℕ → ℕ → List ℕ
written size list i = unit_words (0 ∷ take i list) ++ replicate (size - 8 * (i + 1)) 0

pub written_more : (size : ℕ) (list w : List ℕ) (i : ℕ) → w ≡ written size list i → i < length list → 8 * (length list + 1) ≤ size
    → set w (8 * i + 8) (get_or list i 0) ≡ written size list (i + 1)
written_more size list w i e l room =
    let k : ℕ = size - 8 * (i + 1) in
    let less : k - 8 ≡ size - 8 * (i + 1 + 1) = omega arith in
    units_more (0 ∷ take i list) w k (8 * i + 8) (get_or list i 0) e (omega arith) (omega (arith, length-take i list))
    ∙ ap (λ (us : List ℕ). unit_words (0 ∷ us) ++ replicate (k - 8) 0) (sym (take-suc list i 0 l) ∙ ap (λ (n : ℕ). take n list) (sym (add-one i)))
    ∙ ap (λ (n : ℕ). unit_words (0 ∷ take (i + 1) list) ++ replicate n 0) less

pub written_all : (size : ℕ) (list w : List ℕ) (i : ℕ) → w ≡ written size list i → i ≤ length list → length list ≤ i
    → w ≡ unit_words (0 ∷ list) ++ replicate (size - 8 * (length list + 1)) 0
written_all size list w i e l m =
    let all : i ≡ length list = omega arith in
    e ∙ ap (λ (us : List ℕ). unit_words (0 ∷ us) ++ replicate (size - 8 * (i + 1)) 0) (take_all i list m)
    ∙ ap (λ (n : ℕ). unit_words (0 ∷ list) ++ replicate (size - 8 * (n + 1)) 0) all

-- The rows of the outcome are those of some units, no more than the list has words.
abbrev Units : ℕ → Outcome → Type 0
Units lent o = (us : List ℕ) × (o.rows ≡ map unit_row us) × (length us ≤ lent)

module _ (lent : ℕ) where
  none : (o : Outcome) → o.rows ≡ [] → Units lent o
  none o e = ([], e, omega arith)

  either : (t : Bool) (x y : Outcome) → Units lent x → Units lent y → Units lent (when t then x else y)
  either true x y p q = p
  either false x y p q = q

  listed : (us : List ℕ) (t : Bool) → (T t → length us ≤ lent)
      → Units lent (when t then record { number = 0; file = 0; line = 0; column = 0; name = 0; rows = map unit_row us; globals = 0 } else refused 22)
  listed us true l = (us, refl, l tt)
  listed us false l = none (refused 22) refl

  asked_units : (s : Sheet) → Units lent (order_asked lent s)
  unfolding order_asked
  asked_units s =
      either (any (circles s) (units s)) (refused_at 29 s (first (circles s) 0 (units s)) 0) _
      (none (refused_at 29 s (first (circles s) 0 (units s)) 0) refl)
      (listed (order s) (leb (length (order s)) lent) (leb→le (length (order s)) lent))

  outcome_units : (s : Sheet) (ns : List ℕ) → Units lent (order_outcome s ns lent)
  unfolding order_outcome
  outcome_units s ns =
      either (not (rows_fit s)) (refused 1) _ (none (refused 1) refl)
      (either (not (names_fit ns)) (refused 2) _ (none (refused 2) refl)
      (either (not (sheet_fits (name_count ns) s)) (refused 3) _ (none (refused 3) refl)
      (either (not (depths_fit s)) (refused 4) (order_asked lent s) (none (refused 4) refl) (asked_units s))))

eights : (us : List ℕ) → Eights (map unit_row us)
eights [] = Eights.none
eights (u ∷ us) = Eights.more refl (eights us)

-- a sheet that question 1 refuses, and names that question 2 refuses
pub refused_first : (lent : ℕ) (s : Sheet) (ns : List ℕ) → rows_fit s ≡ false → order_outcome s ns lent ≡ refused 1
unfolding order_outcome
refused_first lent s ns e =
    ap (λ (t : Bool). when not t then refused 1 else when not (names_fit ns) then refused 2 else when not (sheet_fits (name_count ns) s) then refused 3
    else when not (depths_fit s) then refused 4 else order_asked lent s) e

refused_second : (lent : ℕ) (s : Sheet) (ns : List ℕ) → names_fit ns ≡ false
    → order_outcome s ns lent ≡ (when not (rows_fit s) then refused 1 else refused 2)
unfolding order_outcome
refused_second lent s ns e =
    ap (λ (t : Bool). when not (rows_fit s) then refused 1 else when not t then refused 2 else when not (sheet_fits (name_count ns) s) then refused 3
    else when not (depths_fit s) then refused 4 else order_asked lent s) e

-- A text of which k lines were read into `words`, the answer of their order with the list w, and the report's words with that list as rows.
module _ (lent : ℕ) (sheet names : List ℕ) (k : ℕ) (words w : List ℕ) (x : Answer) (rep : List ℕ) (z : ℕ) (low : lent ≤ 2048)
    (read : SheetRead sheet 16384 k words) (a : Ordered (take (8 * k) words) names lent x w) (there : rep ≡ unit_words (0 ∷ w) ++ replicate z 0) where
  abbrev whole : Outcome
  whole = order_outcome (sheet_of sheet) names lent

  same : order_outcome (take (8 * k) words) names lent ≡ whole
  same = same_read (λ s. order_outcome s names lent) (refused 1) (λ s e. refused_first lent s names e) sheet k words read

  tells : Tells whole x
  tells = subst (λ (o : Outcome). Tells o x) same a.tells

  told : Units lent whole
  told = outcome_units lent (sheet_of sheet) names

  abbrev us : List ℕ
  us = told.0

  count : length whole.rows ≡ length us
  count = ap length told.1 ∙ length-map us unit_row

  pub few : x.rows ≤ 2048
  few = omega (arith, tells.rows, count, told.2)

  -- the list begins with the units
  list_is : w ≡ us ++ replicate (lent - length whole.rows) 0
  unfolding list_after
  list_is =
      a.words ∙ ap (list_after lent) same
      ∙ ap (λ (xs : List ℕ). xs ++ replicate (lent - length whole.rows) 0) (ap (map head) told.1 ∙ told_units us)

  rows_there : take (8 * x.rows) (drop 8 rep) ≡ concat_map (λ r. r) whole.rows
  rows_there =
      let zeros : List ℕ = replicate (lent - length whole.rows) 0 in
      ap (λ (t : List ℕ). take (8 * x.rows) (drop 8 t)) there
      ∙ ap (λ (t : List ℕ). take (8 * x.rows) (unit_words t ++ replicate z 0)) list_is
      ∙ ap (λ (t : List ℕ). take (8 * x.rows) (t ++ replicate z 0)) (concat_append unit_row us zeros)
      ∙ ap (take (8 * x.rows)) (append_assoc (unit_words us) (unit_words zeros) (replicate z 0))
      ∙ take_at (unit_words us) (unit_words zeros ++ replicate z 0) (8 * x.rows) (omega (arith, unit_words_length us, tells.rows, count))
      ∙ sym (concat_map_lem (λ (r : List ℕ). r) unit_row us)
      ∙ ap (concat_map (λ (r : List ℕ). r)) (sym told.1)

  -- what is printed of the answer is the report
  pub printed_order_lem : (before : List ℕ) (n : ℕ) (filled after : List ℕ) → Printed x rep before n filled after
      → Begins (printed_order lent sheet names) before n after
  printed_order_lem before n filled after h =
      report_printed whole x rep tells (subst Eights (sym told.1) (eights us)) (omega (arith, count, told.2)) rows_there before n filled after h

-- The reply to the bytes read of the texts is the reply to the texts.
printed_cut : (lent : ℕ) (s ns : List ℕ) → printed_order lent (take 165889 s) (take 32769 ns) ≡ printed_order lent s ns
printed_cut lent s ns =
    ap (λ (o : Outcome). text_of (report o))
    (same_cut (λ t. order_outcome t (take 32769 ns) lent) (refused 1) (λ t e. refused_first lent t (take 32769 ns) e) s
    ∙ same_names_cut (λ t. order_outcome (sheet_of s) t lent) (when not (rows_fit (sheet_of s)) then refused 1 else refused 2)
    (λ t e. refused_second lent (sheet_of s) t e) ns)

pub replied_order : {lent : ℕ} {sheet names before : List ℕ} {n : ℕ} {after : List ℕ}
    → Begins (reply lent (length before) (printed_order lent sheet names)) before n after → RepliedOfOrder lent sheet names before n after
replied_order {lent} {sheet} {names} {before} {n} {after} h = record {
  of_read = h;
  of_texts = λ s ns e f.
      subst (λ (t : List ℕ). Begins (reply lent (length before) t) before n after)
      (ap (λ (t : List ℕ). printed_order lent t names) e ∙ ap (printed_order lent (take 165889 s)) f ∙ printed_cut lent s ns) h;
}
