-- What callers cite of the line that an answer tells, and of a report as text. Assumes nothing.
use denote.Ref.{Bor, MutBor}
use mathlib.Core.Path.{◌≡◌, refl, sym, ap, subst, ◌∙◌}
use Rattle.std.specs.Prelude.{Option, Some, None}
use Rattle.std.specs.Option.{IfSome, unwrap_or}
use mathlib.Core.Logic.{◌⊎◌, inl, inr}
use mathlib.Core.Bool.{Bool, true, false, ◌&&◌}
use mathlib.Core.List.{List, [], ◌∷◌, ◌++◌, append_assoc, append-nil}
use Prim.Native.Nat.{ℕ, zero, suc, ◌+◌, ◌-◌, ◌*◌, min, ◌<◌, ◌≤◌}
use native.Mathlib.Omega.{arith}
use lib.ListN.{length, get_or, take, drop, replicate, length-append, length-map, length-take, length-drop, drop_of_length-le}
use Rattle.std.proofs.lemmas.List.{take-append-le}
use lib.Seq.{take_at, take_all, take-append-add, drop_at, drop-drop, length-take-le}
use lib.Dec.{leb}
use borrow.Rule.Slice.PartMut.{mid_of, put_mid}
use borrow.Author.Tests.{le-leb, lt-leb}
use Rattle.definition.specs.Basics.{when◌then◌else◌, concat_map, from}
use Rattle.definition.specs.Sheet.{rows}
use Rattle.definition.specs.Text.{text_of}
use Rattle.definition.specs.Outcome.{Outcome, report, buffer}
use Rattle.definition.proofs.Format.Accepted.{Eights, flat_length}
use Rattle.text.specs.Lines.{line_of as text_line}
use Rattle.text.specs.Writing.{row_at, rows_in}
use Rattle.text.proofs.Lists.{map_at, from_length, concat_map_lem, parts_joined, pieces_length}
use Rattle.text.proofs.Laws.{line_length, rows_of_joined}
use Rattle.answer.specs.declared.Answer.{Answer}
use Rattle.answer.specs.Tells.{Tells}
use Rattle.report.specs.Asked.{report_text, RepliedBy}
use Rattle.report.specs.Report.{report_line, told_by, fitted, Begins, reply, answer_text, Printed}

-- an answer tells the line of its outcome
pub told_line : (o : Outcome) (x : Answer) → Tells o x → told_by x ≡ report_line o
unfolding told_by report_line
told_line o x h = rw (h.number, h.file, h.line, h.column, h.name, h.rows, h.globals)

-- of rows whose number fits a word it is the first that the program prints
pub line_first : (o : Outcome) → length o.rows ≤ 4294967295 → report_line o ≡ get_or (report o) 0 []
unfolding report_line
line_first o few =
    let e : min 4294967295 (length o.rows) ≡ length o.rows = omega arith in
    ap (λ (k : ℕ). o.number ∷ o.file ∷ o.line ∷ o.column ∷ o.name ∷ k ∷ o.globals ∷ 0 ∷ []) e

-- as many lent words as there are to write
pub fitted_whole : (n : ℕ) (ws : List ℕ) → length ws ≡ n → fitted n ws ≡ ws
unfolding fitted
fitted_whole n ws l = take_at ws (replicate n 0) n l

eight_at : {rs : List (List ℕ)} → Eights rs → (i : ℕ) → i < length rs → length (get_or rs i []) ≡ 8
eight_at Eights.none i l = absurd (omega arith)
eight_at (Eights.more e p) zero l = e
eight_at (Eights.more e p) (suc i) l = eight_at p i (omega arith)

eights_of : (rs : List (List ℕ)) → ((i : ℕ) → i < length rs → length (get_or rs i []) ≡ 8) → Eights rs
eights_of [] h = Eights.none
eights_of (r ∷ rs) h = Eights.more (h 0 (omega arith)) (eights_of rs (λ i l. h (suc i) (omega arith)))

-- the whole rows of a list of words are rows of eight, and joined again they are these words
pub rows_eights : (ws : List ℕ) → Eights (rows_in ws)
rows_eights ws = eights_of (rows_in ws) (λ i l. ap length (map_at (row_at ws) [] (rows ws) i (below i l)) ∙ size i (below i l))
  where
    below : (i : ℕ) → i < length (rows_in ws) → i < rows ws
    below i l = omega (arith, length-map (from 0 (rows ws)) (row_at ws), from_length 0 (rows ws))

    size : (i : ℕ) → i < rows ws → length (row_at ws i) ≡ 8
    size i l = simp (length-take, length-drop) (omega arith)

pub rows_number : (ws : List ℕ) → length (rows_in ws) ≡ rows ws
rows_number ws = length-map (from 0 (rows ws)) (row_at ws) ∙ from_length 0 (rows ws)

pub rows_joined : (ws : List ℕ) → 8 * rows ws ≡ length ws → concat_map (λ r. r) (rows_in ws) ≡ ws
rows_joined ws e = concat_map_lem (λ (r : List ℕ). r) (row_at ws) (from 0 (rows ws)) ∙ parts_joined 8 ws (rows ws) ∙ take_all (8 * rows ws) ws (omega (arith, e))

-- the words of rows
abbrev flat : List (List ℕ) → List ℕ
flat rs = concat_map (λ r. r) rs

-- 81 bytes to a row
pub lines_length : {rs : List (List ℕ)} → Eights rs → length (text_of rs) ≡ 81 * length rs
unfolding text_line
lines_length {rs} p = pieces_length 81 text_line [] rs (λ i l. line_length (get_or rs i []) (eight_at p i l))

-- what is printed of an answer, as the beginning of a text
pub printed_begins : (x : Answer) (w before : List ℕ) (n : ℕ) (filled after : List ℕ) → 8 * (x.rows + 1) ≤ length w → Printed x w before n filled after
    → Begins (answer_text x w) before n after
unfolding told_by
printed_begins x w before n filled after room h =
    let ws : List ℕ = take (8 * (x.rows + 1)) (told_by x ++ drop 8 w) in
    let size : length ws ≡ 8 * (x.rows + 1) = simp (length-take, length-drop) (omega arith) in
    record { count = omega (arith, h.count, lines_length (rows_eights ws), rows_number ws, size); text = h.text }

-- the rows of an outcome o whose answer is x, in m words after the first eight of ws
pub rows_there : (o : Outcome) (x : Answer) (m : ℕ) (ws out : List ℕ) → Tells o x → Eights o.rows → 8 ≤ length ws → out ≡ buffer m o
    → take (8 * x.rows) (drop 8 (put_mid 8 m ws out)) ≡ flat o.rows
rows_there o x m ws out tells good room e =
    let rest : List ℕ = drop m (drop 8 ws) in
    let zeros : List ℕ = replicate (m - 8 * length o.rows) 0 in
    ap (take (8 * x.rows)) (drop_at (take 8 ws) (out ++ rest) 8 (length-take-le 8 ws room))
    ∙ ap (λ (xs : List ℕ). take (8 * x.rows) (xs ++ rest)) e
    ∙ ap (take (8 * x.rows)) (append_assoc (flat o.rows) zeros rest)
    ∙ take_at (flat o.rows) (zeros ++ rest) (8 * x.rows) (flat_length good ∙ ap (λ (n : ℕ). 8 * n) (sym tells.rows))

-- The report that is printed of an answer x, where its rows begin `out`, m words after the first eight of ws.
module _ (x : Answer) (m : ℕ) (ws out : List ℕ) (room : 8 ≤ length ws) (few : 8 * x.rows ≤ length out) where
  words_printed : take (8 * (x.rows + 1)) (told_by x ++ drop 8 (put_mid 8 m ws out)) ≡ told_by x ++ take (8 * x.rows) out
  unfolding told_by
  words_printed =
      let rest : List ℕ = drop m (drop 8 ws) in
      let size : 8 * (x.rows + 1) ≡ 8 + 8 * x.rows = omega arith in
      ap (λ (k : ℕ). take k (told_by x ++ drop 8 (put_mid 8 m ws out))) size
      ∙ take-append-add (told_by x) (drop 8 (put_mid 8 m ws out)) (8 * x.rows)
      ∙ ap (λ (xs : List ℕ). told_by x ++ take (8 * x.rows) xs) (drop_at (take 8 ws) (out ++ rest) 8 (length-take-le 8 ws room))
      ∙ ap (λ (xs : List ℕ). told_by x ++ xs) (take-append-le (8 * x.rows) out rest few)

  pub asked_printed : (before : List ℕ) (n : ℕ) (filled after : List ℕ) → 8 * (x.rows + 1) ≤ length (put_mid 8 m ws out)
      → Printed x (put_mid 8 m ws out) before n filled after → Begins (report_text x out) before n after
  asked_printed before n filled after l h =
      subst (λ (r : List ℕ). Begins (text_of (rows_in r)) before n after) words_printed (printed_begins x (put_mid 8 m ws out) before n filled after l h)

-- The report of an outcome o, whose answer is x and whose rows stand in the words w from the ninth on.
module _ (o : Outcome) (x : Answer) (w : List ℕ) (tells : Tells o x) (good : Eights o.rows) (few : length o.rows ≤ 4294967295)
    (there : take (8 * x.rows) (drop 8 w) ≡ flat o.rows) where
  abbrev lines_good : Eights (report o)
  lines_good = Eights.more refl good

  words_told : take (8 * (x.rows + 1)) (told_by x ++ drop 8 w) ≡ flat (report o)
  words_told =
      let line : List ℕ = get_or (report o) 0 [] in
      let size : 8 * (x.rows + 1) ≡ 8 + 8 * x.rows = omega arith in
      ap (λ (xs : List ℕ). take (8 * (x.rows + 1)) (xs ++ drop 8 w)) (told_line o x tells ∙ line_first o few)
      ∙ ap (λ (k : ℕ). take k (line ++ drop 8 w)) size
      ∙ take-append-add line (drop 8 w) (8 * x.rows)
      ∙ ap (λ (xs : List ℕ). line ++ xs) there

  pub rows_told : rows_in (take (8 * (x.rows + 1)) (told_by x ++ drop 8 w)) ≡ report o
  rows_told = ap rows_in words_told ∙ rows_of_joined (report o) (eight_at lines_good)

  report_length : length (text_of (report o)) ≡ 81 * length (report o)
  report_length = lines_length lines_good

  -- what is printed of x is the report of o
  pub report_printed : (before : List ℕ) (n : ℕ) (filled after : List ℕ) → Printed x w before n filled after
      → Begins (text_of (report o)) before n after
  report_printed before n filled after h = record {
    count = omega (arith, h.count, report_length, tells.rows);
    text = h.text ∙ ap (λ (rs : List (List ℕ)). text_of rs ++ drop n before) rows_told;
  }

-- The report of an outcome o, whose answer is x and whose rows begin the words `out`.
module _ (o : Outcome) (x : Answer) (out : List ℕ) (tells : Tells o x) (good : Eights o.rows) where
  pub rows_begin : (m : ℕ) → out ≡ buffer m o → take (8 * x.rows) out ≡ flat o.rows
  rows_begin m e =
      ap (take (8 * x.rows)) e
      ∙ take_at (flat o.rows) (replicate (m - 8 * length o.rows) 0) (8 * x.rows) (flat_length good ∙ ap (λ (n : ℕ). 8 * n) (sym tells.rows))

  pub report_is : length o.rows ≤ 4294967295 → take (8 * x.rows) out ≡ flat o.rows → report_text x out ≡ text_of (report o)
  report_is few there =
      ap (λ (ws : List ℕ). text_of (rows_in ws)) (ap (λ (xs : List ℕ). told_by x ++ xs) there ∙ ap (λ (xs : List ℕ). xs ++ flat o.rows) (told_line o x tells ∙ line_first o few))
      ∙ ap text_of (rows_of_joined (report o) (eight_at (Eights.more refl good)))

-- what a text begins with lies in it
pub begins_within : {told before : List ℕ} {n : ℕ} {after : List ℕ} → Begins told before n after → n ≤ length after
begins_within {told} {before} {n} h = omega (arith, h.count, ap length h.text ∙ length-append told (drop n before))

-- what is written after a beginning
pub begins_more : {told more before mid part : List ℕ} {n k : ℕ} → Begins told before n mid → Begins more (mid_of n (length mid - n) mid) k part
    → Begins (told ++ more) before (n + k) (put_mid n (length mid - n) mid part)
begins_more {told} {more} {before} {mid} {part} {n} {k} h g = record {
  count = omega (arith, h.count, g.count, length-append told more);
  text =
      ap (λ (t : List ℕ). t ++ (part ++ drop (length mid - n) (drop n mid))) (ap (take n) h.text ∙ take_at told (drop n before) n (sym h.count))
      ∙ ap (λ (t : List ℕ). told ++ (part ++ t)) (drop_of_length-le (drop n mid) {i = length mid - n} (omega (arith, length-drop n mid)))
      ∙ ap (λ (t : List ℕ). told ++ t)
      (append-nil part ∙ g.text ∙ ap (λ (t : List ℕ). more ++ drop k t) rest ∙ ap (λ (t : List ℕ). more ++ t) (drop-drop k n before))
      ∙ sym (append_assoc told more (drop (n + k) before));
}
  where
    rest : mid_of n (length mid - n) mid ≡ drop n before
    rest = take_all (length mid - n) (drop n mid) (omega (arith, length-drop n mid)) ∙ ap (drop n) h.text ∙ drop_at told (drop n before) n (sym h.count)

-- nothing is written
begins_none : {told before : List ℕ} → told ≡ [] → Begins told before 0 before
begins_none {before = before} e = record { count = ap length (sym e); text = ap (λ (t : List ℕ). t ++ before) (sym e) }

-- The reply is the report where few rows and a long text are lent, and nothing elsewhere.
module _ (lent : ℕ) (told before : List ℕ) where
  abbrev room : ℕ
  room = length before

  pub reply_there : lent ≤ 2048 → 165969 ≤ room → reply lent room told ≡ told
  unfolding reply
  reply_there l m =
      ap (λ (b : Bool). when b && leb 165969 room then told else []) (le-leb lent 2048 l)
      ∙ ap (λ (b : Bool). when b then told else []) (le-leb 165969 room m)

  pub reply_many : 2048 < lent → reply lent room told ≡ []
  unfolding reply
  reply_many l = ap (λ (b : Bool). when b && leb 165969 room then told else []) (lt-leb lent 2048 l)

  pub reply_short : room < 165969 → reply lent room told ≡ []
  unfolding reply
  reply_short l = ap (λ (b : Bool). when leb lent 2048 && b then told else []) (lt-leb 165969 room l) ∙ never (leb lent 2048)
    where
      never : (b : Bool) → (when b && false then told else []) ≡ []
      never true = refl
      never false = refl

  pub replied : (n : ℕ) (after : List ℕ) → lent ≤ 2048 → 165969 ≤ room → Begins told before n after → Begins (reply lent room told) before n after
  replied n after l m = subst (λ (t : List ℕ). Begins t before n after) (sym (reply_there l m))

  pub replied_many : 2048 < lent → Begins (reply lent room told) before 0 before
  replied_many l = begins_none (reply_many l)

  pub replied_short : room < 165969 → Begins (reply lent room told) before 0 before
  replied_short l = begins_none (reply_short l)

  -- where too many rows or too few bytes are lent
  pub replied_none : (2048 < lent) ⊎ ((lent ≤ 2048) × (room < 165969)) → Begins (reply lent room told) before 0 before
  replied_none (inl l) = replied_many l
  replied_none (inr l) = replied_short l.1

-- What is written of a reply whose report is `told`, or of none.
module _ (lent : ℕ) (told before : List ℕ) {asked : Bor (List ℕ) → MutBor (List ℕ) → Answer → MutBor (List ℕ) → Type 0} {sheet after : List ℕ} where
  pub replied_by : (r : Option ℕ) → IfSome r (λ n. (lent ≤ 2048) × (165969 ≤ length before) × RepliedBy asked sheet lent before n after)
      → ((n : ℕ) → lent ≤ 2048 → (a : RepliedBy asked sheet lent before n after) → report_text a.x a.out'.now ≡ told)
      → (r ≡ None → ((2048 < lent) ⊎ ((lent ≤ 2048) × (length before < 165969))) × (after ≡ before))
      → Begins (reply lent (length before) told) before (unwrap_or r 0) after
  replied_by (Some n) h f g = replied lent told before n after h.0 h.1 (subst (λ (t : List ℕ). Begins t before n after) (f n h.0 h.2) h.2.text)
  replied_by None h f g =
      let none = g refl in
      subst (Begins (reply lent (length before) told) before 0) (sym none.1) (replied_none lent told before none.0)
