-- What comes of the rows that were read is what comes of the text, also of one that is longer than any accepted; and what is written of it. Assumes nothing.
use denote.Ref.{Bor, MutBor}
use Rattle.std.specs.Prelude.{Option, Some, None}
use Rattle.std.specs.Option.{IfSome}
use mathlib.Core.Path.{◌≡◌, refl, sym, ap, subst, ◌∙◌}
use mathlib.Core.Logic.{◌⊎◌, inl, inr}
use mathlib.Core.Bool.{Bool, true, false, not, ◌&&◌}
use mathlib.Core.List.{List, [], ◌∷◌, ◌++◌, append-nil}
use Prim.Native.Nat.{ℕ, zero, suc, ◌*◌, ◌<◌, ◌≤◌}
use native.Mathlib.Omega.{arith}
use lib.ListN.{length, get_or, set, take, drop, length-append, length-take, length-replicate}
use lib.Dec.{eqb, leb}
use borrow.Author.Tests.{le-leb, lt-leb}
use Rattle.definition.specs.Basics.{when◌then◌else◌}
use Rattle.definition.specs.Sheet.{Sheet, rows}
use Rattle.definition.specs.Names.{names_fit, name_count}
use Rattle.definition.specs.Format.{sheet_fits, depths_fit}
use Rattle.definition.specs.Text.{sheet_of, text_of}
use Rattle.definition.specs.Outcome.{Outcome, refused, rows_fit, asked, report, buffer}
use Rattle.definition.proofs.Format.Accepted.{Eights, good_asked}
use Rattle.names.proofs.Longer.{same_cut as same_names_cut}
use Rattle.text.specs.Reading.{SheetRead}
use Rattle.text.specs.Writing.{RowsWritten, rows_in}
use Rattle.text.proofs.Laws.{rows_of_joined, rows_fit_lem}
use Rattle.text.proofs.Longer.{same_read, same_cut}
use Rattle.answer.specs.declared.Answer.{Answer}
use Rattle.answer.specs.Tells.{Tells}
use Rattle.report.specs.Report.{fitted, Begins}
use Rattle.report.specs.Asked.{report_text, RepliedBy}
use Rattle.report.proofs.Laws.{rows_number, lines_length, rows_begin, report_is}
use Rattle.session.specs.Session.{Session, outside_of, within}
use Rattle.session.specs.Entry.{to_entry, entry_sheet}
use Rattle.session.specs.Enter.{renamed, new_entry, accepting, entry_fits, asked_in, entered, after_entry}
use Rattle.session.specs.Words.{whole, session_in, session_fits, showing, words_with, bytes_with, enter_outcome, enter_words, enter_bytes}
use Rattle.prompt.specs.Entered.{Entered}
use Rattle.enter_text.specs.Reply.{session_row, outcome_of, words_of, bytes_of, printed_entry, is_lent, RepliedEntry, RepliedOfEntry, EnteredText}

-- The rows of an outcome fit.
abbrev Good : ℕ → Outcome → Type 0
Good lent o = Eights o.rows × (8 * length o.rows ≤ lent)

module _ (lent : ℕ) where
  good_no : (q : ℕ) → Good lent (refused q)
  good_no q = (Eights.none, omega arith)

  good_if : (t : Bool) (x y : Outcome) → Good lent x → Good lent y → Good lent (when t then x else y)
  good_if true x y p q = p
  good_if false x y p q = q

  good_unless : (t : Bool) (q : ℕ) (x : Outcome) → Good lent x → Good lent (when not t then refused q else x)
  good_unless t q x p = good_if (not t) (refused q) x (good_no q) p

  good_told : (S : Session) (s : Sheet) (ns : List ℕ) → Good lent (asked_in S s ns lent)
  good_told S s ns =
      let x : Outcome = asked (outside_of S) lent (entry_sheet S ns s) in
      let good : Good lent x = good_asked lent (outside_of S) (entry_sheet S ns s) in
      good_if (not (eqb x.number 0)) (renamed (to_entry S ns) x) (when within (accepting S s ns lent x) then x else refused 24) good
      (good_if (within (accepting S s ns lent x)) x (refused 24) good (good_no 24))

  good_entered : (S : Session) (s : Sheet) (ns : List ℕ) → Good lent (entered S s ns lent)
  good_entered S s ns =
      good_unless (rows_fit s) 1 _
      (good_unless (names_fit ns) 2 _
      (good_unless (sheet_fits (name_count ns) s) 3 _
      (good_unless (depths_fit s) 4 _
      (good_unless (entry_fits S s) 23 _ (good_told S s ns)))))

  pub good_entry : (w b : List ℕ) (s : Sheet) (ns : List ℕ) → Good lent (enter_outcome whole w b s ns lent)
  good_entry w b s ns = good_unless (session_fits whole w b) 23 (entered (session_in whole w b) s ns lent) (good_entered (session_in whole w b) s ns)

-- What comes of an entry, with the session after it.
record Result : Type 0 where
  outcome : Outcome
  words : List ℕ
  bytes : List ℕ

module _ (w b : List ℕ) (lent : ℕ) where
  -- by its outcome o: the words and bytes after acceptance, the words after a refusal that uses up globals
  abbrev result_by : Outcome → List ℕ → List ℕ → List ℕ → Result
  result_by o accepted used bytes = record {
    outcome = o;
    words = when eqb o.number 0 then accepted else when leb 5 o.number && leb o.number 21 then used else w;
    bytes = when eqb o.number 0 then bytes else b;
  }

  abbrev result_of : Sheet → List ℕ → Result
  result_of s ns = record { outcome = enter_outcome whole w b s ns lent; words = enter_words whole w b s ns lent; bytes = enter_bytes whole w b s ns lent }

  abbrev idle : Outcome → Result
  idle o = record { outcome = o; words = w; bytes = b }

  -- a sheet that question 1 refuses, names that 2 refuses: after 23 of the session
  first : (a t : Bool) (z : Outcome) → t ≡ false → (when not a then refused 23 else when not t then refused 1 else z) ≡ (when not a then refused 23 else refused 1)
  first a t z e = ap (λ (c : Bool). when not a then refused 23 else when not c then refused 1 else z) e

  second : (a t u : Bool) (z : Outcome) → u ≡ false
      → (when not a then refused 23 else when not t then refused 1 else when not u then refused 2 else z) ≡ (when not a then refused 23 else when not t then refused 1 else refused 2)
  second a t u z e = ap (λ (c : Bool). when not a then refused 23 else when not t then refused 1 else when not c then refused 2 else z) e

  pub sheet_none : (ns : List ℕ) (s : Sheet) → rows_fit s ≡ false → result_of s ns ≡ idle (when not (session_fits whole w b) then refused 23 else refused 1)
  sheet_none ns s e =
      let yes : List ℕ = showing (after_entry (session_in whole w b) s ns lent) (words_with whole w (enter_outcome whole w b s ns lent).globals (new_entry (session_in whole w b) s ns)) in
      let no : List ℕ = set w 0 (after_entry (session_in whole w b) s ns lent).globals in
      let names : List ℕ = bytes_with w b (new_entry (session_in whole w b) s ns) in
      ap (λ (o : Outcome). result_by o yes no names) (first (session_fits whole w b) (rows_fit s) _ e) ∙ go (session_fits whole w b) yes no names
    where
      go : (a : Bool) (x y z : List ℕ) → result_by (when not a then refused 23 else refused 1) x y z ≡ idle (when not a then refused 23 else refused 1)
      go true x y z = refl
      go false x y z = refl

  pub names_none : (s : Sheet) (ns : List ℕ) → names_fit ns ≡ false
      → result_of s ns ≡ idle (when not (session_fits whole w b) then refused 23 else when not (rows_fit s) then refused 1 else refused 2)
  names_none s ns e =
      let yes : List ℕ = showing (after_entry (session_in whole w b) s ns lent) (words_with whole w (enter_outcome whole w b s ns lent).globals (new_entry (session_in whole w b) s ns)) in
      let no : List ℕ = set w 0 (after_entry (session_in whole w b) s ns lent).globals in
      let names : List ℕ = bytes_with w b (new_entry (session_in whole w b) s ns) in
      ap (λ (o : Outcome). result_by o yes no names) (second (session_fits whole w b) (rows_fit s) (names_fit ns) _ e)
      ∙ go (session_fits whole w b) (rows_fit s) yes no names
    where
      go : (a t : Bool) (x y z : List ℕ) → result_by (when not a then refused 23 else when not t then refused 1 else refused 2) x y z
          ≡ idle (when not a then refused 23 else when not t then refused 1 else refused 2)
      go true true x y z = refl
      go true false x y z = refl
      go false t x y z = refl

  -- of k lines that were read
  result_read : (sheet ns : List ℕ) (k : ℕ) (ws : List ℕ) → SheetRead sheet 16384 k ws → result_of (take (8 * k) ws) ns ≡ result_of (sheet_of sheet) ns
  result_read sheet ns k ws = same_read (λ s. result_of s ns) (idle (when not (session_fits whole w b) then refused 23 else refused 1)) (λ s e. sheet_none ns s e) sheet k ws

  -- of the start of two texts
  result_cut : (s ns : List ℕ) → result_of (sheet_of (take 165889 s)) (take 32769 ns) ≡ result_of (sheet_of s) ns
  result_cut s ns =
      same_cut (λ t. result_of t (take 32769 ns)) (idle (when not (session_fits whole w b) then refused 23 else refused 1)) (λ t e. sheet_none (take 32769 ns) t e) s
      ∙ same_names_cut (λ t. result_of (sheet_of s) t) (idle (when not (session_fits whole w b) then refused 23 else when not (rows_fit (sheet_of s)) then refused 1 else refused 2))
      (λ t e. names_none (sheet_of s) t e) ns

  pub outcome_read : (sheet ns : List ℕ) (k : ℕ) (ws : List ℕ) → SheetRead sheet 16384 k ws
      → enter_outcome whole w b (take (8 * k) ws) ns lent ≡ enter_outcome whole w b (sheet_of sheet) ns lent
  outcome_read sheet ns k ws read = ap (λ (r : Result). r.outcome) (result_read sheet ns k ws read)

  pub outcome_cut : (s ns : List ℕ) → enter_outcome whole w b (sheet_of (take 165889 s)) (take 32769 ns) lent ≡ enter_outcome whole w b (sheet_of s) ns lent
  outcome_cut s ns = ap (λ (r : Result). r.outcome) (result_cut s ns)

  pub entered_text : (sheet ns : List ℕ) (k : ℕ) (ws : List ℕ) (x : Answer) (out w' b' : List ℕ) → SheetRead sheet 16384 k ws
      → Entered w b (take (8 * k) ws) ns lent x out w' b' → EnteredText w b sheet ns lent x out w' b'
  entered_text sheet ns k ws x out w' b' read h =
      let e = result_read sheet ns k ws read in
      let same = ap (λ (r : Result). r.outcome) e in
      record {
        tells = subst (λ (o : Outcome). Tells o x) same h.tells;
        words = h.words ∙ ap (buffer lent) same;
        session = h.session ∙ ap (λ (r : Result). r.words) e;
        bytes = h.bytes ∙ ap (λ (r : Result). r.bytes) e;
      }

-- A row of eight words is one row.
module _ (r : List ℕ) (size : length r ≡ 8) where
  one_row_lem : rows_in r ≡ r ∷ []
  one_row_lem = ap rows_in (sym (append-nil r)) ∙ rows_of_joined (r ∷ []) eight_at
    where
      eight_at : (i : ℕ) → i < 1 → length (get_or (r ∷ []) i []) ≡ 8
      eight_at zero l = size
      eight_at (suc i) l = absurd (omega arith)

  pub row_written_lem : {before after : List ℕ} {n : ℕ} → 81 ≤ length before → RowsWritten r before n after → Begins (text_of (r ∷ [])) before 81 after
  row_written_lem {before} {after} room h =
      let one : rows r ≡ 1 = sym (rows_number r) ∙ ap length one_row_lem in
      record {
        count = sym (lines_length (Eights.more {r = r} {rs = []} size Eights.none));
        text =
            h.text ∙ (rows_fit_lem r before (omega (arith, one))).1
            ∙ ap (λ (rs : List (List ℕ)). text_of rs ++ drop (81 * rows r) before) one_row_lem ∙ ap (λ (k : ℕ). text_of (r ∷ []) ++ drop (81 * k) before) one;
      }

eight_fitted : (w : List ℕ) → length (fitted 8 w) ≡ 8
unfolding fitted
eight_fitted w = simp (length-take, length-append, length-replicate) (omega arith)

pub session_written : (w : List ℕ) {row before after : List ℕ} {n : ℕ} → row ≡ fitted 8 w → 81 ≤ length before → RowsWritten row before n after
    → Begins (session_row w) before 81 after
session_written w {row} {before} {after} {n} e room h = row_written_lem (fitted 8 w) (eight_fitted w) room (subst (λ (r : List ℕ). RowsWritten r before n after) e h)

-- the answer has no more rows than are lent
pub few_rows : (w b s ns : List ℕ) {m lent : ℕ} {x : Answer} → Tells (enter_outcome whole w b s ns m) x → m ≡ 8 * lent → x.rows ≤ lent
few_rows w b s ns {m} h e = omega (arith, h.rows, (good_entry m w b s ns).1, e)

-- An entry with `lent` answer rows lent, and a text before it.
module _ (lent : ℕ) (w b sheet names before : List ℕ) where
  abbrev lends : Bool
  lends = is_lent lent (length before)

  -- the reply to the bytes read is the reply to the texts
  pub replied_texts : {n : ℕ} {w' b' after : List ℕ} → RepliedEntry lent w b sheet names before n w' b' after → RepliedOfEntry lent w b sheet names before n w' b' after
  replied_texts {n} {w'} {b'} {after} h = record {
    of_read = h;
    of_texts = λ s ns e f.
        let same : result_of w b (8 * lent) (sheet_of sheet) names ≡ result_of w b (8 * lent) (sheet_of s) ns =
        ap (λ (t : List ℕ). result_of w b (8 * lent) (sheet_of t) names) e ∙ ap (λ (t : List ℕ). result_of w b (8 * lent) (sheet_of (take 165889 s)) t) f
        ∙ result_cut w b (8 * lent) s ns in
        record {
          text =
              subst (λ (r : Result). Begins (when lends then text_of (report r.outcome) ++ session_row r.words else []) before n after) same h.text;
          session = h.session ∙ ap (λ (r : Result). when lends then r.words else w) same;
          bytes = h.bytes ∙ ap (λ (r : Result). when lends then r.bytes else b) same;
        };
  }

  -- nothing is entered
  pub not_entered : lends ≡ false → RepliedOfEntry lent w b sheet names before 0 w b before
  not_entered e = replied_texts (record {
    text = subst (λ (t : Bool). Begins (when t then printed_entry lent w b sheet names else []) before 0 before) (sym e) (record { count = refl; text = refl });
    session = sym (ap (λ (t : Bool). when t then words_of lent w b sheet names else w) e);
    bytes = sym (ap (λ (t : Bool). when t then bytes_of lent w b sheet names else b) e);
  })

  pub many : 2048 < lent → is_lent lent (length before) ≡ false
  unfolding is_lent
  many l = ap (λ (t : Bool). t && leb 166050 (length before)) (lt-leb lent 2048 l)

  pub short : length before < 166050 → is_lent lent (length before) ≡ false
  unfolding is_lent
  short l = ap (λ (t : Bool). leb lent 2048 && t) (lt-leb 166050 (length before) l) ∙ never (leb lent 2048)
    where
      never : (t : Bool) → (t && false) ≡ false
      never true = refl
      never false = refl

  pub none_lent : ((2048 < lent) ⊎ ((lent ≤ 2048) × (length before < 166050))) → is_lent lent (length before) ≡ false
  none_lent (inl l) = many l
  none_lent (inr l) = short l.1

  -- it is entered
  module _ (low : lent ≤ 2048) (room : 166050 ≤ length before) {out w' b' : List ℕ} {x : Answer} (h : EnteredText w b sheet names (8 * lent) x out w' b') where
    abbrev o : Outcome
    o = outcome_of lent w b sheet names

    pub has : is_lent lent (length before) ≡ true
    unfolding is_lent
    has = ap (λ (t : Bool). t && leb 166050 (length before)) (le-leb lent 2048 low) ∙ le-leb 166050 (length before) room

    good : Good (8 * lent) o
    good = good_entry (8 * lent) w b (sheet_of sheet) names

    pub told : report_text x out ≡ text_of (report (outcome_of lent w b sheet names))
    told = report_is o x out h.tells good.0 (omega (arith, good.1)) (rows_begin o x out h.tells good.0 (8 * lent) h.words)

    pub entry_replied : {n : ℕ} {after : List ℕ} → Begins (report_text x out ++ session_row w') before n after → RepliedOfEntry lent w b sheet names before n w' b' after
    entry_replied {n} {after} p =
        let written : Begins (printed_entry lent w b sheet names) before n after =
        subst (λ (t : List ℕ). Begins t before n after)
        (ap (λ (t : List ℕ). t ++ session_row w') told ∙ ap (λ (v : List ℕ). text_of (report o) ++ session_row v) h.session) p in
        replied_texts (record {
          text = subst (λ (t : Bool). Begins (when t then printed_entry lent w b sheet names else []) before n after) (sym has) written;
          session = h.session ∙ sym (ap (λ (t : Bool). when t then words_of lent w b sheet names else w) has);
          bytes = h.bytes ∙ sym (ap (λ (t : Bool). when t then bytes_of lent w b sheet names else b) has);
        })

  -- what an entry's text comes to, with a reply or with none
  module _ {asked : Bor (List ℕ) → MutBor (List ℕ) → Answer → MutBor (List ℕ) → Type 0} {mid w' b' after : List ℕ} {end : ℕ} where
    pub entered_by : (r : Option ℕ) → IfSome r (λ n. (lent ≤ 2048) × (166050 ≤ length before) × RepliedBy asked sheet lent before n mid)
        → ((n : ℕ) → (a : RepliedBy asked sheet lent before n mid) → Entered w b a.rows.now names (length a.out.now) a.x a.out'.now w' b')
        → (r ≡ None → ((2048 < lent) ⊎ ((lent ≤ 2048) × (length before < 166050))) × (mid ≡ before) × (w' ≡ w) × (b' ≡ b))
        → IfSome r (λ n. (told before : List ℕ) → Begins told before n mid → Begins (told ++ session_row w') before end after)
        → (r ≡ None → (end ≡ 0) × (after ≡ mid)) → RepliedOfEntry lent w b sheet names before end w' b' after
    entered_by (Some n) h f g p q =
        let a = h.2 in
        let here : Entered w b (take (8 * a.k) a.words) names (8 * lent) a.x a.out'.now w' b' =
        subst (λ (s : List ℕ). Entered w b s names (8 * lent) a.x a.out'.now w' b') a.rows_are
        (subst (λ (k : ℕ). Entered w b a.rows.now names k a.x a.out'.now w' b') a.room (f n a)) in
        entry_replied h.0 h.1 (entered_text w b (8 * lent) sheet names a.k a.words _ _ _ _ a.read here) (p _ _ a.text)
    entered_by None h f g p q =
        let none = g refl in
        let last = q refl in
        subst (λ (n : ℕ). RepliedOfEntry lent w b sheet names before n w' b' after) (sym last.0)
        (subst (λ (t : List ℕ). RepliedOfEntry lent w b sheet names before 0 w' b' t) (sym (last.1 ∙ none.1))
        (subst (λ (v : List ℕ). RepliedOfEntry lent w b sheet names before 0 v b' before) (sym none.2)
        (subst (λ (v : List ℕ). RepliedOfEntry lent w b sheet names before 0 w v before) (sym none.3) (not_entered (none_lent none.0)))))
