-- What comes of the rows that were read is what comes of the text, and what is written of it. Assumes nothing.
use denote.Ref.{Bor, MutBor}
use Rattle.std.specs.Prelude.{Option, Some, None}
use Rattle.std.specs.Option.{IfSome}
use mathlib.Core.Logic.{◌⊎◌}
use mathlib.Core.Path.{◌≡◌, refl, sym, ap, subst, ◌∙◌}
use mathlib.Core.Bool.{Bool, false}
use mathlib.Core.List.{List, [], ◌++◌}
use Prim.Native.Nat.{ℕ, ◌*◌, ◌<◌, ◌≤◌}
use lib.ListN.{length, take}
use Rattle.definition.specs.Basics.{when◌then◌else◌}
use Rattle.definition.specs.Text.{sheet_of, text_of}
use Rattle.definition.specs.Outcome.{Outcome, report, buffer}
use Rattle.text.specs.Reading.{SheetRead}
use Rattle.answer.specs.declared.Answer.{Answer}
use Rattle.answer.specs.Tells.{Tells}
use Rattle.report.specs.Report.{Begins}
use Rattle.report.specs.Asked.{RepliedBy}
use Rattle.session.specs.Words.{whole, enter_words, enter_bytes}
use Rattle.enter_text.specs.Reply.{session_row, outcome_of, is_lent, EnteredText}
use Rattle.enter_text.proofs.EntryLaws.{outcome_read, outcome_cut, none_lent, has, told}
use Rattle.preview.specs.Previewed.{Previewed}
use Rattle.preview_text.specs.Reply.{printed_preview, RepliedOfPreview, PreviewedText}

pub previewed_text : (w b : List ℕ) (lent : ℕ) (sheet ns : List ℕ) (k : ℕ) (ws : List ℕ) (x : Answer) (out : List ℕ) → SheetRead sheet 16384 k ws
    → Previewed w b (take (8 * k) ws) ns lent x out → PreviewedText w b sheet ns lent x out
previewed_text w b lent sheet ns k ws x out read h =
    let same = outcome_read w b lent sheet ns k ws read in
    record { tells = subst (λ (o : Outcome). Tells o x) same h.tells; words = h.words ∙ ap (buffer lent) same }

-- the answer and its words are those of entering, whatever the session is then
pub as_entered : {w b sheet names : List ℕ} {lent : ℕ} {x : Answer} {out : List ℕ} → PreviewedText w b sheet names lent x out
    → EnteredText w b sheet names lent x out (enter_words whole w b (sheet_of sheet) names lent) (enter_bytes whole w b (sheet_of sheet) names lent)
as_entered h = record { tells = h.tells; words = h.words; session = refl; bytes = refl }

-- A preview with `lent` answer rows lent, and a text before it.
module _ (lent : ℕ) (w b sheet names before : List ℕ) where
  -- the reply to the bytes read is the reply to the texts
  replied_texts : {n : ℕ} {after : List ℕ} → Begins (when is_lent lent (length before) then printed_preview lent w b sheet names else []) before n after
      → RepliedOfPreview lent w b sheet names before n after
  replied_texts {n} {after} h = record {
    of_read = h;
    of_texts = λ s ns e f.
        let same : outcome_of lent w b sheet names ≡ outcome_of lent w b s ns =
        ap (λ (t : List ℕ). outcome_of lent w b t names) e ∙ ap (λ (t : List ℕ). outcome_of lent w b (take 165889 s) t) f ∙ outcome_cut w b (8 * lent) s ns in
        subst (λ (o : Outcome). Begins (when is_lent lent (length before) then text_of (report o) ++ session_row w else []) before n after) same h;
  }

  none : is_lent lent (length before) ≡ false → RepliedOfPreview lent w b sheet names before 0 before
  none e =
      replied_texts (subst (λ (t : Bool). Begins (when t then printed_preview lent w b sheet names else []) before 0 before) (sym e) (record { count = refl; text = refl }))

  -- what a preview's text comes to, with a reply or with none
  module _ {asked : Bor (List ℕ) → MutBor (List ℕ) → Answer → MutBor (List ℕ) → Type 0} {mid after : List ℕ} {end : ℕ} where
    pub previewed_by : (r : Option ℕ) → IfSome r (λ n. (lent ≤ 2048) × (166050 ≤ length before) × RepliedBy asked sheet lent before n mid)
        → ((n : ℕ) → (a : RepliedBy asked sheet lent before n mid) → Previewed w b a.rows.now names (length a.out.now) a.x a.out'.now)
        → (r ≡ None → ((2048 < lent) ⊎ ((lent ≤ 2048) × (length before < 166050))) × (mid ≡ before))
        → IfSome r (λ n. (told before : List ℕ) → Begins told before n mid → Begins (told ++ session_row w) before end after)
        → (r ≡ None → (end ≡ 0) × (after ≡ mid)) → RepliedOfPreview lent w b sheet names before end after
    previewed_by (Some n) h f g p q =
        let a = h.2 in
        let here : Previewed w b (take (8 * a.k) a.words) names (8 * lent) a.x a.out'.now =
        subst (λ (s : List ℕ). Previewed w b s names (8 * lent) a.x a.out'.now) a.rows_are
        (subst (λ (k : ℕ). Previewed w b a.rows.now names k a.x a.out'.now) a.room (f n a)) in
        let text = as_entered (previewed_text w b (8 * lent) sheet names a.k a.words _ _ a.read here) in
        let same = told lent w b sheet names before h.0 h.1 text in
        let full = has lent w b sheet names before h.0 h.1 text in
        replied_texts
        (subst (λ (t : Bool). Begins (when t then printed_preview lent w b sheet names else []) before end after) (sym full)
        (subst (λ (t : List ℕ). Begins (t ++ session_row w) before end after) same (p _ _ a.text)))
    previewed_by None h f g p q =
        let no = g refl in
        let last = q refl in
        subst (λ (n : ℕ). RepliedOfPreview lent w b sheet names before n after) (sym last.0)
        (subst (λ (t : List ℕ). RepliedOfPreview lent w b sheet names before 0 t) (sym (last.1 ∙ no.1)) (none (none_lent lent w b sheet names before no.0)))
