-- The bytes of a reply, and how long a name can be.
use mathlib.Core.Path.{◌≡◌, refl, sym, ap, subst, ◌∙◌}
use mathlib.Core.Bool.{Bool, false}
use mathlib.Core.List.{List, [], ◌∷◌, ◌++◌}
use Prim.Native.Nat.{ℕ, ◌+◌, ◌-◌, ◌≤◌}
use native.Mathlib.Omega.{arith}
use lib.ListN.{length, drop}
use borrow.Rule.Slice.PartMut.{mid_of, put_mid}
use Rattle.definition.specs.Names.{Name, names_fit}
use Rattle.definition.specs.Text.{text_of}
use Rattle.names.proofs.Longer.{same_cut}
use Rattle.name_text.proofs.TextLaws.{name_short}
use Rattle.session.specs.Words.{whole, name_text}
use Rattle.text.specs.Writing.{RowsWritten}
use Rattle.text.proofs.Laws.{rows_fit_lem}
use Rattle.report.specs.Report.{Begins, reply}
use Rattle.report.proofs.Laws.{begins_more}
use Rattle.name_reply.specs.Reply.{printed_name, RepliedOfName}

-- the line that tells the length k of what follows
abbrev row : ℕ → List ℕ
row k = 0 ∷ 0 ∷ 0 ∷ 0 ∷ 0 ∷ 0 ∷ 0 ∷ k ∷ []

-- A name and a text of so much room, in which the line was written.
module _ (name before mid : List ℕ) (n : ℕ) (room : 336 ≤ length before) (written : RowsWritten (row (length name)) before n mid) where
  abbrev line : List ℕ
  line = text_of (row (length name) ∷ [])

  line_written : Begins line before 81 mid
  line_written = record { count = refl; text = written.text ∙ (rows_fit_lem (row (length name)) before (omega arith)).1 }

  -- and the name after it
  pub name_printed : (part : List ℕ) → part ≡ name ++ drop (length name) (mid_of 81 (length mid - 81) mid)
      → Begins (printed_name name) before (81 + length name) (put_mid 81 (length mid - 81) mid part)
  name_printed part e = begins_more line_written (record { count = refl; text = e })

-- A text t that is the name of a number.
module _ (w b ns : List ℕ) (of_entry : Bool) (k : ℕ) {t : List ℕ} (e : t ≡ name_text whole w b ns of_entry k) where
  pub text_short : length t ≤ 255
  text_short = subst (λ (x : Name). length x ≤ 255) (sym e) (name_short w b ns of_entry k)

  pub text_told : {before : List ℕ} {n : ℕ} {after : List ℕ} → Begins (printed_name t) before n after
      → Begins (printed_name (name_text whole w b ns of_entry k)) before n after
  text_told {before} {n} {after} = subst (λ (x : Name). Begins (printed_name x) before n after) e

-- The reply to the bytes read of a list is the reply to the list.
pub replied_name : {w b names : List ℕ} {of_entry : Bool} {k : ℕ} {before : List ℕ} {n : ℕ} {after : List ℕ}
    → Begins (reply 0 (length before) (printed_name (name_text whole w b names of_entry k))) before n after
    → RepliedOfName w b names of_entry k before n after
replied_name {w} {b} {names} {of_entry} {k} {before} {n} {after} h = record {
  of_read = h;
  of_names = λ ns e.
      subst (λ (t : Name). Begins (reply 0 (length before) (printed_name t)) before n after)
      (ap (λ (l : List ℕ). name_text whole w b l of_entry k) e
      ∙ same_cut (λ l. name_text whole w b l of_entry k) (name_text whole w b (10 ∷ []) of_entry k) (λ l f. refused_same l f) ns)
      h;
}
  where
    refused_same : (l : List ℕ) → names_fit l ≡ false → name_text whole w b l of_entry k ≡ name_text whole w b (10 ∷ []) of_entry k
    refused_same l f = rw f
