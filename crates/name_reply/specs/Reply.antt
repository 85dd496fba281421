-- The reply to the number of a name (document 02, F-1).
use Rattle.std.specs.Prelude.{◌≡◌, Bool, List, [], ◌∷◌, ◌++◌, ℕ, length, take}
use Rattle.definition.specs.Names.{Name}
use Rattle.definition.specs.Text.{text_of}
use Rattle.session.specs.Words.{whole, name_text}
use Rattle.report.specs.Report.{Begins, reply}

-- a report of zeros whose last number tells how many bytes follow, and these bytes
abbrev pub printed_name : Name → List ℕ
printed_name t = text_of ((0 ∷ 0 ∷ 0 ∷ 0 ∷ 0 ∷ 0 ∷ 0 ∷ length t ∷ []) ∷ []) ++ t

-- A lent text, which then is `after`, begins with the reply to number k, of a session of words w and bytes b or of an entry with a list of which `names` was
-- read: all of it, or one byte more than the longest that is accepted.
pub record RepliedOfName (w b names : List ℕ) (of_entry : Bool) (k : ℕ) (before : List ℕ) (n : ℕ) (after : List ℕ) : Type 0 where
  pub of_read : Begins (reply 0 (length before) (printed_name (name_text whole w b names of_entry k))) before n after
  pub of_names : (ns : List ℕ) → names ≡ take 32769 ns
      → Begins (reply 0 (length before) (printed_name (name_text whole w b ns of_entry k))) before n after
