-- What comes of entering a sheet whose names are told by the session's numbers.
use Rattle.std.specs.Prelude.{◌≡◌, List, ℕ}
use Rattle.definition.specs.Names.{Name}
use Rattle.definition.specs.Sheet.{Sheet}
use Rattle.answer.specs.declared.Answer.{Answer}
use Rattle.session.specs.Entry.{new_names, entry_sheet}
use Rattle.session.specs.Words.{whole, session_in}
use Rattle.entry_ready.specs.Over.{AskedOver, words_after}
use Rattle.prepare_entry.specs.Told.{Told}

-- The answer x, the words `out` of the lent buffer and the session's words w' after sheet t, whose new names are ms, was entered.
pub record EnteredIn (w : List ℕ) (t : Sheet) (lent : ℕ) (x : Answer) (out w' n : List ℕ) (ms : List Name) : Type 0 where
  pub asked : AskedOver (session_in whole w n) t ms lent x out
  pub words : w' ≡ words_after (session_in whole w n) t ms lent w

-- The same of sheet s, whatever the session's bytes n and the entry's names ns, if they are those that are told.
abbrev pub EnteredTold : List ℕ → Sheet → List ℕ → ℕ → ℕ → ℕ → Answer → List ℕ → List ℕ → Type 0
EnteredTold w s numbers new bytes lent x out w' =
    (n ns : List ℕ) → Told w s numbers new bytes n ns
    → EnteredIn w (entry_sheet (session_in whole w n) ns s) lent x out w' n (new_names (session_in whole w n) ns)
