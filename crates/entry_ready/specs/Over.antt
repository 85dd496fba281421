-- What comes of an entry's sheet over a session: questions 5 to 22, then 24.
use Rattle.std.specs.Prelude.{◌≡◌, not, ◌&&◌, List, [], ◌∷◌, ◌++◌, ℕ, set, eqb, leb}
use Rattle.definition.specs.Basics.{when◌then◌else◌}
use Rattle.definition.specs.Names.{Name}
use Rattle.definition.specs.Sheet.{Sheet}
use Rattle.definition.specs.Outcome.{Outcome, refused, asked, buffer}
use Rattle.session.specs.Session.{Accepted, Session, outside_of, within}
use Rattle.session.specs.Enter.{laid_by, classes_by, next_global}
use Rattle.session.specs.Words.{whole, words_with}
use Rattle.answer.specs.declared.Answer.{Answer}
use Rattle.answer.specs.Tells.{Tells}

-- A sheet t with the session's name numbers, whose new names are ms, over session S, with a buffer of `lent` words.
module _ (S : Session) (t : Sheet) (ms : List Name) (lent : ℕ) where
  -- what it leaves if it is accepted
  abbrev pub entry_of : Accepted
  entry_of = record { names = ms; laid = laid_by (outside_of S) t; classes = classes_by (outside_of S) t }

  -- its outcome, names told by the session's numbers
  abbrev pub asked_over : Outcome
  asked_over =
      let x : Outcome = asked (outside_of S) lent t in
      when not (eqb x.number 0) then x
      else when within (record { globals = x.globals; entries = S.entries ++ entry_of ∷ [] }) then x
      else refused 24

  -- the session's words after it
  abbrev pub words_after : List ℕ → List ℕ
  words_after w =
      when eqb asked_over.number 0 then words_with whole w asked_over.globals entry_of
      else when leb 5 asked_over.number && leb asked_over.number 21 then set w 0 (next_global (outside_of S) t)
      else w

-- The answer x and the words w of the lent buffer are those of the outcome.
pub record AskedOver (S : Session) (t : Sheet) (ms : List Name) (lent : ℕ) (x : Answer) (w : List ℕ) : Type 0 where
  pub tells : Tells (asked_over S t ms lent) x
  pub words : w ≡ buffer lent (asked_over S t ms lent)
