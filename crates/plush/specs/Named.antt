-- What the text of a name promises, for every session, list of names, number and lent words.
use Rattle.std.specs.Prelude.{◌≡◌, Bool, List, [], ◌∷◌, ℕ, length}
use Rattle.report.specs.Report.{fitted}
use Rattle.session.specs.Words.{whole, name_text}
use Rattle.name_place.specs.declared.Place.{Place}
use Rattle.name_place.specs.Place.{place_of, text_at}

-- the words of a place
abbrev pub place_words : Place → List ℕ
place_words p = p.list ∷ p.start ∷ p.length ∷ []

-- Of session words w and bytes n, an entry's list ns, number k, and `room` lent words, which then are v:
pub record NameTold (w n ns : List ℕ) (of_entry : Bool) (k room r : ℕ) (v : List ℕ) : Type 0 where
  -- the number returned is how many bytes the text has,
  pub size : r ≡ length (name_text whole w n ns of_entry k)
  -- the words hold its place as far as they go, and zeros to their end,
  pub words : v ≡ fitted room (place_words (place_of n ns of_entry k r))
  -- and there it stands.
  pub text : text_at n ns (place_of n ns of_entry k r) ≡ name_text whole w n ns of_entry k
