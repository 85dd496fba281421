-- Where the text of a name stands (document 02, F-1).
use Rattle.std.specs.Prelude.{◌≡◌, Bool, ◌&&◌, List, [], ◌∷◌, ℕ, zero, suc, ◌-◌, length, take, drop, eqb, leb}
use Rattle.definition.specs.Basics.{when◌then◌else◌}
use Rattle.session.specs.Words.{whole, name_text}
use Rattle.name_place.specs.declared.Place.{Place}

-- how many bytes the first k names of a list take with their ends
abbrev pub bytes_before : ℕ → List ℕ → ℕ
bytes_before zero xs = 0
bytes_before (suc k) [] = 0
bytes_before (suc k) (x ∷ xs) = suc (when eqb x 10 then bytes_before k xs else bytes_before (suc k) xs)

-- no text
abbrev pub nowhere : Place
nowhere = record { list = 0; start = 0; length = 0 }

-- the place of name k, the session's or the entry's, of so many bytes: 1 says in the list ns of the entry, 0 in the bytes n of the session
abbrev pub place_of : List ℕ → List ℕ → Bool → ℕ → ℕ → Place
place_of n ns of_entry k size =
    when eqb size 0 then nowhere
    else when of_entry && leb 25 k then record { list = 1; start = bytes_before (k - 25) ns; length = size }
    else record { list = 0; start = bytes_before (k - 1) n; length = size }

-- the bytes at a place
abbrev pub text_at : List ℕ → List ℕ → Place → List ℕ
text_at n ns p = take p.length (drop p.start (when eqb p.list 0 then n else ns))

-- Of session words w and bytes n, an entry's list ns and a number k: the place is that of the name, and its text stands there.
pub record NamePlaced (w n ns : List ℕ) (of_entry : Bool) (k : ℕ) (p : Place) : Type 0 where
  pub place : p ≡ place_of n ns of_entry k (length (name_text whole w n ns of_entry k))
  pub text : text_at n ns p ≡ name_text whole w n ns of_entry k
