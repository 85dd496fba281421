-- New names written one after another, each with its end.
use mathlib.Core.Path.{◌≡◌, refl, sym, ap, ◌∙◌}
use mathlib.Core.Bool.{Bool, true, false, not}
use mathlib.Core.List.{List, [], ◌∷◌, ◌++◌}
use Prim.Native.Nat.{ℕ, suc, ◌+◌, ◌<◌, ◌≤◌}
use native.Mathlib.Omega.{arith}
use lib.ListN.{length, get_or, drop, set, length-append, drop_of_length-le}
use lib.Seq.{sets}
use lib.Dec.{leb}
use borrow.Author.Tests.{le-leb, lt-leb}
use Rattle.definition.specs.Basics.{when◌then◌else◌, filter, any, place, concat_map}
use Rattle.definition.specs.Names.{Name, listed, same_name}
use Rattle.names.proofs.Laws.{drop_step}
use Rattle.session.specs.Session.{Session, all_names}
use Rattle.session.specs.Entry.{new_names, names_with}
use Rattle.session.specs.Words.{ended}
use Rattle.session.proofs.EntryLaws.{place_below}
use Rattle.entry_names.specs.Told.{is_new, session_numbers, ended_from, new_bytes}
use Rattle.machine.proofs.Words.{sets_more}
use Rattle.entry_names.proofs.PlaceLaws.{place_left, place_right}
use Rattle.entry_names.proofs.NumberLaws.{listed_number}
use Rattle.entry_names.proofs.SheetLaws.{numbers_at}

-- A name and its end, byte by byte: none is written,
pub byte_first : (v name : List ℕ) (at : ℕ) → sets v (at + 0) (drop 0 name ++ 10 ∷ []) ≡ sets v at (ended name)
byte_first v name at = let q : at + 0 ≡ at = omega arith in ap (λ (j : ℕ). sets v j (ended name)) q

-- byte i is next,
pub byte_next : (v name : List ℕ) (at i : ℕ) → i < length name → sets (set v (at + i) (get_or name i 0)) (at + (i + 1)) (drop (i + 1) name ++ 10 ∷ []) ≡ sets v (at + i) (drop i name ++ 10 ∷ [])
byte_next v name at i h =
    let q : at + (i + 1) ≡ suc (at + i) = omega arith in
    ap (λ (j : ℕ). sets (set v (at + i) (get_or name i 0)) j (drop (i + 1) name ++ 10 ∷ [])) q
    ∙ ap (λ (l : List ℕ). sets v (at + i) (l ++ 10 ∷ [])) (sym (drop_step name i 0 h))

-- or the end
pub byte_last : (v name : List ℕ) (at i : ℕ) → length name ≤ i → set v (at + i) 10 ≡ sets v (at + i) (drop i name ++ 10 ∷ [])
byte_last v name at i h = ap (λ (l : List ℕ). sets v (at + i) (l ++ 10 ∷ [])) (sym (drop_of_length-le name h))

-- A name that is new, and one that is not.
module _ (first number : ℕ) (x : Name) where
  pub is_old : number < first → ended_from first number x ≡ []
  is_old h = ap (λ (t : Bool). when t then ended x else []) (lt-leb first number h)

  pub is_new_lem : first ≤ number → ended_from first number x ≡ ended x
  is_new_lem h = ap (λ (t : Bool). when t then ended x else []) (le-leb first number h)

  pub ended_size : length (ended_from first number x) ≤ length x + 1
  ended_size = go (leb first number)
    where
      go : (t : Bool) → length (when t then ended x else []) ≤ length x + 1
      go true = omega (arith, length-append x (10 ∷ []))
      go false = omega arith

-- A name is written, or passed; then the names after it.
pub name_written : (x : Name) (xs : List Name) (first : ℕ) (numbers v u : List ℕ) (k to number to' : ℕ) → number ≡ get_or numbers k 0
    → u ≡ sets v to (ended_from first number x) → to' ≡ to + length (ended_from first number x)
    → sets u to' (new_bytes first numbers (k + 1) xs) ≡ sets v to (new_bytes first numbers k (x ∷ xs))
name_written x xs first numbers v u k to number to' f g h =
    let q : k + 1 ≡ suc k = omega arith in
    let rest : List ℕ = new_bytes first numbers (suc k) xs in
    ap (λ (j : ℕ). sets u to' (new_bytes first numbers j xs)) q ∙ ap (λ (w : List ℕ). sets w to' rest) g
    ∙ ap (λ (j : ℕ). sets (sets v to (ended_from first number x)) j rest) h ∙ sym (sets_more v to (ended_from first number x) rest refl)
    ∙ ap (λ (m : ℕ). sets v to (ended_from first m x ++ rest)) f

-- Names whose numbers say whether they are new.
new_bytes_lem : (p : Name → Bool) (first : ℕ) (numbers : List ℕ) (xs : List Name) (i : ℕ)
    → ((k : ℕ) → k < length xs → leb first (get_or numbers (i + k) 0) ≡ p (get_or xs k [])) → new_bytes first numbers i xs ≡ concat_map ended (filter p xs)
new_bytes_lem p first numbers [] i h = refl
new_bytes_lem p first numbers (x ∷ xs) i h =
    let z : i + 0 ≡ i = omega arith in
    let on = new_bytes_lem p first numbers xs (suc i) (λ k l. let q : suc i + k ≡ i + suc k = omega arith in ap (λ (j : ℕ). leb first (get_or numbers j 0)) q ∙ h (suc k) (omega arith)) in
    let t : leb first (get_or numbers i 0) ≡ p x = ap (λ (j : ℕ). leb first (get_or numbers j 0)) (sym z) ∙ h 0 (omega arith) in
    ap (λ (u : Bool). (when u then ended x else []) ++ new_bytes first numbers (suc i) xs) t ∙ ap (λ (r : List ℕ). (when p x then ended x else []) ++ r) on ∙ go (p x)
  where
    go : (u : Bool) → (when u then ended x else []) ++ concat_map ended (filter p xs) ≡ concat_map ended (when u then x ∷ filter p xs else filter p xs)
    go true = refl
    go false = refl

-- The session's numbers say so: those of new names are above those of all others.
module _ (S : Session) (ns numbers : List ℕ) (told : numbers ≡ session_numbers S ns) (first : ℕ) (above : first ≡ suc (length (all_names S))) where
  new_above : (k : ℕ) → k < length (listed ns) → leb first (get_or numbers k 0) ≡ is_new (all_names S) (get_or (listed ns) k [])
  new_above k h =
      ap (λ (m : ℕ). leb m (get_or numbers k 0)) above ∙ ap (leb (suc (length l))) (numbers_at S ns numbers told k h ∙ listed_number S ns k h) ∙ go (any (same_name x) l) refl
    where
      l : List Name
      l = all_names S

      x : Name
      x = get_or (listed ns) k []

      go : (t : Bool) → any (same_name x) l ≡ t → leb (suc (length l)) (suc (place (same_name x) (names_with S ns))) ≡ not t
      go true e =
          lt-leb (suc (length l)) (suc (place (same_name x) (names_with S ns))) (omega (arith, place_left (same_name x) l (new_names S ns) e, (place_below (same_name x) l e).0))
      go false e = le-leb (suc (length l)) (suc (place (same_name x) (names_with S ns))) (omega (arith, place_right (same_name x) l (new_names S ns) e))

  pub new_written : new_bytes first numbers 0 (listed ns) ≡ concat_map ended (new_names S ns)
  new_written = new_bytes_lem (is_new (all_names S)) first numbers (listed ns) 0 (λ k h. let z : 0 + k ≡ k = omega arith in ap (λ (j : ℕ). leb first (get_or numbers j 0)) z ∙ new_above k h)
