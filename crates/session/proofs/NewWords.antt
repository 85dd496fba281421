-- The words with an accepted entry more, place by place: what was there stays, and its runs follow.
use mathlib.Core.Path.{◌≡◌, refl, sym, ap, ◌∙◌}
use mathlib.Core.Logic.{inl, inr}
use mathlib.Core.List.{List, [], ◌∷◌, ◌++◌, map, append_assoc}
use Prim.Native.Nat.{ℕ, suc, ◌+◌, ◌*◌, ◌<◌, ◌≤◌}
use native.Mathlib.Omega.{arith}
use lib.ListN.{length, get_or, length-append, length-map}
use lib.Seq.{sets, length-sets}
use Rattle.definition.specs.Basics.{concat_map, total}
use Rattle.definition.specs.Meaning.{Named, named, nothing, function, class, global, toplevel, variable}
use Rattle.definition.specs.Outside.{Method}
use Rattle.session.specs.Session.{Class, Accepted, member_count}
use Rattle.session.specs.Words.{Room, ended, fixed_bytes, entry_place, laid_place, class_place, member_place, session_size, laid_words, class_words, member_words, counts_with, words_with}
use Rattle.machine.proofs.Words.{sets_out, sets_in}
use Rattle.session.proofs.Stored.{rows_length, row_word}
use Rattle.session.proofs.Extended.{method_from}

-- Words w have room for entry e, and bytes n.
pub record Roomy (R : Room) (w n : List ℕ) (e : Accepted) : Type 0 where
  pub names : get_or w 3 0 + length e.names ≤ 1024
  pub bytes : get_or w 4 0 + length (concat_map ended e.names) ≤ R.bytes
  pub laid : get_or w 5 0 + length e.laid ≤ R.laid
  pub classes : get_or w 6 0 + length e.classes ≤ R.classes
  pub members : get_or w 7 0 + total member_count e.classes ≤ R.members
  pub entries : get_or w 1 0 + 1 ≤ R.entries
  pub long : session_size R ≤ length w
  pub long_bytes : length fixed_bytes + R.bytes ≤ length n

-- a field as a method without a function, and the members of a class so
abbrev pub as_field : ℕ → Method
as_field f = record { name = f; fun = 0; params = 0 }

abbrev pub members_of : Class → List Method
members_of c = map as_field c.fields ++ c.methods

abbrev pub triple : Method → List ℕ
triple m = m.name ∷ m.fun ∷ m.params ∷ []

abbrev pub no_named : Named
no_named = named 0 nothing

abbrev pub no_class : Class
no_class = record { number = 0; name = 0; parent = 0; fields = []; methods = [] }

laid_wide : (x : Named) → length (laid_words x) ≡ 4
laid_wide x = go x.means
  where
    go : (d : _) → length (laid_words (named x.name d)) ≡ 4
    go nothing = refl
    go (function f) = refl
    go (class c) = refl
    go (global g m) = refl
    go (toplevel r) = refl
    go (variable r f) = refl

-- the members' words are those of all members
pub concat_append : {A B : Type 0} (f : A → List B) (xs ys : List A) → concat_map f (xs ++ ys) ≡ concat_map f xs ++ concat_map f ys
concat_append f [] ys = refl
concat_append {B = B} f (x ∷ xs) ys = ap (λ (l : List B). f x ++ l) (concat_append f xs ys) ∙ sym (append_assoc (f x) (concat_map f xs) (concat_map f ys))

fields_are_lem : (fs : List ℕ) → concat_map (λ f. f ∷ 0 ∷ 0 ∷ []) fs ≡ concat_map triple (map as_field fs)
fields_are_lem [] = refl
fields_are_lem (f ∷ fs) = ap (λ (l : List ℕ). f ∷ 0 ∷ 0 ∷ l) (fields_are_lem fs)

members_are : (cs : List Class) → concat_map member_words cs ≡ concat_map triple (concat_map members_of cs)
members_are [] = refl
members_are (c ∷ cs) =
    ap (λ (l : List ℕ). (l ++ concat_map triple c.methods) ++ concat_map member_words cs) (fields_are_lem c.fields)
    ∙ ap (λ (l : List ℕ). l ++ concat_map member_words cs) (sym (concat_append triple (map as_field c.fields) c.methods))
    ∙ ap (λ (l : List ℕ). concat_map triple (members_of c) ++ l) (members_are cs) ∙ sym (concat_append triple (members_of c) (concat_map members_of cs))

pub members_length : (cs : List Class) → length (concat_map members_of cs) ≡ total member_count cs
members_length [] = refl
members_length (c ∷ cs) =
    omega (
      arith,
      length-append (members_of c) (concat_map members_of cs),
      length-append (map as_field c.fields) c.methods,
      length-map c.fields as_field,
      members_length cs,
    )

module _ (R : Room) (w n : List ℕ) (g : ℕ) (e : Accepted) (room : Roomy R w n e) where
  abbrev w' : List ℕ
  w' = words_with R w g e

  abbrev mw : List ℕ
  mw = concat_map member_words e.classes

  abbrev cw : List ℕ
  cw = concat_map class_words e.classes

  abbrev lw : List ℕ
  lw = concat_map laid_words e.laid

  abbrev w₁ : List ℕ
  w₁ = sets w (member_place R (get_or w 7 0)) mw

  abbrev w₂ : List ℕ
  w₂ = sets w₁ (class_place R (get_or w 6 0)) cw

  abbrev w₃ : List ℕ
  w₃ = sets w₂ (laid_place R (get_or w 5 0)) lw

  abbrev w₄ : List ℕ
  w₄ = sets w₃ (entry_place R (get_or w 1 0)) (counts_with w e)

  abbrev front : List ℕ
  front = g ∷ suc (get_or w 1 0) ∷ get_or w 2 0 ∷ counts_with w e

  many : length mw ≡ 3 * total member_count e.classes
  many = ap length (members_are e.classes) ∙ rows_length triple 3 (λ x. refl) (concat_map members_of e.classes) ∙ ap (λ (k : ℕ). 3 * k) (members_length e.classes)

  rows_of : length cw ≡ 5 * length e.classes
  rows_of = rows_length class_words 5 (λ x. refl) e.classes

  laid_of : length lw ≡ 4 * length e.laid
  laid_of = rows_length laid_words 4 laid_wide e.laid

  pub long_same : length w' ≡ length w
  long_same =
      length-sets w₄ 0 front ∙ length-sets w₃ (entry_place R (get_or w 1 0)) (counts_with w e) ∙ length-sets w₂ (laid_place R (get_or w 5 0)) lw
      ∙ length-sets w₁ (class_place R (get_or w 6 0)) cw ∙ length-sets w (member_place R (get_or w 7 0)) mw

  -- the counts
  pub front_word : (j : ℕ) → j < 8 → get_or w' j 0 ≡ get_or front j 0
  front_word j l =
      let z : 0 + j ≡ j = omega arith in
      ap (λ (k : ℕ). get_or w' k 0) (sym z) ∙ sets_in front w₄ 0 j (omega arith) (omega (arith, lengths))
    where
      lengths : length w₄ ≡ length w
      lengths =
          length-sets w₃ (entry_place R (get_or w 1 0)) (counts_with w e) ∙ length-sets w₂ (laid_place R (get_or w 5 0)) lw
          ∙ length-sets w₁ (class_place R (get_or w 6 0)) cw ∙ length-sets w (member_place R (get_or w 7 0)) mw

  past_front : (j : ℕ) → 8 ≤ j → get_or w' j 0 ≡ get_or w₄ j 0
  past_front j l = sets_out front w₄ 0 j (inr (omega arith))

  -- entries
  pub old_entry : (i k : ℕ) → i < get_or w 1 0 → k < 5 → get_or w' (entry_place R i + k) 0 ≡ get_or w (entry_place R i + k) 0
  old_entry i k l h =
      let p : ℕ = entry_place R i + k in
      past_front p (omega arith)
      ∙ sets_out (counts_with w e) w₃ (entry_place R (get_or w 1 0)) p (inl (omega arith))
      ∙ sets_out lw w₂ (laid_place R (get_or w 5 0)) p (inl (omega (arith, room.entries)))
      ∙ sets_out cw w₁ (class_place R (get_or w 6 0)) p (inl (omega (arith, room.entries)))
      ∙ sets_out mw w (member_place R (get_or w 7 0)) p (inl (omega (arith, room.entries)))

  pub new_entry_lem : (k : ℕ) → k < 5 → get_or w' (entry_place R (get_or w 1 0) + k) 0 ≡ get_or (counts_with w e) k 0
  new_entry_lem k h =
      past_front (entry_place R (get_or w 1 0) + k) (omega arith)
      ∙ sets_in (counts_with w e) w₃ (entry_place R (get_or w 1 0)) k h (omega (arith, room.entries, room.long, lengths))
    where
      lengths : length w₃ ≡ length w
      lengths = length-sets w₂ (laid_place R (get_or w 5 0)) lw ∙ length-sets w₁ (class_place R (get_or w 6 0)) cw ∙ length-sets w (member_place R (get_or w 7 0)) mw

  -- declarations
  past_entries : (j : ℕ) → laid_place R 0 ≤ j → get_or w' j 0 ≡ get_or w₃ j 0
  past_entries j l = past_front j (omega arith) ∙ sets_out (counts_with w e) w₃ (entry_place R (get_or w 1 0)) j (inr (omega (arith, room.entries)))

  pub old_laid : (i k : ℕ) → i < get_or w 5 0 → k < 4 → get_or w' (laid_place R i + k) 0 ≡ get_or w (laid_place R i + k) 0
  old_laid i k l h =
      let p : ℕ = laid_place R i + k in
      past_entries p (omega arith)
      ∙ sets_out lw w₂ (laid_place R (get_or w 5 0)) p (inl (omega arith))
      ∙ sets_out cw w₁ (class_place R (get_or w 6 0)) p (inl (omega (arith, room.laid)))
      ∙ sets_out mw w (member_place R (get_or w 7 0)) p (inl (omega (arith, room.laid)))

  pub new_laid : (j k : ℕ) → j < length e.laid → k < 4 → get_or w' (laid_place R (get_or w 5 0 + j) + k) 0 ≡ get_or (laid_words (get_or e.laid j no_named)) k 0
  new_laid j k l h =
      let q : laid_place R (get_or w 5 0 + j) + k ≡ laid_place R (get_or w 5 0) + (4 * j + k) = omega arith in
      past_entries (laid_place R (get_or w 5 0 + j) + k) (omega arith)
      ∙ ap (λ (i : ℕ). get_or w₃ i 0) q
      ∙ sets_in lw w₂ (laid_place R (get_or w 5 0)) (4 * j + k) (omega (arith, laid_of)) (omega (arith, laid_of, room.laid, room.long, lengths))
      ∙ row_word laid_words 4 laid_wide no_named e.laid j k l h
    where
      lengths : length w₂ ≡ length w
      lengths = length-sets w₁ (class_place R (get_or w 6 0)) cw ∙ length-sets w (member_place R (get_or w 7 0)) mw

  -- classes
  past_laid : (j : ℕ) → class_place R 0 ≤ j → get_or w' j 0 ≡ get_or w₂ j 0
  past_laid j l = past_entries j (omega arith) ∙ sets_out lw w₂ (laid_place R (get_or w 5 0)) j (inr (omega (arith, laid_of, room.laid)))

  pub old_class : (i k : ℕ) → i < get_or w 6 0 → k < 5 → get_or w' (class_place R i + k) 0 ≡ get_or w (class_place R i + k) 0
  old_class i k l h =
      let p : ℕ = class_place R i + k in
      past_laid p (omega arith)
      ∙ sets_out cw w₁ (class_place R (get_or w 6 0)) p (inl (omega arith))
      ∙ sets_out mw w (member_place R (get_or w 7 0)) p (inl (omega (arith, room.classes)))

  pub new_class : (j k : ℕ) → j < length e.classes → k < 5 → get_or w' (class_place R (get_or w 6 0 + j) + k) 0 ≡ get_or (class_words (get_or e.classes j no_class)) k 0
  new_class j k l h =
      let q : class_place R (get_or w 6 0 + j) + k ≡ class_place R (get_or w 6 0) + (5 * j + k) = omega arith in
      past_laid (class_place R (get_or w 6 0 + j) + k) (omega arith)
      ∙ ap (λ (i : ℕ). get_or w₂ i 0) q
      ∙ sets_in cw w₁ (class_place R (get_or w 6 0)) (5 * j + k) (omega (arith, rows_of)) (omega (arith, rows_of, room.classes, room.long, lengths))
      ∙ row_word class_words 5 (λ x. refl) no_class e.classes j k l h
    where
      lengths : length w₁ ≡ length w
      lengths = length-sets w (member_place R (get_or w 7 0)) mw

  -- members
  past_classes : (j : ℕ) → member_place R 0 ≤ j → get_or w' j 0 ≡ get_or w₁ j 0
  past_classes j l = past_laid j (omega arith) ∙ sets_out cw w₁ (class_place R (get_or w 6 0)) j (inr (omega (arith, rows_of, room.classes)))

  pub old_member : (i k : ℕ) → i < get_or w 7 0 → k < 3 → get_or w' (member_place R i + k) 0 ≡ get_or w (member_place R i + k) 0
  old_member i k l h = past_classes (member_place R i + k) (omega arith) ∙ sets_out mw w (member_place R (get_or w 7 0)) (member_place R i + k) (inl (omega arith))

  member_at : (j k : ℕ) → j < total member_count e.classes → k < 3
      → get_or w' (member_place R (get_or w 7 0 + j) + k) 0 ≡ get_or (triple (get_or (concat_map members_of e.classes) j (as_field 0))) k 0
  member_at j k l h =
      let q : member_place R (get_or w 7 0 + j) + k ≡ member_place R (get_or w 7 0) + (3 * j + k) = omega arith in
      past_classes (member_place R (get_or w 7 0 + j) + k) (omega arith)
      ∙ ap (λ (i : ℕ). get_or w₁ i 0) q
      ∙ sets_in mw w (member_place R (get_or w 7 0)) (3 * j + k) (omega (arith, many)) (omega (arith, many, room.members, room.long))
      ∙ ap (λ (v : List ℕ). get_or v (3 * j + k) 0) (members_are e.classes)
      ∙ row_word triple 3 (λ x. refl) (as_field 0) (concat_map members_of e.classes) j k (omega (arith, l, members_length e.classes)) h

  pub new_member : (j : ℕ) → j < total member_count e.classes → method_from R w' (get_or w 7 0 + j) ≡ get_or (concat_map members_of e.classes) j (as_field 0)
  new_member j l =
      let z : member_place R (get_or w 7 0 + j) ≡ member_place R (get_or w 7 0 + j) + 0 = omega arith in
      made (get_or (concat_map members_of e.classes) j (as_field 0))
      (ap (λ (k : ℕ). get_or w' k 0) z ∙ member_at j 0 l (omega arith)) (member_at j 1 l (omega arith)) (member_at j 2 l (omega arith))
    where
      made : {x f p : ℕ} (m : Method) → x ≡ m.name → f ≡ m.fun → p ≡ m.params → record { name = x; fun = f; params = p } ≡ m
      made m a b c = λ i. record { name = a i; fun = b i; params = c i }
