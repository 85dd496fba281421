-- Words and bytes with an entry more, as later laws read them: w' and n' are known by what stands in them.
use mathlib.Core.Path.{◌≡◌, refl, ap, ◌∙◌}
use mathlib.Core.List.{List, [], ◌∷◌, ◌++◌}
use Prim.Native.Nat.{ℕ, suc, ◌+◌, ◌<◌, ◌≤◌}
use native.Mathlib.Omega.{arith}
use lib.ListN.{length, get_or, set, take, drop, length-append, length-drop}
use lib.Seq.{sets, length-sets, take-set-le, drop-set-add, sets-eq, take_at, length-take-le}
use Rattle.definition.specs.Basics.{concat_map, total}
use Rattle.session.specs.Session.{Accepted, member_count}
use Rattle.session.specs.Words.{Room, ended, fixed_bytes, entry_place, laid_place, class_place, member_place, name_bytes, laid_words, class_words, counts_with, words_with, bytes_with}
use Rattle.session.proofs.Extended.{method_from}
use Rattle.session.proofs.NewWords.{Roomy, members_of, as_field, no_named, no_class}
use Rattle.session.proofs.NewWords.{long_same, front_word, old_entry, new_entry_lem, old_laid, new_laid, old_class, new_class, old_member, new_member}

-- a run stored past a place, before it and from it on
take_sets : (k : ℕ) (vs l : List ℕ) (i : ℕ) → k ≤ i → take k (sets l i vs) ≡ take k l
take_sets k [] l i h = refl
take_sets k (x ∷ vs) l i h = take_sets k vs (set l i x) (suc i) (omega arith) ∙ take-set-le k l i x h

drop_sets : (k : ℕ) (vs l : List ℕ) (i : ℕ) → drop k (sets l (k + i) vs) ≡ sets (drop k l) i vs
drop_sets k [] l i = refl
drop_sets k (x ∷ vs) l i =
    let q : suc (k + i) ≡ k + suc i = omega arith in
    ap (λ (j : ℕ). drop k (sets (set l (k + i) x) j vs)) q ∙ drop_sets k vs (set l (k + i) x) (suc i) ∙ ap (λ (m : List ℕ). sets m (suc i) vs) (drop-set-add k l i x)

-- the names after a run of bytes is put after them
after_run_lem : (k B : ℕ) (n vs : List ℕ) → k + (B + length vs) ≤ length n → take (B + length vs) (drop k (sets n (k + B) vs)) ≡ take B (drop k n) ++ vs
after_run_lem k B n vs l =
    let m : List ℕ = drop k n in
    let long : B + length vs ≤ length m = omega (arith, length-drop k n) in
    ap (take (B + length vs)) (drop_sets k vs n B ∙ sets-eq vs m B long)
    ∙ take_at (take B m ++ vs) (drop (B + length vs) m) (B + length vs) (length-append (take B m) vs ∙ ap (λ (j : ℕ). j + length vs) (length-take-le B m (omega arith)))

pub record Added (R : Room) (w n w' n' : List ℕ) (g : ℕ) (e : Accepted) : Type 0 where
  pub room : Roomy R w n e
  pub long : length w' ≡ length w
  pub long_bytes : length n' ≡ length n
  pub globals_is : get_or w' 0 0 ≡ g
  pub entries_is : get_or w' 1 0 ≡ suc (get_or w 1 0)
  pub count_is : (c : ℕ) → c < 5 → get_or w' (3 + c) 0 ≡ get_or (counts_with w e) c 0
  -- what was there
  pub entry_old : (i k : ℕ) → i < get_or w 1 0 → k < 5 → get_or w' (entry_place R i + k) 0 ≡ get_or w (entry_place R i + k) 0
  pub laid_old : (i k : ℕ) → i < get_or w 5 0 → k < 4 → get_or w' (laid_place R i + k) 0 ≡ get_or w (laid_place R i + k) 0
  pub class_old : (i k : ℕ) → i < get_or w 6 0 → k < 5 → get_or w' (class_place R i + k) 0 ≡ get_or w (class_place R i + k) 0
  pub member_old : (i k : ℕ) → i < get_or w 7 0 → k < 3 → get_or w' (member_place R i + k) 0 ≡ get_or w (member_place R i + k) 0
  -- what is new
  pub entry_new : (k : ℕ) → k < 5 → get_or w' (entry_place R (get_or w 1 0) + k) 0 ≡ get_or (counts_with w e) k 0
  pub laid_new : (j k : ℕ) → j < length e.laid → k < 4 → get_or w' (laid_place R (get_or w 5 0 + j) + k) 0 ≡ get_or (laid_words (get_or e.laid j no_named)) k 0
  pub class_new : (j k : ℕ) → j < length e.classes → k < 5 → get_or w' (class_place R (get_or w 6 0 + j) + k) 0 ≡ get_or (class_words (get_or e.classes j no_class)) k 0
  pub member_new : (j : ℕ) → j < total member_count e.classes → method_from R w' (get_or w 7 0 + j) ≡ get_or (concat_map members_of e.classes) j (as_field 0)
  -- the bytes
  pub fixed_same : take (length fixed_bytes) n' ≡ take (length fixed_bytes) n
  pub bytes_are : name_bytes R w' n' ≡ name_bytes R w n ++ concat_map ended e.names

pub added : (R : Room) (w n : List ℕ) (g : ℕ) (e : Accepted) → Roomy R w n e → Added R w n (words_with R w g e) (bytes_with w n e) g e
added R w n g e room =
    record {
      room = room;
      long = long_same R w n g e room;
      long_bytes = length-sets n (length fixed_bytes + get_or w 4 0) (concat_map ended e.names);
      globals_is = front_word R w n g e room 0 (omega arith);
      entries_is = front_word R w n g e room 1 (omega arith);
      count_is = counted;
      entry_old = old_entry R w n g e room;
      laid_old = old_laid R w n g e room;
      class_old = old_class R w n g e room;
      member_old = old_member R w n g e room;
      entry_new = new_entry_lem R w n g e room;
      laid_new = new_laid R w n g e room;
      class_new = new_class R w n g e room;
      member_new = new_member R w n g e room;
      fixed_same = take_sets (length fixed_bytes) (concat_map ended e.names) n (length fixed_bytes + get_or w 4 0) (omega arith);
      bytes_are =
          ap (λ (k : ℕ). take k (drop (length fixed_bytes) (bytes_with w n e))) (front_word R w n g e room 4 (omega arith))
          ∙ after_run_lem (length fixed_bytes) (get_or w 4 0) n (concat_map ended e.names) (omega (arith, room.bytes, room.long_bytes));
    }
  where
    counted : (c : ℕ) → c < 5 → get_or (words_with R w g e) (3 + c) 0 ≡ get_or (counts_with w e) c 0
    counted c l =
        let q : 3 + c ≡ suc (suc (suc c)) = omega arith in
        front_word R w n g e room (3 + c) (omega arith) ∙ ap (λ (k : ℕ). get_or (g ∷ suc (get_or w 1 0) ∷ get_or w 2 0 ∷ counts_with w e) k 0) q
