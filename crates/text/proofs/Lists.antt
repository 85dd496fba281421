-- Lists and parts of lists. Assumes nothing.
use mathlib.Core.Path.{◌≡◌, refl, sym, ap, ◌∙◌}
use mathlib.Core.Bool.{Bool, ◌&&◌}
use mathlib.Core.List.{List, [], ◌∷◌, ◌++◌, map, append_assoc, append-nil}
use Prim.Native.Nat.{ℕ, zero, suc, ◌+◌, ◌*◌, ◌-◌, ◌<◌, ◌≤◌}
use native.Mathlib.Numerals.{add-one}
use native.Mathlib.Omega.{arith}
use native.Mathlib.Nat.{add-zero, zero-add, add_comm, mul-zero, mul-suc}
use borrow.Rule.Slice.PartMut.{put_mid, post_of}
use lib.ListN.{length, get_or, take, drop, set, length-append}
use lib.Seq.{drop-cons, take_at, drop_at, take-take, take-add, length-take-le, take-suc-set, drop-drop, get_or-take, get_or-drop}
use Rattle.definition.specs.Basics.{all, from, concat_map}
use Rattle.definition.proofs.Format.Passes.{from_suc, all_suc}

module _ {A : Type 0} where
  -- the element at i, and what follows it
  pub drop_next : (l : List A) (i : ℕ) (d : A) → i < length l → drop i l ≡ get_or l i d ∷ drop (i + 1) l
  drop_next l i d h = rw (add-one, drop-cons l i d)

  -- the front after a store at its end
  pub take_stored : (l : List A) (i : ℕ) (v : A) → i < length l → take (i + 1) (set l i v) ≡ take i l ++ v ∷ []
  take_stored l i v h = rw add-one (take-suc-set l i v h)

  -- the front up to the end of a part that was put back
  pub put_front : (a e : ℕ) (xs ys : List A) → a ≤ e → e ≤ length xs → length ys ≡ e - a → take e (put_mid a (e - a) xs ys) ≡ take a xs ++ ys
  put_front a e xs ys h g l =
      ap (take e) (sym (append_assoc (take a xs) ys (post_of a (e - a) xs)))
      ∙ take_at (take a xs ++ ys) (post_of a (e - a) xs) e (omega (arith, length-append (take a xs) ys, length-take-le a xs (omega arith)))

  -- a part of a part
  take_inside : (k j m : ℕ) (xs : List A) → j + k ≤ m → take k (drop j (take m xs)) ≡ take k (drop j xs)
  take_inside k zero m xs h = take-take k m xs (omega arith)
  take_inside k (suc j) zero xs h = absurd (omega arith)
  take_inside k (suc j) (suc m) [] h = refl
  take_inside k (suc j) (suc m) (x ∷ xs) h = take_inside k j m xs (omega arith)

  pub part_of_part : (k j m i : ℕ) (xs : List A) → j + k ≤ m → take k (drop j (take m (drop i xs))) ≡ take k (drop (i + j) xs)
  part_of_part k j m i xs h = take_inside k j m (drop i xs) h ∙ ap (take k) (drop-drop j i xs)

  pub element_of_part : (j m i : ℕ) (xs : List A) (d : A) → j < m → get_or (take m (drop i xs)) j d ≡ get_or xs (i + j) d
  element_of_part j m i xs d h = get_or-take m (drop i xs) j d h ∙ get_or-drop i xs j d

  map_append : {B : Type 0} (f : A → B) (xs ys : List A) → map f (xs ++ ys) ≡ map f xs ++ map f ys
  map_append f [] ys = refl
  map_append {B} f (x ∷ xs) ys = ap (λ (l : List B). f x ∷ l) (map_append f xs ys)

  pub concat_append : {B : Type 0} (f : A → List B) (xs ys : List A) → concat_map f (xs ++ ys) ≡ concat_map f xs ++ concat_map f ys
  concat_append f [] ys = refl
  concat_append {B} f (x ∷ xs) ys = ap (λ (l : List B). f x ++ l) (concat_append f xs ys) ∙ sym (append_assoc (f x) (concat_map f xs) (concat_map f ys))

  pub concat_map_lem : {B C : Type 0} (f : B → List C) (g : A → B) (xs : List A) → concat_map f (map g xs) ≡ concat_map (λ x. f (g x)) xs
  concat_map_lem f g [] = refl
  concat_map_lem {C = C} f g (x ∷ xs) = ap (λ (l : List C). f (g x) ++ l) (concat_map_lem f g xs)

-- what agrees on a run of numbers
pub all_alike : (p q : ℕ → Bool) (k m : ℕ) → ((i : ℕ) → i < k + m → p i ≡ q i) → all p (from k m) ≡ all q (from k m)
all_alike p q k zero h = refl
all_alike p q k (suc m) h = cc (h k (omega arith), all_alike p q (suc k) m (λ i l. h i (omega arith)))

module _ {A : Type 0} where
  pub map_alike : (f g : ℕ → A) (k m : ℕ) → ((i : ℕ) → i < k + m → f i ≡ g i) → map f (from k m) ≡ map g (from k m)
  map_alike f g k zero h = refl
  map_alike f g k (suc m) h = cc (h k (omega arith), map_alike f g (suc k) m (λ i l. h i (omega arith)))

  pub concat_alike : (f g : ℕ → List A) (k m : ℕ) → ((i : ℕ) → i < k + m → f i ≡ g i) → concat_map f (from k m) ≡ concat_map g (from k m)
  concat_alike f g k zero h = refl
  concat_alike f g k (suc m) h = cc (h k (omega arith), concat_alike f g (suc k) m (λ i l. h i (omega arith)))

-- the element at i of a run
module _ {A : Type 0} (f : ℕ → A) (d : A) where
  map_from : (k m i : ℕ) → i < m → get_or (map f (from k m)) i d ≡ f (k + i)
  map_from k zero i h = absurd (omega arith)
  map_from k (suc m) zero h = rw add-zero
  map_from k (suc m) (suc i) h =
      let q : k + suc i ≡ suc k + i = omega arith in
      rw q (map_from (suc k) m i (omega arith))

  pub map_at : (n i : ℕ) → i < n → get_or (map f (from 0 n)) i d ≡ f i
  map_at n i h = map_from 0 n i h ∙ ap f (zero-add i)

pub from_length : (k m : ℕ) → length (from k m) ≡ m
from_length k zero = refl
from_length k (suc m) = ap suc (from_length (suc k) m)

-- one number more
pub all_more : (p : ℕ → Bool) (n : ℕ) → all p (from 0 (n + 1)) ≡ (all p (from 0 n) && p n)
all_more p n = rw add-one (all_suc p n)

module _ {A : Type 0} where
  pub map_more : (f : ℕ → A) (n : ℕ) → map f (from 0 (n + 1)) ≡ map f (from 0 n) ++ f n ∷ []
  map_more f n = rw add-one (ap (map f) (from_suc n) ∙ map_append f (from 0 n) (n ∷ []))

  pub concat_more : (f : ℕ → List A) (n : ℕ) → concat_map f (from 0 (n + 1)) ≡ concat_map f (from 0 n) ++ f n
  concat_more f n = rw add-one (ap (concat_map f) (from_suc n) ∙ concat_append f (from 0 n) (n ∷ []) ∙ ap (λ (l : List A). concat_map f (from 0 n) ++ l) (append-nil (f n)))

  -- parts of w elements each, joined
  pub parts_joined : (w : ℕ) (xs : List A) (n : ℕ) → concat_map (λ r. take w (drop (w * r) xs)) (from 0 n) ≡ take (w * n) xs
  parts_joined w xs zero = rw mul-zero
  parts_joined w xs (suc n) =
      ap (λ (k : ℕ). concat_map (λ r. take w (drop (w * r) xs)) (from 0 k)) (sym (add-one n)) ∙ concat_more (λ r. take w (drop (w * r) xs)) n
      ∙ ap (λ (l : List A). l ++ take w (drop (w * n) xs)) (parts_joined w xs n) ∙ rw (mul-suc w n) (sym (take-add (w * n) w xs))

-- pieces of w elements each, joined
module _ {A B : Type 0} (w : ℕ) (f : A → List B) (d : A) where
  pub pieces_length : (xs : List A) → ((i : ℕ) → i < length xs → length (f (get_or xs i d)) ≡ w) → length (concat_map f xs) ≡ w * length xs
  pieces_length [] h = rw mul-zero
  pieces_length (x ∷ xs) h =
      length-append (f x) (concat_map f xs) ∙ cc (h 0 (omega arith), pieces_length xs (λ i l. h (suc i) (omega arith))) ∙ sym (mul-suc w (length xs) ∙ add_comm (w * length xs) w)

  pub piece_at : (xs : List A) (e : List B) (i : ℕ) → ((j : ℕ) → j < length xs → length (f (get_or xs j d)) ≡ w) → i < length xs
      → take w (drop (w * i) (concat_map f xs ++ e)) ≡ f (get_or xs i d)
  piece_at [] e i h l = absurd (omega arith)
  piece_at (x ∷ xs) e zero h l = rw (mul-zero, append_assoc) (take_at (f x) (concat_map f xs ++ e) w (h 0 (omega arith)))
  piece_at (x ∷ xs) e (suc i) h l =
      let q : w * suc i ≡ w + w * i = mul-suc w i ∙ add_comm (w * i) w in
      rw (q, append_assoc)
      (ap (take w) (sym (drop-drop (w * i) w (f x ++ (concat_map f xs ++ e))) ∙ ap (drop (w * i)) (drop_at (f x) (concat_map f xs ++ e) w (h 0 (omega arith))))
      ∙ piece_at xs e i (λ j k. h (suc j) (omega arith)) (omega arith))
