-- The classes of an entry, as its answer rows tell them: their words, and how many they and their members are.
use mathlib.Core.Path.{◌≡◌, refl, sym, ap, ◌∙◌, subst}
use mathlib.Core.List.{List, [], ◌∷◌, ◌++◌, map}
use mathlib.Core.Bool.{Bool, true, false, ◌||◌}
use Prim.Native.Nat.{ℕ, zero, suc, ◌+◌, ◌≤◌}
use native.Mathlib.Omega.{arith}
use lib.ListN.{length, get_or, length-append, length-map}
use lib.Seq.{sets}
use lib.Dec.{eqb, ltb, T}
use borrow.Author.Tests.{ne_eqb, ltb-true}
use Rattle.definition.specs.Basics.{when◌then◌else◌, filter, all, count, total, concat_map, from, bit}
use Rattle.definition.specs.Sheet.{Sheet, a, rows, is}
use Rattle.definition.specs.Outside.{Outside, Method, based}
use Rattle.definition.specs.Scope.{Moment, history}
use Rattle.definition.specs.Classes.{parent_of, fields, methods, has_children}
use Rattle.definition.specs.Answer.{numbered, answers, raised_function, raised_class, raised}
use Rattle.definition.proofs.Lists.Tests.{true_of}
use Rattle.machine.specs.Machine.{Store, State}
use Rattle.machine.specs.Reads.{PastFour, StoreReads, Walked}
use Rattle.machine.proofs.Theorems.{rows_few}
use Rattle.after.specs.Inherited.{parent_in, methods_in, method_names_in}
use Rattle.after.proofs.Parents.{parents}
use Rattle.after.proofs.Climbs.{methods_same}
use Rattle.after.proofs.Theorems.{walk_accepted}
use Rattle.after.proofs.Names.{method_by, method_names_lem, methods_by_name}
use Rattle.text.proofs.Lists.{concat_append, concat_map_lem}
use Rattle.session.specs.Session.{member_count}
use Rattle.session.specs.Enter.{class_by, classes_by}
use Rattle.session.specs.Words.{class_words, member_words}
use Rattle.entry_classes.specs.Told.{row_fits, tells_class, tells_member, method_told, told_member, told_class, member_in, class_in}
use Rattle.entry_classes.proofs.AnswerLaws.{answer_over, answer_code, picked_of, picked_class, picked, answers_fit}

-- a code below 22 is none of these
low_apart : (c k : ℕ) → T (ltb c 22) → 22 ≤ k → eqb c k ≡ false
low_apart c k h l = ne_eqb c k (λ e. omega (arith, ltb-true c 22 (true_of (ltb c 22) h)))

-- What is picked of the rows of a class: of its first row, of the fields and of the methods.
module _ {B : Type 0} (pick : List ℕ → List B) (none : (x : List ℕ) → T (ltb (get_or x 1 0) 22) → pick x ≡ []) (n r : ℕ) where
  fields_picked : (f : ℕ → List B) → ((i k : ℕ) → pick (answer_over n r (23 ∷ i ∷ k ∷ [])) ≡ f k) → (i : ℕ) (ks : List ℕ) → picked_of pick none n r (numbered i ks) ≡ concat_map f ks
  fields_picked f e i [] = refl
  fields_picked f e i (k ∷ ks) =
      ap (λ (ys : List B). ys ++ picked_of pick none n r (numbered (suc i) ks)) (e i k) ∙ ap (λ (ys : List B). f k ++ ys) (fields_picked f e (suc i) ks)

  methods_picked : (g : Method → List B) → ((m : Method) → pick (answer_over n r (24 ∷ m.name ∷ m.fun ∷ [])) ≡ g m) → (ms : List Method)
      → picked_of pick none n r (map (λ m. 24 ∷ m.name ∷ m.fun ∷ []) ms) ≡ concat_map g ms
  methods_picked g e [] = refl
  methods_picked g e (m ∷ ms) =
      ap (λ (ys : List B). ys ++ picked_of pick none n r (map (λ m. 24 ∷ m.name ∷ m.fun ∷ []) ms)) (e m) ∙ ap (λ (ys : List B). g m ++ ys) (methods_picked g e ms)

  class_picked : (O : Outside) (s : Sheet) (h : List Moment) (d : List B) (f : ℕ → List B) (g : Method → List B)
      → pick (answer_over n r (22 ∷ parent_of s h (256 + r) ∷ bit (has_children s h (256 + r)) ∷ length (fields O s h (rows s) (256 + r)) ∷ length (methods O s h (rows s) (256 + r)) ∷ [])) ≡ d
      → ((i k : ℕ) → pick (answer_over n r (23 ∷ i ∷ k ∷ [])) ≡ f k) → ((m : Method) → pick (answer_over n r (24 ∷ m.name ∷ m.fun ∷ [])) ≡ g m)
      → picked_class pick none n O s h r ≡ d ++ (concat_map f (fields O s h (rows s) (256 + r)) ++ concat_map g (methods O s h (rows s) (256 + r)))
  class_picked O s h d f g first field method =
      ap (λ (ys : List B). ys ++ picked_of pick none n r (numbered 0 fs ++ map (λ m. 24 ∷ m.name ∷ m.fun ∷ []) ms)) first
      ∙ ap (λ (ys : List B). d ++ ys)
      (concat_append (λ vs. pick (answer_over n r vs)) (numbered 0 fs) (map (λ m. 24 ∷ m.name ∷ m.fun ∷ []) ms)
      ∙ ap (λ (ys : List B). ys ++ picked_of pick none n r (map (λ m. 24 ∷ m.name ∷ m.fun ∷ []) ms)) (fields_picked f field 0 fs)
      ∙ ap (λ (ys : List B). concat_map f fs ++ ys) (methods_picked g method ms))
    where
      fs : List ℕ
      fs = fields O s h (rows s) (256 + r)

      ms : List Method
      ms = methods O s h (rows s) (256 + r)

module _ {A B : Type 0} where
  concat_none : (xs : List A) → concat_map {B = B} (λ x. []) xs ≡ []
  concat_none [] = refl
  concat_none (x ∷ xs) = concat_none xs

  concat_same : (f g : A → List B) (xs : List A) → ((x : A) → f x ≡ g x) → concat_map f xs ≡ concat_map g xs
  concat_same f g [] h = refl
  concat_same f g (x ∷ xs) h = ap (λ (ys : List B). ys ++ concat_map f xs) (h x) ∙ ap (λ (ys : List B). g x ++ ys) (concat_same f g xs h)

-- The words, read off what the walk stored.
module _ {O : Outside} {s : Sheet} (ok : PastFour O s) {o : Store} (k : StoreReads O s o) (n : ℕ) where
  abbrev h : List Moment
  h = history O s

  class_none : (x : List ℕ) → T (ltb (get_or x 1 0) 22) → class_in s o n x ≡ []
  unfolding class_in told_class
  class_none x l = rw (low_apart (get_or x 1 0) 22 l (omega arith))

  member_none : (x : List ℕ) → T (ltb (get_or x 1 0) 22) → member_in O s o n x ≡ []
  unfolding member_in told_member
  member_none x l = rw (low_apart (get_or x 1 0) 23 l (omega arith), low_apart (get_or x 1 0) 24 l (omega arith))

  -- by the codes
  class_first : (j r p d x y : ℕ) → class_in s o n (answer_over j r (22 ∷ p ∷ d ∷ x ∷ y ∷ [])) ≡ raised_class n (256 + r) ∷ a s r ∷ raised_class n (parent_in s o (256 + r)) ∷ x ∷ y ∷ []
  unfolding class_in told_class
  class_first zero r p d x y = refl
  class_first (suc j) r p d x y = refl

  class_field : (j r i x : ℕ) → class_in s o n (answer_over j r (23 ∷ i ∷ x ∷ [])) ≡ []
  unfolding class_in told_class
  class_field zero r i x = refl
  class_field (suc j) r i x = refl

  class_method : (j r x y : ℕ) → class_in s o n (answer_over j r (24 ∷ x ∷ y ∷ [])) ≡ []
  unfolding class_in told_class
  class_method zero r x y = refl
  class_method (suc j) r x y = refl

  member_first : (j r p d x y : ℕ) → member_in O s o n (answer_over j r (22 ∷ p ∷ d ∷ x ∷ y ∷ [])) ≡ []
  unfolding member_in told_member
  member_first zero r p d x y = refl
  member_first (suc j) r p d x y = refl

  member_field : (j r i x : ℕ) → member_in O s o n (answer_over j r (23 ∷ i ∷ x ∷ [])) ≡ x ∷ 0 ∷ 0 ∷ []
  unfolding member_in told_member
  member_field zero r i x = refl
  member_field (suc j) r i x = refl

  member_method : (j r x y : ℕ) → member_in O s o n (answer_over j r (24 ∷ x ∷ y ∷ [])) ≡ method_told O s o n r x
  unfolding member_in told_member
  member_method zero r x y = refl
  member_method (suc j) r x y = refl

  class_words_lem : (r : ℕ) → picked_class (class_in s o n) class_none n O s h r ≡ class_words (class_by (based O n) s r)
  class_words_lem r =
      class_picked (class_in s o n) class_none n r O s h
      (raised_class n (256 + r) ∷ a s r ∷ raised_class n (parent_in s o (256 + r)) ∷ length fs ∷ length ms ∷ []) (λ x. []) (λ m. [])
      (class_first n r (parent_of s h (256 + r)) (bit (has_children s h (256 + r))) (length fs) (length ms)) (class_field n r) (λ m. class_method n r m.name m.fun)
      ∙ ap (λ (ys : List ℕ). raised_class n (256 + r) ∷ a s r ∷ raised_class n (parent_in s o (256 + r)) ∷ length fs ∷ length ms ∷ ys)
      (ap (λ (ys : List ℕ). ys ++ concat_map {B = ℕ} (λ m. []) ms) (concat_none fs) ∙ concat_none ms)
      ∙ ap (λ (p : ℕ). raised_class n (256 + r) ∷ a s r ∷ raised_class n p ∷ length fs ∷ length ms ∷ []) (sym (parents ok k (256 + r)))
      ∙ ap (λ (x : ℕ). raised_class n (256 + r) ∷ a s r ∷ raised_class n (parent_of s h (256 + r)) ∷ length fs ∷ x ∷ [])
      (sym (length-map ms (λ m. record { name = m.name; fun = raised_function n m.fun; params = m.params })))
    where
      fs : List ℕ
      fs = fields O s h (rows s) (256 + r)

      ms : List Method
      ms = methods O s h (rows s) (256 + r)

  -- each method is found by its name
  method_words_lem : (r : ℕ)
      → concat_map (λ (m : Method). method_told O s o n r m.name) (methods O s h (rows s) (256 + r))
      ≡ concat_map (λ (m : Method). m.name ∷ m.fun ∷ m.params ∷ [])
      (map (λ (m : Method). record { name = m.name; fun = raised_function n m.fun; params = m.params }) (methods O s h (rows s) (256 + r)))
  method_words_lem r =
      ap (concat_map (λ (m : Method). method_told O s o n r m.name)) (methods_same ok k (rows s) c)
      ∙ sym (concat_map_lem (method_told O s o n r) (λ (m : Method). m.name) ms)
      ∙ ap (concat_map (method_told O s o n r)) (method_names_lem O s o (rows s) c)
      ∙ sym (concat_map_lem told (method_by ms) (method_names_in O s o (rows s) c))
      ∙ ap (concat_map told) (sym (methods_by_name ok o (rows s) c))
      ∙ sym (concat_map_lem (λ (m : Method). m.name ∷ m.fun ∷ m.params ∷ []) raise ms)
      ∙ ap (λ (l : List Method). concat_map (λ (m : Method). m.name ∷ m.fun ∷ m.params ∷ []) (map raise l)) (sym (methods_same ok k (rows s) c))
    where
      c : ℕ
      c = 256 + r

      ms : List Method
      ms = methods_in O s o (rows s) c

      raise : Method → Method
      raise m = record { name = m.name; fun = raised_function n m.fun; params = m.params }

      told : Method → List ℕ
      told m = m.name ∷ raised_function n m.fun ∷ m.params ∷ []

  member_words_lem : (r : ℕ) → picked_class (member_in O s o n) member_none n O s h r ≡ member_words (class_by (based O n) s r)
  member_words_lem r =
      class_picked (member_in O s o n) member_none n r O s h
      [] (λ x. x ∷ 0 ∷ 0 ∷ []) (λ m. method_told O s o n r m.name)
      (member_first n r (parent_of s h (256 + r)) (bit (has_children s h (256 + r))) (length fs) (length ms)) (member_field n r) (λ m. member_method n r m.name m.fun)
      ∙ ap (λ (ys : List ℕ). concat_map (λ x. x ∷ 0 ∷ 0 ∷ []) fs ++ ys) (method_words_lem r)
    where
      fs : List ℕ
      fs = fields O s h (rows s) (256 + r)

      ms : List Method
      ms = methods O s h (rows s) (256 + r)

  pub classes_told : concat_map (class_in s o n) (raised n (answers O s h)) ≡ concat_map class_words (classes_by (based O n) s)
  classes_told =
      picked (class_in s o n) class_none n O s h
      ∙ concat_same (picked_class (class_in s o n) class_none n O s h) (λ r. class_words (class_by (based O n) s r)) (filter (is s 4) (from 0 (rows s))) class_words_lem
      ∙ sym (concat_map_lem class_words (class_by (based O n) s) (filter (is s 4) (from 0 (rows s))))

  pub members_told : concat_map (member_in O s o n) (raised n (answers O s h)) ≡ concat_map member_words (classes_by (based O n) s)
  members_told =
      picked (member_in O s o n) member_none n O s h
      ∙ concat_same (picked_class (member_in O s o n) member_none n O s h) (λ r. member_words (class_by (based O n) s r)) (filter (is s 4) (from 0 (rows s))) member_words_lem
      ∙ sym (concat_map_lem member_words (class_by (based O n) s) (filter (is s 4) (from 0 (rows s))))

-- counted as a list of as many zeros
abbrev one : Bool → List ℕ
one t = when t then 0 ∷ [] else []

module _ {A : Type 0} where
  ones_count : (p : A → Bool) (xs : List A) → length (concat_map (λ x. one (p x)) xs) ≡ count p xs
  ones_count p [] = refl
  ones_count p (x ∷ xs) = go (p x) (ones_count p xs)
    where
      go : (t : Bool) → length (concat_map (λ x. one (p x)) xs) ≡ count p xs → length (one t ++ concat_map (λ x. one (p x)) xs) ≡ bit t + count p xs
      go true e = omega (arith, e)
      go false e = omega (arith, e)

  ones_length : (xs : List A) → length (concat_map (λ x. one true) xs) ≡ length xs
  ones_length [] = refl
  ones_length (x ∷ xs) = ap suc (ones_length xs)

  -- the sum of a number for each element
  sum_length : (f : A → List ℕ) (g : A → ℕ) (xs : List A) → ((x : A) → length (f x) ≡ g x) → length (concat_map f xs) ≡ total g xs
  sum_length f g [] h = refl
  sum_length f g (x ∷ xs) h = omega (arith, length-append (f x) (concat_map f xs), h x, sum_length f g xs h)

  sum_ones : (xs : List A) → total (λ x. 1) xs ≡ length xs
  sum_ones [] = refl
  sum_ones (x ∷ xs) = omega (arith, sum_ones xs)

sum_map : {A B : Type 0} (f : B → ℕ) (g : A → B) (xs : List A) → total (λ x. f (g x)) xs ≡ total f (map g xs)
sum_map f g [] = refl
sum_map f g (x ∷ xs) = ap (λ (k : ℕ). f (g x) + k) (sum_map f g xs)

-- The counts.
module _ (O : Outside) (s : Sheet) (n : ℕ) where
  abbrev out : List (List ℕ)
  out = raised n (answers O s (history O s))

  abbrev class_row : List ℕ
  class_row = filter (is s 4) (from 0 (rows s))

  no_class_lem : (x : List ℕ) → T (ltb (get_or x 1 0) 22) → one (tells_class x) ≡ []
  no_class_lem x l = rw (low_apart (get_or x 1 0) 22 l (omega arith))

  no_member : (x : List ℕ) → T (ltb (get_or x 1 0) 22) → one (tells_member x) ≡ []
  no_member x l = rw (low_apart (get_or x 1 0) 23 l (omega arith), low_apart (get_or x 1 0) 24 l (omega arith))

  -- a row is of the code that it had
  same_class : (j r c : ℕ) (vs : List ℕ) → one (tells_class (answer_over j r (c ∷ vs))) ≡ one (eqb c 22)
  same_class j r c vs = ap (λ (x : ℕ). one (eqb x 22)) (answer_code j r c vs)

  same_member : (j r c : ℕ) (vs : List ℕ) → one (tells_member (answer_over j r (c ∷ vs))) ≡ one (eqb c 23 || eqb c 24)
  same_member j r c vs = ap (λ (x : ℕ). one (eqb x 23 || eqb x 24)) (answer_code j r c vs)

  class_one : (r : ℕ) → length (picked_class (λ x. one (tells_class x)) no_class_lem n O s (history O s) r) ≡ 1
  class_one r =
      ap length (class_picked (λ x. one (tells_class x)) no_class_lem n r O s (history O s) (0 ∷ []) (λ x. []) (λ m. [])
      (same_class n r 22 (parent_of s (history O s) (256 + r) ∷ bit (has_children s (history O s) (256 + r)) ∷ length fs ∷ length ms ∷ []))
      (λ i x. same_class n r 23 (i ∷ x ∷ [])) (λ m. same_class n r 24 (m.name ∷ m.fun ∷ [])))
      ∙ ap (λ (ys : List ℕ). suc (length ys)) (ap (λ (ys : List ℕ). ys ++ concat_map {B = ℕ} (λ m. []) ms) (concat_none fs) ∙ concat_none ms)
    where
      fs : List ℕ
      fs = fields O s (history O s) (rows s) (256 + r)

      ms : List Method
      ms = methods O s (history O s) (rows s) (256 + r)

  member_ones : (r : ℕ) → length (picked_class (λ x. one (tells_member x)) no_member n O s (history O s) r) ≡ member_count (class_by (based O n) s r)
  member_ones r =
      ap length (class_picked (λ x. one (tells_member x)) no_member n r O s (history O s) [] (λ x. 0 ∷ []) (λ m. 0 ∷ [])
      (same_member n r 22 (parent_of s (history O s) (256 + r) ∷ bit (has_children s (history O s) (256 + r)) ∷ length fs ∷ length ms ∷ []))
      (λ i x. same_member n r 23 (i ∷ x ∷ [])) (λ m. same_member n r 24 (m.name ∷ m.fun ∷ [])))
      ∙ length-append (concat_map (λ x. 0 ∷ []) fs) (concat_map (λ m. 0 ∷ []) ms)
      ∙ ap (λ (k : ℕ). k + length (concat_map {B = ℕ} (λ m. 0 ∷ []) ms)) (ones_length fs)
      ∙ ap (λ (k : ℕ). length fs + k) (ones_length ms ∙ sym (length-map ms (λ m. record { name = m.name; fun = raised_function n m.fun; params = m.params })))
    where
      fs : List ℕ
      fs = fields O s (history O s) (rows s) (256 + r)

      ms : List Method
      ms = methods O s (history O s) (rows s) (256 + r)

  pub classes_counted : count tells_class out ≡ length (classes_by (based O n) s)
  classes_counted =
      sym (ones_count tells_class out) ∙ ap length (picked (λ x. one (tells_class x)) no_class_lem n O s (history O s))
      ∙ sum_length (picked_class (λ x. one (tells_class x)) no_class_lem n O s (history O s)) (λ r. 1) class_row class_one
      ∙ sum_ones class_row ∙ sym (length-map class_row (class_by (based O n) s))

  pub members_counted : count tells_member out ≡ total member_count (classes_by (based O n) s)
  members_counted =
      sym (ones_count tells_member out) ∙ ap length (picked (λ x. one (tells_member x)) no_member n O s (history O s))
      ∙ sum_length (picked_class (λ x. one (tells_member x)) no_member n O s (history O s)) (λ r. member_count (class_by (based O n) s r)) class_row member_ones
      ∙ sum_map member_count (class_by (based O n) s) class_row

-- The rows rs of an accepted entry over base n.
module _ {O : Outside} {s : Sheet} (ok : PastFour O s) (n : ℕ) {rs : List (List ℕ)} (held : rs ≡ raised n (answers O s (history O s))) where
  pub held_fit : T (all row_fits rs)
  held_fit = subst (λ (l : List (List ℕ)). T (all row_fits l)) (sym held) (answers_fit O s (history O s) n (rows_few s ok.whole))

  -- members written first, and then classes
  pub all_written : (x : State) → Walked O s x → x.refusal.number ≡ 0 → (w₀ : List ℕ) {w₁ w₂ : List ℕ} (p q : ℕ)
      → w₁ ≡ sets w₀ q (concat_map (member_in O s x.store n) rs) → w₂ ≡ sets w₁ p (concat_map (class_in s x.store n) rs)
      → w₂ ≡ sets (sets w₀ q (concat_map member_words (classes_by (based O n) s))) p (concat_map class_words (classes_by (based O n) s))
  all_written x w z w₀ {w₁} p q e f =
      f ∙ ap (sets w₁ p) (ap (concat_map (class_in s x.store n)) held ∙ classes_told ok k n)
      ∙ ap (λ (u : List ℕ). sets u p (concat_map class_words (classes_by (based O n) s))) (e ∙ ap (sets w₀ q) (ap (concat_map (member_in O s x.store n)) held ∙ members_told ok k n))
    where
      k : StoreReads O s x.store
      k = w.store (walk_accepted O s x w z)
