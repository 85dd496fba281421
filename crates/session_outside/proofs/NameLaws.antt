-- Names laid one after another, each once.
use mathlib.Core.Path.{◌≡◌, refl, sym, ap, ◌∙◌}
use mathlib.Core.Bool.{Bool, true, false, not, ◌&&◌}
use mathlib.Core.List.Memᴰ.{head as here}
use mathlib.Core.List.Memᴰ.{tail as there}
use mathlib.Core.List.{List, [], ◌∷◌, ◌++◌, map, Memᴰ as Mem}
use Prim.Native.Nat.{ℕ, zero, suc, ◌+◌, ◌*◌, ◌<◌, ◌≤◌}
use native.Mathlib.Omega.{arith}
use lib.ListN.{length, get_or, set, drop, length-set, drop_of_length-le}
use lib.Seq.{sets, get_or-set_same, get_or-set_other, drop-cons}
use lib.Dec.{eqb, ltb}
use borrow.Author.Tests.{eq-eqb, ne_eqb, eqb-true, eqb-false}
use Rattle.definition.specs.Basics.{when◌then◌else◌, filter, distinct, concat_map, from}
use Rattle.definition.specs.Meaning.{Meaning, Named, named, nothing, function, class, global}
use Rattle.definition.specs.Outside.{core}
use Rattle.definition.proofs.Lists.Members.{map_append}
use Rattle.session.specs.Session.{backward, past_rows}
use Rattle.session.specs.Words.{whole, laid_place, laid_in}
use Rattle.session.proofs.HeldRuns.{from_split}
use Rattle.session_outside.specs.Written.{name_row, seen, firsts, NameRows, name_rows, names_below, core_name}
use Rattle.machine.proofs.Words.{sets_more}
use Rattle.session_outside.proofs.ReadLaws.{name_length}

same_rows : {i j : ℕ} {v w : List ℕ} → i ≡ j → v ≡ w → ◌≡◌ {A = NameRows} (record { end = i; words = v }) (record { end = j; words = w })
same_rows e f = cc

-- a name that has a mark, and one that has none
module _ (i : ℕ) (m w : List ℕ) (y : Named) (ys : List Named) where
  pub row_known : (get_or m y.name 0 ≡ 0 → ⊥) → name_rows i m w ys ≡ name_rows i m w (y ∷ ys)
  unfolding name_rows firsts
  row_known h = rw (ne_eqb (get_or m y.name 0) 0 h)

  stored : (xs : List ℕ) → sets (sets w (8 * i) (name_row (seen y))) (8 * (i + 1)) xs ≡ sets w (8 * i) (name_row (seen y) ++ xs)
  stored xs =
      let z : 8 * i + length (name_row (seen y)) ≡ 8 * (i + 1) = omega (arith, name_length (seen y)) in
      sym (sets_more w (8 * i) (name_row (seen y)) xs refl ∙ ap (λ (k : ℕ). sets (sets w (8 * i) (name_row (seen y))) k xs) z)

  pub row_new : get_or m y.name 0 ≡ 0 → name_rows (i + 1) (set m y.name 1) (sets w (8 * i) (name_row (seen y))) ys ≡ name_rows i m w (y ∷ ys)
  unfolding name_rows firsts
  row_new h =
      let rest : List Named = firsts (set m y.name 1) ys in
      same_rows (omega arith) (stored (concat_map name_row (map seen rest)))
      ∙ sym (ap
      (λ (t : Bool). record {
        end = i + length (when t then y ∷ rest else firsts m ys);
        words = sets w (8 * i) (concat_map name_row (map seen (when t then y ∷ rest else firsts m ys)));
      }) (eq-eqb (get_or m y.name 0) 0 h))

-- the same of a name told by words
module _ {x : List ℕ} {name : ℕ} (i : ℕ) (m w : List ℕ) (y : Named) (ys : List Named) (e : x ≡ name_row (seen y)) (n : name ≡ get_or x 0 0) where
  same_name_lem : name ≡ y.name
  unfolding name_row
  same_name_lem = n ∙ ap (λ (l : List ℕ). get_or l 0 0) e

  pub told_known : (get_or m name 0 ≡ 0 → ⊥) → name_rows i m w ys ≡ name_rows i m w (y ∷ ys)
  told_known h = row_known i m w y ys (λ k. h (ap (λ (j : ℕ). get_or m j 0) same_name_lem ∙ k))

  pub told_new : {m' w' : List ℕ} → get_or m name 0 ≡ 0 → m' ≡ set m name 1 → w' ≡ sets w (8 * i) x → name_rows (i + 1) m' w' ys ≡ name_rows i m w (y ∷ ys)
  told_new {m'} {w'} h p q =
      ap (λ (v : List ℕ). name_rows (i + 1) v w' ys) (p ∙ ap (λ (j : ℕ). set m j 1) same_name_lem)
      ∙ ap (λ (v : List ℕ). name_rows (i + 1) (set m y.name 1) v ys) (q ∙ ap (λ (l : List ℕ). sets w (8 * i) l) e)
      ∙ row_new i m w y ys (sym (ap (λ (j : ℕ). get_or m j 0) same_name_lem) ∙ h)

-- one declaration more
pub from_last : (i k : ℕ) → from i (suc k) ≡ from i k ++ (i + k) ∷ []
from_last i k = let z : suc k ≡ k + 1 = omega arith in ap (from i) z ∙ from_split i k 1

backward_last : (xs : List Named) (y : Named) → backward (xs ++ y ∷ []) ≡ y ∷ backward xs
backward_last [] y = refl
backward_last (x ∷ xs) y = ap (λ (l : List Named). l ++ x ∷ []) (backward_last xs y)

pub below_none : (w : List ℕ) → names_below w 0 ≡ core.names
unfolding names_below
below_none w = refl

pub below_more : (w : List ℕ) (k : ℕ) → names_below w (k + 1) ≡ laid_in whole w [] k ∷ names_below w k
unfolding names_below
below_more w k =
    let z : k + 1 ≡ suc k = omega arith in
    let f : ℕ → Named = laid_in whole w [] in
    ap (λ (j : ℕ). backward (map f (from 0 j)) ++ core.names) z
    ∙ ap (λ (l : List ℕ). backward (map f l) ++ core.names) (from_last 0 k)
    ∙ ap (λ (l : List Named). backward l ++ core.names) (map_append f (from 0 k) ((0 + k) ∷ []))
    ∙ ap (λ (l : List Named). l ++ core.names) (backward_last (map f (from 0 k)) (f (0 + k)))
    ∙ ap (λ (j : ℕ). f j ∷ names_below w k) (omega arith)

-- marks find the first of each name
filter_two : (p q r : Named → Bool) → ((y : Named) → r y ≡ (q y && p y)) → (ys : List Named) → filter r ys ≡ filter p (filter q ys)
filter_two p q r h [] = refl
filter_two p q r h (y ∷ ys) = go (q y) (h y) (filter_two p q r h ys)
  where
    go : (s : Bool) → r y ≡ (s && p y) → filter r ys ≡ filter p (filter q ys)
        → (when r y then y ∷ filter r ys else filter r ys) ≡ filter p (when s then y ∷ filter q ys else filter q ys)
    go true e i = ap (λ (b : Bool). when b then y ∷ filter r ys else filter r ys) e ∙ ap (λ (l : List Named). when p y then y ∷ l else l) i
    go false e i = ap (λ (b : Bool). when b then y ∷ filter r ys else filter r ys) e ∙ i

abbrev pub same_name : Named → Named → Bool
same_name x y = eqb x.name y.name

abbrev pub unmarked : List ℕ → Named → Bool
unmarked m y = eqb (get_or m y.name 0) 0

-- with name n marked, and with one that was marked before
marked_more : (m : List ℕ) (x y : Named) → x.name < length m → unmarked (set m x.name 1) y ≡ (not (same_name x y) && unmarked m y)
marked_more m x y l = go (eqb x.name y.name) refl
  where
    go : (t : Bool) → eqb x.name y.name ≡ t → unmarked (set m x.name 1) y ≡ (not t && unmarked m y)
    go true e =
        let z : y.name ≡ x.name = sym (eqb-true x.name y.name e) in
        ap (λ (k : ℕ). eqb k 0) (ap (λ (j : ℕ). get_or (set m x.name 1) j 0) z ∙ get_or-set_same m x.name 1 0 l)
    go false e = ap (λ (k : ℕ). eqb k 0) (get_or-set_other m x.name y.name 1 0 (λ z. eqb-false x.name y.name e (sym z)))

marked_already : (m : List ℕ) (x y : Named) → unmarked m x ≡ false → unmarked m y ≡ (not (same_name x y) && unmarked m y)
marked_already m x y h = go (eqb x.name y.name) refl
  where
    go : (t : Bool) → eqb x.name y.name ≡ t → unmarked m y ≡ (not t && unmarked m y)
    go true e = ap (λ (j : ℕ). eqb (get_or m j 0) 0) (sym (eqb-true x.name y.name e)) ∙ h
    go false e = refl

pub firsts_are : (xs : List Named) (m : List ℕ) → ((x : Named) → Mem x xs → x.name < length m) → firsts m xs ≡ filter (unmarked m) (distinct same_name xs)
unfolding firsts
firsts_are [] m l = refl
firsts_are (x ∷ xs) m l =
    go (unmarked m x) refl (firsts_are xs (set m x.name 1) (λ y h. omega (arith, length-set m x.name 1, l y (there h)))) (firsts_are xs m (λ y h. l y (there h)))
  where
    ds : List Named
    ds = distinct same_name xs

    other : Named → Bool
    other y = not (same_name x y)

    go : (t : Bool) → unmarked m x ≡ t → firsts (set m x.name 1) xs ≡ filter (unmarked (set m x.name 1)) ds → firsts m xs ≡ filter (unmarked m) ds
        → (when t then x ∷ firsts (set m x.name 1) xs else firsts m xs)
        ≡ (when t then x ∷ filter (unmarked m) (filter other ds) else filter (unmarked m) (filter other ds))
    go true e i j =
        ap (λ (ys : List Named). x ∷ ys)
        (i ∙ filter_two (unmarked m) other (unmarked (set m x.name 1)) (λ y. marked_more m x y (l x (here refl))) ds)
    go false e i j = j ∙ filter_two (unmarked m) other (unmarked m) (λ y. marked_already m x y e) ds

-- declaration i, read from the words: its name n, its code k, its number x
module _ (w : List ℕ) (i : ℕ) {n k x : ℕ} (en : n ≡ get_or w (laid_place whole i) 0) (ek : k ≡ get_or w (laid_place whole i + 1) 0)
    (ex : x ≡ get_or w (laid_place whole i + 2) 0) where
  means : Bool → Bool → Meaning
  means t u =
      when t then function (get_or w (laid_place whole i + 2) 0)
      else when u then class (get_or w (laid_place whole i + 2) 0)
      else global (get_or w (laid_place whole i + 2) 0) (get_or w (laid_place whole i + 3) 0)

  row : Bool → Bool → List ℕ
  row t u = name_row (seen (named (get_or w (laid_place whole i) 0) (means t u)))

  pub function_told : k ≡ 1 → n ∷ 1 ∷ (x + 2048) ∷ 0 ∷ 0 ∷ 0 ∷ 0 ∷ 0 ∷ [] ≡ name_row (seen (laid_in whole w [] i))
  unfolding name_row row means
  function_told h =
      let z : n ∷ 1 ∷ (x + 2048) ∷ 0 ∷ 0 ∷ 0 ∷ 0 ∷ 0 ∷ [] ≡ row true false = cc in
      z ∙ sym (ap (λ (t : Bool). row t (eqb (get_or w (laid_place whole i + 1) 0) 2)) (eq-eqb (get_or w (laid_place whole i + 1) 0) 1 (sym ek ∙ h)))

  pub class_told : (k ≡ 1 → ⊥) → k ≡ 2 → {y : ℕ} → y ≡ (when ltb x 256 then x else past_rows x)
      → n ∷ 2 ∷ y ∷ 0 ∷ 0 ∷ 0 ∷ 0 ∷ 0 ∷ [] ≡ name_row (seen (laid_in whole w [] i))
  unfolding name_row row means
  class_told g h {y} e =
      let f : y ≡ (when ltb (get_or w (laid_place whole i + 2) 0) 256 then get_or w (laid_place whole i + 2) 0 else past_rows (get_or w (laid_place whole i + 2) 0)) =
      e ∙ ap (λ (j : ℕ). when ltb j 256 then j else past_rows j) ex in
      let z : n ∷ 2 ∷ y ∷ 0 ∷ 0 ∷ 0 ∷ 0 ∷ 0 ∷ [] ≡ row false true = cc in
      z ∙ sym (ap (λ (t : Bool). row t (eqb (get_or w (laid_place whole i + 1) 0) 2)) (ne_eqb (get_or w (laid_place whole i + 1) 0) 1 (λ q. g (ek ∙ q)))
      ∙ ap (row false) (eq-eqb (get_or w (laid_place whole i + 1) 0) 2 (sym ek ∙ h)))

  pub global_told : (k ≡ 1 → ⊥) → (k ≡ 2 → ⊥) → {y : ℕ} → y ≡ get_or w (laid_place whole i + 3) 0
      → n ∷ 3 ∷ x ∷ y ∷ 0 ∷ 0 ∷ 0 ∷ 0 ∷ [] ≡ name_row (seen (laid_in whole w [] i))
  unfolding name_row row means
  global_told g h {y} e =
      let z : n ∷ 3 ∷ x ∷ y ∷ 0 ∷ 0 ∷ 0 ∷ 0 ∷ [] ≡ row false false = cc in
      z ∙ sym (ap (λ (t : Bool). row t (eqb (get_or w (laid_place whole i + 1) 0) 2)) (ne_eqb (get_or w (laid_place whole i + 1) 0) 1 (λ q. g (ek ∙ q)))
      ∙ ap (row false) (ne_eqb (get_or w (laid_place whole i + 1) 0) 2 (λ q. h (ek ∙ q))))

-- the core's names
pub core_told : (i : ℕ) → i < 9 → (i + 1) ∷ 2 ∷ get_or (3 ∷ 4 ∷ 5 ∷ 7 ∷ 8 ∷ 9 ∷ 100 ∷ 101 ∷ 102 ∷ []) i 0 ∷ 0 ∷ 0 ∷ 0 ∷ 0 ∷ 0 ∷ [] ≡ name_row (seen (core_name i))
unfolding name_row
core_told zero l = refl
core_told (suc zero) l = refl
core_told (suc (suc zero)) l = refl
core_told (suc (suc (suc zero))) l = refl
core_told (suc (suc (suc (suc zero)))) l = refl
core_told (suc (suc (suc (suc (suc zero))))) l = refl
core_told (suc (suc (suc (suc (suc (suc zero)))))) l = refl
core_told (suc (suc (suc (suc (suc (suc (suc zero))))))) l = refl
core_told (suc (suc (suc (suc (suc (suc (suc (suc zero)))))))) l = refl
core_told (suc (suc (suc (suc (suc (suc (suc (suc (suc i))))))))) l = absurd (omega arith)

pub core_next : (i : ℕ) → i < 9 → drop i core.names ≡ core_name i ∷ drop (i + 1) core.names
core_next i l = let z : suc i ≡ i + 1 = omega arith in drop-cons core.names i (named 0 nothing) l ∙ ap (λ (j : ℕ). core_name i ∷ drop j core.names) z

pub core_end : (i : ℕ) → 9 ≤ i → drop i core.names ≡ []
core_end i l = drop_of_length-le core.names l
