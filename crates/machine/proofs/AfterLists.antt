-- After the walk: captures, sources, escaping slots and own fields, read off the store.
use mathlib.Core.Path.{◌≡◌, refl, sym, ap, ◌∙◌, subst}
use mathlib.Core.Logic.{◌⊎◌, inl, inr}
use mathlib.Core.List.{List, [], ◌∷◌, ◌++◌, map}
use mathlib.Core.Bool.{Bool, true, false, not, ◌||◌, ◌&&◌, true≢false}
use Prim.Native.Nat.{ℕ, zero, suc, ◌+◌, ◌-◌, ◌*◌, ◌/◌, ◌<◌, ◌≤◌}
use native.Mathlib.Omega.{arith}
use lib.ListN.{length, get_or}
use lib.Dec.{eqb, leb}
use borrow.Author.Tests.{leb-true}
use Rattle.definition.specs.Basics.{when◌then◌else◌, filter, any, distinct, concat_map, from}
use Rattle.definition.specs.Sheet.{Sheet, kind, is, a, child, kids_of, rows}
use Rattle.definition.specs.Meaning.{Meaning, nothing, function, class, global, toplevel, variable, is_variable, row_of, owner_of}
use Rattle.definition.specs.Outside.{Outside, record_of}
use Rattle.definition.specs.Scope.{Moment, within, visited, visit_of}
use Rattle.definition.specs.Slots.{is_mutable, code, local_count}
use Rattle.definition.specs.Capture.{Use, is_outer, same, uses, captures, seen_from, sources, inner, escaping}
use Rattle.definition.specs.Classes.{registered, own_fields}
use Rattle.definition.proofs.Lists.Members.{map_map}
use Rattle.definition.proofs.Classes.{of_sheet_lem}
use Rattle.machine.specs.Machine.{cell, Store, list_at, seen_in, code_of, four_words}
use Rattle.machine.specs.Reads.{hands_on, listed_fields, literals_in, meaning_of_node, row_words}
use Rattle.machine.proofs.Lists.{any_map, any_append}
use Rattle.machine.proofs.Captures.{node_of}
use Rattle.machine.proofs.Globals.{Known, unnumbered, code_is}
use Rattle.machine.proofs.RowWords.{seen_in_is}
use Rattle.machine.proofs.StoreAgrees.{StoreAgrees}
use Rattle.machine.proofs.AfterRows.{All, al_none, al_one, all_filter, literal_words, literal_unwritten, final_short}

variable_is : (d : Meaning) → is_variable d ≡ true → variable (row_of d) (owner_of d) ≡ d
variable_is nothing h = absurd (true≢false (sym h))
variable_is (function f) h = absurd (true≢false (sym h))
variable_is (class c) h = absurd (true≢false (sym h))
variable_is (global g m) h = absurd (true≢false (sym h))
variable_is (toplevel r) h = absurd (true≢false (sym h))
variable_is (variable r f) h = refl

variable_known : (s : Sheet) (h : List Moment) (d : Meaning) → is_variable d ≡ true → Known s h 0 d
variable_known s h nothing e = unnumbered refl
variable_known s h (function f) e = unnumbered refl
variable_known s h (class c) e = unnumbered refl
variable_known s h (global g m) e = unnumbered refl
variable_known s h (toplevel r) e = absurd (true≢false (sym e))
variable_known s h (variable r f) e = unnumbered refl

-- all that is captured is a local or argument
module _ {A : Type 0} where
  all_some : (p q : A → Bool) {xs : List A} → ((x : A) → p x ≡ true → q x ≡ true) → All p xs → All q xs
  all_some p q f al_none = al_none
  all_some p q f (al_one {x} e h) = al_one (f x e) (all_some p q f h)

  all_less : (p q : A → Bool) {xs : List A} → All p xs → All p (filter q xs)
  all_less p q al_none = al_none
  all_less p q (al_one {x} {xs} e h) = by (q x) (all_less p q h)
    where
      by : (t : Bool) → All p (filter q xs) → All p (when t then x ∷ filter q xs else filter q xs)
      by true i = al_one e i
      by false i = i

  all_distinct : (p : A → Bool) (s : A → A → Bool) {xs : List A} → All p xs → All p (distinct s xs)
  all_distinct p s al_none = al_none
  all_distinct p s (al_one {x} e h) = al_one e (all_less p (λ y. not (s x y)) (all_distinct p s h))

pub map_all : {A : Type 0} {B : Type 0} (p : A → Bool) (f g : A → B) {xs : List A} → ((x : A) → p x ≡ true → f x ≡ g x) → All p xs → map f xs ≡ map g xs
map_all p f g e al_none = refl
map_all {A} {B} p f g e (al_one {x} {xs} q h) = ap (λ (y : B). y ∷ map f xs) (e x q) ∙ ap (λ (l : List B). g x ∷ l) (map_all p f g e h)

variables : (s : Sheet) (h : List Moment) (f : ℕ) → All (λ u. is_variable u.means) (captures s h f)
variables s h f =
    all_distinct (λ u. is_variable u.means) same
    (all_some (is_outer f) (λ u. is_variable u.means) (λ u q. by (is_variable u.means) _ q) (all_filter (is_outer f) (uses s h)))
  where
    by : (t v : Bool) → (t && v) ≡ true → t ≡ true
    by true v q = refl
    by false v q = q

module _ (O : Outside) (s : Sheet) (h : List Moment) (o : Store) (k : StoreAgrees O s h o) where
  -- the captured declarations of function f, by index
  pub captured_nodes : (f : ℕ) → f < length o.table / 8 → map (λ u. code s h u.means u.slot) (captures s h f) ≡ map (λ y. code_of s (meaning_of_node y) y.two 0) (list_at o (8 * f + 6))
  captured_nodes f l =
      map_all (λ u. is_variable u.means) (λ u. code s h u.means u.slot) (λ u. code_of s (meaning_of_node (node_of u)) (node_of u).two 0)
      (λ u q. ap (λ (d : Meaning). code s h d u.slot) (sym (variable_is u.means q)) ∙ sym (code_is s h (meaning_of_node (node_of u)) u.slot 0 (unnumbered refl))) (variables s h f)
      ∙ sym (ap (map (λ y. code_of s (meaning_of_node y) y.two 0)) (k.captures_is f l) ∙ map_map (λ y. code_of s (meaning_of_node y) y.two 0) node_of (captures s h f))

  pub captures_count : (f : ℕ) → f < length o.table / 8 → length (captures s h f) ≡ length (list_at o (8 * f + 6))
  captures_count f l = sym (ap length (k.captures_is f l) ∙ map_length (captures s h f))
    where
      map_length : (us : List Use) → length (map node_of us) ≡ length us
      map_length [] = refl
      map_length (u ∷ us) = ap suc (map_length us)

  -- the sources of a literal that stands in f, with function g, by index
  pub sources_nodes : (f g : ℕ) → f < length o.table / 8 → g < length o.table / 8
      → sources s h f g ≡ map (λ y. seen_in s (meaning_of_node y) y.two 0 f o) (list_at o (8 * g + 6))
  sources_nodes f g lf lg =
      map_all (λ u. is_variable u.means) (seen_from s h f) (λ u. seen_in s (meaning_of_node (node_of u)) (node_of u).two 0 f o)
      (λ u q. sym (ap (λ (d : Meaning). seen_in s d u.slot 0 f o) (variable_is u.means q) ∙ seen_in_is s h u 0 f o (k.captures_is f lf) (variable_known s h u.means q))) (variables s h g)
      ∙ sym (ap (map (λ y. seen_in s (meaning_of_node y) y.two 0 f o)) (k.captures_is g lg) ∙ map_map (λ y. seen_in s (meaning_of_node y) y.two 0 f o) node_of (captures s h g))

  -- the own fields of class c, by slot
  pub fields_nodes : (c : ℕ) → c < length o.table / 8 → (c ≡ 0 → ⊥) → is s 4 c ≡ true → own_fields O s h (256 + c) ≡ distinct eqb (listed_fields s c) ++ map (λ y. y.key) (list_at o (8 * c + 7))
  fields_nodes c l nz e =
      ap (λ (t : Bool). when t then distinct eqb (map (a s) (kids_of s 10 ((256 + c) - 256)) ++ registered s h ((256 + c) - 256)) else (record_of O (256 + c)).fields) (of_sheet_lem s c e)
      ∙ ap (λ (j : ℕ). distinct eqb (map (a s) (kids_of s 10 j) ++ registered s h j)) (omega arith)
      ∙ k.fields_is c l nz

-- Escaping slots.
range_same : (p q : ℕ → Bool) (i n : ℕ) → ((l : ℕ) → l < i + n → p l ≡ q l) → filter p (from i n) ≡ filter q (from i n)
range_same p q i zero h = refl
range_same p q i (suc n) h =
    ap (λ (t : Bool). when t then i ∷ filter p (from (suc i) n) else filter p (from (suc i) n)) (h i (omega arith))
    ∙ ap (λ (l : List ℕ). when q i then i ∷ l else l) (range_same p q (suc i) n (λ l g. h l (omega arith)))

any_all : {A : Type 0} (p f g : A → Bool) {xs : List A} → ((x : A) → p x ≡ true → f x ≡ g x) → All p xs → any f xs ≡ any g xs
any_all p f g e al_none = refl
any_all p f g e (al_one {x} {xs} q h) = ap (λ (t : Bool). t || any f xs) (e x q) ∙ ap (λ (t : Bool). g x || t) (any_all p f g e h)

module _ (O : Outside) (s : Sheet) (hd : kind s 0 ≡ 0) (h : List Moment) (o : Store) (k : StoreAgrees O s h o) (enough : rows s ≤ length o.table / 8) where
  literal_in : (f l : ℕ) → l < rows s → (l ≡ 0 → ⊥) → is s 52 l ≡ true → any (λ m. eqb (within s m) f) (visit_of h l) ≡ (eqb (cell o.table l 0) 1 && eqb (cell o.table l 1) f)
  unfolding row_words
  literal_in f l g nz hl = by (final_short (filter (λ m. eqb (visited m.event) l) h))
    where
      told : map (λ m. four_words (1 ∷ within s m ∷ [])) (visit_of h l) ≡ map (λ m. row_words o.table l) (visit_of h l)
      told = literal_words O s h o k l nz (omega arith) hl

      by : (visit_of h l ≡ []) ⊎ ((m : Moment) × (visit_of h l ≡ m ∷ [])) → any (λ m. eqb (within s m) f) (visit_of h l) ≡ (eqb (cell o.table l 0) 1 && eqb (cell o.table l 1) f)
      by (inl e) =
          let w = literal_unwritten O s h o k l nz (omega arith) hl e in
          ap (any (λ m. eqb (within s m) f)) e ∙ sym (ap (λ (x : ℕ). eqb x 1 && eqb (cell o.table l 1) f) (ap (λ (ws : List ℕ). get_or ws 0 0) w))
      by (inr w) =
          let e : four_words (1 ∷ within s w.0 ∷ []) ∷ [] ≡ row_words o.table l ∷ [] =
          subst (λ (ms : List Moment). map (λ m. four_words (1 ∷ within s m ∷ [])) ms ≡ map (λ m. row_words o.table l) ms) w.1 told in
          let c₀ : 1 ≡ cell o.table l 0 = ap (λ (x : List (List ℕ)). get_or (get_or x 0 []) 0 0) e in
          let c₁ : within s w.0 ≡ cell o.table l 1 = ap (λ (x : List (List ℕ)). get_or (get_or x 0 []) 1 0) e in
          ap (any (λ m. eqb (within s m) f)) w.1 ∙ or_false (eqb (within s w.0) f)
          ∙ ap (λ (x : ℕ). eqb x 1 && eqb (within s w.0) f) c₀ ∙ ap (λ (x : ℕ). eqb (cell o.table l 0) 1 && eqb x f) c₁
        where
          or_false : (t : Bool) → (t || false) ≡ t
          or_false true = refl
          or_false false = refl

  inner_told : (f : ℕ) → inner s h f ≡ literals_in s o.table f
  inner_told f = ap (map (child s)) (range_same _ _ 0 (rows s) (λ l g. by l (omega arith) (is s 52 l) refl))
    where
      by : (l : ℕ) → l < rows s → (t : Bool) → is s 52 l ≡ t → (t && any (λ m. eqb (within s m) f) (visit_of h l)) ≡ (t && (eqb (cell o.table l 0) 1 && eqb (cell o.table l 1) f))
      by l g true e = literal_in f l g (λ z. true≢false (sym e ∙ ap (is s 52) z ∙ ap (λ (j : ℕ). eqb j 52) hd)) e
      by l g false e = refl

  -- what the literals' functions capture
  hands_one : (f j g : ℕ) → g < length o.table / 8
      → any (λ u. is_mutable s u.means && eqb (owner_of u.means) f && eqb u.slot j) (captures s h g) ≡ hands_on s f j (list_at o (8 * g + 6))
  hands_one f j g l =
      any_all (λ u. is_variable u.means) _ (λ u. is_mutable s (meaning_of_node (node_of u)) && eqb (node_of u).one f && eqb (node_of u).two j)
      (λ u q. ap (λ (d : Meaning). is_mutable s d && eqb (owner_of u.means) f && eqb u.slot j) (sym (variable_is u.means q))) (variables s h g)
      ∙ sym (ap (hands_on s f j) (k.captures_is g l) ∙ any_map (λ y. is_mutable s (meaning_of_node y) && eqb y.one f && eqb y.two j) node_of (captures s h g))

  hands_all : (f j : ℕ) {gs : List ℕ} → All (λ g. leb (suc g) (length o.table / 8)) gs
      → any (λ u. is_mutable s u.means && eqb (owner_of u.means) f && eqb u.slot j) (concat_map (captures s h) gs) ≡ hands_on s f j (concat_map (λ g. list_at o (8 * g + 6)) gs)
  hands_all f j al_none = refl
  hands_all f j (al_one {x = g} {xs = gs} e h') =
      any_append (λ u. is_mutable s u.means && eqb (owner_of u.means) f && eqb u.slot j) (captures s h g) (concat_map (captures s h) gs)
      ∙ ap (λ (t : Bool). t
      || any (λ u. is_mutable s u.means && eqb (owner_of u.means) f && eqb u.slot j)
      (concat_map (captures s h) gs))
      (hands_one f j g (leb-true (suc g) (length o.table / 8) e))
      ∙ ap (λ (t : Bool). hands_on s f j (list_at o (8 * g + 6)) || t) (hands_all f j h')
      ∙ sym (any_append (λ y. is_mutable s (meaning_of_node y) && eqb y.one f && eqb y.two j) (list_at o (8 * g + 6)) (concat_map (λ g. list_at o (8 * g + 6)) gs))

  filter_same' : (p q : ℕ → Bool) (xs : List ℕ) → ((x : ℕ) → p x ≡ q x) → filter p xs ≡ filter q xs
  filter_same' p q [] e = refl
  filter_same' p q (x ∷ xs) e = ap (λ (t : Bool). when t then x ∷ filter p xs else filter p xs) (e x) ∙ ap (λ (l : List ℕ). when q x then x ∷ l else l) (filter_same' p q xs e)

  -- the escaping slots of function f, rising
  pub escaping_nodes : (f : ℕ) → f < length o.table / 8 → All (λ g. leb (suc g) (length o.table / 8)) (literals_in s o.table f)
      → escaping s h f ≡ filter (λ j. hands_on s f j (concat_map (λ g. list_at o (8 * g + 6)) (literals_in s o.table f))) (from 0 (cell o.table f 5))
  escaping_nodes f l al =
      ap (λ (gs : List ℕ). filter (λ j. any (λ u. is_mutable s u.means && eqb (owner_of u.means) f && eqb u.slot j) (concat_map (captures s h) gs)) (from 0 (local_count s h f))) (inner_told f)
      ∙ filter_same' _ (λ j. hands_on s f j (concat_map (λ g. list_at o (8 * g + 6)) (literals_in s o.table f))) (from 0 (local_count s h f)) (λ j. hands_all f j al)
      ∙ ap (λ (n : ℕ). filter (λ j. hands_on s f j (concat_map (λ g. list_at o (8 * g + 6)) (literals_in s o.table f))) (from 0 n)) (sym (k.locals_is f l))
