-- After the walk: the table's words of a row are what the definition says at the row's last moment.
use mathlib.Core.Path.{◌≡◌, refl, sym, ap, ◌∙◌, subst}
use mathlib.Core.Logic.{◌⊎◌, inl, inr}
use mathlib.Core.List.{List, [], ◌∷◌, map}
use mathlib.Core.Bool.{Bool, true, false, not, ◌||◌, ◌&&◌, true≢false}
use Prim.Native.Nat.{ℕ, ◌+◌, ◌-◌, ◌/◌, ◌<◌}
use native.Mathlib.Omega.{arith}
use lib.ListN.{length, get_or, take}
use lib.Dec.{eqb}
use borrow.Author.Tests.{ne_eqb, eqb-true, eqb-false}
use Rattle.definition.specs.Basics.{when◌then◌else◌, filter, final, largest}
use Rattle.definition.specs.Sheet.{Sheet, kind, is, a, b, child}
use Rattle.definition.specs.Outside.{Outside}
use Rattle.definition.specs.Meaning.{class_number}
use Rattle.definition.specs.Walk.{Event, enter, leave, loop, declare, bring, visit}
use Rattle.definition.specs.Scope.{Stack, Moment, lookup, within, visited, declares, visits, visit_of, declaring_of, declaration}
use Rattle.definition.specs.Slots.{open_locals, code}
use Rattle.definition.specs.Capture.{use_at, distance, seen_from}
use Rattle.definition.specs.Classes.{method_named, own_methods, parent_of}
use Rattle.definition.specs.Question.{open_on, receiver}
use Rattle.definition.specs.Answer.{let_row, member_row}
use Rattle.definition.proofs.Classes.{of_sheet_lem}
use Rattle.machine.specs.Machine.{cell, Store, four_words, with_distance}
use Rattle.machine.specs.Reads.{row_words}
use Rattle.machine.proofs.RowWords.{row_written, words_written, WrittenBy, unwritten, written}
use Rattle.machine.proofs.StoreAgrees.{StoreAgrees}

-- Lists.
module _ {A : Type 0} where
  filter_same : (p q : A → Bool) (xs : List A) → ((x : A) → p x ≡ q x) → filter p xs ≡ filter q xs
  filter_same p q [] h = refl
  filter_same p q (x ∷ xs) h =
      ap (λ (t : Bool). when t then x ∷ filter p xs else filter p xs) (h x)
      ∙ ap (λ (l : List A). when q x then x ∷ l else l) (filter_same p q xs h)

  filter_filter : (p q : A → Bool) (xs : List A) → filter p (filter q xs) ≡ filter (λ x. q x && p x) xs
  filter_filter p q [] = refl
  filter_filter p q (x ∷ xs) = go (q x) (p x) refl (filter_filter p q xs)
    where
      go : (t u : Bool) → p x ≡ u → filter p (filter q xs) ≡ filter (λ x. q x && p x) xs
          → filter p (when t then x ∷ filter q xs else filter q xs) ≡ (when t && u then x ∷ filter (λ x. q x && p x) xs else filter (λ x. q x && p x) xs)
      go true true e i = rw e (ap (λ (l : List A). x ∷ l) i)
      go true false e i = rw e i
      go false u e i = i

  pub data All (p : A → Bool) : List A → Type 0 where
    al_none : All p []
    al_one : {x : A} {xs : List A} → p x ≡ true → All p xs → All p (x ∷ xs)

  pub all_filter : (p : A → Bool) (xs : List A) → All p (filter p xs)
  all_filter p [] = al_none
  all_filter p (x ∷ xs) = go (p x) refl (all_filter p xs)
    where
      go : (t : Bool) → p x ≡ t → All p (filter p xs) → All p (when t then x ∷ filter p xs else filter p xs)
      go true e i = al_one e i
      go false e i = i

  all_final : (p : A → Bool) (xs : List A) → All p xs → All p (final xs)
  all_final p [] h = al_none
  all_final p (x ∷ []) h = h
  all_final p (x ∷ y ∷ ys) (al_one e h) = all_final p (y ∷ ys) h

  all_head : (p : A → Bool) (x : A) (xs : List A) → All p (x ∷ xs) → p x ≡ true
  all_head p x xs (al_one e h) = e

final_map : {A B : Type 0} (f : A → B) (xs : List A) → final (map f xs) ≡ map f (final xs)
final_map f [] = refl
final_map f (x ∷ []) = refl
final_map f (x ∷ y ∷ ys) = final_map f (y ∷ ys)

-- The words of row r, where P tests for the moments that write it and f gives what they write.
module _ (O : Outside) (s : Sheet) (h : List Moment) (ws : List ℕ) (r : ℕ) (P : Moment → Bool) (same : (m : Moment) → eqb (row_written s m.event m.stack) r ≡ P m)
    (f : Moment → List ℕ) (writes : (m : Moment) → P m ≡ true → words_written O s h m ≡ f m)
    (t : WrittenBy O s h ws (final (filter (λ m. eqb (row_written s m.event m.stack) r) h))) where
  written_here : WrittenBy O s h ws (final (filter P h))
  written_here = subst (λ (ms : List Moment). WrittenBy O s h ws (final ms)) (filter_same (λ m. eqb (row_written s m.event m.stack) r) P h same) t

  by_written : {ms : List Moment} → WrittenBy O s h ws ms → All P ms → map (λ m. four_words (f m)) ms ≡ map (λ m. ws) ms
  by_written (unwritten e) q = refl
  by_written (written {m} e n) q = ap (λ (l : List ℕ). l ∷ []) (sym (e ∙ ap four_words (writes m (all_head P m [] q))))

  conclude : map (λ m. four_words (f m)) (final (filter P h)) ≡ map (λ m. ws) (final (filter P h))
  conclude = by_written written_here (all_final P (filter P h) (all_filter P h))

  by_none : {ms : List Moment} → WrittenBy O s h ws ms → ms ≡ [] → ws ≡ 0 ∷ 0 ∷ 0 ∷ 0 ∷ []
  by_none (unwritten e) q = e
  by_none (written {m} e n) q = absurd (eqb-false 0 1 refl (ap (λ (l : List Moment). length l) (sym q)))

  conclude_none : final (filter P h) ≡ [] → ws ≡ 0 ∷ 0 ∷ 0 ∷ 0 ∷ []
  conclude_none e = by_none written_here e

-- Rows of different kinds are different rows.
kinds_apart : (s : Sheet) (x r J K : ℕ) → is s J x ≡ true → is s K r ≡ true → eqb J K ≡ false → eqb x r ≡ false
kinds_apart s x r J K hx hr n =
    ne_eqb x r (λ e. eqb-false J K n (sym (eqb-true (kind s x) J hx) ∙ ap (kind s) e ∙ eqb-true (kind s r) K hr))

other_kind : (s : Sheet) (x J K : ℕ) → is s J x ≡ true → eqb J K ≡ false → is s K x ≡ false
other_kind s x J K h n = ap (λ (k : ℕ). eqb k K) (eqb-true (kind s x) J h) ∙ n

-- row 0 is not r
zero_apart : (r : ℕ) → (r ≡ 0 → ⊥) → eqb 0 r ≡ false
zero_apart r nz = ne_eqb 0 r (λ e. nz (sym e))

-- a call with a receiver has a member as its callee
receiver_member : (t u : Bool) (c : ℕ) → not (eqb (when t && u then c else 0) 0) ≡ true → t ≡ true
receiver_member true u c h = refl
receiver_member false u c h = absurd (true≢false (sym h))

-- is row k of a kind whose own visit writes it?
abbrev own_row_kind : Sheet → ℕ → Bool
own_row_kind s k = is s 50 k || is s 51 k || is s 52 k || is s 55 k

-- the row that a visit of k writes, compared with row r
shape : (v c m : Bool) (k x y r : ℕ) → eqb (when v then k else when c then x else when m then y else 0) r ≡ (when v then eqb k r else when c then eqb x r else when m then eqb y r else eqb 0 r)
shape true c m k x y r = refl
shape false true m k x y r = refl
shape false false true k x y r = refl
shape false false false k x y r = refl

four_false : (s : Sheet) (k K : ℕ) → is s K k ≡ true → eqb K 50 ≡ false → eqb K 51 ≡ false → eqb K 52 ≡ false → eqb K 55 ≡ false → own_row_kind s k ≡ false
four_false s k K h a₁ a₂ a₃ a₄ = rw (other_kind s k K 50 h a₁, other_kind s k K 51 h a₂, other_kind s k K 52 h a₃, other_kind s k K 55 h a₄)

-- a test that implies a false one is false
when_false : (v t : Bool) → (t ≡ true → v ≡ true) → v ≡ false → t ≡ false
when_false v true f h = absurd (true≢false (sym (f refl) ∙ h))
when_false v false f h = refl

module _ (s : Sheet) (r K : ℕ) (hr : is s K r ≡ true) (nz : r ≡ 0 → ⊥) where
  same_row : (k J : ℕ) → eqb k r ≡ true → is s K k ≡ true
  same_row k J e = ap (is s K) (eqb-true k r e) ∙ hr

  -- a row that is no class and no member is written by no class declaration and no call
  rest_false : (k : ℕ) (st : Stack) → eqb 4 K ≡ false → eqb 54 K ≡ false → (c m : Bool) → (is s 30 k && is s 4 (a s k)) ≡ c → (is s 59 k && not (eqb (receiver s k (open_on s st)) 0)) ≡ m
      → (when c then eqb (a s k) r else when m then eqb (child s k) r else eqb 0 r) ≡ false
  rest_false k st n₄ n₅₄ true m ec em = kinds_apart s (a s k) r 4 K (and_right (is s 30 k) (is s 4 (a s k)) ec) hr n₄
    where
      and_right : (x y : Bool) → (x && y) ≡ true → y ≡ true
      and_right true y e = e
      and_right false y e = absurd (true≢false (sym e))
  rest_false k st n₄ n₅₄ false true ec em =
      kinds_apart s (child s k) r 54 K
      (receiver_member (is s 54 (child s k)) (is s 50 (child s (child s k))) (class_number (lookup (a s (child s (child s k))) st))
      (and_right (is s 59 k) (not (eqb (receiver s k (open_on s st)) 0)) em)) hr n₅₄
    where
      and_right : (x y : Bool) → (x && y) ≡ true → y ≡ true
      and_right true y e = e
      and_right false y e = absurd (true≢false (sym e))
  rest_false k st n₄ n₅₄ false false ec em = zero_apart r nz

  -- a row of one of the four kinds is written by its visit
  target_visit : eqb 29 K ≡ false → eqb 4 K ≡ false → eqb 54 K ≡ false → ((k : ℕ) → is s K k ≡ true → own_row_kind s k ≡ true)
      → (e : Event) (st : Stack) → eqb (row_written s e st) r ≡ eqb (visited e) r
  target_visit n₂₉ n₄ n₅₄ f (enter k) st = refl
  target_visit n₂₉ n₄ n₅₄ f leave st = refl
  target_visit n₂₉ n₄ n₅₄ f loop st = refl
  target_visit n₂₉ n₄ n₅₄ f (declare k) st = go (is s 29 k) refl
    where
      go : (t : Bool) → is s 29 k ≡ t → eqb (when t || false || false || false || false then k else 0) r ≡ eqb 0 r
      go true e = kinds_apart s k r 29 K e hr n₂₉ ∙ sym (zero_apart r nz)
      go false e = refl
  target_visit n₂₉ n₄ n₅₄ f (bring k n d) st = refl
  target_visit n₂₉ n₄ n₅₄ f (visit k) st =
      shape (own_row_kind s k) (is s 30 k && is s 4 (a s k)) (is s 59 k && not (eqb (receiver s k (open_on s st)) 0)) k (a s k) (child s k) r
      ∙ ap (λ (t : Bool). when own_row_kind s k then eqb k r else t) (rest_false k st n₄ n₅₄ (is s 30 k && is s 4 (a s k)) (is s 59 k && not (eqb (receiver s k (open_on s st)) 0)) refl refl)
      ∙ go (own_row_kind s k) refl
    where
      go : (v : Bool) → own_row_kind s k ≡ v → (when v then eqb k r else false) ≡ eqb k r
      go true e = refl
      go false e = sym (when_false (own_row_kind s k) (eqb k r) (λ q. f k (same_row k 0 q)) e)

  -- a let is written where it is declared
  target_let : eqb 29 K ≡ true → eqb 4 K ≡ false → eqb 54 K ≡ false → ((k : ℕ) → is s K k ≡ true → own_row_kind s k ≡ false)
      → (e : Event) (st : Stack) → eqb (row_written s e st) r ≡ eqb (declares e) r
  target_let is₂₉ n₄ n₅₄ f (enter k) st = refl
  target_let is₂₉ n₄ n₅₄ f leave st = refl
  target_let is₂₉ n₄ n₅₄ f loop st = refl
  target_let is₂₉ n₄ n₅₄ f (declare k) st = go (is s 29 k) refl
    where
      go : (t : Bool) → is s 29 k ≡ t → eqb (when t || false || false || false || false then k else 0) r ≡ eqb k r
      go true e = refl
      go false e =
          zero_apart r nz
          ∙ sym (when_false (is s 29 k) (eqb k r) (λ q. ap (λ (j : ℕ). is s j k) (eqb-true 29 K is₂₉) ∙ same_row k 0 q) e)
  target_let is₂₉ n₄ n₅₄ f (bring k n d) st = refl
  target_let is₂₉ n₄ n₅₄ f (visit k) st =
      shape (own_row_kind s k) (is s 30 k && is s 4 (a s k)) (is s 59 k && not (eqb (receiver s k (open_on s st)) 0)) k (a s k) (child s k) r
      ∙ ap (λ (t : Bool). when own_row_kind s k then eqb k r else t) (rest_false k st n₄ n₅₄ (is s 30 k && is s 4 (a s k)) (is s 59 k && not (eqb (receiver s k (open_on s st)) 0)) refl refl)
      ∙ go (own_row_kind s k) refl (eqb k r) refl ∙ sym (zero_apart r nz)
    where
      go : (v : Bool) → own_row_kind s k ≡ v → (t : Bool) → eqb k r ≡ t → (when v then t else false) ≡ false
      go true e true q = sym e ∙ f k (same_row k 0 q)
      go true e false q = refl
      go false e t q = refl

-- the only event that visits row r, and the only one that declares it
visit_only : (r : ℕ) → (r ≡ 0 → ⊥) → (e : Event) → eqb (visited e) r ≡ true → e ≡ visit r
visit_only r nz (enter k) q = absurd (nz (sym (eqb-true 0 r q)))
visit_only r nz leave q = absurd (nz (sym (eqb-true 0 r q)))
visit_only r nz loop q = absurd (nz (sym (eqb-true 0 r q)))
visit_only r nz (declare k) q = absurd (nz (sym (eqb-true 0 r q)))
visit_only r nz (bring k n d) q = absurd (nz (sym (eqb-true 0 r q)))
visit_only r nz (visit k) q = ap visit (eqb-true k r q)

declare_only : (r : ℕ) → (r ≡ 0 → ⊥) → (e : Event) → eqb (declares e) r ≡ true → e ≡ declare r
declare_only r nz (enter k) q = absurd (nz (sym (eqb-true 0 r q)))
declare_only r nz leave q = absurd (nz (sym (eqb-true 0 r q)))
declare_only r nz loop q = absurd (nz (sym (eqb-true 0 r q)))
declare_only r nz (declare k) q = ap declare (eqb-true k r q)
declare_only r nz (bring k n d) q = absurd (nz (sym (eqb-true 0 r q)))
declare_only r nz (visit k) q = absurd (nz (sym (eqb-true 0 r q)))

-- Rows by kind: `o` is the store after the walk, h the history.
module _ (O : Outside) (s : Sheet) (h : List Moment) (o : Store) (k : StoreAgrees O s h o) (r : ℕ) (nz : r ≡ 0 → ⊥) (l : r < length o.table / 8) where
  visit_row : (K : ℕ) (f : Moment → List ℕ) → is s K r ≡ true → eqb 29 K ≡ false → eqb 4 K ≡ false → eqb 54 K ≡ false → ((k : ℕ) → is s K k ≡ true → own_row_kind s k ≡ true)
      → ((z : Stack) → words_written O s h (record { event = visit r; stack = z }) ≡ f (record { event = visit r; stack = z }))
      → map (λ m. four_words (f m)) (visit_of h r) ≡ map (λ m. row_words o.table r) (visit_of h r)
  visit_row K f hr n₂₉ n₄ n₅₄ tk base =
      conclude O s h (row_words o.table r) r (λ m. eqb (visited m.event) r) (λ m. target_visit s r K hr nz n₂₉ n₄ n₅₄ tk m.event m.stack) f
      (λ m q. subst (λ (e : Event). words_written O s h (record { event = e; stack = m.stack }) ≡ f (record { event = e; stack = m.stack })) (sym (visit_only r nz m.event q)) (base m.stack))
      (k.words_is r l nz)

  -- an identifier: what it means, seen from its function
  pub identifier_words : is s 50 r ≡ true
      → map (λ m. four_words (with_distance (distance (use_at s m)) (seen_from s h (within s m) (use_at s m)))) (visit_of h r) ≡ map (λ m. row_words o.table r) (visit_of h r)
  identifier_words hr = visit_row 50 (λ m. with_distance (distance (use_at s m)) (seen_from s h (within s m) (use_at s m))) hr refl refl refl (λ k q. rw q) (λ z. rw hr)

  -- a host constant, an instanceof: the definition's row
  pub host_words : is s 51 r ≡ true → map (λ m. four_words ((when eqb (within s m) (b s 0) then 7 else 8) ∷ [])) (visit_of h r) ≡ map (λ m. row_words o.table r) (visit_of h r)
  host_words hr =
      visit_row 51 (λ m. (when eqb (within s m) (b s 0) then 7 else 8) ∷ []) hr refl refl refl (λ k q. rw (other_kind s k 51 50 q refl, q)) (λ z. rw (other_kind s r 51 50 hr refl, hr))

  pub instance_words : is s 55 r ≡ true → map (λ m. four_words (2 ∷ class_number (lookup (a s r) m.stack) ∷ [])) (visit_of h r) ≡ map (λ m. row_words o.table r) (visit_of h r)
  instance_words hr =
      visit_row 55 (λ m. 2 ∷ class_number (lookup (a s r) m.stack) ∷ []) hr refl refl refl
      (λ k q. rw (other_kind s k 55 50 q refl, other_kind s k 55 51 q refl, other_kind s k 55 52 q refl, q))
      (λ z. rw (other_kind s r 55 50 hr refl, other_kind s r 55 51 hr refl, other_kind s r 55 52 hr refl, hr))

  -- a literal: code 1 and the function in which it stands
  pub literal_words : is s 52 r ≡ true → map (λ m. four_words (1 ∷ within s m ∷ [])) (visit_of h r) ≡ map (λ m. row_words o.table r) (visit_of h r)
  literal_words hr =
      visit_row 52 (λ m. 1 ∷ within s m ∷ []) hr refl refl refl (λ k q. rw (other_kind s k 52 50 q refl, other_kind s k 52 51 q refl, q))
      (λ z. rw (other_kind s r 52 50 hr refl, other_kind s r 52 51 hr refl, hr))

  -- a literal that is not visited has no code
  pub literal_unwritten : is s 52 r ≡ true → visit_of h r ≡ [] → row_words o.table r ≡ 0 ∷ 0 ∷ 0 ∷ 0 ∷ []
  literal_unwritten hr e =
      conclude_none O s h (row_words o.table r) r (λ m. eqb (visited m.event) r)
      (λ m. target_visit s r 52 hr nz refl refl refl (λ k q. rw (other_kind s k 52 50 q refl, other_kind s k 52 51 q refl, q)) m.event m.stack)
      (λ m. words_written O s h m) (λ m q. refl) (k.words_is r l nz) e

  -- a let: the definition's row, whole
  pub let_words : is s 29 r ≡ true → map four_words (let_row s h r) ≡ row_words o.table r ∷ []
  let_words hr = go (declaring_of h r) refl
      (conclude O s h (row_words o.table r) r (λ m. eqb (declares m.event) r) same f writes (k.words_is r l nz))
      (conclude_none O s h (row_words o.table r) r (λ m. eqb (declares m.event) r) same f writes (k.words_is r l nz))
    where
      f : Moment → List ℕ
      f m = code s h (declaration s m) (open_locals s m.stack)

      same : (m : Moment) → eqb (row_written s m.event m.stack) r ≡ eqb (declares m.event) r
      same m = target_let s r 29 hr nz refl refl refl (λ k q. four_false s k 29 q refl refl refl refl) m.event m.stack

      writes : (m : Moment) → eqb (declares m.event) r ≡ true → words_written O s h m ≡ f m
      writes m q =
          subst (λ (e : Event). words_written O s h (record { event = e; stack = m.stack }) ≡ f (record { event = e; stack = m.stack })) (sym (declare_only r nz m.event q)) (rw hr)

      go : (ms : List Moment) → declaring_of h r ≡ ms → map (λ m. four_words (f m)) (declaring_of h r) ≡ map (λ m. row_words o.table r) (declaring_of h r)
          → (declaring_of h r ≡ [] → row_words o.table r ≡ 0 ∷ 0 ∷ 0 ∷ 0 ∷ []) → map four_words (let_row s h r) ≡ row_words o.table r ∷ []
      go [] e c n = rw e (ap (λ (ws : List ℕ). ws ∷ []) (sym (n e)))
      go (m ∷ ms) e c n = rw e (ap (take 1) (rw e at c))

-- Classes and members: their rows are written by class declarations and by calls.
module _ (s : Sheet) (hd : kind s 0 ≡ 0) (r K : ℕ) (hr : is s K r ≡ true) (nz : r ≡ 0 → ⊥) where
  -- an event that visits nothing
  none_visited : (J : ℕ) → eqb 0 J ≡ false → is s J 0 ≡ false
  none_visited J n = ap (λ (j : ℕ). eqb j J) hd ∙ n

  declare_apart : (k : ℕ) → eqb 29 K ≡ false → eqb (when is s 29 k || false || false || false || false then k else 0) r ≡ false
  declare_apart k n = go (is s 29 k) refl
    where
      go : (t : Bool) → is s 29 k ≡ t → eqb (when t || false || false || false || false then k else 0) r ≡ false
      go true e = kinds_apart s k r 29 K e hr n
      go false e = zero_apart r nz

  own_row_apart : (k : ℕ) → ((k : ℕ) → is s K k ≡ true → own_row_kind s k ≡ false) → (t : Bool) → own_row_kind s k ≡ t → t ≡ true → eqb k r ≡ false
  own_row_apart k f true e q = go (eqb k r) refl
    where
      go : (u : Bool) → eqb k r ≡ u → u ≡ false
      go true w = absurd (true≢false (sym e ∙ f k (ap (is s K) (eqb-true k r w) ∙ hr)))
      go false w = refl
  own_row_apart k f false e q = absurd (true≢false (sym q))

-- a class row is written by its class declaration
target_class : (s : Sheet) → kind s 0 ≡ 0 → (r : ℕ) → is s 4 r ≡ true → (r ≡ 0 → ⊥) → (e : Event) (st : Stack)
    → eqb (row_written s e st) r ≡ (is s 30 (visited e) && eqb (a s (visited e)) r)
target_class s hd r hr nz (enter k) st = zero_apart r nz ∙ sym (ap (λ (t : Bool). t && eqb (a s 0) r) (none_visited s hd r 4 hr nz 30 refl))
target_class s hd r hr nz leave st = zero_apart r nz ∙ sym (ap (λ (t : Bool). t && eqb (a s 0) r) (none_visited s hd r 4 hr nz 30 refl))
target_class s hd r hr nz loop st = zero_apart r nz ∙ sym (ap (λ (t : Bool). t && eqb (a s 0) r) (none_visited s hd r 4 hr nz 30 refl))
target_class s hd r hr nz (declare k) st = declare_apart s hd r 4 hr nz k refl ∙ sym (ap (λ (t : Bool). t && eqb (a s 0) r) (none_visited s hd r 4 hr nz 30 refl))
target_class s hd r hr nz (bring k n d) st = zero_apart r nz ∙ sym (ap (λ (t : Bool). t && eqb (a s 0) r) (none_visited s hd r 4 hr nz 30 refl))
target_class s hd r hr nz (visit k) st =
    shape (own_row_kind s k) (is s 30 k && is s 4 (a s k)) (is s 59 k && not (eqb (receiver s k (open_on s st)) 0)) k (a s k) (child s k) r
    ∙ go (own_row_kind s k) refl (is s 30 k) refl (is s 4 (a s k)) refl (is s 59 k && not (eqb (receiver s k (open_on s st)) 0)) refl
  where
    go : (v : Bool) → own_row_kind s k ≡ v → (c : Bool) → is s 30 k ≡ c → (d : Bool) → is s 4 (a s k) ≡ d → (m : Bool) → (is s 59 k && not (eqb (receiver s k (open_on s st)) 0)) ≡ m
        → (when v then eqb k r else when c && d then eqb (a s k) r else when m then eqb (child s k) r else eqb 0 r) ≡ (c && eqb (a s k) r)
    go true ev true ec d ed m em = absurd (true≢false (sym ev ∙ four_false s k 30 ec refl refl refl refl))
    go true ev false ec d ed m em = own_row_apart s hd r 4 hr nz k (λ j q. four_false s j 4 q refl refl refl refl) true ev refl
    go false ev true ec true ed m em = refl
    go false ev true ec false ed true em = absurd (true≢false (sym em ∙ ap (λ (t : Bool). t && not (eqb (receiver s k (open_on s st)) 0)) (other_kind s k 30 59 ec refl)))
    go false ev true ec false ed false em =
        zero_apart r nz ∙ sym (when_false (is s 4 (a s k)) (eqb (a s k) r) (λ q. ap (is s 4) (eqb-true (a s k) r q) ∙ hr) ed)
    go false ev false ec d ed true em =
        kinds_apart s (child s k) r 54 4
        (receiver_member (is s 54 (child s k)) (is s 50 (child s (child s k))) (class_number (lookup (a s (child s (child s k))) st))
        (both (is s 59 k) (not (eqb (receiver s k (open_on s st)) 0)) em)) hr refl
      where
        both : (x y : Bool) → (x && y) ≡ true → y ≡ true
        both true y e = e
        both false y e = absurd (true≢false (sym e))
    go false ev false ec d ed false em = zero_apart r nz

-- a member row is written by the call on a class whose callee it is
target_member : (s : Sheet) → kind s 0 ≡ 0 → (r : ℕ) → is s 54 r ≡ true → (r ≡ 0 → ⊥) → (e : Event) (st : Stack)
    → eqb (row_written s e st) r ≡ (is s 59 (visited e) && not (eqb (receiver s (visited e) (open_on s st)) 0) && eqb (child s (visited e)) r)
target_member s hd r hr nz (enter k) st = zero_apart r nz ∙ sym (ap (λ (t : Bool). t && not (eqb (receiver s 0 (open_on s st)) 0) && eqb (child s 0) r) (none_visited s hd r 54 hr nz 59 refl))
target_member s hd r hr nz leave st = zero_apart r nz ∙ sym (ap (λ (t : Bool). t && not (eqb (receiver s 0 (open_on s st)) 0) && eqb (child s 0) r) (none_visited s hd r 54 hr nz 59 refl))
target_member s hd r hr nz loop st = zero_apart r nz ∙ sym (ap (λ (t : Bool). t && not (eqb (receiver s 0 (open_on s st)) 0) && eqb (child s 0) r) (none_visited s hd r 54 hr nz 59 refl))
target_member s hd r hr nz (declare k) st =
    declare_apart s hd r 54 hr nz k refl
    ∙ sym (ap (λ (t : Bool). t && not (eqb (receiver s 0 (open_on s st)) 0) && eqb (child s 0) r) (none_visited s hd r 54 hr nz 59 refl))
target_member s hd r hr nz (bring k n d) st = zero_apart r nz ∙ sym (ap (λ (t : Bool). t && not (eqb (receiver s 0 (open_on s st)) 0) && eqb (child s 0) r) (none_visited s hd r 54 hr nz 59 refl))
target_member s hd r hr nz (visit k) st =
    shape (own_row_kind s k) (is s 30 k && is s 4 (a s k)) (is s 59 k && not (eqb (receiver s k (open_on s st)) 0)) k (a s k) (child s k) r
    ∙ go (own_row_kind s k) refl (is s 30 k && is s 4 (a s k)) refl (is s 59 k) refl (not (eqb (receiver s k (open_on s st)) 0))
  where
    left : (x y : Bool) → (x && y) ≡ true → x ≡ true
    left true y e = refl
    left false y e = e

    right : (x y : Bool) → (x && y) ≡ true → y ≡ true
    right true y e = e
    right false y e = absurd (true≢false (sym e))

    go : (v : Bool) → own_row_kind s k ≡ v → (c : Bool) → (is s 30 k && is s 4 (a s k)) ≡ c → (t : Bool) → is s 59 k ≡ t → (u : Bool)
        → (when v then eqb k r else when c then eqb (a s k) r else when t && u then eqb (child s k) r else eqb 0 r) ≡ (t && u && eqb (child s k) r)
    go true ev c ec true et u = absurd (true≢false (sym ev ∙ four_false s k 59 et refl refl refl refl))
    go true ev c ec false et u = own_row_apart s hd r 54 hr nz k (λ j q. four_false s j 54 q refl refl refl refl) true ev refl
    go false ev true ec true et u = absurd (true≢false (sym (left (is s 30 k) (is s 4 (a s k)) ec) ∙ other_kind s k 59 30 et refl))
    go false ev true ec false et u = kinds_apart s (a s k) r 4 54 (right (is s 30 k) (is s 4 (a s k)) ec) hr refl
    go false ev false ec true et true = refl
    go false ev false ec true et false = zero_apart r nz
    go false ev false ec false et u = zero_apart r nz

pub final_short : {A : Type 0} (xs : List A) → (final xs ≡ []) ⊎ ((x : A) × (final xs ≡ x ∷ []))
final_short [] = inl refl
final_short (x ∷ []) = inr (x, refl)
final_short (x ∷ y ∷ ys) = final_short (y ∷ ys)

-- does a moment call a method on a class with row r as its member callee?
abbrev pub is_member_call : Sheet → ℕ → Moment → Bool
is_member_call s r m = is s 59 (visited m.event) && not (eqb (receiver s (visited m.event) (open_on s m.stack)) 0) && eqb (child s (visited m.event)) r

-- code and values of the member callee of such a call
abbrev pub member_values : Outside → Sheet → ℕ → Moment → List ℕ
member_values O s r m = 1 ∷ method_named (a s r) (own_methods O s (receiver s (visited m.event) (open_on s m.stack))) ∷ []

module _ (O : Outside) (s : Sheet) (hd : kind s 0 ≡ 0) (h : List Moment) (o : Store) (k : StoreAgrees O s h o) (r : ℕ) (nz : r ≡ 0 → ⊥) (l : r < length o.table / 8) where
  no_visit : {A : Type 0} (J : ℕ) (t : Bool) → eqb 0 J ≡ false → (is s J 0 && t) ≡ true → A
  no_visit J t n q = absurd (true≢false (sym q ∙ ap (λ (u : Bool). u && t) (ap (λ (j : ℕ). eqb j J) hd ∙ n)))

  no_visit₂ : {A : Type 0} (t u : Bool) → (is s 59 0 && t && u) ≡ true → A
  no_visit₂ t u q = absurd (true≢false (sym q ∙ ap (λ (v : Bool). v && t && u) (ap (λ (j : ℕ). eqb j 59) hd)))

  parent_writes : (e : Event) (z : Stack) → (is s 30 (visited e) && eqb (a s (visited e)) r) ≡ true
      → words_written O s h (record { event = e; stack = z }) ≡ 2 ∷ class_number (lookup (b s r) z) ∷ []
  parent_writes (enter k) z q = no_visit 30 _ refl q
  parent_writes leave z q = no_visit 30 _ refl q
  parent_writes loop z q = no_visit 30 _ refl q
  parent_writes (declare k) z q = no_visit 30 _ refl q
  parent_writes (bring k n d) z q = no_visit 30 _ refl q
  parent_writes (visit k) z q = go (is s 30 k) refl q
    where
      go : (t : Bool) → is s 30 k ≡ t → (t && eqb (a s k) r) ≡ true → words_written O s h (record { event = visit k; stack = z }) ≡ 2 ∷ class_number (lookup (b s r) z) ∷ []
      go true e w =
          rw (other_kind s k 30 50 e refl, other_kind s k 30 51 e refl, other_kind s k 30 52 e refl, other_kind s k 30 55 e refl, e)
          (ap (λ (j : ℕ). 2 ∷ class_number (lookup (b s j) z) ∷ []) (eqb-true (a s k) r w))
      go false e w = absurd (true≢false (sym w))

  -- a class's parent
  pub parent_word : is s 4 r ≡ true → cell o.table r 1 ≡ parent_of s h (256 + r)
  unfolding row_words
  parent_word hr =
      out (final_short (filter P h))
      ∙ sym (ap (λ (t : Bool). when t then largest (final (map g (filter (λ m. eqb (a s (visited m.event)) ((256 + r) - 256)) (visits s h 30)))) else 0) (of_sheet_lem s r hr)
      ∙ ap (λ (j : ℕ). largest (final (map (λ m. class_number (lookup (b s j) m.stack)) (filter (λ m. eqb (a s (visited m.event)) j) (visits s h 30))))) (omega arith)
      ∙ ap largest (final_map (λ m. class_number (lookup (b s r) m.stack)) (filter (λ m. eqb (a s (visited m.event)) r) (visits s h 30))
      ∙ ap (λ (ms : List Moment). map (λ m. class_number (lookup (b s r) m.stack)) (final ms)) (filter_filter (λ m. eqb (a s (visited m.event)) r) (λ m. is s 30 (visited m.event)) h)))
    where
      g : Moment → ℕ
      g m = class_number (lookup (b s ((256 + r) - 256)) m.stack)

      P : Moment → Bool
      P m = is s 30 (visited m.event) && eqb (a s (visited m.event)) r

      f : Moment → List ℕ
      f m = 2 ∷ class_number (lookup (b s r) m.stack) ∷ []

      all : map (λ m. four_words (f m)) (final (filter P h)) ≡ map (λ m. row_words o.table r) (final (filter P h))
      all = conclude O s h (row_words o.table r) r P (λ m. target_class s hd r hr nz m.event m.stack) f (λ m q. parent_writes m.event m.stack q) (k.words_is r l nz)

      none : final (filter P h) ≡ [] → row_words o.table r ≡ 0 ∷ 0 ∷ 0 ∷ 0 ∷ []
      none = conclude_none O s h (row_words o.table r) r P (λ m. target_class s hd r hr nz m.event m.stack) f (λ m q. parent_writes m.event m.stack q) (k.words_is r l nz)

      out : (final (filter P h) ≡ []) ⊎ ((m : Moment) × (final (filter P h) ≡ m ∷ []))
          → cell o.table r 1 ≡ largest (map (λ m. class_number (lookup (b s r) m.stack)) (final (filter P h)))
      out (inl e) = ap (λ (ws : List ℕ). get_or ws 1 0) (none e) ∙ rw e
      out (inr w) =
          let e : four_words (f w.0) ∷ [] ≡ row_words o.table r ∷ [] = subst (λ (ms : List Moment). map (λ m. four_words (f m)) ms ≡ map (λ m. row_words o.table r) ms) w.1 all in
          let c : class_number (lookup (b s r) w.0.stack) ≡ cell o.table r 1 = ap (λ (x : List (List ℕ)). get_or (get_or x 0 []) 1 0) e in
          sym (ap (λ (ms : List Moment). largest (map (λ m. class_number (lookup (b s r) m.stack)) ms)) w.1 ∙ omega (arith, c))

  member_writes : (e : Event) (z : Stack) → (is s 59 (visited e) && not (eqb (receiver s (visited e) (open_on s z)) 0) && eqb (child s (visited e)) r) ≡ true
      → words_written O s h (record { event = e; stack = z }) ≡ 1 ∷ method_named (a s r) (own_methods O s (receiver s (visited e) (open_on s z))) ∷ []
  member_writes (enter k) z q = no_visit₂ _ _ q
  member_writes leave z q = no_visit₂ _ _ q
  member_writes loop z q = no_visit₂ _ _ q
  member_writes (declare k) z q = no_visit₂ _ _ q
  member_writes (bring k n d) z q = no_visit₂ _ _ q
  member_writes (visit k) z q = go (is s 59 k) refl (not (eqb (receiver s k (open_on s z)) 0)) q
    where
      go : (t : Bool) → is s 59 k ≡ t → (u : Bool) → (t && u && eqb (child s k) r) ≡ true
          → words_written O s h (record { event = visit k; stack = z }) ≡ 1 ∷ method_named (a s r) (own_methods O s (receiver s k (open_on s z))) ∷ []
      go true e true w =
          rw (other_kind s k 59 50 e refl, other_kind s k 59 51 e refl, other_kind s k 59 52 e refl, other_kind s k 59 55 e refl, other_kind s k 59 30 e refl)
          (ap (λ (j : ℕ). 1 ∷ method_named (a s j) (own_methods O s (receiver s k (open_on s z))) ∷ []) (eqb-true (child s k) r w))
      go true e false w = absurd (true≢false (sym w))
      go false e u w = absurd (true≢false (sym w))

  -- what the calls of a method on a class write at their member callee, and nothing where there is no such call
  pub member_words_lem : is s 54 r ≡ true
      → map (λ m. four_words (member_values O s r m)) (final (filter (is_member_call s r) h)) ≡ map (λ m. row_words o.table r) (final (filter (is_member_call s r) h))
  member_words_lem hr =
      conclude O s h (row_words o.table r) r (is_member_call s r)
      (λ m. target_member s hd r hr nz m.event m.stack) (member_values O s r)
      (λ m q. member_writes m.event m.stack q) (k.words_is r l nz)

  pub member_none : is s 54 r ≡ true → final (filter (is_member_call s r) h) ≡ [] → row_words o.table r ≡ 0 ∷ 0 ∷ 0 ∷ 0 ∷ []
  member_none hr =
      conclude_none O s h (row_words o.table r) r (is_member_call s r)
      (λ m. target_member s hd r hr nz m.event m.stack) (member_values O s r)
      (λ m q. member_writes m.event m.stack q) (k.words_is r l nz)

  -- the definition's row of a member
  pub member_row_lem : member_row O s h r ≡ map (member_values O s r) (filter (is_member_call s r) h)
  member_row_lem =
      ap (λ (ms : List Moment). map (member_values O s r) (filter (λ m. eqb (child s (visited m.event)) r) ms))
      (filter_filter (λ m. not (eqb (receiver s (visited m.event) (open_on s m.stack)) 0)) (λ m. is s 59 (visited m.event)) h)
      ∙ ap (map (member_values O s r))
      (filter_filter (λ m. eqb (child s (visited m.event)) r) (λ m. is s 59 (visited m.event) && not (eqb (receiver s (visited m.event) (open_on s m.stack)) 0)) h)
