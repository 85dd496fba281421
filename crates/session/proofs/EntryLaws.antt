-- An entry's sheet is its own sheet with its names numbered otherwise.
use mathlib.Core.Path.{◌≡◌, refl, sym, ap, ◌∙◌}
use mathlib.Core.Logic.{◌⊎◌, inl, inr}
use mathlib.Core.Bool.{Bool, true, false, not, ◌&&◌, ◌||◌, true≢false}
use mathlib.Core.List.{List, [], ◌∷◌, ◌++◌}
use Prim.Native.Nat.{ℕ, zero, suc, ◌+◌, ◌-◌, ◌*◌, ◌<◌, ◌≤◌}
use native.Mathlib.Omega.{arith}
use native.Mathlib.Nat.{zero-add}
use lib.ListN.{length, get_or, length-append, get_or-append, get_or-eq_default}
use lib.Dec.{eqb, leb, ltb}
use borrow.Author.Tests.{eq-eqb, eqb-true, le-leb, ltb-true, ltb-false}
use Rattle.definition.specs.Basics.{when◌then◌else◌, any, filter, unlike, place, from, concat_map}
use Rattle.definition.specs.Names.{Name, fixed, listed, same_name, name_count, names_fit}
use Rattle.definition.specs.Sheet.{Sheet, word, kind, rows}
use Rattle.definition.specs.Shape.{shape_of}
use Rattle.definition.specs.Outcome.{rows_fit}
use Rattle.session.specs.Session.{Session, all_names}
use Rattle.session.specs.Entry.{own_names, new_names, names_with, to_session, holds_name, entry_row, entry_sheet}
use Rattle.session.proofs.NameLaws.{same_itself, place_own, names_apart_lem}
use Rattle.session.proofs.RowLaws.{word_past, whole_rows, whole_some, whole_few}
use Rattle.session.proofs.Renaming.{Renamed}

-- names with the same bytes are one
pub same_is : (x y : Name) → same_name x y ≡ true → x ≡ y
same_is [] [] e = refl
same_is [] (d ∷ y) e = absurd (true≢false (sym e))
same_is (c ∷ x) [] e = absurd (true≢false (sym e))
same_is (c ∷ x) (d ∷ y) e = go (eqb c d) refl e (same_is x y)
  where
    go : (t : Bool) → eqb c d ≡ t → (t && same_name x y) ≡ true → (same_name x y ≡ true → x ≡ y) → c ∷ x ≡ d ∷ y
    go true q e f = ap (λ (k : ℕ). k ∷ x) (eqb-true c d q) ∙ ap (λ (l : List ℕ). d ∷ l) (f e)
    go false q e f = absurd (true≢false (sym e))

-- a test that some element passes
module _ (p : Name → Bool) where
  pub some_left : (xs ys : List Name) → any p xs ≡ true → any p (xs ++ ys) ≡ true
  some_left [] ys e = absurd (true≢false (sym e))
  some_left (x ∷ xs) ys e = go (p x) (some_left xs ys) e
    where
      go : (t : Bool) → (any p xs ≡ true → any p (xs ++ ys) ≡ true) → (t || any p xs) ≡ true → (t || any p (xs ++ ys)) ≡ true
      go true f e = refl
      go false f e = f e

  pub some_right : (xs ys : List Name) → any p ys ≡ true → any p (xs ++ ys) ≡ true
  some_right [] ys e = e
  some_right (x ∷ xs) ys e = go (p x) (some_right xs ys e)
    where
      go : (t : Bool) → any p (xs ++ ys) ≡ true → (t || any p (xs ++ ys)) ≡ true
      go true f = refl
      go false f = f

  pub some_at : (xs : List Name) (i : ℕ) → i < length xs → p (get_or xs i []) ≡ true → any p xs ≡ true
  some_at [] i l e = absurd (omega arith)
  some_at (x ∷ xs) zero l e = ap (λ (t : Bool). t || any p xs) e
  some_at (x ∷ xs) (suc i) l e = go (p x) (some_at xs i (omega arith) e)
    where
      go : (t : Bool) → any p xs ≡ true → (t || any p xs) ≡ true
      go true f = refl
      go false f = f

  pub place_below : (xs : List Name) → any p xs ≡ true → (place p xs < length xs) × (p (get_or xs (place p xs) []) ≡ true)
  place_below [] e = absurd (true≢false (sym e))
  place_below (x ∷ xs) e = go (p x) refl e (place_below xs)
    where
      go : (t : Bool) → p x ≡ t → (t || any p xs) ≡ true → (any p xs ≡ true → (place p xs < length xs) × (p (get_or xs (place p xs) []) ≡ true))
          → ((when t then 0 else suc (place p xs)) < suc (length xs)) × (p (get_or (x ∷ xs) (when t then 0 else suc (place p xs)) []) ≡ true)
      go true q e f = (omega arith, q)
      go false q e f = let g = f e in (omega (arith, g.0), g.1)

  -- an element that passes both tests is kept by the other
  some_kept : (q : Name → Bool) (xs : List Name) (i : ℕ) → i < length xs → p (get_or xs i []) ≡ true → q (get_or xs i []) ≡ true → any p (filter q xs) ≡ true
  some_kept q [] i l e f = absurd (omega arith)
  some_kept q (x ∷ xs) zero l e f = go (q x) f
    where
      go : (t : Bool) → t ≡ true → any p (when t then x ∷ filter q xs else filter q xs) ≡ true
      go true g = ap (λ (u : Bool). u || any p (filter q xs)) e
      go false g = absurd (true≢false (sym g))
  some_kept q (x ∷ xs) (suc i) l e f = go (q x) (some_kept q xs i (omega arith) e f)
    where
      go : (t : Bool) → any p (filter q xs) ≡ true → any p (when t then x ∷ filter q xs else filter q xs) ≡ true
      go true g = by (p x)
        where
          by : (u : Bool) → (u || any p (filter q xs)) ≡ true
          by true = refl
          by false = g
      go false g = g

pub get_or_right : (xs ys : List Name) (i : ℕ) → length xs ≤ i → get_or (xs ++ ys) i [] ≡ get_or ys (i - length xs) []
get_or_right [] ys i l = ap (λ (j : ℕ). get_or ys j []) (omega arith)
get_or_right (x ∷ xs) ys zero l = absurd (omega arith)
get_or_right (x ∷ xs) ys (suc i) l = get_or_right xs ys i (omega arith) ∙ ap (λ (j : ℕ). get_or ys j []) (omega arith)

module _ (S : Session) (ns : List ℕ) where
  -- every name of the entry is among the session's and the new ones
  pub own_there : (i : ℕ) → i < length (own_names ns) → any (same_name (get_or (own_names ns) i [])) (names_with S ns) ≡ true
  own_there i l = go (ltb i (length fixed)) refl
    where
      x : Name
      x = get_or (own_names ns) i []

      go : (t : Bool) → ltb i (length fixed) ≡ t → any (same_name x) (names_with S ns) ≡ true
      go true q =
          let k : i < length fixed = ltb-true i (length fixed) q in
          some_left (same_name x) (all_names S) (new_names S ns)
          (some_left (same_name x) fixed (concat_map (λ e. e.names) S.entries) (some_at (same_name x) fixed i k (ap (same_name x) (sym (get_or-append fixed (listed ns) [] i k)) ∙ same_itself x)))
      go false q = by (any (same_name x) (all_names S)) refl
        where
          k : length fixed ≤ i
          k = ltb-false i (length fixed) q

          at : x ≡ get_or (listed ns) (i - length fixed) []
          at = get_or_right fixed (listed ns) i k

          by : (u : Bool) → any (same_name x) (all_names S) ≡ u → any (same_name x) (names_with S ns) ≡ true
          by true f = some_left (same_name x) (all_names S) (new_names S ns) f
          by false f =
              some_right (same_name x) (all_names S) (new_names S ns)
              (some_kept (same_name x) (λ y. not (any (same_name y) (all_names S))) (listed ns) (i - length fixed) (omega (arith, l, k, length-append fixed (listed ns)))
              (ap (same_name x) (sym at) ∙ same_itself x) (ap (λ (y : Name). not (any (same_name y) (all_names S))) (sym at) ∙ ap not f))

  -- a name's number in the session
  pub number_is : (x : ℕ) → 1 ≤ x → x ≤ length (own_names ns) → to_session S ns x ≡ suc (place (same_name (get_or (own_names ns) (x - 1) [])) (names_with S ns))
  number_is x l h = ap (λ (t : Bool). when t && leb x (length (own_names ns)) then suc (place (same_name (get_or (own_names ns) (x - 1) [])) (names_with S ns)) else x) (le-leb 1 x l)
      ∙ ap (λ (t : Bool). when t then suc (place (same_name (get_or (own_names ns) (x - 1) [])) (names_with S ns)) else x) (le-leb x (length (own_names ns)) h)

  number_some : (x : ℕ) → 1 ≤ x → x ≤ length (own_names ns) → (1 ≤ to_session S ns x) × (to_session S ns x ≤ length (names_with S ns))
  number_some x l h =
      let q = place_below (same_name (get_or (own_names ns) (x - 1) [])) (names_with S ns) (own_there (x - 1) (omega arith)) in
      (omega (arith, number_is x l h), omega (arith, number_is x l h, q.0))

  module _ (fit : names_fit ns ≡ true) where
    number_apart : (x y : ℕ) → x ≤ length (own_names ns) → y ≤ length (own_names ns) → to_session S ns x ≡ to_session S ns y → x ≡ y
    number_apart zero zero l k e = refl
    number_apart zero (suc y) l k e = absurd (omega (arith, number_is (suc y) (omega arith) k, e))
    number_apart (suc x) zero l k e = absurd (omega (arith, number_is (suc x) (omega arith) l, e))
    number_apart (suc x) (suc y) l k e =
        let own : List Name = own_names ns in
        let all : List Name = names_with S ns in
        let p : Name → Bool = same_name (get_or own (suc x - 1) []) in
        let q : Name → Bool = same_name (get_or own (suc y - 1) []) in
        let i : place p all ≡ place q all = omega (arith, number_is (suc x) (omega arith) l, number_is (suc y) (omega arith) k, e) in
        let f = place_below p all (own_there (suc x - 1) (omega arith)) in
        let g = place_below q all (own_there (suc y - 1) (omega arith)) in
        let same : get_or own (suc x - 1) [] ≡ get_or own (suc y - 1) [] =
        same_is (get_or own (suc x - 1) []) (get_or all (place p all) []) f.1 ∙ ap (λ (j : ℕ). get_or all j []) i
        ∙ sym (same_is (get_or own (suc y - 1) []) (get_or all (place q all) []) g.1) in
        let u : unlike same_name own ≡ true = names_apart_lem ns fit in
        omega (arith, place_own own u (suc x - 1) (omega arith), place_own own u (suc y - 1) (omega arith), ap (λ (z : Name). place (same_name z) own) same)

  -- the words of its sheet
  pub entry_word_lem : (s : Sheet) (i n r c : ℕ) → c < 8 → r < n → get_or (concat_map (entry_row S ns s) (from i n)) (8 * r + c) 0 ≡ get_or (entry_row S ns s (i + r)) c 0
  entry_word_lem s i zero r c l h = absurd (omega arith)
  entry_word_lem s i (suc n) zero c l h =
      let p : 8 * 0 + c ≡ c = omega arith in
      let q : i ≡ i + 0 = omega arith in
      ap (λ (j : ℕ). get_or (entry_row S ns s i ++ concat_map (entry_row S ns s) (from (suc i) n)) j 0) p
      ∙ get_or-append (entry_row S ns s i) (concat_map (entry_row S ns s) (from (suc i) n)) 0 c l
      ∙ ap (λ (j : ℕ). get_or (entry_row S ns s j) c 0) q
  entry_word_lem s i (suc n) (suc r) c l h =
      let q : suc i + r ≡ i + suc r = omega arith in
      word_past _ _ _ _ _ _ _ _ (concat_map (entry_row S ns s) (from (suc i) n)) r c
      ∙ entry_word_lem s (suc i) n r c l (omega arith) ∙ ap (λ (j : ℕ). get_or (entry_row S ns s j) c 0) q

  pub entry_size : (s : Sheet) (i n : ℕ) → length (concat_map (entry_row S ns s) (from i n)) ≡ 8 * n
  entry_size s i zero = omega arith
  entry_size s i (suc n) = omega (arith, entry_size s (suc i) n)

  -- Renamed, as the laws on such sheets ask for it.
  pub entry_renamed : (s : Sheet) → rows_fit s ≡ true → names_fit ns ≡ true → Renamed (to_session S ns) (name_count ns) (length (names_with S ns)) s (entry_sheet S ns s)
  entry_renamed s w f =
      record {
        whole = whole_rows s w;
        size = size;
        kinds = λ r. same r 0 (omega arith) refl;
        nexts = λ r. same r 1 (omega arith) refl;
        childs = λ r. same r 2 (omega arith) refl;
        files = λ r. same r 3 (omega arith) refl;
        as_are = λ r. named r 6 (omega arith) (λ k. holds_name (shape_of k).a) refl refl;
        bs_are = λ r. named r 7 (omega arith) (λ k. holds_name (shape_of k).b) refl refl;
        none = refl;
        some = λ x l h. number_some x l (omega (arith, names_counted, h));
        apart = λ x y l h. number_apart f x y (omega (arith, names_counted, l)) (omega (arith, names_counted, h));
      }
    where
      t : Sheet
      t = entry_sheet S ns s

      long : length t ≡ 8 * rows s
      long = entry_size s 0 (rows s)

      size : rows t ≡ rows s
      size = omega (arith, long)

      names_counted : length (own_names ns) ≡ name_count ns
      names_counted = length-append fixed (listed ns)

      -- past the rows both sheets are 0
      word_is : (r c : ℕ) → c < 8 → (word t r c ≡ get_or (entry_row S ns s r) c 0) ⊎ ((word t r c ≡ 0) × (rows s ≤ r))
      word_is r c l = go (ltb r (rows s)) refl
        where
          go : (u : Bool) → ltb r (rows s) ≡ u → (word t r c ≡ get_or (entry_row S ns s r) c 0) ⊎ ((word t r c ≡ 0) × (rows s ≤ r))
          go true q = inl (entry_word_lem s 0 (rows s) r c l (ltb-true r (rows s) q) ∙ ap (λ (j : ℕ). get_or (entry_row S ns s j) c 0) (zero-add r))
          go false q = let h : rows s ≤ r = ltb-false r (rows s) q in inr (get_or-eq_default t 0 (omega (arith, long, h)), h)

      past : (r c : ℕ) → c < 8 → rows s ≤ r → word s r c ≡ 0
      past r c l h = get_or-eq_default s 0 (omega (arith, whole_rows s w, h))

      same : (r c : ℕ) → c < 8 → get_or (entry_row S ns s r) c 0 ≡ word s r c → word t r c ≡ word s r c
      same r c l q = go (word_is r c l)
        where
          go : (word t r c ≡ get_or (entry_row S ns s r) c 0) ⊎ ((word t r c ≡ 0) × (rows s ≤ r)) → word t r c ≡ word s r c
          go (inl h) = h ∙ q
          go (inr h) = h.0 ∙ sym (past r c l h.1)

      -- a column that may hold a name; the header's do not
      named : (r c : ℕ) → c < 8 → (f : ℕ → Bool) → f 0 ≡ false
          → get_or (entry_row S ns s r) c 0 ≡ (when f (kind s r) then to_session S ns (word s r c) else word s r c)
          → word t r c ≡ (when f (kind s r) then to_session S ns (word s r c) else word s r c)
      named r c l f z q = go (word_is r c l)
        where
          go : (word t r c ≡ get_or (entry_row S ns s r) c 0) ⊎ ((word t r c ≡ 0) × (rows s ≤ r)) → word t r c ≡ (when f (kind s r) then to_session S ns (word s r c) else word s r c)
          go (inl h) = h ∙ q
          go (inr h) =
              h.0 ∙ sym (past r c l h.1)
              ∙ sym (ap (λ (k : ℕ). when f k then to_session S ns (word s r c) else word s r c) (past r 0 (omega arith) h.1)
              ∙ ap (λ (u : Bool). when u then to_session S ns (word s r c) else word s r c) z)

  -- and it passes question 1 as its own sheet does
  pub entry_whole : (s : Sheet) → rows_fit s ≡ true → rows_fit (entry_sheet S ns s) ≡ true
  entry_whole s w =
      let t : Sheet = entry_sheet S ns s in
      let long : length t ≡ 8 * rows s = entry_size s 0 (rows s) in
      let size : rows t ≡ rows s = omega (arith, long) in
      rw (eq-eqb (8 * rows t) (length t) (omega (arith, long, size)), le-leb 1 (rows t) (omega (arith, size, whole_some s w)), le-leb (rows t) 2048 (omega (arith, size, whole_few s w)))
