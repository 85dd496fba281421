-- The entry's sheet word by word: which columns hold names, and what is told of a number.
use mathlib.Core.Path.{◌≡◌, refl, sym, ap, ◌∙◌}
use mathlib.Core.Logic.{◌⊎◌, inl, inr}
use mathlib.Core.Bool.{Bool, true, false, not, ◌&&◌, ◌||◌}
use mathlib.Core.List.{List, [], ◌++◌, map}
use Prim.Native.Nat.{ℕ, zero, suc, ◌+◌, ◌-◌, ◌*◌, ◌/◌, ◌%◌, ◌<◌, ◌≤◌}
use native.Mathlib.Omega.{arith}
use lib.ListN.{length, get_or, set, length-append, length-map, get_or-append, get_or-eq_default}
use lib.Seq.{ext_get_or, get_or-set_same, get_or-set_other}
use lib.Dec.{eqb, leb, ltb, T}
use borrow.Author.Tests.{lt-ltb, le-ltb, le-leb, lt-leb, ne_eqb}
use Rattle.definition.specs.Basics.{when◌then◌else◌, all, place, from, concat_map}
use Rattle.definition.specs.Names.{Name, fixed, listed, same_name}
use Rattle.definition.specs.Sheet.{Sheet, word, kind, rows}
use Rattle.definition.specs.Shape.{shape_of, nought}
use Rattle.definition.specs.Outcome.{rows_fit}
use Rattle.definition.proofs.Lists.Counts.{all_below}
use Rattle.definition.proofs.Format.Passes.{shape_beyond}
use Rattle.names.proofs.Laws.{side}
use Rattle.shapes.specs.States.{entry_of, kind_table, rule_at}
use Rattle.ast.specs.declared.kind.Kind.{Kind}
use Rattle.ast.specs.Kind.{kind_number}
use Rattle.shapes.proofs.TableLaws.{no_row, no_kind}
use Rattle.session.specs.Session.{Session}
use Rattle.session.specs.Entry.{own_names, new_names, names_with, renumbered, to_session, holds_name, entry_row, entry_sheet}
use Rattle.session.proofs.NameLaws.{same_itself, place_own}
use Rattle.session.proofs.RowLaws.{whole_rows}
use Rattle.session.proofs.SessionLaws.{from_length}
use Rattle.session.proofs.EntryLaws.{some_at, entry_word_lem, entry_size}
use Rattle.entry_names.specs.Told.{session_numbers, number_told, in_column, word_told}
use Rattle.entry_names.proofs.PlaceLaws.{place_left}

-- Two tests that are the same up to m, by one that is computed, and from m on.
alike : Bool → Bool → Bool
alike t u = when t then u else not u

alike_same : (t u : Bool) → T (alike t u) → t ≡ u
unfolding alike
alike_same true true h = refl
alike_same true false h = absurd h
alike_same false true h = absurd h
alike_same false false h = refl

by_table : (p q : ℕ → Bool) (m : ℕ) → T (all (λ k. alike (p k) (q k)) (from 0 m)) → ((k : ℕ) → m ≤ k → p k ≡ q k) → (k : ℕ) → p k ≡ q k
by_table p q m h beyond k = go (side k m)
  where
    go : (k < m) ⊎ (m ≤ k) → p k ≡ q k
    go (inl l) = alike_same (p k) (q k) (all_below (λ j. alike (p j) (q j)) m h k l)
    go (inr l) = beyond k l

-- the columns a and b of each kind
columns_a : T (all (λ k. alike (holds_name (rule_at (entry_of kind_table k 2))) (holds_name (shape_of k).a)) (from 0 60))
unfolding alike
columns_a = tt

columns_b : T (all (λ k. alike (holds_name (rule_at (entry_of kind_table k 3))) (holds_name (shape_of k).b)) (from 0 60))
unfolding alike
columns_b = tt

column_a : (k : ℕ) → holds_name (rule_at (entry_of kind_table k 2)) ≡ holds_name (shape_of k).a
column_a =
    by_table (λ k. holds_name (rule_at (entry_of kind_table k 2))) (λ k. holds_name (shape_of k).a) 60 columns_a
    (λ k h. ap (λ (i : ℕ). holds_name (rule_at i)) (no_row kind_table k 2 h) ∙ ap (λ x. holds_name x.a) (sym (shape_beyond k h)))

column_b : (k : ℕ) → holds_name (rule_at (entry_of kind_table k 3)) ≡ holds_name (shape_of k).b
column_b =
    by_table (λ k. holds_name (rule_at (entry_of kind_table k 3))) (λ k. holds_name (shape_of k).b) 60 columns_b
    (λ k h. ap (λ (i : ℕ). holds_name (rule_at i)) (no_row kind_table k 3 h) ∙ ap (λ x. holds_name x.b) (sym (shape_beyond k h)))

module _ (k c : ℕ) where
  pub in_a : {x : ℕ} {t : Bool} → c ≡ 6 → x ≡ entry_of kind_table k 2 → t ≡ holds_name (rule_at x) → t ≡ in_column k c
  in_a e f g = g ∙ ap (λ (i : ℕ). holds_name (rule_at i)) f ∙ column_a k ∙ sym (ap (in_column k) e)

  pub in_b : {x : ℕ} {t : Bool} → c ≡ 7 → x ≡ entry_of kind_table k 3 → t ≡ holds_name (rule_at x) → t ≡ in_column k c
  in_b e f g = g ∙ ap (λ (i : ℕ). holds_name (rule_at i)) f ∙ column_b k ∙ sym (ap (in_column k) e)

  pub in_none : (c ≡ 6 → ⊥) → (c ≡ 7 → ⊥) → false ≡ in_column k c
  in_none f g =
      sym (ap (λ (t : Bool). when t then holds_name (shape_of k).a else when eqb c 7 then holds_name (shape_of k).b else false) (ne_eqb c 6 f)
      ∙ ap (λ (t : Bool). when t then holds_name (shape_of k).b else false) (ne_eqb c 7 g))

-- a number that is no kind's
pub in_unknown : (k c : ℕ) → ((x : Kind) → k ≡ kind_number x → ⊥) → false ≡ in_column k c
in_unknown k c h =
    let na : false ≡ holds_name (shape_of k).a = ap (λ (i : ℕ). holds_name (rule_at i)) (sym (no_kind 2 tt k h)) ∙ column_a k in
    let nb : false ≡ holds_name (shape_of k).b = ap (λ (i : ℕ). holds_name (rule_at i)) (sym (no_kind 3 tt k h)) ∙ column_b k in
    rw (← na, ← nb) (go (eqb c 6) (eqb c 7))
  where
    go : (t u : Bool) → false ≡ (when t then false else when u then false else false)
    go true u = refl
    go false true = refl
    go false false = refl

-- What is told of a number: a fixed one stays,
module _ (w : List ℕ) (n : ℕ) where
  abbrev listed_told : ℕ
  listed_told = when ltb (n - 25) (length w) then get_or w (n - 25) 0 else n

  pub told_low : n < 25 → number_told w n ≡ n
  told_low h = ap (λ (t : Bool). when t then n else listed_told) (lt-ltb n 25 h)

  -- a listed one has its number among those lent, and any other stays
  pub told_there : 25 ≤ n → n - 25 < length w → number_told w n ≡ get_or w (n - 25) 0
  told_there h l =
      ap (λ (t : Bool). when t then n else listed_told) (le-ltb n 25 h) ∙ ap (λ (t : Bool). when t then get_or w (n - 25) 0 else n) (lt-ltb (n - 25) (length w) l)

  pub told_none : 25 ≤ n → length w ≤ n - 25 → number_told w n ≡ n
  told_none h l =
      ap (λ (t : Bool). when t then n else listed_told) (le-ltb n 25 h) ∙ ap (λ (t : Bool). when t then get_or w (n - 25) 0 else n) (le-ltb (n - 25) (length w) l)

-- word i, by the kind of its row
module _ (s w : List ℕ) (i : ℕ) {x k : ℕ} {t : Bool} (at : x ≡ get_or s i 0) (of : k ≡ get_or s (i - i % 8) 0) (by : t ≡ in_column k (i % 8)) where
  test : in_column (kind s (i / 8)) (i % 8) ≡ t
  test =
      let q : 8 * (i / 8) + 0 ≡ i - i % 8 = omega arith in
      ap (λ (j : ℕ). in_column (get_or s j 0) (i % 8)) q ∙ ap (λ (m : ℕ). in_column m (i % 8)) (sym of) ∙ sym by

  pub word_named : {r : ℕ} → t ≡ true → r ≡ number_told w x → r ≡ word_told s w i
  word_named e f = f ∙ ap (number_told w) at ∙ sym (ap (λ (u : Bool). when u then number_told w (get_or s i 0) else get_or s i 0) (test ∙ e))

  pub word_plain : t ≡ false → x ≡ word_told s w i
  word_plain e = at ∙ sym (ap (λ (u : Bool). when u then number_told w (get_or s i 0) else get_or s i 0) (test ∙ e))

-- a number that names something, and one past all
module _ (k l : List Name) (n : ℕ) where
  pub renumbered_is : 1 ≤ n → n ≤ length k → renumbered k l n ≡ suc (place (same_name (get_or k (n - 1) [])) l)
  renumbered_is h g =
      ap (λ (t : Bool). when t && leb n (length k) then suc (place (same_name (get_or k (n - 1) [])) l) else n) (le-leb 1 n h)
      ∙ ap (λ (t : Bool). when t then suc (place (same_name (get_or k (n - 1) [])) l) else n) (le-leb n (length k) g)

  pub renumbered_past : length k < n → renumbered k l n ≡ n
  renumbered_past h =
      ap (λ (t : Bool). when t && leb n (length k) then suc (place (same_name (get_or k (n - 1) [])) l) else n) (le-leb 1 n (omega arith))
      ∙ ap (λ (t : Bool). when t then suc (place (same_name (get_or k (n - 1) [])) l) else n) (lt-leb n (length k) h)

-- a fixed name has the same number in all lists that begin with the fixed ones
pub fixed_stays : (k l : List Name) (n : ℕ) → n < 25 → renumbered (fixed ++ k) (fixed ++ l) n ≡ n
fixed_stays k l zero h = refl
fixed_stays k l (suc i) h =
    let j : suc i - 1 ≡ i = omega arith in
    let x : Name = get_or fixed i [] in
    let here : i < length fixed = omega arith in
    let e : get_or (fixed ++ k) (suc i - 1) [] ≡ x = ap (λ (m : ℕ). get_or (fixed ++ k) m []) j ∙ get_or-append fixed k [] i here in
    renumbered_is (fixed ++ k) (fixed ++ l) (suc i) (omega arith) (omega (arith, length-append fixed k))
    ∙ ap (λ (y : Name). suc (place (same_name y) (fixed ++ l))) e
    ∙ ap suc (place_left (same_name x) fixed l (some_at (same_name x) fixed i here (same_itself x)) ∙ place_own fixed refl i here)

get_or_from : (f : ℕ → ℕ) (i m k : ℕ) → k < m → get_or (map f (from i m)) k 0 ≡ f (i + k)
get_or_from f i zero k h = absurd (omega arith)
get_or_from f i (suc m) zero h = let q : i ≡ i + 0 = omega arith in ap f q
get_or_from f i (suc m) (suc k) h = let q : suc i + k ≡ i + suc k = omega arith in get_or_from f (suc i) m k (omega arith) ∙ ap f q

module _ (S : Session) (ns w : List ℕ) (told : w ≡ session_numbers S ns) where
  pub numbers_length : length w ≡ length (listed ns)
  numbers_length = ap length told ∙ length-map (from 25 (length (listed ns))) (to_session S ns) ∙ from_length 25 (length (listed ns))

  pub numbers_at : (k : ℕ) → k < length (listed ns) → get_or w k 0 ≡ to_session S ns (25 + k)
  numbers_at k h = ap (λ (l : List ℕ). get_or l k 0) told ∙ get_or_from (to_session S ns) 25 (length (listed ns)) k h

  told_session : (n : ℕ) → number_told w n ≡ to_session S ns n
  told_session n = go (side n 25)
    where
      own : length (own_names ns) ≡ 24 + length (listed ns)
      own = length-append fixed (listed ns)

      by : 25 ≤ n → (n - 25 < length w) ⊎ (length w ≤ n - 25) → number_told w n ≡ to_session S ns n
      by h (inl l) =
          let q : 25 + (n - 25) ≡ n = omega arith in
          told_there w n h l ∙ numbers_at (n - 25) (omega (arith, l, numbers_length)) ∙ ap (to_session S ns) q
      by h (inr l) = told_none w n h l ∙ sym (renumbered_past (own_names ns) (names_with S ns) n (omega (arith, own, l, h, numbers_length)))

      go : (n < 25) ⊎ (25 ≤ n) → number_told w n ≡ to_session S ns n
      go (inl h) = told_low w n h ∙ sym (fixed_stays (listed ns) (concat_map (λ e. e.names) S.entries ++ new_names S ns) n h)
      go (inr h) = by h (side (n - 25) (length w))

  -- a row word by word
  row_word : (s : Sheet) (r c : ℕ) → c < 8 → get_or (entry_row S ns s r) c 0 ≡ (when in_column (kind s r) c then to_session S ns (word s r c) else word s r c)
  row_word s r zero h = refl
  row_word s r (suc zero) h = refl
  row_word s r (suc (suc zero)) h = refl
  row_word s r (suc (suc (suc zero))) h = refl
  row_word s r (suc (suc (suc (suc zero)))) h = refl
  row_word s r (suc (suc (suc (suc (suc zero))))) h = refl
  row_word s r (suc (suc (suc (suc (suc (suc zero)))))) h = refl
  row_word s r (suc (suc (suc (suc (suc (suc (suc zero))))))) h = refl
  row_word s r (suc (suc (suc (suc (suc (suc (suc (suc c)))))))) h = absurd (omega arith)

  sheet_word : (s : Sheet) → rows_fit s ≡ true → (i : ℕ) → i < length s → get_or (entry_sheet S ns s) i 0 ≡ word_told s w i
  sheet_word s fit i h =
      let r : ℕ = i / 8 in
      let c : ℕ = i % 8 in
      let q : 8 * r + c ≡ i = omega arith in
      let z : 0 + r ≡ r = omega arith in
      let v : word s r c ≡ get_or s i 0 = ap (λ (j : ℕ). get_or s j 0) q in
      ap (λ (j : ℕ). get_or (entry_sheet S ns s) j 0) (sym q)
      ∙ entry_word_lem S ns s 0 (rows s) r c (omega arith) (omega (arith, whole_rows s fit, h))
      ∙ ap (λ (j : ℕ). get_or (entry_row S ns s j) c 0) z ∙ row_word s r c (omega arith)
      ∙ ap (λ (x : ℕ). when in_column (kind s r) c then to_session S ns x else x) v
      ∙ ap (λ (x : ℕ). when in_column (kind s r) c then x else get_or s i 0) (sym (told_session (get_or s i 0)))

  -- words as many as the sheet has, each told so
  pub sheet_told : (s u : List ℕ) → rows_fit s ≡ true → length u ≡ length s → ((i : ℕ) → i < length s → get_or u i 0 ≡ word_told s w i) → u ≡ entry_sheet S ns s
  sheet_told s u fit e h =
      ext_get_or 0 u (entry_sheet S ns s) (omega (arith, e, whole_rows s fit, entry_size S ns s 0 (rows s)))
      (λ i l. h i (omega (arith, l, e)) ∙ sym (sheet_word s fit i (omega (arith, l, e))))

-- One word more is written.
pub word_written : (s w u : List ℕ) (i x : ℕ) → i < length u → x ≡ word_told s w i → ((j : ℕ) → j < i → get_or u j 0 ≡ word_told s w j)
    → (j : ℕ) → j < i + 1 → get_or (set u i x) j 0 ≡ word_told s w j
word_written s w u i x room e h j l = go (side j i)
  where
    go : (j < i) ⊎ (i ≤ j) → get_or (set u i x) j 0 ≡ word_told s w j
    go (inl b) = get_or-set_other u i j x 0 (λ q. absurd (omega (arith, q, b))) ∙ h j b
    go (inr b) =
        let q : j ≡ i = omega (arith, l, b) in
        ap (λ (k : ℕ). get_or (set u i x) k 0) q ∙ get_or-set_same u i x 0 room ∙ e ∙ ap (word_told s w) (sym q)
