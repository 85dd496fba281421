-- The passes together ask question 3, and question 4 of the table that they fill.
use mathlib.Core.Path.{◌≡◌, refl, sym, ap, ◌∙◌, subst}
use mathlib.Core.Logic.{◌⊎◌, inl, inr}
use mathlib.Core.Bool.{Bool, true, false, not, ◌&&◌, ◌||◌}
use mathlib.Core.List.{List, [], ◌∷◌, Memᴰ as Mem}
use Prim.Native.Nat.{ℕ, zero, suc, ◌+◌, ◌*◌, ◌<◌, ◌≤◌}
use native.Mathlib.Omega.{arith}
use lib.Dec.{eqb, leb, ltb, T, T_not, not_T, eqb→eq, ltb→lt, leb→le}
use lib.ListN.{length, get_or}
use Rattle.definition.specs.Basics.{when◌then◌else◌, ◌⇒◌, all, count, from}
use Rattle.definition.specs.Sheet.{Sheet, word, kind, next, child, a, b, rows, kids, is, holder}
use Rattle.definition.specs.Shape.{holds, shape_of}
use Rattle.definition.specs.Format.{tables, at, parent, unit, function, class, depth_entry, parent_table, header_first}
use Rattle.definition.specs.Format.{main_marked, links_rise, link_rises, linked_once, links, columns_fit, file_fits}
use Rattle.definition.specs.Format.{constant_fits, children_fit, unit_apart, class_apart, unit_marked, unit_body, method_named}
use Rattle.definition.specs.Format.{literal_class, declared_once, declared_in_unit, declared_after, sheet_fits, depths_fit}
use Rattle.definition.proofs.Lists.Tests.{T_and, and_both, or_cases, or_left, or_right, decide, eqb_of, T-imp, T_true, ℕ-trichotomy}
use Rattle.definition.proofs.Lists.Counts.{all_below}
use Rattle.definition.proofs.Lists.Members.{mem_test}
use Rattle.definition.proofs.Format.Links.{LinkFacts, held, kid_bounds, parent_is, next_held, child_held, function_step, class_step}
use Rattle.definition.proofs.Format.Facts.{SheetFacts, RowFacts, sheet_facts, link_rises_lem, link_facts}
use Rattle.definition.proofs.Format.Passes.{all_of, sheet_fits_lem}
use Rattle.definition.proofs.Format.Tables.{table_length}
use Rattle.definition.proofs.Format.Tree.{class_declared, declared_once_lem}
use Rattle.row_fits.specs.Pass.{row_in, columns_ok, plain_ok, function_ok, ends_ok, new_ok, row_asked, row_ok}
use Rattle.row_fits.specs.Pass.{note_row, rows_ok, rows_noted, literal_ok, declaration_ok, class_ok, method_ok, cross_ok, depth_ok}
use Rattle.distinct.specs.Apart.{all_unmarked}
use Rattle.first_four.specs.Whole.{links_ok, rows_all}
use Rattle.first_four.proofs.Filling.{Entered, Listed, Reached, Below, Filled, filled_none, filled_more, linked_below, function_top, class_top}
use Rattle.first_four.proofs.Clauses.{imp_of, columns_are, plain_gives, gives_plain, function_gives, gives_function, ends_give, give_ends}
use Rattle.first_four.proofs.Declaring.{Declared, none, by, declared_none, declared_more, new_gives, gives_new, count_one}
use Rattle.first_four.proofs.Unlike.{Under, rows_give, give_rows}

-- the table after the first r rows
pub after : Sheet → List ℕ → ℕ → List ℕ
after s t zero = t
after s t (suc r) = note_row s r (after s t r)

noted_after : (s : Sheet) (t : List ℕ) (k r : ℕ) → rows_noted s k r (after s t r) ≡ after s t (k + r)
unfolding rows_noted after
noted_after s t zero r = let e : r ≡ 0 + r = omega arith in ap (after s t) e
noted_after s t (suc k) r = let e : k + suc r ≡ suc k + r = omega arith in noted_after s t k (suc r) ∙ ap (after s t) e

pub noted_whole : (s : Sheet) (t : List ℕ) (n : ℕ) → rows_noted s n 0 t ≡ after s t n
unfolding after
noted_whole s t n = let e : n + 0 ≡ n = omega arith in noted_after s t n 0 ∙ ap (after s t) e

rows_each : (s : Sheet) (last : ℕ) (t : List ℕ) (k r : ℕ) → T (rows_ok s last k r (after s t r)) → (i : ℕ) → r ≤ i → i < k + r → T (row_ok s last i (after s t i))
unfolding rows_ok after
rows_each s last t zero r h i p q = absurd (omega arith)
rows_each s last t (suc k) r h i p q = go (T_and (row_ok s last r (after s t r)) (rows_ok s last k (suc r) (after s t (suc r))) h) (ℕ-trichotomy r i) (rows_each s last t k (suc r))
  where
    go : T (row_ok s last r (after s t r)) × T (rows_ok s last k (suc r) (after s t (suc r))) → (r < i) ⊎ ((r ≡ i) ⊎ (i < r))
        → (T (rows_ok s last k (suc r) (after s t (suc r))) → (j : ℕ) → suc r ≤ j → j < k + suc r → T (row_ok s last j (after s t j))) → T (row_ok s last i (after s t i))
    go w (inl l) up = up w.1 i (omega arith) (omega arith)
    go w (inr (inl e)) up = subst (λ (x : ℕ). T (row_ok s last x (after s t x))) e w.0
    go w (inr (inr l)) up = absurd (omega arith)

each_rows : (s : Sheet) (last : ℕ) (t : List ℕ) (k r : ℕ) → ((i : ℕ) → r ≤ i → i < k + r → T (row_ok s last i (after s t i))) → T (rows_ok s last k r (after s t r))
unfolding rows_ok after
each_rows s last t zero r f = tt
each_rows s last t (suc k) r f =
    and_both (row_ok s last r (after s t r)) (rows_ok s last k (suc r) (after s t (suc r))) (f r (omega arith) (omega arith)) (each_rows s last t k (suc r) (λ i p q. f i (omega arith) (omega arith)))

-- What a sheet with links that are right says of the table.
module _ (s : Sheet) (t : List ℕ) (ok : LinkFacts s) (top : kind s 0 ≡ 0) (some : 0 < rows s) (few : rows s ≤ 2048) (long : 8 * rows s ≤ length t) (zeros : (k c : ℕ) → word t k c ≡ 0) where
  filled : (r : ℕ) → r ≤ rows s → Filled s r (after s t r)
  unfolding after
  filled zero h = filled_none s ok some few t long (zeros 0)
  filled (suc r) h = filled_more s ok some few r (after s t r) (filled r (omega arith)) (omega arith)

  abbrev F : List ℕ
  F = after s t (rows s)

  linked : (k : ℕ) → k < rows s → (k ≡ 0) ⊎ Below s (rows s) k
  linked k l = go (linked_below s ok some few k l)
    where
      go : (k ≡ 0) ⊎ Below s k k → (k ≡ 0) ⊎ Below s (rows s) k
      go (inl e) = inl e
      go (inr q) = inr (q.0, omega (arith, q.1), q.2)

  pub entered : (k : ℕ) → k < rows s → Entered s F k
  entered k l = (filled (rows s) (omega arith)).entered k l (linked k l)

  reached : (k : ℕ) → k < rows s → Reached s F k
  reached k l = (filled (rows s) (omega arith)).reached k l l

  -- at row r, before it
  here : (r : ℕ) → r < rows s → Entered s (after s t r) r
  here r l = (filled r (omega arith)).entered r l (linked_below s ok some few r l)

  list_here : (r : ℕ) → r < rows s → 0 < r → Listed s (after s t r) r
  list_here r l z = go (linked_below s ok some few r l)
    where
      go : (r ≡ 0) ⊎ Below s r r → Listed s (after s t r) r
      go (inl e) = absurd (omega arith)
      go (inr q) = (filled r (omega arith)).listed r z l q

  -- functions and classes of the table are rows
  function_low : (n k : ℕ) → k < n → k < rows s → function (tables s) k < rows s
  function_low zero k h l = absurd (omega arith)
  function_low (suc n) k h l = go (ℕ-trichotomy 0 k) (function_low n)
    where
      pick : (x : Bool) (p q : ℕ) → p < rows s → q < rows s → (when x then p else q) < rows s
      pick true p q u v = u
      pick false p q u v = v

      go : (0 < k) ⊎ ((0 ≡ k) ⊎ (k < 0)) → ((j : ℕ) → j < n → j < rows s → function (tables s) j < rows s) → function (tables s) k < rows s
      go (inl z) up =
          let q = held s ok k z l in
          let p : holder s k < rows s = omega (arith, q.1) in
          subst (λ (x : ℕ). x < rows s) (sym (function_step s ok k z l)) (pick (is s 6 (holder s k)) (holder s k) (function (tables s) (holder s k)) p (up (holder s k) (omega (arith, q.1)) p))
      go (inr (inl e)) up = subst (λ (x : ℕ). x < rows s) (sym (ap (function (tables s)) (sym e) ∙ function_top s ok some few)) some
      go (inr (inr e)) up = absurd (omega arith)

  class_low : (n k : ℕ) → k < n → k < rows s → (class (tables s) k ≡ 0) ⊎ ((class (tables s) k < rows s) × T (is s 4 (class (tables s) k)))
  class_low zero k h l = absurd (omega arith)
  class_low (suc n) k h l = go (ℕ-trichotomy 0 k) (class_low n)
    where
      Is : ℕ → Type 0
      Is c = (c ≡ 0) ⊎ ((c < rows s) × T (is s 4 c))

      pick : (x y : Bool) (p q : ℕ) → p < rows s → (T y → T (is s 4 p)) → (q ≡ 0) ⊎ ((q < rows s) × T (is s 4 q))
          → ((when x && y then p else q) ≡ 0)
          ⊎ (((when x && y then p else q) < rows s) × T (is s 4 (when x && y then p else q)))
      pick true true p q u f v = inr (u, f tt)
      pick true false p q u f v = v
      pick false y p q u f v = v

      go : (0 < k) ⊎ ((0 ≡ k) ⊎ (k < 0)) → ((j : ℕ) → j < n → j < rows s → (class (tables s) j ≡ 0) ⊎ ((class (tables s) j < rows s) × T (is s 4 (class (tables s) j))))
          → (class (tables s) k ≡ 0) ⊎ ((class (tables s) k < rows s) × T (is s 4 (class (tables s) k)))
      go (inl z) up =
          let q = held s ok k z l in
          let p : holder s k < rows s = omega (arith, q.1) in
          subst (λ (c : ℕ). (c ≡ 0) ⊎ ((c < rows s) × T (is s 4 c))) (sym (class_step s ok k z l))
          (pick (is s 6 k) (is s 4 (holder s k)) (holder s k) (class (tables s) (holder s k)) p (λ x. x) (up (holder s k) (omega (arith, q.1)) p))
      go (inr (inl e)) up = inl (ap (class (tables s)) (sym e) ∙ class_top s ok some few)
      go (inr (inr e)) up = absurd (omega arith)

  -- the rows that declare classes, where each row that declares one finds its word 7 zero
  decls : ((r : ℕ) → r < rows s → ((c : ℕ) → c < rows s → Declared s r (after s t r) c) → T (is s 30 r) → word (after s t r) (a s r) 7 ≡ 0)
      → (r : ℕ) → r ≤ rows s → (c : ℕ) → c < rows s → Declared s r (after s t r) c
  unfolding after
  decls new zero h c l = declared_none s top t (λ k. zeros k 7) c
  decls new (suc r) h c l =
      let before : (d : ℕ) → d < rows s → Declared s r (after s t r) d = decls new r (omega arith) in
      declared_more s top r (after s t r) c (omega (arith, (filled r (omega arith)).long))
      (λ k e. subst (λ (x : ℕ). word (after s t r) x 7 ≡ 0) e (new r (omega arith) before k)) (before c l)

  -- all lists fit if each fits where it ends
  children_all : ((r : ℕ) → r < rows s → (child s r ≡ 0 → T (children_fit s r)) × (0 < r → next s r ≡ 0 → T (children_fit s (holder s r)))) → (r : ℕ) → r < rows s → T (children_fit s r)
  children_all f r l = go (zero_or (child s r)) (ok.children r l)
    where
      zero_or : (x : ℕ) → (x ≡ 0) ⊎ (x ≡ 0 → ⊥)
      zero_or zero = inl refl
      zero_or (suc x) = inr (λ e. omega arith)

      positive : (x : ℕ) → (x ≡ 0 → ⊥) → 0 < x
      positive zero g = absurd (g refl)
      positive (suc x) g = omega arith

      -- along the list to its end
      along : (m k : ℕ) → rows s ≤ m + k → 0 < k → k < rows s → T (children_fit s (holder s k))
      along zero k h z b = absurd (omega arith)
      along (suc m) k h z b = step (zero_or (next s k)) (ok.nexts k b) (along m (next s k))
        where
          step : (next s k ≡ 0) ⊎ (next s k ≡ 0 → ⊥) → (next s k ≡ 0) ⊎ ((k < next s k) × (next s k < rows s))
              → (rows s ≤ m + next s k → 0 < next s k → next s k < rows s → T (children_fit s (holder s (next s k)))) → T (children_fit s (holder s k))
          step (inl e) q up = (f k b).1 z e
          step (inr y) (inl e) up = absurd (y e)
          step (inr y) (inr q) up = subst (λ (p : ℕ). T (children_fit s p)) (next_held s ok k z b (positive (next s k) y)) (up (omega (arith, q.0)) (positive (next s k) y) q.1)

      go : (child s r ≡ 0) ⊎ (child s r ≡ 0 → ⊥) → (child s r ≡ 0) ⊎ ((r < child s r) × (child s r < rows s)) → T (children_fit s r)
      go (inl e) q = (f r l).0 e
      go (inr z) (inl e) = absurd (z e)
      go (inr z) (inr q) = subst (λ (p : ℕ). T (children_fit s p)) (child_held s ok r l (positive (child s r) z)) (along (rows s) (child s r) (omega arith) (positive (child s r) z) q.1)

  -- columns of a row whose kind is known
  column_a : (last k r : ℕ) → T (columns_fit s last r) → T (is s k r) → T (holds s last (shape_of k).a (a s r))
  column_a last k r h e =
      subst (λ (x : ℕ). T (holds s last (shape_of x).a (a s r))) (eqb→eq (kind s r) k e) (T_and (holds s last (shape_of (kind s r)).a (a s r)) (holds s last (shape_of (kind s r)).b (b s r)) h).0

  class_row_lem : (last r : ℕ) → T (columns_fit s last r) → T (is s 30 r) → (a s r < rows s) × T (is s 4 (a s r))
  class_row_lem last r h e = let q = T_and (ltb (a s r) (rows s)) (is s 4 (a s r)) (column_a last 30 r h e) in (ltb→lt (a s r) (rows s) q.0, q.1)

  literal_row : (last r : ℕ) → T (columns_fit s last r) → T (is s 52 r) → (a s r ≡ 0 → ⊥) → a s r < rows s
  literal_row last r h e z = go (or_cases (eqb (a s r) 0) (ltb (a s r) (rows s) && is s 4 (a s r)) (column_a last 52 r h e))
    where
      go : T (eqb (a s r) 0) ⊎ T (ltb (a s r) (rows s) && is s 4 (a s r)) → a s r < rows s
      go (inl x) = absurd (z (eqb→eq (a s r) 0 x))
      go (inr x) = ltb→lt (a s r) (rows s) (T_and (ltb (a s r) (rows s)) (is s 4 (a s r)) x).0

  -- names are in the range of the marks
  name_low : (last r : ℕ) (v : ℕ) → T (leb 1 v && leb v last) → v ≤ last
  name_low last r v h = leb→le v last (T_and (leb 1 v) (leb v last) h).1

  ranges : (last : ℕ) → ((r : ℕ) → r < rows s → T (columns_fit s last r)) → (i : ℕ) → i < rows s → (j c : ℕ) → Mem c (kids s i) → T (is s j c)
      → (j ≡ 4) ⊎ ((j ≡ 7) ⊎ ((j ≡ 8) ⊎ ((j ≡ 10) ⊎ (j ≡ 6)))) → a s c ≤ last
  ranges last f i l j c m e w = go w
    where
      b : c < rows s
      b = (kid_bounds s ok i c l (mem_test c (kids s i) m)).1

      at_kind : (k : ℕ) → j ≡ k → T (holds s last (shape_of k).a (a s c))
      at_kind k q = column_a last k c (f c b) (subst (λ (x : ℕ). T (is s x c)) q e)

      function_name : T (eqb (a s c) 0) ⊎ T (leb 1 (a s c) && leb (a s c) last) → a s c ≤ last
      function_name (inl x) = omega (arith, eqb→eq (a s c) 0 x)
      function_name (inr x) = name_low last c (a s c) x

      go : (j ≡ 4) ⊎ ((j ≡ 7) ⊎ ((j ≡ 8) ⊎ ((j ≡ 10) ⊎ (j ≡ 6)))) → a s c ≤ last
      go (inl q) = name_low last c (a s c) (at_kind 4 q)
      go (inr (inl q)) = name_low last c (a s c) (at_kind 7 q)
      go (inr (inr (inl q))) = name_low last c (a s c) (at_kind 8 q)
      go (inr (inr (inr (inl q)))) = name_low last c (a s c) (at_kind 10 q)
      go (inr (inr (inr (inr q)))) = function_name (or_cases (eqb (a s c) 0) (leb 1 (a s c) && leb (a s c) last) (at_kind 6 q))

  -- The parts of what is asked of a row.
  record Parts (last r : ℕ) (u : List ℕ) : Type 0 where
    columns : T (columns_fit s last r)
    plain : T (file_fits s r) × T (constant_fits s r)
    functions : T (function_ok s (row_in s r) (word u r 0))
    ends : T (ends_ok (row_in s r) r (word u r 5))
    new : T (new_ok u (row_in s r))

  row_parts : (last r : ℕ) (u : List ℕ) → T (row_ok s last r u) → Parts last r u
  unfolding row_asked
  row_parts last r u h =
      let q1 = T_and (columns_ok s last (kind s r) (a s r) (b s r))
      (plain_ok s (row_in s r) && (function_ok s (row_in s r) (word u r 0) && (ends_ok (row_in s r) r (word u r 5) && new_ok u (row_in s r)))) h in
      let q2 = T_and (plain_ok s (row_in s r)) (function_ok s (row_in s r) (word u r 0) && (ends_ok (row_in s r) r (word u r 5) && new_ok u (row_in s r))) q1.1 in
      let q3 = T_and (function_ok s (row_in s r) (word u r 0)) (ends_ok (row_in s r) r (word u r 5) && new_ok u (row_in s r)) q2.1 in
      let q4 = T_and (ends_ok (row_in s r) r (word u r 5)) (new_ok u (row_in s r)) q3.1 in
      record { columns = subst T (columns_are s last r) q1.0; plain = plain_gives s r q2.0; functions = q3.0; ends = q4.0; new = q4.1 }

  parts_row : (last r : ℕ) (u : List ℕ) → Parts last r u → T (row_ok s last r u)
  unfolding row_asked
  parts_row last r u p =
      and_both (columns_ok s last (kind s r) (a s r) (b s r)) (plain_ok s (row_in s r) && (function_ok s (row_in s r) (word u r 0) && (ends_ok (row_in s r) r (word u r 5) && new_ok u (row_in s r))))
      (subst T (sym (columns_are s last r)) p.columns)
      (and_both (plain_ok s (row_in s r)) (function_ok s (row_in s r) (word u r 0) && (ends_ok (row_in s r) r (word u r 5) && new_ok u (row_in s r))) (gives_plain s r p.plain.0 p.plain.1)
      (and_both (function_ok s (row_in s r) (word u r 0)) (ends_ok (row_in s r) r (word u r 5) && new_ok u (row_in s r)) p.functions
      (and_both (ends_ok (row_in s r) r (word u r 5)) (new_ok u (row_in s r)) p.ends p.new)))

  record Crossed (r : ℕ) : Type 0 where
    literal : T (literal_ok s F r)
    declaration : T (declaration_ok s F r)
    classes : T (class_ok s F r)
    methods : T (method_ok F r)

  cross_parts : (r : ℕ) → T (cross_ok s F r) → Crossed r
  unfolding cross_ok
  cross_parts r h =
      let q1 = T_and (literal_ok s F r) (declaration_ok s F r && (class_ok s F r && method_ok F r)) h in
      let q2 = T_and (declaration_ok s F r) (class_ok s F r && method_ok F r) q1.1 in
      let q3 = T_and (class_ok s F r) (method_ok F r) q2.1 in
      record { literal = q1.0; declaration = q2.0; classes = q3.0; methods = q3.1 }

  parts_cross : (r : ℕ) → Crossed r → T (cross_ok s F r)
  unfolding cross_ok
  parts_cross r p =
      and_both (literal_ok s F r) (declaration_ok s F r && (class_ok s F r && method_ok F r)) p.literal
      (and_both (declaration_ok s F r) (class_ok s F r && method_ok F r) p.declaration (and_both (class_ok s F r) (method_ok F r) p.classes p.methods))

  -- a literal's class
  literal_gives : (last r : ℕ) → r < rows s → T (columns_fit s last r) → T (literal_ok s F r) → T (literal_class s (tables s) r)
  unfolding literal_ok
  literal_gives last r l h g =
      imp_of (is s 52 r && not (eqb (a s r) 0)) (eqb (unit (tables s) (a s r)) (unit (tables s) r)) (λ w. let q = T_and (is s 52 r) (not (eqb (a s r) 0)) w in
      go q (or_cases (not (is s 52 r)) (eqb (a s r) 0 || eqb (word F (a s r) 2) (word F r 2)) g))
    where
      last_of : T (is s 52 r) × T (not (eqb (a s r) 0)) → T (eqb (a s r) 0) ⊎ T (eqb (word F (a s r) 2) (word F r 2)) → T (eqb (unit (tables s) (a s r)) (unit (tables s) r))
      last_of q (inl x) = absurd (T_not (eqb (a s r) 0) q.1 x)
      last_of q (inr x) =
          eqb_of (unit (tables s) (a s r)) (unit (tables s) r)
          (sym (reached (a s r) (literal_row last r h q.0 (λ e. T_not (eqb (a s r) 0) q.1 (eqb_of (a s r) 0 e)))).of_unit_lem ∙ eqb→eq (word F (a s r) 2) (word F r 2) x ∙ (reached r l).of_unit_lem)

      go : T (is s 52 r) × T (not (eqb (a s r) 0)) → T (not (is s 52 r)) ⊎ T (eqb (a s r) 0 || eqb (word F (a s r) 2) (word F r 2)) → T (eqb (unit (tables s) (a s r)) (unit (tables s) r))
      go q (inl x) = absurd (T_not (is s 52 r) x q.0)
      go q (inr x) = last_of q (or_cases (eqb (a s r) 0) (eqb (word F (a s r) 2) (word F r 2)) x)

  gives_literal : (last r : ℕ) → r < rows s → T (columns_fit s last r) → T (literal_class s (tables s) r) → T (literal_ok s F r)
  unfolding literal_ok
  gives_literal last r l h g = go (decide (is s 52 r)) (decide (eqb (a s r) 0))
    where
      go : T (is s 52 r) ⊎ T (not (is s 52 r)) → T (eqb (a s r) 0) ⊎ T (not (eqb (a s r) 0)) → T (not (is s 52 r) || (eqb (a s r) 0 || eqb (word F (a s r) 2) (word F r 2)))
      go (inr x) y = or_left (not (is s 52 r)) (eqb (a s r) 0 || eqb (word F (a s r) 2) (word F r 2)) x
      go (inl x) (inl y) = or_right (not (is s 52 r)) (eqb (a s r) 0 || eqb (word F (a s r) 2) (word F r 2)) (or_left (eqb (a s r) 0) (eqb (word F (a s r) 2) (word F r 2)) y)
      go (inl x) (inr y) =
          let e : unit (tables s) (a s r) ≡ unit (tables s) r =
          eqb→eq _ _ (T-imp (is s 52 r && not (eqb (a s r) 0)) (eqb (unit (tables s) (a s r)) (unit (tables s) r)) g
          (and_both (is s 52 r) (not (eqb (a s r) 0)) x y)) in
          or_right (not (is s 52 r)) (eqb (a s r) 0 || eqb (word F (a s r) 2) (word F r 2)) (or_right (eqb (a s r) 0) (eqb (word F (a s r) 2) (word F r 2))
          (eqb_of (word F (a s r) 2) (word F r 2) ((reached (a s r) (literal_row last r h x (λ q. T_not (eqb (a s r) 0) y (eqb_of (a s r) 0 q)))).of_unit_lem ∙ e ∙ sym (reached r l).of_unit_lem)))

  -- the unit of a class declaration
  of_function : (r : ℕ) → r < rows s → word F (word F r 3) 0 ≡ parent (tables s) (function (tables s) r)
  of_function r l =
      let f : function (tables s) r < rows s = function_low (suc r) r (omega arith) l in
      ap (λ (x : ℕ). word F x 0) (entered r l).fun ∙ (entered (function (tables s) r) f).parent ∙ sym (parent_is s ok (function (tables s) r) f)

  of_class_lem : (c : ℕ) → c < rows s → word F c 0 ≡ parent (tables s) c
  of_class_lem c l = (entered c l).parent ∙ sym (parent_is s ok c l)

  declaration_gives : (last r : ℕ) → r < rows s → T (columns_fit s last r) → T (declaration_ok s F r) → T (declared_in_unit s (tables s) r)
  unfolding declaration_ok
  declaration_gives last r l h g =
      imp_of (is s 30 r) (eqb (parent (tables s) (function (tables s) r)) (parent (tables s) (a s r))) (λ w. go w (or_cases (not (is s 30 r)) (eqb (word F (word F r 3) 0) (word F (a s r) 0)) g))
    where
      go : T (is s 30 r) → T (not (is s 30 r)) ⊎ T (eqb (word F (word F r 3) 0) (word F (a s r) 0)) → T (eqb (parent (tables s) (function (tables s) r)) (parent (tables s) (a s r)))
      go w (inl x) = absurd (T_not (is s 30 r) x w)
      go w (inr x) = eqb_of _ _ (sym (of_function r l) ∙ eqb→eq (word F (word F r 3) 0) (word F (a s r) 0) x ∙ of_class_lem (a s r) (class_row_lem last r h w).0)

  gives_declaration : (last r : ℕ) → r < rows s → T (columns_fit s last r) → T (declared_in_unit s (tables s) r) → T (declaration_ok s F r)
  unfolding declaration_ok
  gives_declaration last r l h g = go (decide (is s 30 r))
    where
      go : T (is s 30 r) ⊎ T (not (is s 30 r)) → T (not (is s 30 r) || eqb (word F (word F r 3) 0) (word F (a s r) 0))
      go (inr x) = or_left (not (is s 30 r)) (eqb (word F (word F r 3) 0) (word F (a s r) 0)) x
      go (inl x) =
          or_right (not (is s 30 r)) (eqb (word F (word F r 3) 0) (word F (a s r) 0))
          (eqb_of (word F (word F r 3) 0) (word F (a s r) 0)
          (of_function r l ∙ eqb→eq _ _ (T-imp (is s 30 r) (eqb (parent (tables s) (function (tables s) r)) (parent (tables s) (a s r))) g x)
          ∙ sym (of_class_lem (a s r) (class_row_lem last r h x).0)))

  -- a class declaration in word 7 is the one of its class
  declared_word : (d : ℕ) → d < rows s → T (is s 30 d) → Declared s (rows s) F (a s d) → word F (a s d) 7 ≡ d
  declared_word d l k (none z g) = absurd (g d l k refl)
  declared_word d l k (by e h q w v u) = v ∙ sym (u d l k refl)

  module _ (last : ℕ) (m : List ℕ) (fresh : Under m 1) (wide : last < length m) where
    -- where all passes say yes, every clause holds
    module _ (heads : T (header_first s)) (main : T (main_marked s)) (rise : (r : ℕ) → r < rows s → T (links_rise s r)) (once : (r : ℕ) → r < rows s → T (linked_once (links s) r))
        (fitting : T (rows_ok s last (rows s) 0 t)) (apart : T (all_unmarked s (rows s) 0 m)) (crossed : T (all (cross_ok s F) (from 0 (rows s)))) where
      parts : (r : ℕ) → r < rows s → Parts last r (after s t r)
      unfolding after
      parts r l = row_parts last r (after s t r) (rows_each s last t (rows s) 0 fitting r (omega arith) (omega arith))

      cross : (r : ℕ) → r < rows s → Crossed r
      cross r l = cross_parts r (all_below (cross_ok s F) (rows s) crossed r l)

      declared : (c : ℕ) → c < rows s → Declared s (rows s) F c
      declared = decls (λ r l before k. new_gives s r (after s t r) (parts r l).new k) (rows s) (omega arith)

      children : (r : ℕ) → r < rows s → T (children_fit s r)
      children =
          children_all (λ r l. ends_give s ok top r l (word (after s t r) r 5) (λ z. (list_here r l z).low) (λ z. (list_here r l z).left) (parts r l).ends)

      functions : (r : ℕ) (l : r < rows s) → T (unit_marked s (tables s) r) × T (unit_body s (tables s) r) × T (method_named s (tables s) r)
      functions r l = function_gives s ok top r l (word (after s t r) r 0) (here r l).parent (parts r l).functions

      names : (r : ℕ) → r < rows s → T (unit_apart s r) × T (class_apart s r)
      names r l =
          rows_give s (rows s) 0 m (λ i. omega (arith, fresh i))
          (λ i p q j c n e w. omega (arith, ranges last (λ x y. (parts x y).columns) i (omega arith) j c n e w)) apart r
          (omega arith) (omega arith)

      one_declaration : (r : ℕ) → r < rows s → T (declared_once s r)
      unfolding class_ok
      one_declaration r l = imp_of (is s 4 r) (eqb (count (λ d. is s 30 d && eqb (a s d) r) (from 0 (rows s))) 1) (λ k. eqb_of _ 1 (go (declared r l) (word_set k)))
        where
          word_set : T (is s 4 r) → word F r 7 ≡ 0 → ⊥
          word_set k = pick (or_cases (not (is s 4 r)) (not (eqb (word F r 7) 0)) (cross r l).classes)
            where
              pick : T (not (is s 4 r)) ⊎ T (not (eqb (word F r 7) 0)) → word F r 7 ≡ 0 → ⊥
              pick (inl x) e = T_not (is s 4 r) x k
              pick (inr x) e = T_not (eqb (word F r 7) 0) x (eqb_of (word F r 7) 0 e)

          go : Declared s (rows s) F r → (word F r 7 ≡ 0 → ⊥) → count (λ d. is s 30 d && eqb (a s d) r) (from 0 (rows s)) ≡ 1
          go (none z g) f = absurd (f z)
          go (by d h k e v u) f =
              count_one (λ d. is s 30 d && eqb (a s d) r) (rows s) d h (and_both (is s 30 d) (eqb (a s d) r) k (eqb_of (a s d) r e))
              (λ x y w. let q = T_and (is s 30 x) (eqb (a s x) r) w in u x y q.0 (eqb→eq (a s x) r q.1))

      not_top : (c : ℕ) → T (is s 4 c) → c ≡ 0 → ⊥
      not_top c h e = let k : kind s c ≡ 4 = eqb→eq (kind s c) 4 h in let j : kind s c ≡ 0 = ap (kind s) e ∙ top in omega arith

      after_methods : (r : ℕ) → r < rows s → T (declared_after s (tables s) r)
      unfolding method_ok
      after_methods r l =
          imp_of (is s 30 r) (all (λ i. eqb (class (tables s) i) (a s r) ⇒ ltb i r) (from 0 (rows s)))
          (λ k. all_of (λ i. eqb (class (tables s) i) (a s r) ⇒ ltb i r) 0 (rows s)
          (λ i p q. imp_of (eqb (class (tables s) i) (a s r)) (ltb i r)
          (λ e. one k i (omega arith) (eqb→eq (class (tables s) i) (a s r) e))))
        where
          one : T (is s 30 r) → (i : ℕ) → i < rows s → class (tables s) i ≡ a s r → T (ltb i r)
          one k i h e = pick (or_cases (eqb (word F i 4) 0) (ltb i (word F (word F i 4) 7)) (cross i h).methods)
            where
              c : (a s r < rows s) × T (is s 4 (a s r))
              c = class_row_lem last r (parts r l).columns k

              its : word F i 4 ≡ a s r
              its = (reached i h).of_class_lem ∙ e

              pick : T (eqb (word F i 4) 0) ⊎ T (ltb i (word F (word F i 4) 7)) → T (ltb i r)
              pick (inl x) = absurd (not_top (a s r) c.1 (sym its ∙ eqb→eq (word F i 4) 0 x))
              pick (inr x) = subst (λ (y : ℕ). T (ltb i y)) (ap (λ (y : ℕ). word F y 7) its ∙ declared_word r l k (declared (a s r) c.0)) x

      pub all_clauses : SheetFacts last s
      all_clauses =
          record {
            header = heads;
            main = main;
            row = λ r l. record {
              rise = rise r l;
              once = once r l;
              children = children r l;
              columns = (parts r l).columns;
              files = (parts r l).plain.0;
              constant = (parts r l).plain.1;
              unit_apart_lem = (names r l).0;
              class_apart_lem = (names r l).1;
              marked = (functions r l).0;
              body = (functions r l).1;
              named = (functions r l).2;
              literal = literal_gives last r l (parts r l).columns (cross r l).literal;
              declared = one_declaration r l;
              in_unit = declaration_gives last r l (parts r l).columns (cross r l).declaration;
              after = after_methods r l;
            };
          }

    -- where every clause holds, all passes say yes
    module _ (facts : SheetFacts last s) where
      row : (r : ℕ) → r < rows s → RowFacts s (tables s) (links s) last r
      row r l = facts.row r l

      new : (r : ℕ) → r < rows s → ((c : ℕ) → c < rows s → Declared s r (after s t r) c) → T (is s 30 r) → word (after s t r) (a s r) 7 ≡ 0
      new r l before k = go (before (a s r) (class_row_lem last r (row r l).columns k).0)
        where
          go : Declared s r (after s t r) (a s r) → word (after s t r) (a s r) 7 ≡ 0
          go (none z g) = z
          go (by d h q e v u) = absurd (let w : d ≡ r = declared_once_lem last s facts d r (omega arith) l q k e in omega arith)

      declared_so : (r : ℕ) → r ≤ rows s → (c : ℕ) → c < rows s → Declared s r (after s t r) c
      declared_so = decls new

      holder_fits : (r : ℕ) → r < rows s → 0 < r → T (children_fit s (holder s r))
      holder_fits r l z = let q = held s ok r z l in (row (holder s r) (omega (arith, q.1))).children

      row_yes : (r : ℕ) → r < rows s → T (row_ok s last r (after s t r))
      row_yes r l =
          parts_row last r (after s t r) (record {
            columns = (row r l).columns;
            plain = ((row r l).files, (row r l).constant);
            functions = gives_function s ok top r l (word (after s t r) r 0) (here r l).parent ((row r l).marked, (row r l).body, (row r l).named);
            ends = give_ends s ok top r l (word (after s t r) r 5) (λ z. (list_here r l z).low) (λ z. (list_here r l z).left) (row r l).children (holder_fits r l);
            new = gives_new s r (after s t r) (new r l (declared_so r (omega arith)));
          })

      pub rows_yes : T (rows_ok s last (rows s) 0 t)
      unfolding after
      rows_yes = each_rows s last t (rows s) 0 (λ i p q. row_yes i (omega arith))

      pub names_yes : T (all_unmarked s (rows s) 0 m)
      names_yes = give_rows s (rows s) 0 m (λ i. omega (arith, fresh i)) (λ i p q. ((row i (omega arith)).unit_apart_lem, (row i (omega arith)).class_apart_lem))

      word_of : (c : ℕ) → c < rows s → T (is s 4 c) → (d : ℕ) × (d < rows s) × T (is s 30 d) × (a s d ≡ c) × (word F c 7 ≡ d)
      word_of c l k =
          let q = class_declared last s facts c l k in
          (q.0, q.1, q.2, q.3, ap (λ (x : ℕ). word F x 7) (sym q.3) ∙ declared_word q.0 q.1 q.2 (subst (Declared s (rows s) F) (sym q.3) (declared_so (rows s) (omega arith) c l)))

      class_yes : (r : ℕ) → r < rows s → T (class_ok s F r)
      unfolding class_ok
      class_yes r l = go (decide (is s 4 r))
        where
          go : T (is s 4 r) ⊎ T (not (is s 4 r)) → T (not (is s 4 r) || not (eqb (word F r 7) 0))
          go (inr x) = or_left (not (is s 4 r)) (not (eqb (word F r 7) 0)) x
          go (inl x) =
              let q = word_of r l x in
              or_right (not (is s 4 r)) (not (eqb (word F r 7) 0)) (not_T (eqb (word F r 7) 0) (λ y. let d : q.0 ≡ 0 = sym q.4 ∙ eqb→eq (word F r 7) 0 y in
              let k : kind s q.0 ≡ 30 = eqb→eq (kind s q.0) 30 q.2 in let j : kind s q.0 ≡ 0 = ap (kind s) d ∙ top in omega arith))

      method_yes : (r : ℕ) → r < rows s → T (method_ok F r)
      unfolding method_ok
      method_yes r l = go (class_low (suc r) r (omega arith) l)
        where
          go : (class (tables s) r ≡ 0) ⊎ ((class (tables s) r < rows s) × T (is s 4 (class (tables s) r))) → T (eqb (word F r 4) 0 || ltb r (word F (word F r 4) 7))
          go (inl e) = or_left (eqb (word F r 4) 0) (ltb r (word F (word F r 4) 7)) (eqb_of (word F r 4) 0 ((reached r l).of_class_lem ∙ e))
          go (inr w) =
              let q = word_of (class (tables s) r) w.0 w.1 in
              let e : word F (word F r 4) 7 ≡ q.0 = ap (λ (x : ℕ). word F x 7) (reached r l).of_class_lem ∙ q.4 in
              let h : T (ltb r q.0) = T-imp (eqb (class (tables s) r) (a s q.0)) (ltb r q.0)
              (all_below (λ i. eqb (class (tables s) i) (a s q.0) ⇒ ltb i q.0) (rows s)
              (T-imp (is s 30 q.0) _ (row q.0 q.1).after q.2) r l)
              (eqb_of (class (tables s) r) (a s q.0) (sym q.3)) in
              or_right (eqb (word F r 4) 0) (ltb r (word F (word F r 4) 7)) (subst (λ (x : ℕ). T (ltb r x)) (sym e) h)

      pub cross_yes : T (all (cross_ok s F) (from 0 (rows s)))
      cross_yes =
          all_of (cross_ok s F) 0 (rows s) (λ i p q. let l : i < rows s = omega arith in parts_cross i (record {
            literal = gives_literal last i l (row i l).columns (row i l).literal;
            declaration = gives_declaration last i l (row i l).columns (row i l).in_unit;
            classes = class_yes i l;
            methods = method_yes i l;
          }))

-- Question 3 as a whole.
abbrev Yes : ℕ → Sheet → List ℕ → List ℕ → Type 0
Yes last s t m = T (links_ok s) × T (rows_all s last t m)

module _ (last : ℕ) (s : Sheet) (t m : List ℕ) (some : 0 < rows s) (few : rows s ≤ 2048) (long : 8 * rows s ≤ length t) (zeros : (k c : ℕ) → word t k c ≡ 0)
    (fresh : Under m 1) (wide : last < length m) where
  record Links : Type 0 where
    heads : T (header_first s)
    main : T (main_marked s)
    rise : (r : ℕ) → r < rows s → T (links_rise s r)
    once : (r : ℕ) → r < rows s → T (linked_once (links s) r)

  links_of : T (links_ok s) → Links
  unfolding links_ok
  links_of h =
      let q1 = T_and (header_first s) (main_marked s && (all (links_rise s) (from 0 (rows s)) && all (linked_once (links s)) (from 0 (rows s)))) h in
      let q2 = T_and (main_marked s) (all (links_rise s) (from 0 (rows s)) && all (linked_once (links s)) (from 0 (rows s))) q1.1 in
      let q3 = T_and (all (links_rise s) (from 0 (rows s))) (all (linked_once (links s)) (from 0 (rows s))) q2.1 in
      record { heads = q1.0; main = q2.0; rise = all_below (links_rise s) (rows s) q3.0; once = all_below (linked_once (links s)) (rows s) q3.1 }

  of_links : SheetFacts last s → T (links_ok s)
  unfolding links_ok
  of_links f =
      and_both (header_first s) (main_marked s && (all (links_rise s) (from 0 (rows s)) && all (linked_once (links s)) (from 0 (rows s)))) f.header
      (and_both (main_marked s) (all (links_rise s) (from 0 (rows s)) && all (linked_once (links s)) (from 0 (rows s))) f.main
      (and_both (all (links_rise s) (from 0 (rows s))) (all (linked_once (links s)) (from 0 (rows s)))
      (all_of (links_rise s) 0 (rows s) (λ i p q. (f.row i (omega arith)).rise)) (all_of (linked_once (links s)) 0 (rows s) (λ i p q. (f.row i (omega arith)).once))))

  -- what links that are right say
  right : Links → LinkFacts s
  right q =
      record {
        header_next = eqb→eq (next s 0) 0 (T_and (is s 0 0) (eqb (next s 0) 0) q.heads).1;
        nexts = λ r l. link_rises_lem s r (next s r) (T_and (link_rises s r (next s r)) (link_rises s r (child s r)) (q.rise r l)).0;
        children = λ r l. link_rises_lem s r (child s r) (T_and (link_rises s r (next s r)) (link_rises s r (child s r)) (q.rise r l)).1;
        once = λ r z l. pick r z (or_cases (eqb r 0) (eqb (count (eqb r) (links s)) 1) (q.once r l));
      }
    where
      pick : (r : ℕ) → 0 < r → T (eqb r 0) ⊎ T (eqb (count (eqb r) (links s)) 1) → count (eqb r) (links s) ≡ 1
      pick r z (inl x) = absurd (omega (arith, eqb→eq r 0 x))
      pick r z (inr x) = eqb→eq (count (eqb r) (links s)) 1 x

  top_of : Links → kind s 0 ≡ 0
  top_of q = eqb→eq (kind s 0) 0 (T_and (is s 0 0) (eqb (next s 0) 0) q.heads).0

  -- the facts that the walks over child lists need
  pub links_right : T (links_ok s) → LinkFacts s
  links_right h = right (links_of h)

  asked_fits : Yes last s t m → SheetFacts last s
  unfolding rows_all
  asked_fits h =
      let q : Links = links_of h.0 in
      let q1 = T_and (rows_ok s last (rows s) 0 t) (all_unmarked s (rows s) 0 m && all (cross_ok s (rows_noted s (rows s) 0 t)) (from 0 (rows s))) h.1 in
      let q2 = T_and (all_unmarked s (rows s) 0 m) (all (cross_ok s (rows_noted s (rows s) 0 t)) (from 0 (rows s))) q1.1 in
      all_clauses s t (right q) (top_of q) some few long zeros last m fresh wide q.heads q.main q.rise q.once q1.0 q2.0
      (subst (λ (u : List ℕ). T (all (cross_ok s u) (from 0 (rows s)))) (noted_whole s t (rows s)) q2.1)

  fits_asked : SheetFacts last s → Yes last s t m
  unfolding rows_all
  fits_asked f =
      let ok : LinkFacts s = link_facts last s f in
      let top : kind s 0 ≡ 0 = eqb→eq (kind s 0) 0 (T_and (is s 0 0) (eqb (next s 0) 0) f.header).0 in (
        of_links f,
        and_both (rows_ok s last (rows s) 0 t) (all_unmarked s (rows s) 0 m && all (cross_ok s (rows_noted s (rows s) 0 t)) (from 0 (rows s)))
            (rows_yes s t ok top some few long zeros last m fresh wide f)
            (and_both (all_unmarked s (rows s) 0 m) (all (cross_ok s (rows_noted s (rows s) 0 t)) (from 0 (rows s))) (names_yes s t ok top some few long zeros last m fresh wide f)
            (subst (λ (u : List ℕ). T (all (cross_ok s u) (from 0 (rows s)))) (sym (noted_whole s t (rows s))) (cross_yes s t ok top some few long zeros last m fresh wide f))),
      )

  same_test : (x y : Bool) → (T x → T y) → (T y → T x) → x ≡ y
  same_test true true f g = refl
  same_test true false f g = absurd (f tt)
  same_test false true f g = absurd (g tt)
  same_test false false f g = refl

  pub question_3 : (links_ok s && rows_all s last t m) ≡ sheet_fits last s
  question_3 =
      same_test (links_ok s && rows_all s last t m) (sheet_fits last s) (λ h. T_true (sheet_fits last s) (sheet_fits_lem last s (asked_fits (T_and (links_ok s) (rows_all s last t m) h))))
      (λ h. let q = fits_asked (sheet_facts last s h) in and_both (links_ok s) (rows_all s last t m) q.0 q.1)

  -- question 4, of a sheet that fits
  all_places : (p : ℕ → Bool) (xs : List ℕ) → ((i : ℕ) → i < length xs → T (p (get_or xs i 0))) → T (all p xs)
  all_places p [] f = tt
  all_places p (x ∷ xs) f = and_both (p x) (all p xs) (f 0 (omega arith)) (all_places p xs (λ i h. f (suc i) (omega arith)))

  places_all : (p : ℕ → Bool) (xs : List ℕ) → T (all p xs) → (i : ℕ) → i < length xs → T (p (get_or xs i 0))
  places_all p [] h i l = absurd (omega arith)
  places_all p (x ∷ xs) h zero l = (T_and (p x) (all p xs) h).0
  places_all p (x ∷ xs) h (suc i) l = places_all p xs (T_and (p x) (all p xs) h).1 i (omega arith)

  depths_long : length (tables s).depths ≡ rows s
  depths_long = table_length (depth_entry (parent_table s)) (rows s)

  pub question_4 : sheet_fits last s ≡ true → all (depth_ok (rows_noted s (rows s) 0 t)) (from 0 (rows s)) ≡ depths_fit s
  unfolding depth_ok
  question_4 h =
      let f : SheetFacts last s = sheet_facts last s (T_true (sheet_fits last s) h) in
      let ok : LinkFacts s = link_facts last s f in
      let top : kind s 0 ≡ 0 = eqb→eq (kind s 0) 0 (T_and (is s 0 0) (eqb (next s 0) 0) f.header).0 in
      let e : (i : ℕ) → i < rows s → word (rows_noted s (rows s) 0 t) i 1 ≡ at (tables s).depths i =
      λ i l. ap (λ (u : List ℕ). word u i 1) (noted_whole s t (rows s))
      ∙ (entered s t ok top some few long zeros i l).depth in
      same_test (all (depth_ok (rows_noted s (rows s) 0 t)) (from 0 (rows s))) (depths_fit s)
      (λ g. all_places (λ d. leb d 64) (tables s).depths
      (λ i l. let b : i < rows s = omega (arith, depths_long) in
      subst (λ (d : ℕ). T (leb d 64)) (e i b) (all_below (depth_ok (rows_noted s (rows s) 0 t)) (rows s) g i b)))
      (λ g. all_of (depth_ok (rows_noted s (rows s) 0 t)) 0 (rows s)
      (λ i p q. let b : i < rows s = omega arith in
      subst (λ (d : ℕ). T (leb d 64)) (sym (e i b))
      (places_all (λ d. leb d 64) (tables s).depths g i (omega (arith, depths_long)))))
