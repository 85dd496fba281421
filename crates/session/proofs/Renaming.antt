-- A sheet whose names are numbered otherwise, no two alike, fits as it did: questions 3 and 4 ask of names only that they are there and unlike.
use mathlib.Core.Path.{◌≡◌, refl, sym, ap, ◌∙◌, subst, fun_ext}
use mathlib.Core.Logic.{◌⊎◌, inl, inr}
use mathlib.Core.Bool.{Bool, true, false, not, ◌&&◌, ◌||◌}
use mathlib.Core.List.Memᴰ.{head as here}
use mathlib.Core.List.Memᴰ.{tail as there}
use mathlib.Core.List.{List, [], ◌∷◌, ◌++◌, map, Memᴰ as Mem}
use Prim.Native.Nat.{ℕ, zero, suc, ◌+◌, ◌-◌, ◌*◌, ◌<◌, ◌≤◌}
use native.Mathlib.Omega.{arith}
use lib.ListN.{length, get_or, get_or-eq_default}
use lib.Dec.{eqb, leb, ltb, T, T_not, eqb→eq}
use borrow.Author.Tests.{le-leb, leb-true, ltb-true, ltb-false, not-true}
use Rattle.definition.specs.Basics.{when◌then◌else◌, ◌⇒◌, every, all, any, count, unlike, filter, first, from, bit, concat_map, ◌∈?◌}
use Rattle.definition.specs.Kind.{UNIT, CLASS, FUNCTION, FUNCTION_EXPORT, CONSTANT_EXPORT, FIELD, LET, CLASS_DECLARATION, LITERAL}
use Rattle.definition.specs.Sheet.{Sheet, kind, next, child, file, a, b, rows, chain, kids, is, kids_of, holder}
use Rattle.definition.specs.Shape.{Column, unread, up_to, name, row, global, mode, or_zero, holds, fits, one, only, shape_of}
use Rattle.definition.specs.Format.{Tables, table, at, depth_entry, unit_entry, function_entry, class_entry, tables_by, parent_table, tables, links}
use Rattle.definition.specs.Format.{header_first, main_marked, link_rises, links_rise, linked_once, children_fit, columns_fit, file_fits, constant_fits}
use Rattle.definition.specs.Format.{names_apart, unit_apart, class_apart, declared_once, parent, unit, function, class, of_unit, of_class}
use Rattle.definition.specs.Format.{unit_marked, unit_body, method_named, literal_class, declared_in_unit, declared_after, row_clauses, sheet_fits, depths_fit}
use Rattle.definition.proofs.Lists.Tests.{and_both, and_left, and_right, or_cases, or_left, or_right, eqb_of, decide, pick, T_true, true_of}
use Rattle.definition.proofs.Lists.Members.{filter_mem, map_mem, map_same, map_map}
use Rattle.definition.proofs.Lists.Counts.{all_below}
use Rattle.session.specs.Entry.{holds_name}

-- tests that all pass, one by one
pub data AllPass : List Bool → Type 0 where
  all_none : AllPass []
  all_some : (x : Bool) {xs : List Bool} → T x → AllPass xs → AllPass (x ∷ xs)

pub every_passes : {xs : List Bool} → AllPass xs → T (every xs)
every_passes all_none = tt
every_passes (all_some x {xs} h p) = and_both x (every xs) h (every_passes p)

pub all_from : (p : ℕ → Bool) (i k : ℕ) → ((r : ℕ) → r < i + k → T (p r)) → T (all p (from i k))
all_from p i zero h = tt
all_from p i (suc k) h = and_both (p i) (all p (from (suc i) k)) (h i (omega arith)) (all_from p (suc i) k (λ r l. h r (omega arith)))

-- Sheet t is sheet s with name number x told as ρ x, where s has n names and t m.
pub record Renamed (ρ : ℕ → ℕ) (n m : ℕ) (s t : Sheet) : Type 0 where
  pub whole : length s ≡ 8 * rows s
  pub size : rows t ≡ rows s
  pub kinds : (r : ℕ) → kind t r ≡ kind s r
  pub nexts : (r : ℕ) → next t r ≡ next s r
  pub childs : (r : ℕ) → child t r ≡ child s r
  pub files : (r : ℕ) → file t r ≡ file s r
  pub as_are : (r : ℕ) → a t r ≡ (when holds_name (shape_of (kind s r)).a then ρ (a s r) else a s r)
  pub bs_are : (r : ℕ) → b t r ≡ (when holds_name (shape_of (kind s r)).b then ρ (b s r) else b s r)
  -- no name stays none, names stay names, and no two become one
  pub none : ρ 0 ≡ 0
  pub some : (x : ℕ) → 1 ≤ x → x ≤ n → (1 ≤ ρ x) × (ρ x ≤ m)
  pub apart : (x y : ℕ) → x ≤ n → y ≤ n → ρ x ≡ ρ y → x ≡ y

module _ {ρ : ℕ → ℕ} {n m : ℕ} {s t : Sheet} (e : Renamed ρ n m s t) where
  pub is_same : (k r : ℕ) → is t k r ≡ is s k r
  is_same k r = ap (λ (j : ℕ). eqb j k) (e.kinds r)

  pub a_plain : (k r : ℕ) → kind s r ≡ k → holds_name (shape_of k).a ≡ false → a t r ≡ a s r
  a_plain k r q f = e.as_are r ∙ ap (λ (j : ℕ). when holds_name (shape_of j).a then ρ (a s r) else a s r) q ∙ ap (λ (u : Bool). when u then ρ (a s r) else a s r) f

  b_plain : (k r : ℕ) → kind s r ≡ k → holds_name (shape_of k).b ≡ false → b t r ≡ b s r
  b_plain k r q f = e.bs_are r ∙ ap (λ (j : ℕ). when holds_name (shape_of j).b then ρ (b s r) else b s r) q ∙ ap (λ (u : Bool). when u then ρ (b s r) else b s r) f

  a_named : (k r : ℕ) → kind s r ≡ k → holds_name (shape_of k).a ≡ true → a t r ≡ ρ (a s r)
  a_named k r q f = e.as_are r ∙ ap (λ (j : ℕ). when holds_name (shape_of j).a then ρ (a s r) else a s r) q ∙ ap (λ (u : Bool). when u then ρ (a s r) else a s r) f

  -- rows are linked alike
  chain_same : (i r : ℕ) → chain i t r ≡ chain i s r
  chain_same zero r = refl
  chain_same (suc i) zero = refl
  chain_same (suc i) (suc r) = ap (λ (l : List ℕ). suc r ∷ l) (ap (chain i t) (e.nexts (suc r)) ∙ chain_same i (next s (suc r)))

  pub kids_same : (r : ℕ) → kids t r ≡ kids s r
  kids_same r = ap (λ (i : ℕ). chain i t (child t r)) e.size ∙ ap (chain (rows s) t) (e.childs r) ∙ chain_same (rows s) (child s r)

  pub kids_of_same : (k r : ℕ) → kids_of t k r ≡ kids_of s k r
  kids_of_same k r = ap (λ (p : ℕ → Bool). filter p (kids t r)) (fun_ext (is_same k)) ∙ ap (filter (is s k)) (kids_same r)

  holder_same : (r : ℕ) → holder t r ≡ holder s r
  holder_same r =
      ap (λ (p : ℕ → Bool). first p 0 (from 0 (rows t))) (fun_ext (λ p. ap (λ (l : List ℕ). r ∈? l) (kids_same p)))
      ∙ ap (λ (i : ℕ). first (λ p. r ∈? kids s p) 0 (from 0 i)) e.size

  parents_same : parent_table t ≡ parent_table s
  parents_same = ap (λ (f : ℕ → ℕ). map f (from 0 (rows t))) (fun_ext holder_same) ∙ ap (λ (i : ℕ). map (holder s) (from 0 i)) e.size

  links_same : links t ≡ links s
  links_same =
      ap (λ (f : ℕ → List ℕ). concat_map f (from 0 (rows t)))
      (fun_ext (λ r. ap (λ (j : ℕ). j ∷ child t r ∷ []) (e.nexts r) ∙ ap (λ (j : ℕ). next s r ∷ j ∷ []) (e.childs r)))
      ∙ ap (λ (i : ℕ). concat_map (λ r. next s r ∷ child s r ∷ []) (from 0 i)) e.size

  module _ (up : List ℕ) where
    units_same : (u : List ℕ) (r : ℕ) → unit_entry t up u r ≡ unit_entry s up u r
    units_same u r = ap (λ (x : Bool). when x then r else at u (at up r)) (is_same UNIT r)

    functions_same : (u : List ℕ) (r : ℕ) → function_entry t up u r ≡ function_entry s up u r
    functions_same u r = ap (λ (x : Bool). when x then at up r else at u (at up r)) (is_same FUNCTION (at up r))

    classes_same : (u : List ℕ) (r : ℕ) → class_entry t up u r ≡ class_entry s up u r
    classes_same u r =
        ap (λ (x : Bool). when x && is t CLASS (at up r) then at up r else at u (at up r)) (is_same FUNCTION r)
        ∙ ap (λ (x : Bool). when is s FUNCTION r && x then at up r else at u (at up r)) (is_same CLASS (at up r))

    table_same : (f g : List ℕ → ℕ → ℕ) → ((u : List ℕ) (r : ℕ) → f u r ≡ g u r) → (i : ℕ) → table f i ≡ table g i
    table_same f g h zero = refl
    table_same f g h (suc i) =
        ap (λ (u : List ℕ). u ++ f u i ∷ []) (table_same f g h i) ∙ ap (λ (x : ℕ). table g i ++ x ∷ []) (h (table g i) i)

    tables_by_same : tables_by t up ≡ tables_by s up
    tables_by_same = λ i.
        record {
          parents = up;
          depths = table (depth_entry up) (e.size i);
          units = (ap (table (unit_entry t up)) e.size ∙ table_same (unit_entry t up) (unit_entry s up) units_same (rows s)) i;
          functions = (ap (table (function_entry t up)) e.size ∙ table_same (function_entry t up) (function_entry s up) functions_same (rows s)) i;
          classes = (ap (table (class_entry t up)) e.size ∙ table_same (class_entry t up) (class_entry s up) classes_same (rows s)) i;
        }

  tables_same : tables t ≡ tables s
  tables_same = ap (tables_by t) parents_same ∙ tables_by_same (parent_table s)

  pub depths_renamed : T (depths_fit s) → T (depths_fit t)
  depths_renamed h = subst (λ (x : Tables). T (all (λ d. leb d 64) x.depths)) (sym tables_same) h

  -- a row of a kind is one of the sheet's
  in_sheet : (k r : ℕ) → T (is s (suc k) r) → r < rows s
  in_sheet k r h = go (decide (ltb r (rows s)))
    where
      go : T (ltb r (rows s)) ⊎ T (not (ltb r (rows s))) → r < rows s
      go (inl l) = ltb-true r (rows s) (true_of (ltb r (rows s)) l)
      go (inr l) =
          let q : rows s ≤ r = ltb-false r (rows s) (not-true (ltb r (rows s)) (true_of (not (ltb r (rows s))) l)) in
          let z : kind s r ≡ 0 = get_or-eq_default s 0 (omega (arith, e.whole)) in
          absurd (omega (arith, eqb→eq (kind s r) (suc k) h, z))

  -- Clauses that do not ask about names are the same.
  links_rise_lem : (r : ℕ) → links_rise t r ≡ links_rise s r
  links_rise_lem r =
      ap (λ (j : ℕ). link_rises t r j && link_rises t r (child t r)) (e.nexts r)
      ∙ ap (λ (j : ℕ). link_rises t r (next s r) && link_rises t r j) (e.childs r)
      ∙ ap (λ (i : ℕ). (eqb (next s r) 0 || (ltb r (next s r) && ltb (next s r) i)) && (eqb (child s r) 0 || (ltb r (child s r) && ltb (child s r) i))) e.size

  kinds_of : (r : ℕ) → map (kind t) (kids t r) ≡ map (kind s) (kids s r)
  kinds_of r = ap (λ (f : ℕ → ℕ). map f (kids t r)) (fun_ext e.kinds) ∙ ap (map (kind s)) (kids_same r)

  children_fit_lem : (r : ℕ) → children_fit t r ≡ children_fit s r
  children_fit_lem r = ap (λ (k : ℕ). fits (shape_of k).children (map (kind t) (kids t r))) (e.kinds r) ∙ ap (fits (shape_of (kind s r)).children) (kinds_of r)

  -- a test that is read where another passes
  guarded : (x y z : Bool) → (T x → y ≡ z) → (x && y) ≡ (x && z)
  guarded true y z h = h tt
  guarded false y z h = refl

  guarded_imp : (x y z : Bool) → (T x → y ≡ z) → (x ⇒ y) ≡ (x ⇒ z)
  guarded_imp true y z h = h tt
  guarded_imp false y z h = refl

  b_of : (k r : ℕ) → holds_name (shape_of k).b ≡ false → T (is s k r) → b t r ≡ b s r
  b_of k r f h = b_plain k r (eqb→eq (kind s r) k h) f

  a_of : (k r : ℕ) → holds_name (shape_of k).a ≡ false → T (is s k r) → a t r ≡ a s r
  a_of k r f h = a_plain k r (eqb→eq (kind s r) k h) f

  constant_fits_lem : (r : ℕ) → constant_fits t r ≡ constant_fits s r
  constant_fits_lem r =
      ap (λ (x : Bool). x && leb 2 (b t r) ⇒ not (is t LITERAL (child t r))) (is_same LET r)
      ∙ ap (λ (x : Bool). x ⇒ not (is t LITERAL (child t r))) (guarded (is s LET r) (leb 2 (b t r)) (leb 2 (b s r)) (λ h. ap (leb 2) (b_of LET r refl h)))
      ∙ ap (λ (x : Bool). is s LET r && leb 2 (b s r) ⇒ not x) (is_same LITERAL (child t r) ∙ ap (is s LITERAL) (e.childs r))

  module _ (u : Tables) where
    of_unit_lem : (r : ℕ) → of_unit t u r ≡ of_unit s u r
    of_unit_lem r = ap (λ (x : Bool). x && is t UNIT (parent u r)) (is_same FUNCTION r) ∙ ap (λ (x : Bool). is s FUNCTION r && x) (is_same UNIT (parent u r))

    of_class_lem : (r : ℕ) → of_class t u r ≡ of_class s u r
    of_class_lem r = ap (λ (x : Bool). x && is t CLASS (parent u r)) (is_same FUNCTION r) ∙ ap (λ (x : Bool). is s FUNCTION r && x) (is_same CLASS (parent u r))

    unit_marked_lem : (r : ℕ) → unit_marked t u r ≡ unit_marked s u r
    unit_marked_lem r =
        ap (λ (x : Bool). x ⇒ eqb (b t r) (bit (of_unit t u r))) (is_same FUNCTION r)
        ∙ guarded_imp (is s FUNCTION r) (eqb (b t r) (bit (of_unit t u r))) (eqb (b s r) (bit (of_unit s u r)))
        (λ h. ap (λ (j : ℕ). eqb j (bit (of_unit t u r))) (b_of FUNCTION r refl h) ∙ ap (λ (x : Bool). eqb (b s r) (bit x)) (of_unit_lem r))

    unit_body_lem : (r : ℕ) → unit_body t u r ≡ unit_body s u r
    unit_body_lem r = ap (λ (x : Bool). x ⇒ fits (one (only 25) ∷ []) (map (kind t) (kids t r))) (of_unit_lem r) ∙ ap (λ (l : List ℕ). of_unit s u r ⇒ fits (one (only 25) ∷ []) l) (kinds_of r)

    literal_class_lem : (r : ℕ) → literal_class t u r ≡ literal_class s u r
    literal_class_lem r =
        ap (λ (x : Bool). x && not (eqb (a t r) 0) ⇒ eqb (unit u (a t r)) (unit u r)) (is_same LITERAL r)
        ∙ go (is s LITERAL r) (λ h. a_of LITERAL r refl h)
      where
        go : (x : Bool) → (T x → a t r ≡ a s r) → (x && not (eqb (a t r) 0) ⇒ eqb (unit u (a t r)) (unit u r)) ≡ (x && not (eqb (a s r) 0) ⇒ eqb (unit u (a s r)) (unit u r))
        go true h = ap (λ (j : ℕ). not (eqb j 0) ⇒ eqb (unit u j) (unit u r)) (h tt)
        go false h = refl

    declared_in_unit_lem : (r : ℕ) → declared_in_unit t u r ≡ declared_in_unit s u r
    declared_in_unit_lem r =
        ap (λ (x : Bool). x ⇒ eqb (parent u (function u r)) (parent u (a t r))) (is_same CLASS_DECLARATION r)
        ∙ guarded_imp (is s CLASS_DECLARATION r) (eqb (parent u (function u r)) (parent u (a t r))) (eqb (parent u (function u r)) (parent u (a s r)))
        (λ h. ap (λ (j : ℕ). eqb (parent u (function u r)) (parent u j)) (a_of CLASS_DECLARATION r refl h))

    declared_after_lem : (r : ℕ) → declared_after t u r ≡ declared_after s u r
    declared_after_lem r =
        ap (λ (x : Bool). x ⇒ all (λ k. eqb (class u k) (a t r) ⇒ ltb k r) (from 0 (rows t))) (is_same CLASS_DECLARATION r)
        ∙ guarded_imp (is s CLASS_DECLARATION r) (all (λ k. eqb (class u k) (a t r) ⇒ ltb k r) (from 0 (rows t))) (all (λ k. eqb (class u k) (a s r) ⇒ ltb k r) (from 0 (rows s)))
        (λ h. ap (λ (j : ℕ). all (λ k. eqb (class u k) j ⇒ ltb k r) (from 0 (rows t))) (a_of CLASS_DECLARATION r refl h)
        ∙ ap (λ (i : ℕ). all (λ k. eqb (class u k) (a s r) ⇒ ltb k r) (from 0 i)) e.size)

  declared_once_lem : (r : ℕ) → declared_once t r ≡ declared_once s r
  declared_once_lem r =
      ap (λ (x : Bool). x ⇒ eqb (count (λ d. is t CLASS_DECLARATION d && eqb (a t d) r) (from 0 (rows t))) 1) (is_same CLASS r)
      ∙ ap (λ (p : ℕ → Bool). is s CLASS r ⇒ eqb (count p (from 0 (rows t))) 1) (fun_ext declares)
      ∙ ap (λ (i : ℕ). is s CLASS r ⇒ eqb (count (λ d. is s CLASS_DECLARATION d && eqb (a s d) r) (from 0 i)) 1) e.size
    where
      declares : (d : ℕ) → (is t CLASS_DECLARATION d && eqb (a t d) r) ≡ (is s CLASS_DECLARATION d && eqb (a s d) r)
      declares d =
          ap (λ (x : Bool). x && eqb (a t d) r) (is_same CLASS_DECLARATION d)
          ∙ guarded (is s CLASS_DECLARATION d) (eqb (a t d) r) (eqb (a s d) r) (λ h. ap (λ (j : ℕ). eqb j r) (a_of CLASS_DECLARATION d refl h))

  -- Clauses on names. n is the last name of s, m of t.
  module _ (header : T (is s 0 0)) where
    start_same : a t 0 ≡ a s 0
    start_same = a_of 0 0 refl header

    holds_renamed : (c : Column) (v : ℕ) → T (holds s n c v) → T (holds t m c (when holds_name c then ρ v else v))
    holds_renamed unread v h = tt
    holds_renamed (up_to k) v h = h
    holds_renamed name v h =
        let l : 1 ≤ v = leb-true 1 v (true_of (leb 1 v) (and_left (leb 1 v) (leb v n) h)) in
        let q : v ≤ n = leb-true v n (true_of (leb v n) (and_right (leb 1 v) (leb v n) h)) in
        let p = e.some v l q in
        and_both (leb 1 (ρ v)) (leb (ρ v) m) (T_true (leb 1 (ρ v)) (le-leb 1 (ρ v) p.0)) (T_true (leb (ρ v) m) (le-leb (ρ v) m p.1))
    holds_renamed (row k) v h = subst T (sym (ap (λ (i : ℕ). ltb v i && is t k v) e.size ∙ ap (λ (x : Bool). ltb v (rows s) && x) (is_same k v))) h
    holds_renamed global v h = subst (λ (i : ℕ). T (ltb v i)) (sym start_same) h
    holds_renamed mode v h = subst (λ (i : ℕ). T (leb v 1 || ltb (v - 2) i)) (sym start_same) h
    holds_renamed (or_zero c) v h = go (or_cases (eqb v 0) (holds s n c v) h) (holds_renamed c v)
      where
        v' : ℕ
        v' = when holds_name c then ρ v else v

        zero_stays : v ≡ 0 → v' ≡ 0
        zero_stays q = ap (λ (x : ℕ). when holds_name c then ρ x else x) q ∙ by (holds_name c)
          where
            by : (x : Bool) → (when x then ρ 0 else 0) ≡ 0
            by true = e.none
            by false = refl

        go : T (eqb v 0) ⊎ T (holds s n c v) → (T (holds s n c v) → T (holds t m c v')) → T (eqb v' 0 || holds t m c v')
        go (inl q) f = or_left (eqb v' 0) (holds t m c v') (eqb_of v' 0 (zero_stays (eqb→eq v 0 q)))
        go (inr q) f = or_right (eqb v' 0) (holds t m c v') (f q)

    columns_renamed : (r : ℕ) → T (columns_fit s n r) → T (columns_fit t m r)
    columns_renamed r h =
        let k : ℕ = kind s r in
        let ha : Bool = holds s n (shape_of k).a (a s r) in
        let hb : Bool = holds s n (shape_of k).b (b s r) in
        let x : T (holds t m (shape_of k).a (a t r)) =
        subst (λ (v : ℕ). T (holds t m (shape_of k).a v)) (sym (e.as_are r)) (holds_renamed (shape_of k).a (a s r) (and_left ha hb h)) in
        let y : T (holds t m (shape_of k).b (b t r)) =
        subst (λ (v : ℕ). T (holds t m (shape_of k).b v)) (sym (e.bs_are r)) (holds_renamed (shape_of k).b (b s r) (and_right ha hb h)) in
        subst (λ (j : ℕ). T (holds t m (shape_of j).a (a t r) && holds t m (shape_of j).b (b t r))) (sym (e.kinds r))
        (and_both (holds t m (shape_of k).a (a t r)) (holds t m (shape_of k).b (b t r)) x y)

  -- names that are unlike stay so
  none_renamed : (x : ℕ) (xs : List ℕ) → x ≤ n → ((y : ℕ) → Mem y xs → y ≤ n) → T (not (any (eqb x) xs)) → T (not (any (eqb (ρ x)) (map ρ xs)))
  none_renamed x [] l small h = tt
  none_renamed x (y ∷ xs) l small h = go (decide (eqb (ρ x) (ρ y))) (none_renamed x xs l (λ z q. small z (there q)))
    where
      neither : (p q : Bool) → T (not (p || q)) → T (not p) × T (not q)
      neither true q j = absurd j
      neither false q j = (tt, j)

      both_not : (p q : Bool) → T (not p) → T (not q) → T (not (p || q))
      both_not true q i j = absurd i
      both_not false q i j = j

      go : T (eqb (ρ x) (ρ y)) ⊎ T (not (eqb (ρ x) (ρ y))) → (T (not (any (eqb x) xs)) → T (not (any (eqb (ρ x)) (map ρ xs)))) → T (not (eqb (ρ x) (ρ y) || any (eqb (ρ x)) (map ρ xs)))
      go (inl q) f = absurd (T_not (eqb x y) (neither (eqb x y) (any (eqb x) xs) h).0 (eqb_of x y (e.apart x y l (small y (here refl)) (eqb→eq (ρ x) (ρ y) q))))
      go (inr q) f = both_not (eqb (ρ x) (ρ y)) (any (eqb (ρ x)) (map ρ xs)) q (f (neither (eqb x y) (any (eqb x) xs) h).1)

  unlike_renamed : (xs : List ℕ) → ((y : ℕ) → Mem y xs → y ≤ n) → T (unlike eqb xs) → T (unlike eqb (map ρ xs))
  unlike_renamed [] small h = tt
  unlike_renamed (x ∷ xs) small h =
      and_both (not (any (eqb (ρ x)) (map ρ xs))) (unlike eqb (map ρ xs))
      (none_renamed x xs (small x (here refl)) (λ y q. small y (there q)) (and_left (not (any (eqb x) xs)) (unlike eqb xs) h))
      (unlike_renamed xs (λ y q. small y (there q)) (and_right (not (any (eqb x) xs)) (unlike eqb xs) h))

  module _ (columns : (r : ℕ) → r < rows s → T (columns_fit s n r)) where
    -- a name in column a of a row of kind k is one of the names, or 0
    name_small : (k r : ℕ) → T (is s (suc k) r) → ((v : ℕ) → T (holds s n (shape_of (suc k)).a v) → v ≤ n) → a s r ≤ n
    name_small k r h f =
        f (a s r) (subst (λ (j : ℕ). T (holds s n (shape_of j).a (a s r))) (eqb→eq (kind s r) (suc k) h)
        (and_left (holds s n (shape_of (kind s r)).a (a s r)) (holds s n (shape_of (kind s r)).b (b s r)) (columns r (in_sheet k r h))))

    a_name : (v : ℕ) → T (holds s n name v) → v ≤ n
    a_name v h = leb-true v n (true_of (leb v n) (and_right (leb 1 v) (leb v n) h))

    name_or_none : (v : ℕ) → T (holds s n (or_zero name) v) → v ≤ n
    name_or_none v h = go (or_cases (eqb v 0) (holds s n name v) h)
      where
        go : T (eqb v 0) ⊎ T (holds s n name v) → v ≤ n
        go (inl q) = omega (arith, eqb→eq v 0 q)
        go (inr q) = a_name v q

    names_apart_lem : (k r : ℕ) → holds_name (shape_of (suc k)).a ≡ true → ((v : ℕ) → T (holds s n (shape_of (suc k)).a v) → v ≤ n)
        → T (names_apart s (suc k) r) → T (names_apart t (suc k) r)
    names_apart_lem k r f small h = subst (λ (l : List ℕ). T (unlike eqb l)) (sym names_are) (unlike_renamed (map (a s) (kids_of s (suc k) r)) below h)
      where
        names_are : map (a t) (kids_of t (suc k) r) ≡ map ρ (map (a s) (kids_of s (suc k) r))
        names_are =
            ap (map (a t)) (kids_of_same (suc k) r)
            ∙ map_same (a t) (λ j. ρ (a s j)) (kids_of s (suc k) r) (λ j q. a_named (suc k) j (eqb→eq (kind s j) (suc k) (filter_mem (is s (suc k)) j (kids s r) q).1) f)
            ∙ sym (map_map ρ (a s) (kids_of s (suc k) r))

        below : (y : ℕ) → Mem y (map (a s) (kids_of s (suc k) r)) → y ≤ n
        below y q =
            let x = map_mem (a s) y (kids_of s (suc k) r) q in
            subst (λ (j : ℕ). j ≤ n) (sym x.2) (name_small k x.0 (filter_mem (is s (suc k)) x.0 (kids s r) x.1).1 small)

    unit_apart_lem : (r : ℕ) → T (unit_apart s r) → T (unit_apart t r)
    unit_apart_lem r h = subst (λ (x : Bool). T (x ⇒ apart_t)) (sym (is_same UNIT r)) (go (is s UNIT r) h)
      where
        apart_t : Bool
        apart_t = names_apart t CLASS r && names_apart t FUNCTION_EXPORT r && names_apart t CONSTANT_EXPORT r

        go : (x : Bool) → T (x ⇒ names_apart s CLASS r && names_apart s FUNCTION_EXPORT r && names_apart s CONSTANT_EXPORT r) → T (x ⇒ apart_t)
        go false h = tt
        go true h =
            let cf = and_left (names_apart s CLASS r && names_apart s FUNCTION_EXPORT r) (names_apart s CONSTANT_EXPORT r) h in
            and_both (names_apart t CLASS r && names_apart t FUNCTION_EXPORT r) (names_apart t CONSTANT_EXPORT r)
            (and_both (names_apart t CLASS r) (names_apart t FUNCTION_EXPORT r)
            (names_apart_lem 3 r refl a_name (and_left (names_apart s CLASS r) (names_apart s FUNCTION_EXPORT r) cf))
            (names_apart_lem 6 r refl a_name (and_right (names_apart s CLASS r) (names_apart s FUNCTION_EXPORT r) cf)))
            (names_apart_lem 7 r refl a_name (and_right (names_apart s CLASS r && names_apart s FUNCTION_EXPORT r) (names_apart s CONSTANT_EXPORT r) h))

    class_apart_lem : (r : ℕ) → T (class_apart s r) → T (class_apart t r)
    class_apart_lem r h = subst (λ (x : Bool). T (x ⇒ names_apart t FIELD r && names_apart t FUNCTION r)) (sym (is_same CLASS r)) (go (is s CLASS r) h)
      where
        go : (x : Bool) → T (x ⇒ names_apart s FIELD r && names_apart s FUNCTION r) → T (x ⇒ names_apart t FIELD r && names_apart t FUNCTION r)
        go false h = tt
        go true h =
            and_both (names_apart t FIELD r) (names_apart t FUNCTION r)
            (names_apart_lem 9 r refl a_name (and_left (names_apart s FIELD r) (names_apart s FUNCTION r) h))
            (names_apart_lem 5 r refl name_or_none (and_right (names_apart s FIELD r) (names_apart s FUNCTION r) h))

    method_named_lem : (u : Tables) (r : ℕ) → T (method_named s u r) → T (method_named t u r)
    method_named_lem u r h = subst (λ (x : Bool). T (x ⇒ not (eqb (a t r) 0))) (sym (of_class_lem u r)) (go (is s FUNCTION r) (is s CLASS (parent u r)) refl h)
      where
        go : (x y : Bool) → is s FUNCTION r ≡ x → T (x && y ⇒ not (eqb (a s r) 0)) → T (x && y ⇒ not (eqb (a t r) 0))
        go false y q h = tt
        go true false q h = tt
        go true true q h = by (decide (eqb (a t r) 0))
          where
            f : T (is s FUNCTION r)
            f = T_true (is s FUNCTION r) q

            by : T (eqb (a t r) 0) ⊎ T (not (eqb (a t r) 0)) → T (not (eqb (a t r) 0))
            by (inr z) = z
            by (inl z) =
                let same : ρ (a s r) ≡ ρ 0 = sym (a_named FUNCTION r (eqb→eq (kind s r) FUNCTION f) refl) ∙ eqb→eq (a t r) 0 z ∙ sym e.none in
                absurd (T_not (eqb (a s r) 0) h (eqb_of (a s r) 0 (e.apart (a s r) 0 (name_small 5 r f name_or_none) (omega arith) same)))

  -- Question 3 of the whole sheet.
  pub sheet_renamed : 1 ≤ rows s → T (sheet_fits n s) → T (sheet_fits m t)
  sheet_renamed some_row h =
      and_both (header_first t && main_marked t) (all (λ r. every (row_clauses t (tables t) (links t) m r)) (from 0 (rows t)))
      (and_both (header_first t) (main_marked t) header_t main_t)
      (all_from (λ r. every (row_clauses t (tables t) (links t) m r)) 0 (rows t) (λ r l. row_t r (omega (arith, e.size))))
    where
      fitting : ℕ → Bool
      fitting r = every (row_clauses s (tables s) (links s) n r)

      front : T (header_first s && main_marked s)
      front = and_left (header_first s && main_marked s) (all fitting (from 0 (rows s))) h

      clauses : (r : ℕ) → r < rows s → T (fitting r)
      clauses r l = all_below fitting (rows s) (and_right (header_first s && main_marked s) (all fitting (from 0 (rows s))) h) r l

      clause : (r : ℕ) → r < rows s → (i : ℕ) → T (get_or (row_clauses s (tables s) (links s) n r) i true)
      clause r l i = pick (row_clauses s (tables s) (links s) n r) (clauses r l) i

      columns : (r : ℕ) → r < rows s → T (columns_fit s n r)
      columns r l = clause r l 3

      header : T (is s 0 0)
      header = and_left (is s 0 0) (eqb (next s 0) 0) (and_left (header_first s) (main_marked s) front)

      header_t : T (header_first t)
      header_t =
          subst T (sym (ap (λ (x : Bool). x && eqb (next t 0) 0) (is_same 0 0) ∙ ap (λ (j : ℕ). is s 0 0 && eqb j 0) (e.nexts 0)))
          (and_left (header_first s) (main_marked s) front)

      -- the main function is a function, so its b is no name
      main_t : T (main_marked t)
      main_t = subst (λ (j : ℕ). T (eqb j 0 || eqb (b t j) 1)) (sym (b_of 0 0 refl header)) (go (or_cases (eqb (b s 0) 0) (eqb (b s (b s 0)) 1) (and_right (header_first s) (main_marked s) front)))
        where
          held : T (eqb (b s 0) 0 || (ltb (b s 0) (rows s) && is s 6 (b s 0)))
          held =
              subst (λ (k : ℕ). T (holds s n (shape_of k).b (b s 0))) (eqb→eq (kind s 0) 0 header)
              (and_right (holds s n (shape_of (kind s 0)).a (a s 0)) (holds s n (shape_of (kind s 0)).b (b s 0)) (columns 0 (omega arith)))

          go : T (eqb (b s 0) 0) ⊎ T (eqb (b s (b s 0)) 1) → T (eqb (b s 0) 0 || eqb (b t (b s 0)) 1)
          go (inl z) = or_left (eqb (b s 0) 0) (eqb (b t (b s 0)) 1) z
          go (inr z) = by (or_cases (eqb (b s 0) 0) (ltb (b s 0) (rows s) && is s 6 (b s 0)) held)
            where
              by : T (eqb (b s 0) 0) ⊎ T (ltb (b s 0) (rows s) && is s 6 (b s 0)) → T (eqb (b s 0) 0 || eqb (b t (b s 0)) 1)
              by (inl z') = or_left (eqb (b s 0) 0) (eqb (b t (b s 0)) 1) z'
              by (inr q) =
                  or_right (eqb (b s 0) 0) (eqb (b t (b s 0)) 1)
                  (subst (λ (j : ℕ). T (eqb j 1)) (sym (b_of FUNCTION (b s 0) refl (and_right (ltb (b s 0) (rows s)) (is s 6 (b s 0)) q))) z)

      row_t : (r : ℕ) → r < rows s → T (every (row_clauses t (tables t) (links t) m r))
      row_t r l =
          subst (λ (u : Tables). T (every (row_clauses t u (links t) m r))) (sym tables_same)
          (subst (λ (ls : List ℕ). T (every (row_clauses t (tables s) ls m r))) (sym links_same)
          (every_passes
          (all_some (links_rise t r) (subst T (sym (links_rise_lem r)) (clause r l 0))
          (all_some (linked_once (links s) r) (clause r l 1)
          (all_some (children_fit t r) (subst T (sym (children_fit_lem r)) (clause r l 2))
          (all_some (columns_fit t m r) (columns_renamed header r (clause r l 3))
          (all_some (file_fits t r) (subst (λ (j : ℕ). T (ltb j 262144)) (sym (e.files r)) (clause r l 4))
          (all_some (constant_fits t r) (subst T (sym (constant_fits_lem r)) (clause r l 5))
          (all_some (unit_apart t r) (unit_apart_lem columns r (clause r l 6))
          (all_some (class_apart t r) (class_apart_lem columns r (clause r l 7))
          (all_some (unit_marked t (tables s) r) (subst T (sym (unit_marked_lem (tables s) r)) (clause r l 8))
          (all_some (unit_body t (tables s) r) (subst T (sym (unit_body_lem (tables s) r)) (clause r l 9))
          (all_some (method_named t (tables s) r) (method_named_lem columns (tables s) r (clause r l 10))
          (all_some (literal_class t (tables s) r) (subst T (sym (literal_class_lem (tables s) r)) (clause r l 11))
          (all_some (declared_once t r) (subst T (sym (declared_once_lem r)) (clause r l 12))
          (all_some (declared_in_unit t (tables s) r) (subst T (sym (declared_in_unit_lem (tables s) r)) (clause r l 13))
          (all_some (declared_after t (tables s) r) (subst T (sym (declared_after_lem (tables s) r)) (clause r l 14))
          all_none)))))))))))))))))
