-- What the pass asks of a row is what question 3 asks of it: columns, file, constant, functions, child lists.
use mathlib.Core.Path.{◌≡◌, refl, sym, ap, ◌∙◌, subst}
use mathlib.Core.Logic.{◌⊎◌, inl, inr}
use mathlib.Core.Bool.{Bool, true, false, not, ◌&&◌, ◌||◌}
use mathlib.Core.List.{List, [], ◌∷◌, map}
use Prim.Native.Nat.{ℕ, zero, suc, ◌<◌, ◌≤◌}
use native.Mathlib.Omega.{arith}
use lib.Dec.{eqb, leb, ltb, T, T_not, not_T, eqb→eq, ltb→lt, lt→ltb, leb→le, le→leb}
use Rattle.definition.specs.Basics.{when◌then◌else◌, ◌⇒◌, bit}
use Rattle.definition.specs.Sheet.{Sheet, kind, next, child, file, a, b, rows, chain, kids, is, holder}
use Rattle.definition.specs.Shape.{Column, holds, one, only, fits, rest, may_end, never, shape_of}
use Rattle.definition.specs.Format.{tables, parent, file_fits, constant_fits, columns_fit, children_fit, unit_marked, unit_body, method_named}
use Rattle.definition.proofs.Lists.Tests.{T_and, and_both, or_cases, or_left, or_right, decide, eqb_of, T-imp, kind_apart, ℕ-trichotomy}
use Rattle.definition.proofs.Format.Links.{LinkFacts, parent_is}
use Rattle.definition.proofs.Format.Passes.{chain_on}
use Rattle.shapes.specs.States.{entry_of, kind_table, state_at, rule_at}
use Rattle.row_fits.specs.Pass.{row_in, columns_ok, plain_ok, function_ok, state_after, ends_in, ends_ok}
use Rattle.first_four.proofs.StateLaws.{kind_is_lem, after_is, ends_is}
use Rattle.first_four.proofs.Filling.{left_fits}

pub imp_of : (x y : Bool) → (T x → T y) → T (x ⇒ y)
imp_of true y f = f tt
imp_of false y f = tt

pub columns_are : (s : Sheet) (last r : ℕ) → columns_ok s last (kind s r) (a s r) (b s r) ≡ columns_fit s last r
unfolding columns_ok
columns_are s last r =
    ap (λ (c : Column). holds s last c (a s r) && holds s last (rule_at (entry_of kind_table (kind s r) 3)) (b s r)) (kind_is_lem (kind s r)).rule_a
    ∙ ap (λ (c : Column). holds s last (shape_of (kind s r)).a (a s r) && holds s last c (b s r)) (kind_is_lem (kind s r)).rule_b

-- file and constant
below_two : (n : ℕ) → T (ltb n 2) → T (leb 2 n) → ⊥
below_two n h g = omega (arith, ltb→lt n 2 h, leb→le 2 n g)

pub plain_gives : (s : Sheet) (r : ℕ) → T (plain_ok s (row_in s r)) → T (file_fits s r) × T (constant_fits s r)
unfolding plain_ok
plain_gives s r h =
    let q = T_and (ltb (file s r) 262144) (not (is s 29 r) || (ltb (b s r) 2 || not (is s 52 (child s r)))) h in (
      q.0,
      imp_of (is s 29 r && leb 2 (b s r)) (not (is s 52 (child s r))) (λ g. let w = T_and (is s 29 r) (leb 2 (b s r)) g in
          go w (or_cases (not (is s 29 r)) (ltb (b s r) 2 || not (is s 52 (child s r))) q.1)),
    )
  where
    last : T (leb 2 (b s r)) → T (ltb (b s r) 2) ⊎ T (not (is s 52 (child s r))) → T (not (is s 52 (child s r)))
    last w (inl x) = absurd (below_two (b s r) x w)
    last w (inr x) = x

    go : T (is s 29 r) × T (leb 2 (b s r)) → T (not (is s 29 r)) ⊎ T (ltb (b s r) 2 || not (is s 52 (child s r))) → T (not (is s 52 (child s r)))
    go w (inl x) = absurd (T_not (is s 29 r) x w.0)
    go w (inr x) = last w.1 (or_cases (ltb (b s r) 2) (not (is s 52 (child s r))) x)

pub gives_plain : (s : Sheet) (r : ℕ) → T (file_fits s r) → T (constant_fits s r) → T (plain_ok s (row_in s r))
unfolding plain_ok
gives_plain s r f c = and_both (ltb (file s r) 262144) (not (is s 29 r) || (ltb (b s r) 2 || not (is s 52 (child s r)))) f (go (decide (is s 29 r)) (ℕ-trichotomy (b s r) 2))
  where
    high : 2 ≤ b s r → T (is s 29 r) → T (not (is s 29 r) || (ltb (b s r) 2 || not (is s 52 (child s r))))
    high h x =
        or_right (not (is s 29 r)) (ltb (b s r) 2 || not (is s 52 (child s r))) (or_right (ltb (b s r) 2) (not (is s 52 (child s r)))
        (T-imp (is s 29 r && leb 2 (b s r)) (not (is s 52 (child s r))) c (and_both (is s 29 r) (leb 2 (b s r)) x (le→leb 2 (b s r) h))))

    go : T (is s 29 r) ⊎ T (not (is s 29 r)) → (b s r < 2) ⊎ ((b s r ≡ 2) ⊎ (2 < b s r)) → T (not (is s 29 r) || (ltb (b s r) 2 || not (is s 52 (child s r))))
    go (inr x) w = or_left (not (is s 29 r)) (ltb (b s r) 2 || not (is s 52 (child s r))) x
    go (inl x) (inl h) = or_right (not (is s 29 r)) (ltb (b s r) 2 || not (is s 52 (child s r))) (or_left (ltb (b s r) 2) (not (is s 52 (child s r))) (lt→ltb (b s r) 2 h))
    go (inl x) (inr (inl e)) = high (omega arith) x
    go (inl x) (inr (inr h)) = high (omega arith) x

-- a list of one block
module _ (s : Sheet) (ok : LinkFacts s) (top : kind s 0 ≡ 0) (r : ℕ) (l : r < rows s) where
  abbrev block : Bool
  block = fits (one (only 25) ∷ []) (map (kind s) (kids s r))

  never_fits : (ks : List ℕ) → T (fits never ks) → ⊥
  never_fits [] h = h
  never_fits (k ∷ ks) h = never_fits ks h

  none_fits : (ks : List ℕ) → T (fits [] ks) → ks ≡ []
  none_fits [] h = refl
  none_fits (k ∷ ks) h = absurd (never_fits ks h)

  chain_none : (n : ℕ) → chain n s 0 ≡ []
  chain_none zero = refl
  chain_none (suc n) = refl

  positive : (x : ℕ) → (x ≡ 0 → ⊥) → 0 < x
  positive zero f = absurd (f refl)
  positive (suc x) f = omega arith

  zero_or : (x : ℕ) → (x ≡ 0) ⊎ (x ≡ 0 → ⊥)
  zero_or zero = inl refl
  zero_or (suc x) = inr (λ e. omega arith)

  in_range : (p x : ℕ) → (x ≡ 0) ⊎ ((p < x) × (x < rows s)) → (x ≡ 0 → ⊥) → x < rows s
  in_range p x (inl e) z = absurd (z e)
  in_range p x (inr q) z = q.1

  -- the kinds of a child list that is not empty
  list_of : (x : ℕ) → (x ≡ 0 → ⊥) → x < rows s → map (kind s) (chain (rows s) s x) ≡ kind s x ∷ map (kind s) (chain (rows s) s (next s x))
  list_of x z h = ap (map (kind s)) (chain_on s ok.nexts x (positive x z) h)

  pub block_gives : T block → T (eqb (kind s (child s r)) 25 && eqb (next s (child s r)) 0)
  block_gives h = go (zero_or (child s r))
    where
      c : ℕ
      c = child s r

      after : (t : Bool) → T (fits (when t then [] else never) (map (kind s) (chain (rows s) s (next s c)))) → T t × (map (kind s) (chain (rows s) s (next s c)) ≡ [])
      after true g = (tt, none_fits (map (kind s) (chain (rows s) s (next s c))) g)
      after false g = absurd (never_fits (map (kind s) (chain (rows s) s (next s c))) g)

      go : (c ≡ 0) ⊎ (c ≡ 0 → ⊥) → T (eqb (kind s c) 25 && eqb (next s c) 0)
      go (inl e) = absurd (subst (λ (xs : List ℕ). T (fits (one (only 25) ∷ []) (map (kind s) xs))) (ap (chain (rows s) s) e ∙ chain_none (rows s)) h)
      go (inr z) =
          let b : c < rows s = in_range r c (ok.children r l) z in
          let w = after (eqb (kind s c) 25 || false) (subst (λ (ks : List ℕ). T (fits (one (only 25) ∷ []) ks)) (list_of c z b) h) in
          and_both (eqb (kind s c) 25) (eqb (next s c) 0) (strip (eqb (kind s c) 25) w.0) (eqb_of (next s c) 0 (last (zero_or (next s c)) w.1))
        where
          strip : (t : Bool) → T (t || false) → T t
          strip true g = tt
          strip false g = g

          last : (next s c ≡ 0) ⊎ (next s c ≡ 0 → ⊥) → map (kind s) (chain (rows s) s (next s c)) ≡ [] → next s c ≡ 0
          last (inl e) g = e
          last (inr y) g =
              let q : kind s (next s c) ∷ map (kind s) (chain (rows s) s (next s (next s c))) ≡ [] =
              sym (list_of (next s c) y (in_range c (next s c) (ok.nexts c (in_range r c (ok.children r l) z)) y))
              ∙ g in
              let o : ◌≡◌ {A = ℕ} 0 1 = cc in
              absurd (omega arith)

  pub gives_block : T (eqb (kind s (child s r)) 25 && eqb (next s (child s r)) 0) → T block
  gives_block h = go (zero_or (child s r))
    where
      c : ℕ
      c = child s r

      q : T (eqb (kind s c) 25) × T (eqb (next s c) 0)
      q = T_and (eqb (kind s c) 25) (eqb (next s c) 0) h

      back : (t : Bool) (ks : List ℕ) → T t → ks ≡ [] → T (fits (when t || false then [] else never) ks)
      back true ks x e = subst (λ (k : List ℕ). T (fits [] k)) (sym e) tt
      back false ks x e = absurd x

      go : (c ≡ 0) ⊎ (c ≡ 0 → ⊥) → T block
      go (inl e) = absurd (let w : kind s c ≡ 25 = eqb→eq (kind s c) 25 q.0 in let y : kind s c ≡ 0 = ap (kind s) e ∙ top in omega arith)
      go (inr z) =
          subst (λ (ks : List ℕ). T (fits (one (only 25) ∷ []) ks)) (sym (list_of c z (in_range r c (ok.children r l) z)))
          (back (eqb (kind s c) 25) _ q.0 (ap (map (kind s)) (ap (chain (rows s) s) (eqb→eq (next s c) 0 q.1) ∙ chain_none (rows s))))

  -- functions: p is the parent that the table has
  module _ (p : ℕ) (here : p ≡ holder s r) where
    two : is s 2 (parent (tables s) r) ≡ is s 2 p
    two = ap (is s 2) (parent_is s ok r l ∙ sym here)

    four : is s 4 (parent (tables s) r) ≡ is s 4 p
    four = ap (is s 4) (parent_is s ok r l ∙ sym here)

    abbrev Functions : Type 0
    Functions = T (unit_marked s (tables s) r) × T (unit_body s (tables s) r) × T (method_named s (tables s) r)

    -- by the tests alone: t6 a function, t2 of a unit, t4 of a class, x its mark, c its block, n its name
    by_tests : (t6 t2 t4 : Bool) (x : ℕ) (c n : Bool) → (T t2 → T t4 → ⊥)
        → T (when not t6 then true else when t2 then eqb x 1 && c else (eqb x 0 && (not t4 || n)))
        → T (t6 ⇒ eqb x (bit (t6 && t2))) × T (t6 && t2 ⇒ c) × T (t6 && t4 ⇒ n)
    by_tests false t2 t4 x c n f h = (tt, tt, tt)
    by_tests true true true x c n f h = absurd (f tt tt)
    by_tests true true false x c n f h = let q = T_and (eqb x 1) c h in (q.0, q.1, tt)
    by_tests true false true x c n f h = let q = T_and (eqb x 0) (false || n) h in (q.0, tt, q.1)
    by_tests true false false x c n f h = let q = T_and (eqb x 0) true h in (q.0, tt, tt)

    of_tests : (t6 t2 t4 : Bool) (x : ℕ) (c n : Bool)
        → T (t6 ⇒ eqb x (bit (t6 && t2))) → T (t6 && t2 ⇒ c) → T (t6 && t4 ⇒ n)
        → T (when not t6 then true else when t2 then eqb x 1 && c else (eqb x 0 && (not t4 || n)))
    of_tests false t2 t4 x c n h g k = tt
    of_tests true true t4 x c n h g k = and_both (eqb x 1) c h g
    of_tests true false true x c n h g k = and_both (eqb x 0) (false || n) h k
    of_tests true false false x c n h g k = and_both (eqb x 0) true h tt

    apart : T (is s 2 p) → T (is s 4 p) → ⊥
    apart x y = kind_apart (kind s p) 2 4 tt x y

    pub function_gives : T (function_ok s (row_in s r) p) → Functions
    unfolding function_ok
    function_gives h =
        let q = by_tests (is s 6 r) (is s 2 p) (is s 4 p) (b s r) (eqb (kind s (child s r)) 25 && eqb (next s (child s r)) 0) (not (eqb (a s r) 0)) apart h in (
          subst (λ (t : Bool). T (is s 6 r ⇒ eqb (b s r) (bit (is s 6 r && t)))) (sym two) q.0,
          imp_of (is s 6 r && is s 2 (parent (tables s) r)) block
              (λ w. block_gives_back (T-imp (is s 6 r && is s 2 p)
              (eqb (kind s (child s r)) 25 && eqb (next s (child s r)) 0) q.1
              (subst (λ (t : Bool). T (is s 6 r && t)) two w))),
          subst (λ (t : Bool). T (is s 6 r && t ⇒ not (eqb (a s r) 0))) (sym four) q.2,
        )
      where
        block_gives_back : T (eqb (kind s (child s r)) 25 && eqb (next s (child s r)) 0) → T block
        block_gives_back = gives_block

    pub gives_function : Functions → T (function_ok s (row_in s r) p)
    unfolding function_ok
    gives_function q =
        of_tests (is s 6 r) (is s 2 p) (is s 4 p) (b s r) (eqb (kind s (child s r)) 25 && eqb (next s (child s r)) 0) (not (eqb (a s r) 0))
        (subst (λ (t : Bool). T (is s 6 r ⇒ eqb (b s r) (bit (is s 6 r && t)))) two q.0)
        (imp_of (is s 6 r && is s 2 p) (eqb (kind s (child s r)) 25 && eqb (next s (child s r)) 0)
        (λ w. block_gives (T-imp (is s 6 r && is s 2 (parent (tables s) r)) block q.1 (subst (λ (t : Bool). T (is s 6 r && t)) (sym two) w))))
        (subst (λ (t : Bool). T (is s 6 r && t ⇒ not (eqb (a s r) 0))) four q.2)

  -- where lists end: a list that starts empty, and one that ends after row r
  empty_list : child s r ≡ 0 → ends_in (entry_of kind_table (kind s r) 1) ≡ children_fit s r
  empty_list e =
      ends_is (entry_of kind_table (kind s r) 1) (kind_is_lem (kind s r)).low ∙ ap may_end (kind_is_lem (kind s r)).children
      ∙ sym (ap (λ (xs : List ℕ). fits (shape_of (kind s r)).children (map (kind s) xs)) (ap (chain (rows s) s) e ∙ chain_none (rows s)))

  ended_list : (q : ℕ) → 0 < r → next s r ≡ 0 → q < 26 → left_fits s q r ≡ children_fit s (holder s r) → ends_in (state_after q (kind s r)) ≡ children_fit s (holder s r)
  ended_list q z e h g =
      let w = after_is q (kind s r) h in
      ends_is (state_after q (kind s r)) w.low ∙ ap may_end w.state
      ∙ sym (ap (λ (xs : List ℕ). fits (rest (kind s r) (state_at q)) (map (kind s) xs)) (ap (chain (rows s) s) e ∙ chain_none (rows s)))
      ∙ sym (ap (λ (xs : List ℕ). fits (state_at q) (map (kind s) xs)) (chain_on s ok.nexts r z l)) ∙ g

  pub ends_give : (q : ℕ) → (0 < r → q < 26) → (0 < r → left_fits s q r ≡ children_fit s (holder s r)) → T (ends_ok (row_in s r) r q)
      → (child s r ≡ 0 → T (children_fit s r)) × (0 < r → next s r ≡ 0 → T (children_fit s (holder s r)))
  unfolding ends_ok
  ends_give q low g h =
      let w = T_and (not (eqb (child s r) 0) || ends_in (entry_of kind_table (kind s r) 1)) (eqb r 0 || (not (eqb (next s r) 0) || ends_in (state_after q (kind s r)))) h in (
        λ e. first e (or_cases (not (eqb (child s r) 0)) (ends_in (entry_of kind_table (kind s r) 1)) w.0),
        λ z e. second z e (or_cases (eqb r 0) (not (eqb (next s r) 0) || ends_in (state_after q (kind s r))) w.1),
      )
    where
      first : child s r ≡ 0 → T (not (eqb (child s r) 0)) ⊎ T (ends_in (entry_of kind_table (kind s r) 1)) → T (children_fit s r)
      first e (inl x) = absurd (T_not (eqb (child s r) 0) x (eqb_of (child s r) 0 e))
      first e (inr x) = subst T (empty_list e) x

      third : 0 < r → next s r ≡ 0 → T (not (eqb (next s r) 0)) ⊎ T (ends_in (state_after q (kind s r))) → T (children_fit s (holder s r))
      third z e (inl x) = absurd (T_not (eqb (next s r) 0) x (eqb_of (next s r) 0 e))
      third z e (inr x) = subst T (ended_list q z e (low z) (g z)) x

      second : 0 < r → next s r ≡ 0 → T (eqb r 0) ⊎ T (not (eqb (next s r) 0) || ends_in (state_after q (kind s r))) → T (children_fit s (holder s r))
      second z e (inl x) = absurd (omega (arith, eqb→eq r 0 x))
      second z e (inr x) = third z e (or_cases (not (eqb (next s r) 0)) (ends_in (state_after q (kind s r))) x)

  pub give_ends : (q : ℕ) → (0 < r → q < 26) → (0 < r → left_fits s q r ≡ children_fit s (holder s r)) → T (children_fit s r) → (0 < r → T (children_fit s (holder s r)))
      → T (ends_ok (row_in s r) r q)
  unfolding ends_ok
  give_ends q low g own up =
      and_both (not (eqb (child s r) 0) || ends_in (entry_of kind_table (kind s r) 1)) (eqb r 0 || (not (eqb (next s r) 0) || ends_in (state_after q (kind s r))))
      (first (zero_or (child s r))) (second (zero_or r) (zero_or (next s r)))
    where
      first : (child s r ≡ 0) ⊎ (child s r ≡ 0 → ⊥) → T (not (eqb (child s r) 0) || ends_in (entry_of kind_table (kind s r) 1))
      first (inl e) = or_right (not (eqb (child s r) 0)) (ends_in (entry_of kind_table (kind s r) 1)) (subst T (sym (empty_list e)) own)
      first (inr z) = or_left (not (eqb (child s r) 0)) (ends_in (entry_of kind_table (kind s r) 1)) (not_T (eqb (child s r) 0) (λ x. z (eqb→eq (child s r) 0 x)))

      second : (r ≡ 0) ⊎ (r ≡ 0 → ⊥) → (next s r ≡ 0) ⊎ (next s r ≡ 0 → ⊥) → T (eqb r 0 || (not (eqb (next s r) 0) || ends_in (state_after q (kind s r))))
      second (inl e) w = or_left (eqb r 0) (not (eqb (next s r) 0) || ends_in (state_after q (kind s r))) (eqb_of r 0 e)
      second (inr z) (inr y) =
          or_right (eqb r 0) (not (eqb (next s r) 0) || ends_in (state_after q (kind s r)))
          (or_left (not (eqb (next s r) 0)) (ends_in (state_after q (kind s r))) (not_T (eqb (next s r) 0) (λ x. y (eqb→eq (next s r) 0 x))))
      second (inr z) (inl e) =
          let p : 0 < r = positive r z in
          or_right (eqb r 0) (not (eqb (next s r) 0) || ends_in (state_after q (kind s r)))
          (or_right (not (eqb (next s r) 0)) (ends_in (state_after q (kind s r))) (subst T (sym (ended_list q p e (low p) (g p))) (up p)))
