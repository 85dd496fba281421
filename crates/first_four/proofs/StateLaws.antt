-- The tables by kind and state say what the definition's shapes say: each by one test that is computed over the table.
use mathlib.Core.Path.{◌≡◌, refl, sym, ap, ◌∙◌, subst}
use mathlib.Core.Logic.{◌⊎◌, inl, inr}
use mathlib.Core.List.{List, [], ◌∷◌}
use mathlib.Core.Bool.{Bool, true, false, not, ◌&&◌}
use Prim.Native.Nat.{ℕ, ◌+◌, ◌<◌, ◌≤◌}
use native.Mathlib.Omega.{arith}
use lib.Dec.{eqb, ltb, T, eqb→eq, ltb→lt}
use Rattle.definition.specs.Basics.{when◌then◌else◌, all, from, head, ◌∈?◌}
use Rattle.definition.specs.Shape.{Column, unread, up_to, name, row, global, mode, or_zero, Part, one, perhaps, many, never, rest, may_end, shape_of}
use Rattle.definition.proofs.Lists.Tests.{T_and, ℕ-trichotomy}
use Rattle.definition.proofs.Lists.Counts.{all_below, in_cases}
use Rattle.definition.proofs.Format.Shapes.{part_kinds}
use Rattle.definition.proofs.Format.Passes.{shape_beyond}
use Rattle.shapes.specs.States.{entry_of, kind_table, state_table, state_at, rule_at}
use Rattle.row_fits.specs.Pass.{state_after, ends_in}
use Rattle.shapes.proofs.TableLaws.{no_row}

-- are two lists the same?
abbrev same_kinds : List ℕ → List ℕ → Bool
same_kinds [] [] = true
same_kinds [] (y ∷ ys) = false
same_kinds (x ∷ xs) [] = false
same_kinds (x ∷ xs) (y ∷ ys) = eqb x y && same_kinds xs ys

kinds_eq : (xs ys : List ℕ) → T (same_kinds xs ys) → xs ≡ ys
kinds_eq [] [] h = refl
kinds_eq [] (y ∷ ys) h = absurd h
kinds_eq (x ∷ xs) [] h = absurd h
kinds_eq (x ∷ xs) (y ∷ ys) h =
    let q = T_and (eqb x y) (same_kinds xs ys) h in
    ap (λ (z : ℕ). z ∷ xs) (eqb→eq x y q.0) ∙ ap (λ (zs : List ℕ). y ∷ zs) (kinds_eq xs ys q.1)

abbrev same_part : Part → Part → Bool
same_part (one ks) (one js) = same_kinds ks js
same_part (one ks) (perhaps js) = false
same_part (one ks) (many js) = false
same_part (perhaps ks) (one js) = false
same_part (perhaps ks) (perhaps js) = same_kinds ks js
same_part (perhaps ks) (many js) = false
same_part (many ks) (one js) = false
same_part (many ks) (perhaps js) = false
same_part (many ks) (many js) = same_kinds ks js

part_eq : (p q : Part) → T (same_part p q) → p ≡ q
part_eq (one ks) (one js) h = ap one (kinds_eq ks js h)
part_eq (one ks) (perhaps js) h = absurd h
part_eq (one ks) (many js) h = absurd h
part_eq (perhaps ks) (one js) h = absurd h
part_eq (perhaps ks) (perhaps js) h = ap perhaps (kinds_eq ks js h)
part_eq (perhaps ks) (many js) h = absurd h
part_eq (many ks) (one js) h = absurd h
part_eq (many ks) (perhaps js) h = absurd h
part_eq (many ks) (many js) h = ap many (kinds_eq ks js h)

abbrev same_parts : List Part → List Part → Bool
same_parts [] [] = true
same_parts [] (q ∷ qs) = false
same_parts (p ∷ ps) [] = false
same_parts (p ∷ ps) (q ∷ qs) = same_part p q && same_parts ps qs

parts_eq : (ps qs : List Part) → T (same_parts ps qs) → ps ≡ qs
parts_eq [] [] h = refl
parts_eq [] (q ∷ qs) h = absurd h
parts_eq (p ∷ ps) [] h = absurd h
parts_eq (p ∷ ps) (q ∷ qs) h =
    let c = T_and (same_part p q) (same_parts ps qs) h in
    ap (λ (z : Part). z ∷ ps) (part_eq p q c.0) ∙ ap (λ (zs : List Part). q ∷ zs) (parts_eq ps qs c.1)

-- columns as lists of numbers
abbrev encode : Column → List ℕ
encode unread = 0 ∷ []
encode (up_to n) = 1 ∷ n ∷ []
encode name = 2 ∷ []
encode (row k) = 3 ∷ k ∷ []
encode global = 4 ∷ []
encode mode = 5 ∷ []
encode (or_zero c) = 6 ∷ encode c

decode : List ℕ → Column
decode [] = unread
decode (t ∷ xs) =
    let inner : Column = decode xs in
    when eqb t 0 then unread
    else when eqb t 1 then up_to (head xs)
    else when eqb t 2 then name
    else when eqb t 3 then row (head xs)
    else when eqb t 4 then global
    else when eqb t 5 then mode
    else or_zero inner

back : (c : Column) → decode (encode c) ≡ c
unfolding decode
back unread = refl
back (up_to n) = refl
back name = refl
back (row k) = refl
back global = refl
back mode = refl
back (or_zero c) = ap or_zero (back c)

column_eq : (c d : Column) → T (same_kinds (encode c) (encode d)) → c ≡ d
column_eq c d h = sym (back c) ∙ ap decode (kinds_eq (encode c) (encode d) h) ∙ back d

-- what the table says of each kind
kind_test : ℕ → Bool
kind_test k =
    ltb (entry_of kind_table k 1) 26 && same_parts (state_at (entry_of kind_table k 1)) (shape_of k).children
    && same_kinds (encode (rule_at (entry_of kind_table k 2))) (encode (shape_of k).a) && same_kinds (encode (rule_at (entry_of kind_table k 3))) (encode (shape_of k).b)

kind_all : T (all kind_test (from 0 60))
unfolding kind_test
kind_all = tt

pub record KindIs (k : ℕ) : Type 0 where
  pub low : entry_of kind_table k 1 < 26
  pub children : state_at (entry_of kind_table k 1) ≡ (shape_of k).children
  pub rule_a : rule_at (entry_of kind_table k 2) ≡ (shape_of k).a
  pub rule_b : rule_at (entry_of kind_table k 3) ≡ (shape_of k).b

below_sixty : (k : ℕ) → k < 60 → KindIs k
unfolding kind_test
below_sixty k l =
    let h : T (kind_test k) = all_below kind_test 60 kind_all k l in
    let q3 = T_and (ltb (entry_of kind_table k 1) 26 && same_parts (state_at (entry_of kind_table k 1)) (shape_of k).children && same_kinds
    (encode (rule_at (entry_of kind_table k 2))) (encode (shape_of k).a))
    (same_kinds (encode (rule_at (entry_of kind_table k 3))) (encode (shape_of k).b)) h in
    let q2 = T_and (ltb (entry_of kind_table k 1) 26 && same_parts (state_at (entry_of kind_table k 1)) (shape_of k).children)
    (same_kinds (encode (rule_at (entry_of kind_table k 2))) (encode (shape_of k).a)) q3.0 in
    let q1 = T_and (ltb (entry_of kind_table k 1) 26) (same_parts (state_at (entry_of kind_table k 1)) (shape_of k).children) q2.0 in
    record {
      low = ltb→lt (entry_of kind_table k 1) 26 q1.0;
      children = parts_eq _ _ q1.1;
      rule_a = column_eq _ _ q2.1;
      rule_b = column_eq _ _ q3.1;
    }

above_sixty : (k : ℕ) → 60 ≤ k → KindIs k
above_sixty k l =
    let e : (j : ℕ) → entry_of kind_table k j ≡ 0 = λ j. no_row kind_table k j l in
    record {
      low = subst (λ (x : ℕ). x < 26) (sym (e 1)) (omega arith);
      children = ap state_at (e 1) ∙ ap (λ x. x.children) (sym (shape_beyond k l));
      rule_a = ap rule_at (e 2) ∙ ap (λ x. x.a) (sym (shape_beyond k l));
      rule_b = ap rule_at (e 3) ∙ ap (λ x. x.b) (sym (shape_beyond k l));
    }

pub kind_is_lem : (k : ℕ) → KindIs k
kind_is_lem k = go (ℕ-trichotomy k 60)
  where
    go : (k < 60) ⊎ ((k ≡ 60) ⊎ (60 < k)) → KindIs k
    go (inl h) = below_sixty k h
    go (inr (inl e)) = above_sixty k (omega arith)
    go (inr (inr h)) = above_sixty k (omega arith)

-- and is no child
low : Part → Bool
low p = all (λ j. ltb j 60) (part_kinds p)

not_in : (k : ℕ) (ks : List ℕ) → T (all (λ j. ltb j 60) ks) → 60 ≤ k → T (k ∈? ks) → ⊥
not_in k [] h l m = m
not_in k (x ∷ ks) h l m = go (not_in k ks (T_and (ltb x 60) (all (λ j. ltb j 60) ks) h).1 l) (in_cases k x ks m)
  where
    go : (T (k ∈? ks) → ⊥) → (k ≡ x) ⊎ T (k ∈? ks) → ⊥
    go f (inl e) = omega (arith, ltb→lt x 60 (T_and (ltb x 60) (all (λ j. ltb j 60) ks) h).0)
    go f (inr y) = f y

other : (t : Bool) (x y : List Part) → (T t → ⊥) → (when t then x else y) ≡ y
other true x y f = absurd (f tt)
other false x y f = refl

rest_high : (k : ℕ) (ps : List Part) → T (all low ps) → 60 ≤ k → rest k ps ≡ never
unfolding low
rest_high k [] h l = refl
rest_high k (one ks ∷ ps) h l = other (k ∈? ks) ps never (not_in k ks (T_and (low (one ks)) (all low ps) h).0 l)
rest_high k (perhaps ks ∷ ps) h l = other (k ∈? ks) ps (rest k ps) (not_in k ks (T_and (low (perhaps ks)) (all low ps) h).0 l) ∙ rest_high k ps (T_and (low (perhaps ks)) (all low ps) h).1 l
rest_high k (many ks ∷ ps) h l = other (k ∈? ks) (many ks ∷ ps) (rest k ps) (not_in k ks (T_and (low (many ks)) (all low ps) h).0 l) ∙ rest_high k ps (T_and (low (many ks)) (all low ps) h).1 l

low_all : T (all (λ i. all low (state_at i)) (from 0 26))
unfolding low
low_all = tt

-- the state after a child
next_test : ℕ → ℕ → Bool
next_test q k = ltb (state_after q k) 26 && same_parts (state_at (state_after q k)) (rest k (state_at q))

next_row : ℕ → Bool
next_row q = all (next_test q) (from 0 60)

next_all : T (all next_row (from 0 26))
unfolding next_test next_row state_after
next_all = tt

pub record AfterIs (q k : ℕ) : Type 0 where
  pub low : state_after q k < 26
  pub state : state_at (state_after q k) ≡ rest k (state_at q)

after_below : (q k : ℕ) → q < 26 → k < 60 → AfterIs q k
unfolding next_test next_row
after_below q k hq hk =
    let h = T_and (ltb (state_after q k) 26) (same_parts (state_at (state_after q k)) (rest k (state_at q))) (all_below (next_test q) 60 (all_below next_row 26 next_all q hq) k hk) in
    record { low = ltb→lt (state_after q k) 26 h.0; state = parts_eq _ _ h.1 }

-- a number that is no kind has class 0, after which no list fits
none_after : T (all (λ q. eqb (entry_of state_table q 1) 0) (from 0 26))
none_after = tt

after_above : (q k : ℕ) → q < 26 → 60 ≤ k → AfterIs q k
unfolding state_after
after_above q k hq hk =
    let e : state_after q k ≡ 0 =
    ap (λ (x : ℕ). entry_of state_table q (x + 1)) (no_row kind_table k 0 hk)
    ∙ eqb→eq (entry_of state_table q 1) 0 (all_below (λ i. eqb (entry_of state_table i 1) 0) 26 none_after q hq) in
    record {
      low = subst (λ (x : ℕ). x < 26) (sym e) (omega arith);
      state = ap state_at e ∙ sym (rest_high k (state_at q) (all_below (λ i. all low (state_at i)) 26 low_all q hq) hk);
    }

pub after_is : (q k : ℕ) → q < 26 → AfterIs q k
after_is q k hq = go (ℕ-trichotomy k 60)
  where
    go : (k < 60) ⊎ ((k ≡ 60) ⊎ (60 < k)) → AfterIs q k
    go (inl h) = after_below q k hq h
    go (inr (inl e)) = after_above q k hq (omega arith)
    go (inr (inr h)) = after_above q k hq (omega arith)

-- where a list may end
same : Bool → Bool → Bool
same true y = y
same false y = not y

same_eq : (x y : Bool) → T (same x y) → x ≡ y
unfolding same
same_eq true true h = refl
same_eq true false h = absurd h
same_eq false true h = absurd h
same_eq false false h = refl

end_test : ℕ → Bool
end_test q = same (ends_in q) (may_end (state_at q))

end_all : T (all end_test (from 0 26))
unfolding end_test same ends_in
end_all = tt

pub ends_is : (q : ℕ) → q < 26 → ends_in q ≡ may_end (state_at q)
unfolding end_test
ends_is q l = same_eq _ _ (all_below end_test 26 end_all q l)
