-- A sheet of one unit: its unit, the unit's function, and the body of that, each walked as the only part of the one before.
use mathlib.Core.Path.{◌≡◌, refl, sym, ap, ◌∙◌, subst}
use mathlib.Core.Logic.{◌⊎◌, inl, inr}
use mathlib.Core.List.{List, [], ◌∷◌, ◌++◌}
use mathlib.Core.Bool.{Bool, true, false, not, ◌||◌}
use Prim.Native.Nat.{ℕ, zero, suc, ◌<◌}
use native.Mathlib.Omega.{arith}
use lib.ListN.{length}
use lib.Dec.{eqb, leb, T, eqb→eq}
use Rattle.definition.specs.Basics.{when◌then◌else◌, ◌⇒◌, filter, all, head, ◌∈?◌}
use Rattle.definition.specs.Sheet.{Sheet, kind, child, rows, chain, kids, kids_of, is}
use Rattle.definition.specs.Shape.{Part, only, many}
use Rattle.definition.specs.Walk.{is_part, parts}
use Rattle.definition.proofs.Lists.Tests.{T_and, T-imp, if_true, eqb_of}
use Rattle.definition.proofs.Lists.Counts.{in_head, in_tail, in_cases}
use Rattle.definition.proofs.Lists.Members.{filter_append}
use Rattle.definition.proofs.Format.Facts.{SheetFacts, header_kind, link_facts}
use Rattle.definition.proofs.Format.Links.{LinkFacts, kid_bounds, holder_of}
use Rattle.definition.proofs.Format.Tree.{children_of, kid_edge, Ends, end_one, end_many, unit_body_lem, unit_parameters}

-- a list of one row begins where the chain does
chain_one : (n : ℕ) (s : Sheet) (k : ℕ) → length (chain n s k) ≡ 1 → chain n s k ≡ k ∷ []
chain_one zero s k e = absurd (omega arith)
chain_one (suc n) s zero e = absurd (omega arith)
chain_one (suc n) s (suc k) e = ap (λ (l : List ℕ). suc k ∷ l) (none (chain n s _) (omega arith))
  where
    none : (l : List ℕ) → length l ≡ 0 → l ≡ []
    none [] h = refl
    none (x ∷ l) h = absurd (omega arith)

-- rows of these kinds are no parts, and no functions
module _ (s : Sheet) where
  abbrev wide : List ℕ
  wide = 3 ∷ 7 ∷ 8 ∷ 4 ∷ []

  by_kind : (P : ℕ → Type 0) (k : ℕ) → P 3 → P 7 → P 8 → P 4 → T (k ∈? wide) → P k
  by_kind P k p3 p7 p8 p4 h = go (in_cases k 3 (7 ∷ 8 ∷ 4 ∷ []) h)
    where
      last : (k ≡ 4) ⊎ T (k ∈? []) → P k
      last (inl e) = subst P (sym e) p4
      last (inr x) = absurd x

      later : (k ≡ 8) ⊎ T (k ∈? (4 ∷ [])) → P k
      later (inl e) = subst P (sym e) p8
      later (inr x) = last (in_cases k 4 [] x)

      next : (k ≡ 7) ⊎ T (k ∈? (8 ∷ 4 ∷ [])) → P k
      next (inl e) = subst P (sym e) p7
      next (inr x) = later (in_cases k 8 (4 ∷ []) x)

      go : (k ≡ 3) ⊎ T (k ∈? (7 ∷ 8 ∷ 4 ∷ [])) → P k
      go (inl e) = subst P (sym e) p3
      go (inr x) = next (in_cases k 7 (8 ∷ 4 ∷ []) x)

  none_of : (p : ℕ → Bool) → T (not (p 3)) → T (not (p 7)) → T (not (p 8)) → T (not (p 4))
      → (xs : List ℕ) → T (all (λ r. kind s r ∈? wide) xs) → filter (λ r. p (kind s r)) xs ≡ []
  none_of p p3 p7 p8 p4 [] h = refl
  none_of p p3 p7 p8 p4 (x ∷ xs) h =
      let q = T_and (kind s x ∈? wide) (all (λ r. kind s r ∈? wide) xs) h in
      go (p (kind s x)) (by_kind (λ k. T (not (p k))) (kind s x) p3 p7 p8 p4 q.0) (none_of p p3 p7 p8 p4 xs q.1)
    where
      go : (t : Bool) → T (not t) → filter (λ r. p (kind s r)) xs ≡ [] → (when t then x ∷ filter (λ r. p (kind s r)) xs else filter (λ r. p (kind s r)) xs) ≡ []
      go true f e = absurd f
      go false f e = e

-- what is walked of a sheet of one unit
pub record UnitRows (s : Sheet) (u f b : ℕ) : Type 0 where
  pub unit_is : u ≡ child s 0
  pub unit_kind : kind s u ≡ 2
  pub function_is : f ≡ head (kids_of s 6 u)
  pub function_kind : kind s f ≡ 6
  pub body_is : b ≡ child s f
  pub body_kind : kind s b ≡ 25
  pub rising : (0 < u) × (u < f) × (f < b) × (b < rows s)
  pub in_header : parts s 0 ≡ u ∷ []
  pub in_unit : parts s u ≡ f ∷ []
  pub in_function : parts s f ≡ b ∷ []
  pub no_imports : kids_of s 3 u ≡ []
  pub no_parameters : kids_of s 11 f ≡ []

module _ (n : ℕ) (s : Sheet) (ok : SheetFacts n s) (some : 0 < rows s)
    (one : length (kids s 0) ≡ 1) (alone : length (kids_of s 3 (child s 0)) ≡ 0) where
  lf : LinkFacts s
  lf = link_facts n s ok

  abbrev u : ℕ
  u = child s 0

  kids_header : kids s 0 ≡ u ∷ []
  kids_header = chain_one (rows s) s u one

  member : (p k : ℕ) (xs : List ℕ) → kids s p ≡ xs ++ k ∷ [] → T (k ∈? kids s p)
  member p k xs e = subst (λ (l : List ℕ). T (k ∈? l)) (sym e) (last_in xs)
    where
      last_in : (xs : List ℕ) → T (k ∈? (xs ++ k ∷ []))
      last_in [] = in_head k k [] refl
      last_in (x ∷ xs) = in_tail k x (xs ++ k ∷ []) (last_in xs)

  at_unit : (0 < u) × (u < rows s)
  at_unit = kid_bounds s lf 0 u some (member 0 u [] kids_header)

  is_unit : T (is s 2 u)
  is_unit = T-imp (is s 0 0) (is s 2 u) (kid_edge n s ok (λ p k. eqb p 0 ⇒ eqb k 2) tt 0 u some (member 0 u [] kids_header)) (eqb_of (kind s 0) 0 (header_kind n s ok))

  -- the unit's children: its function last
  ends : Ends s (wide s) (kids s u)
  ends =
      end_many s (wide s) 3 (many (only 7) ∷ many (only 8) ∷ many (only 4) ∷ one_fun) tt
      (end_many s (wide s) 7 (many (only 8) ∷ many (only 4) ∷ one_fun) tt
      (end_many s (wide s) 8 (many (only 4) ∷ one_fun) tt (end_many s (wide s) 4 one_fun tt (end_one s (wide s)))))
      (kids s u) (children_of n s ok 2 u is_unit at_unit.1)
    where
      one_fun : List Part
      one_fun = Part.one (only 6) ∷ []

  abbrev f : ℕ
  f = ends.1

  at_function : (u < f) × (f < rows s)
  at_function = kid_bounds s lf u f at_unit.1 (member u f ends.0 ends.2)

  -- the one row of the unit's children that passes a test on kinds
  only_function : (p : ℕ → Bool) → T (not (p 3)) → T (not (p 7)) → T (not (p 8)) → T (not (p 4)) → T (p 6) → filter (λ r. p (kind s r)) (kids s u) ≡ f ∷ []
  only_function p p3 p7 p8 p4 p6 =
      ap (filter (λ r. p (kind s r))) ends.2 ∙ filter_append (λ r. p (kind s r)) ends.0 (f ∷ [])
      ∙ ap (λ (l : List ℕ). l ++ filter (λ r. p (kind s r)) (f ∷ [])) (none_of s p p3 p7 p8 p4 ends.0 ends.4)
      ∙ if_true (p (kind s f)) (f ∷ []) [] (subst (λ (k : ℕ). T (p k)) (sym (eqb→eq (kind s f) 6 ends.3)) p6)

  -- its function's: a block
  block : (k : ℕ) × (kids s f ≡ k ∷ []) × T (is s 25 k)
  block =
      unit_body_lem n s ok f at_function.1 ends.3
      (subst (λ (p : ℕ). T (is s 2 p)) (sym (holder_of s lf f u at_unit.1 (member u f ends.0 ends.2))) is_unit)

  abbrev body : ℕ
  body = block.0

  at_body : (f < body) × (body < rows s)
  at_body = kid_bounds s lf f body at_function.1 (member f body [] block.1)

  kind_two : kind s u ≡ 2
  kind_two = eqb→eq (kind s u) 2 is_unit

  kind_six : kind s f ≡ 6
  kind_six = eqb→eq (kind s f) 6 ends.3

  -- a chain of one row begins with it
  child_one : (n : ℕ) (k r : ℕ) → chain n s k ≡ r ∷ [] → r ≡ k
  child_one zero k r e = absurd (omega (arith, ap length e))
  child_one (suc n) zero r e = absurd (omega (arith, ap length e))
  child_one (suc n) (suc k) r e = ap (λ (l : List ℕ). head l) (sym e)

  pub unit_rows : (u : ℕ) × (f : ℕ) × (b : ℕ) × UnitRows s u f b
  unit_rows = (
    u,
    f,
    body,
    record {
      unit_is = refl;
      unit_kind = kind_two;
      function_is = sym (ap head (only_function (λ k. eqb k 6) tt tt tt tt tt));
      function_kind = kind_six;
      body_is = child_one (rows s) (child s f) body block.1;
      body_kind = eqb→eq (kind s body) 25 block.2;
      rising = (at_unit.0, at_function.0, at_body.0, at_body.1);
      in_header = rw (header_kind n s ok) (ap (filter (is_part s)) kids_header ∙ rw kind_two);
      in_unit = rw kind_two (only_function (λ k. eqb k 2 || eqb k 6 || leb 20 k) tt tt tt tt tt);
      in_function = rw kind_six (ap (filter (is_part s)) block.1 ∙ rw (eqb→eq (kind s body) 25 block.2));
      no_imports = empty (kids_of s 3 u) alone;
      no_parameters = unit_parameters n s ok f at_function.1 ends.3
          (subst (λ (p : ℕ). T (is s 2 p)) (sym (holder_of s lf f u at_unit.1 (member u f ends.0 ends.2))) is_unit);
    },
  )
    where
      empty : (l : List ℕ) → length l ≡ 0 → l ≡ []
      empty [] e = refl
      empty (x ∷ l) e = absurd (omega arith)
