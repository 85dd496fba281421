-- What an identifier and a source of a literal lead to, and what a function captures.
use mathlib.Core.Path.{◌≡◌, refl, sym, ap, ◌∙◌, subst}
use mathlib.Core.List.Memᴰ
use mathlib.Core.List.Memᴰ.{head as here}
use mathlib.Core.List.{List, [], ◌∷◌, map, Memᴰ as Mem}
use mathlib.Core.Bool.{not}
use Prim.Native.Nat.{ℕ, ◌<◌}
use native.Mathlib.Omega.{arith}
use lib.ListN.{length, get_or, drop, length-map}
use lib.Dec.{eqb, T, T_not}
use Rattle.definition.specs.Basics.{place, head, ◌∈?◌}
use Rattle.definition.specs.Sheet.{Sheet, child, rows, is, holder, functions_of, function_of}
use Rattle.definition.specs.Outside.{Outside}
use Rattle.definition.specs.Meaning.{row_of, owner_of, is_variable}
use Rattle.definition.specs.Scope.{history}
use Rattle.definition.specs.Capture.{Use, uses, distance, captures, is_outer, beyond, seen_from}
use Rattle.definition.specs.Answer.{eight, with_fourth, answers}
use Rattle.definition.specs.Claims.{Row, rows_for, between, Follows}
use Rattle.definition.proofs.Lists.Tests.{and_left, if_true}
use Rattle.definition.proofs.Lists.Members.{drop_mem, get_or_drop_is, empty_of, drop_map}
use Rattle.definition.proofs.Format.Links.{child_held}
use Rattle.definition.proofs.Walk.Fits.{Fits}
use Rattle.definition.proofs.Walk.Rows.{kind_not_zero}
use Rattle.definition.proofs.Walk.Whole.{statement_walked}
use Rattle.definition.proofs.Walk.Around.{Walks, around_walks, around_rest, Literal}
use Rattle.definition.proofs.Closure.Captured.{captured_use, use_captured}
use Rattle.definition.proofs.Closure.Values.{seen_short, fourth_follows}
use Rattle.definition.proofs.Closure.Following.{Tells, Located, located, identifier_rows, literal_rows_lem, outer_around, around_outer, around_trans, use_literal, follow}

module _ {O : Outside} {s : Sheet} (ok : Fits O s) where
  pub owner_function : (u : Use) → Located O s u → owner_of u.means ≡ function_of s (row_of u.means)
  owner_function u x = x.declared_as_lem.owner_is ∙ ap head (sym x.declared_as_lem.around_is)

  -- from a row in function g, around which lie g and the functions of `rest`
  follow_from : (r : ℕ) (u : Use) → Mem u (uses s (history O s)) → T (is_variable u.means) → ((k : ℕ) → Mem k (functions_of s r) → Mem k u.funs) → Walks s r
      → Mem (owner_of u.means) (functions_of s r)
      → (y : Row) × Follows s (answers O s (history O s)) (eight (r ∷ seen_from s (history O s) (function_of s r) u)) (between s r (row_of u.means)) y × Tells O s y u
  follow_from r u q v below w o = go (functions_of s r) refl
    where
      x : Located O s u
      x = located ok u q v

      go : (l : List ℕ) → functions_of s r ≡ l
          → (y : Row)
          × Follows s (answers O s (history O s)) (eight (r ∷ seen_from s (history O s) (function_of s r) u))
          (between s r (row_of u.means)) y
          × Tells O s y u
      go [] e = absurd (Memᴰ.not-nil (subst (λ (l : List ℕ). Mem (owner_of u.means) l) e o))
      go (g ∷ rest) e =
          let f : function_of s r ≡ g = ap head e in
          let t = follow ok rest g (around_rest ok r g rest w e) u q v (below g (subst (λ (l : List ℕ). Mem g l) (sym e) (here refl))) (subst (λ (l : List ℕ). Mem (owner_of u.means) l) e o) r f in
          let n : place (eqb (owner_of u.means)) (g ∷ rest) ≡ between s r (row_of u.means) =
          ap (λ (l : List ℕ). place (eqb (owner_of u.means)) l) (sym e)
          ∙ ap (λ (k : ℕ). place (eqb k) (functions_of s r)) (owner_function u x) in (
            t.0,
            subst (λ (k : ℕ). Follows s (answers O s (history O s)) (eight (r ∷ seen_from s (history O s) k u)) (between s r (row_of u.means)) t.0) (sym f)
                (subst (λ (k : ℕ). Follows s (answers O s (history O s)) (eight (r ∷ seen_from s (history O s) g u)) k t.0) n t.1),
            t.2,
          )

  -- what a captured use says of the function that captures it
  pub captured_literal : (g : ℕ) (u : Use) → Mem u (captures s (history O s) g) → Literal s g
  captured_literal g u m =
      let c = captured_use s (history O s) g u m in
      let v : T (is_variable u.means) = and_left (is_variable u.means) (owner_of u.means ∈? beyond g u.funs) c.1 in
      let x : Located O s u = located ok u c.0 v in
      let a_u = outer_around ok g u x c.1 in
      use_literal ok g u x a_u.0 a_u.1

  -- the functions between an identifier and its declaration, counted by the definition and by the rows of the sheet
  distance_is : (u : Use) → Located O s u → T (is_variable u.means) → distance u ≡ between s u.row (row_of u.means)
  distance_is u x v =
      if_true (is_variable u.means) (place (eqb (owner_of u.means)) u.funs) 0 v
      ∙ ap (place (eqb (owner_of u.means))) x.funs_is ∙ ap (λ (k : ℕ). place (eqb k) (functions_of s u.row)) (owner_function u x)

  pub identifiers : (u : Use) → Mem u (uses s (history O s)) → T (is_variable u.means)
      → (x : Row) × (rows_for (answers O s (history O s)) u.row ≡ x ∷ []) × Mem (function_of s (row_of u.means)) (functions_of s u.row)
      × (y : Row) × Follows s (answers O s (history O s)) x (between s u.row (row_of u.means)) y × Tells O s y u
      × (get_or x 5 0 ≡ between s u.row (row_of u.means))
  identifiers u q v =
      let x : Located O s u = located ok u q v in
      let r : ℕ = u.row in
      let seen : List ℕ = seen_from s (history O s) (function_of s r) u in
      let n : distance u ≡ between s r (row_of u.means) = distance_is u x v in
      let o : Mem (owner_of u.means) (functions_of s r) = subst (λ (l : List ℕ). Mem (owner_of u.means) l) x.funs_is x.owner_around in
      let t = follow_from r u q v (λ k m. subst (λ (l : List ℕ). Mem k l) (sym x.funs_is) m) x.walks o in (
        eight (r ∷ with_fourth (distance u) seen),
        identifier_rows ok u x v,
        subst (λ (k : ℕ). Mem k (functions_of s r)) (owner_function u x) o,
        t.0,
        subst (λ (k : ℕ). Follows s (answers O s (history O s)) (eight (r ∷ with_fourth k seen)) (between s r (row_of u.means)) t.0) (sym n)
            (fourth_follows r (between s r (row_of u.means)) seen (seen_short s (history O s) (function_of s r) u) t.1),
        t.2,
        n,
      )

  -- the literal of a function that captures
  own_literal : (l : ℕ) → l < rows s → (L : Literal s (child s l)) → (child s l ≡ 0 → ⊥) → L.literal ≡ l
  own_literal l h L z = sym L.holds ∙ child_held s ok.links l h (omega arith)

  -- a source
  pub source : (l : ℕ) → l < rows s → T (is s 52 l) → (i : ℕ) (u : Use) (us : List Use) → drop i (captures s (history O s) (child s l)) ≡ u ∷ us
      → (y : Row) × Follows s (answers O s (history O s)) (get_or (rows_for (answers O s (history O s)) l) i []) (between s l (row_of u.means)) y × Tells O s y u
  source l h t i u us e = (end.0, subst (λ (z : Row). Follows s (answers O s (history O s)) z (between s l (row_of u.means)) end.0) (sym row_is_lem) end.1, end.2)
    where
      g : ℕ
      g = child s l

      walks : Walks s l
      walks = statement_walked ok 52 l h tt t

      m : Mem u (captures s (history O s) g)
      m = drop_mem i (captures s (history O s) g) u us e

      c : Mem u (uses s (history O s)) × T (is_outer g u)
      c = captured_use s (history O s) g u m

      v : T (is_variable u.means)
      v = and_left (is_variable u.means) (owner_of u.means ∈? beyond g u.funs) c.1

      x : Located O s u
      x = located ok u c.0 v

      a_u : Mem g u.funs × Mem (owner_of u.means) (functions_of s g)
      a_u = outer_around ok g u x c.1

      L : Literal s g
      L = captured_literal g u m

      is_g : T (is s 6 g)
      is_g = (around_walks ok u.row g x.walks (subst (λ (k : List ℕ). Mem g k) x.funs_is a_u.0)).1

      around_l : functions_of s g ≡ functions_of s l
      around_l = L.around_is ∙ ap (functions_of s) (own_literal l h L (kind_not_zero ok 6 g tt is_g))

      end : (y : Row) × Follows s (answers O s (history O s)) (eight (l ∷ seen_from s (history O s) (function_of s l) u)) (between s l (row_of u.means)) y × Tells O s y u
      end =
          follow_from l u c.0 v (λ k q. around_trans ok g k u x a_u.0 (subst (λ (z : List ℕ). Mem k z) (sym around_l) q)) walks
          (subst (λ (z : List ℕ). Mem (owner_of u.means) z) around_l a_u.1)

      row_is_lem : get_or (rows_for (answers O s (history O s)) l) i [] ≡ eight (l ∷ seen_from s (history O s) (function_of s l) u)
      row_is_lem =
          ap (λ (z : List Row). get_or z i []) (literal_rows_lem ok l walks t)
          ∙ get_or_drop_is i _ (eight (l ∷ seen_from s (history O s) (function_of s l) u)) [] _
          (drop_map (λ vs. eight (l ∷ vs)) i (map (seen_from s (history O s) (function_of s l)) (captures s (history O s) g)) (seen_from s (history O s) (function_of s l) u) _
          (drop_map (seen_from s (history O s) (function_of s l)) i (captures s (history O s) g) u us e))

  pub source_count : (l : ℕ) → l < rows s → T (is s 52 l) → length (rows_for (answers O s (history O s)) l) ≡ length (captures s (history O s) (child s l))
  source_count l h t =
      ap length (literal_rows_lem ok l (statement_walked ok 52 l h tt t) t)
      ∙ length-map (map (seen_from s (history O s) (function_of s l)) (captures s (history O s) (child s l))) (λ vs. eight (l ∷ vs))
      ∙ length-map (captures s (history O s) (child s l)) (seen_from s (history O s) (function_of s l))

  pub no_literal : (f : ℕ) → T (not (is s 52 (holder s f))) → captures s (history O s) f ≡ []
  no_literal f n =
      empty_of (captures s (history O s) f) (λ u m. let L : Literal s f = captured_literal f u m in
      T_not (is s 52 (holder s f)) n (subst (λ (k : ℕ). T (is s 52 k)) (sym L.holds) L.kind_is_lem))

  -- what captures mean, by the rows alone
  pub captures_of : (f r : ℕ) → (u : Use) × Mem u (captures s (history O s) f) × (row_of u.means ≡ r)
      → (u : Use) × Mem u (uses s (history O s)) × T (is_variable u.means) × (row_of u.means ≡ r) × Mem f (functions_of s u.row) × Mem (function_of s r) (functions_of s f)
  captures_of f r q =
      let u : Use = q.0 in
      let c = captured_use s (history O s) f u q.1 in
      let v : T (is_variable u.means) = and_left (is_variable u.means) (owner_of u.means ∈? beyond f u.funs) c.1 in
      let x : Located O s u = located ok u c.0 v in
      let a_u = outer_around ok f u x c.1 in
      (u, c.0, v, q.2, subst (λ (l : List ℕ). Mem f l) x.funs_is a_u.0, Memᴰ.cast (sym (owner_function u x ∙ ap (function_of s) q.2)) a_u.1)

  pub of_captures : (f r : ℕ) → (u : Use) × Mem u (uses s (history O s)) × T (is_variable u.means) × (row_of u.means ≡ r) × Mem f (functions_of s u.row) × Mem (function_of s r) (functions_of s f)
      → (u : Use) × Mem u (captures s (history O s) f) × (row_of u.means ≡ r)
  of_captures f r q =
      let u : Use = q.0 in
      let x : Located O s u = located ok u q.1 q.2 in
      let c =
      use_captured s (history O s) f u q.1 (around_outer ok f u x q.2
      (subst (λ (l : List ℕ). Mem f l) (sym x.funs_is) q.4)
      (Memᴰ.cast (owner_function u x ∙ ap (function_of s) q.3) q.5)) in
      (c.0, c.1, c.2 ∙ q.3)
