-- The functions that a walked row lies in: how they go from a row to the one that it is a part of; where a function has a literal.
use mathlib.Core.Path.{◌≡◌, refl, sym, ap, ◌∙◌, subst}
use mathlib.Core.Logic.{◌⊎◌, inl, inr}
use mathlib.Core.List.Memᴰ
use mathlib.Core.List.Memᴰ.{head as here}
use mathlib.Core.List.Memᴰ.{tail as there}
use mathlib.Core.List.{List, [], ◌∷◌, Memᴰ as Mem}
use mathlib.Core.Bool.{Bool, true, false, not, ◌||◌}
use Prim.Native.Nat.{ℕ, zero, suc, ◌+◌, ◌<◌, ◌≤◌}
use native.Mathlib.Omega.{arith}
use lib.Dec.{eqb, leb, T, T_not, not_T, eqb_refl, eqb→eq, leb→le}
use Rattle.definition.specs.Basics.{when◌then◌else◌, head}
use Rattle.definition.specs.Sheet.{Sheet, kind, next, child, a, b, rows, chain, kids, is, holder, lies_in, climb, functions_of}
use Rattle.definition.specs.Outside.{Outside}
use Rattle.definition.specs.Walk.{parts, is_part}
use Rattle.definition.specs.Capture.{beyond}
use Rattle.definition.specs.Bounds.{walked}
use Rattle.definition.proofs.Lists.Tests.{or_cases, decide, eqb_of, if_true, if_false, kind_apart}
use Rattle.definition.proofs.Lists.Members.{filter_mem}
use Rattle.definition.proofs.Format.Functions.{climb_zero}
use Rattle.definition.proofs.Walk.Fits.{Fits}
use Rattle.definition.proofs.Walk.Rows.{kind_not_zero, Deep, root, below, reached_root, reached_not_class, part_lies, is_not_zero, holder_is}
use Rattle.definition.proofs.Walk.Walked.{found, walked_up}

-- the functions around what row p holds
abbrev pub inner : Sheet → ℕ → List ℕ
inner s p = when is s 6 p then p ∷ functions_of s p else functions_of s p

module _ {O : Outside} {s : Sheet} (ok : Fits O s) where
  climb_step : (n k p : ℕ) → lies_in s k ≡ p → climb (suc n) s k ≡ (when is s 6 p then p ∷ climb n s p else climb n s p)
  climb_step n k p e = ap (λ (q : ℕ). when is s 6 q then q ∷ climb n s q else climb n s q) e

  climb_deep : {n r : ℕ} → Deep s n r → (m : ℕ) → n ≤ m → climb m s r ≡ climb n s r
  climb_deep root m h = climb_zero s ok.links ok.header m
  climb_deep (below z e d) zero h = absurd (omega arith)
  climb_deep (below {n = n} {r = r} {p = p} z e d) (suc m) h =
      climb_step m r p e ∙ ap (λ (l : List ℕ). when is s 6 p then p ∷ l else l) (climb_deep d m (omega arith)) ∙ sym (climb_step n r p e)

  pub functions_zero : functions_of s 0 ≡ []
  functions_zero = climb_zero s ok.links ok.header (rows s)

  pub functions_step : {n : ℕ} (k p : ℕ) → Deep s n p → suc n ≤ rows s → (k ≡ 0 → ⊥) → lies_in s k ≡ p → functions_of s k ≡ inner s p
  functions_step {n} k p d h z e =
      climb_deep (below z e d) (rows s) h ∙ climb_step n k p e ∙ ap (λ (l : List ℕ). when is s 6 p then p ∷ l else l) (sym (climb_deep d (rows s) (omega arith)))

-- a walked row
abbrev pub Walks : Sheet → ℕ → Type 0
Walks s x = Mem x (walked (rows s) s 0)

-- A row that is a part of a walked row.
pub record PartOf (s : Sheet) (x : ℕ) : Type 0 where
  pub whole : ℕ
  pub walks : Walks s whole
  pub part : Mem x (parts s whole)
  pub lies : lies_in s x ≡ whole
  pub range : whole < rows s
  pub not_class : T (not (is s 4 whole))
  pub around : functions_of s x ≡ inner s whole

module _ {O : Outside} {s : Sheet} (ok : Fits O s) where
  pub part_of : (x : ℕ) → Walks s x → (x ≡ 0) ⊎ PartOf s x
  part_of x m = go (walked_up ok (rows s) 0 x m)
    where
      go : (x ≡ 0) ⊎ ((p : ℕ) × Walks s p × Mem x (parts s p)) → (x ≡ 0) ⊎ PartOf s x
      go (inl e) = inl e
      go (inr q) =
          let f = found ok (rows s) 0 q.0 (reached_root ok) q.1 in
          let l = part_lies ok x f.reached q.2 in
          let h : f.by < rows s = f.short in
          inr (record {
            whole = q.0;
            walks = q.1;
            part = q.2;
            lies = l.0;
            range = f.reached.in_range;
            not_class = reached_not_class ok f.reached;
            around = functions_step ok x q.0 f.reached.deep (omega arith) l.2 l.0;
          })

  pub part_of_nonzero : (x : ℕ) → Walks s x → (x ≡ 0 → ⊥) → PartOf s x
  part_of_nonzero x m z = go (part_of x m)
    where
      go : (x ≡ 0) ⊎ PartOf s x → PartOf s x
      go (inl e) = absurd (z e)
      go (inr p) = p

  -- the row whose child a part is
  held : {x : ℕ} (p : PartOf s x) → T (not (is s 30 p.whole)) → Mem x (kids s p.whole)
  held {x} p n =
      subst (λ (q : ℕ). Mem x (kids s q)) (if_false (is s 30 p.whole) (a s p.whole) p.whole n)
      (filter_mem (is_part s) x (kids s (when is s 30 p.whole then a s p.whole else p.whole)) p.part).0

  held_class : {x : ℕ} (p : PartOf s x) → T (is s 30 p.whole) → Mem x (kids s (a s p.whole))
  held_class {x} p n =
      subst (λ (q : ℕ). Mem x (kids s q)) (if_true (is s 30 p.whole) (a s p.whole) p.whole n)
      (filter_mem (is_part s) x (kids s (when is s 30 p.whole then a s p.whole else p.whole)) p.part).0

  around_other : {x : ℕ} (j : ℕ) (p : PartOf s x) → T (not (eqb j 6)) → T (is s j p.whole) → functions_of s x ≡ functions_of s p.whole
  around_other j p n h = p.around ∙ if_false (is s 6 p.whole) _ _ (not_T (is s 6 p.whole) (kind_apart (kind s p.whole) j 6 n h))

  -- no function lies around a unit, nor around its function
  unit_top : (x : ℕ) → Walks s x → T (is s 2 x) → functions_of s x ≡ []
  unit_top x m h = go (decide (is s 30 p.whole))
    where
      p : PartOf s x
      p = part_of_nonzero x m (kind_not_zero ok 2 x tt h)

      go : T (is s 30 p.whole) ⊎ T (not (is s 30 p.whole)) → functions_of s x ≡ []
      go (inl t) =
          let c = ok.class_named p.whole p.range t in
          let e : a s p.whole ≡ 0 = ok.units (a s p.whole) x c.0 (held_class p t) h in
          absurd (kind_not_zero ok 4 (a s p.whole) tt c.1 e)
      go (inr t) =
          let e : p.whole ≡ 0 = ok.units p.whole x p.range (held p t) h in
          p.around ∙ ap (inner s) e ∙ if_false (is s 6 0) (0 ∷ functions_of s 0) (functions_of s 0) (not_T (is s 6 0) (is_not_zero ok 6 tt)) ∙ functions_zero ok

  unit_function_top : (f : ℕ) → Walks s f → T (is s 6 f) → b s f ≡ 1 → functions_of s f ≡ []
  unit_function_top f m h one = go (decide (is s 30 p.whole))
    where
      p : PartOf s f
      p = part_of_nonzero f m (kind_not_zero ok 6 f tt h)

      go : T (is s 30 p.whole) ⊎ T (not (is s 30 p.whole)) → functions_of s f ≡ []
      go (inl t) =
          let c = ok.class_named p.whole p.range t in
          absurd (kind_apart (kind s (a s p.whole)) 4 2 tt c.1 ((ok.unit_functions (a s p.whole) f c.0 (held_class p t) h).0 one))
      go (inr t) =
          let u : T (is s 2 p.whole) = (ok.unit_functions p.whole f p.range (held p t) h).0 one in
          around_other 2 p tt u ∙ unit_top p.whole p.walks u

  -- a function around a walked row is walked
  climb_walks : (n x g : ℕ) → Walks s x → Mem g (climb n s x) → Walks s g × T (is s 6 g)
  climb_walks zero x g m k = absurd (Memᴰ.not-nil k)
  climb_walks (suc n) x g m k = go (part_of x m) (climb_walks n)
    where
      go : (x ≡ 0) ⊎ PartOf s x → ((y g : ℕ) → Walks s y → Mem g (climb n s y) → Walks s g × T (is s 6 g)) → Walks s g × T (is s 6 g)
      go (inl e) up = absurd (Memᴰ.not-nil (subst (λ (l : List ℕ). Mem g l) (ap (climb (suc n) s) e ∙ climb_zero s ok.links ok.header (suc n)) k))
      go (inr p) up = case (is s 6 p.whole) (λ t. t) (subst (λ (l : List ℕ). Mem g l) (climb_step ok n x p.whole p.lies) k)
        where
          heads : T (is s 6 p.whole) → Mem g (p.whole ∷ climb n s p.whole) → Walks s g × T (is s 6 g)
          heads t (here e) = (Memᴰ.cast e p.walks, subst (λ (q : ℕ). T (is s 6 q)) (sym e) t)
          heads t (there l) = up p.whole g p.walks l

          case : (t : Bool) → (T t → T (is s 6 p.whole)) → Mem g (when t then p.whole ∷ climb n s p.whole else climb n s p.whole) → Walks s g × T (is s 6 g)
          case true t l = heads (t tt) l
          case false t l = up p.whole g p.walks l

  pub around_walks : (x g : ℕ) → Walks s x → Mem g (functions_of s x) → Walks s g × T (is s 6 g)
  around_walks x g m k = climb_walks (rows s) x g m k

  deep_of : (x : ℕ) → Walks s x → (n : ℕ) × Deep s n x
  deep_of x m = let f = found ok (rows s) 0 x (reached_root ok) m in (f.by + 0, f.reached.deep)

  -- beyond a function around a row stand the functions around that function
  beyond_deep : {n x : ℕ} → Deep s n x → (g : ℕ) → Walks s x → Mem g (functions_of s x) → beyond g (functions_of s x) ≡ functions_of s g
  beyond_deep root g m k = absurd (Memᴰ.not-nil (subst (λ (l : List ℕ). Mem g l) (functions_zero ok) k))
  beyond_deep (below {r = x} {p = p} z e d) g m k =
      let w : PartOf s x = part_of_nonzero x m z in
      let q : w.whole ≡ p = sym w.lies ∙ e in
      let i : functions_of s x ≡ inner s p = w.around ∙ ap (inner s) q in
      ap (beyond g) i ∙ case p (beyond_deep d g (Memᴰ.cast (sym q) w.walks)) (is s 6 p) (subst (λ (l : List ℕ). Mem g l) i k)
    where
      case : (p : ℕ) → (Mem g (functions_of s p) → beyond g (functions_of s p) ≡ functions_of s g) → (t : Bool) → Mem g (when t then p ∷ functions_of s p else functions_of s p)
          → beyond g (when t then p ∷ functions_of s p else functions_of s p) ≡ functions_of s g
      case p up true l = test (decide (eqb p g)) l
        where
          miss : T (not (eqb p g)) → Mem g (p ∷ functions_of s p) → Mem g (functions_of s p)
          miss n (here f) = absurd (T_not (eqb p g) n (eqb_of p g (sym f)))
          miss n (there j) = j

          test : T (eqb p g) ⊎ T (not (eqb p g)) → Mem g (p ∷ functions_of s p) → beyond g (p ∷ functions_of s p) ≡ functions_of s g
          test (inl t) j = if_true (eqb p g) _ (beyond g (functions_of s p)) t ∙ ap (functions_of s) (eqb→eq p g t)
          test (inr t) j = if_false (eqb p g) (functions_of s p) _ t ∙ up (miss t j)
      case p up false l = up l

  pub beyond_around : (x g : ℕ) → Walks s x → Mem g (functions_of s x) → beyond g (functions_of s x) ≡ functions_of s g
  beyond_around x g m k = beyond_deep (deep_of x m).1 g m k

  pub around_rest : (x g : ℕ) (rest : List ℕ) → Walks s x → functions_of s x ≡ g ∷ rest → rest ≡ functions_of s g
  around_rest x g rest m e =
      sym (if_true (eqb g g) rest (beyond g rest) (eqb_refl g)) ∙ ap (beyond g) (sym e) ∙ beyond_around x g m (subst (λ (l : List ℕ). Mem g l) (sym e) (here refl))

  -- statements and expressions lie in a function
  if_empty : (t : Bool) (p : ℕ) (l : List ℕ) → (when t then p ∷ l else l) ≡ [] → T (not t) × (l ≡ [])
  if_empty true p l e = let z : ◌≡◌ {A = ℕ} 0 1 = cc in absurd (omega arith)
  if_empty false p l e = (tt, e)

  in_function_step : (x : ℕ) (w : PartOf s x) → T (leb 20 (kind s x)) → (T (leb 20 (kind s w.whole)) → functions_of s w.whole ≡ [] → ⊥) → functions_of s x ≡ [] → ⊥
  in_function_step x w h up f = go (decide (is s 30 w.whole))
    where
      empty : T (not (is s 6 w.whole)) × (functions_of s w.whole ≡ [])
      empty = if_empty (is s 6 w.whole) w.whole (functions_of s w.whole) (sym w.around ∙ f)

      one : T (is s 6 w.whole) ⊎ T (leb 20 (kind s w.whole)) → ⊥
      one (inl t) = T_not (is s 6 w.whole) empty.0 t
      one (inr t) = up t empty.1

      none : T (is s 4 (a s w.whole)) → T (is s 6 (a s w.whole)) ⊎ T (leb 20 (kind s (a s w.whole))) → ⊥
      none c (inl t) = kind_apart (kind s (a s w.whole)) 4 6 tt c t
      none c (inr t) =
          let e : kind s (a s w.whole) ≡ 4 = eqb→eq (kind s (a s w.whole)) 4 c in
          let l : 20 ≤ kind s (a s w.whole) = leb→le 20 (kind s (a s w.whole)) t in
          omega arith

      go : T (is s 30 w.whole) ⊎ T (not (is s 30 w.whole)) → ⊥
      go (inl t) =
          let c = ok.class_named w.whole w.range t in
          none c.1 (or_cases (is s 6 (a s w.whole)) (leb 20 (kind s (a s w.whole))) (ok.statements (a s w.whole) x c.0 (held_class w t) h))
      go (inr t) = one (or_cases (is s 6 w.whole) (leb 20 (kind s w.whole)) (ok.statements w.whole x w.range (held w t) h))

  in_function_deep : {n x : ℕ} → Deep s n x → Walks s x → T (leb 20 (kind s x)) → functions_of s x ≡ [] → ⊥
  in_function_deep root m h f =
      let l : 20 ≤ kind s 0 = leb→le 20 (kind s 0) h in
      let k : kind s 0 ≡ 0 = ok.header in
      omega arith
  in_function_deep (below {n = n} {r = x} {p = p} z e d) m h f =
      let w : PartOf s x = part_of_nonzero x m z in
      let q : w.whole ≡ p = sym w.lies ∙ e in
      in_function_step x w h (subst (λ (y : ℕ). T (leb 20 (kind s y)) → functions_of s y ≡ [] → ⊥) (sym q) (in_function_deep d (Memᴰ.cast (sym q) w.walks))) f

  pub in_function : (x : ℕ) → Walks s x → T (leb 20 (kind s x)) → (g : ℕ) × (rest : List ℕ) × (functions_of s x ≡ g ∷ rest)
  in_function x m h = go (functions_of s x) refl
    where
      go : (l : List ℕ) → functions_of s x ≡ l → (g : ℕ) × (rest : List ℕ) × (functions_of s x ≡ g ∷ rest)
      go [] e = absurd (in_function_deep (deep_of x m).1 m h e)
      go (g ∷ rest) e = (g, rest, e)

-- A function that has a literal: the literal, walked, and the functions around it.
pub record Literal (s : Sheet) (g : ℕ) : Type 0 where
  pub literal : ℕ
  pub walks : Walks s literal
  pub range : literal < rows s
  pub kind_is_lem : T (is s 52 literal)
  pub holds : holder s g ≡ literal
  pub function_is : g ≡ child s literal
  pub around_is : functions_of s g ≡ functions_of s literal

module _ {O : Outside} {s : Sheet} (ok : Fits O s) where
  pub only_child : (n x k : ℕ) → next s x ≡ 0 → Mem k (chain n s x) → k ≡ x
  only_child zero x k e m = absurd (Memᴰ.not-nil m)
  only_child (suc n) zero k e m = absurd (Memᴰ.not-nil m)
  only_child (suc n) (suc x) k e (here q) = q
  only_child (suc zero) (suc x) k e (there m) = absurd (Memᴰ.not-nil m)
  only_child (suc (suc n)) (suc x) k e (there m) = absurd (Memᴰ.not-nil (subst (λ (y : ℕ). Mem k (chain (suc n) s y)) e m))

  -- a function around which lies a function that is not a unit's has a literal
  pub literal_of : (g o : ℕ) → Walks s g → T (is s 6 g) → Mem o (functions_of s g) → (b s o ≡ 1 → ⊥) → Literal s g
  literal_of g o m h k nu = go (decide (is s 30 p.whole))
    where
      p : PartOf s g
      p = part_of_nonzero ok g m (kind_not_zero ok 6 g tt h)

      -- a method: around it lies its unit's function alone
      method : T (is s 30 p.whole) → (l : List ℕ) → functions_of s p.whole ≡ l → ⊥
      method t [] e =
          is_not_zero ok 6 tt (subst (λ (l : List ℕ). T (is s 6 (head l))) e (ok.class_outside p.whole p.range t).0)
      method t (f ∷ fs) e = hit (subst (λ (l : List ℕ). Mem o l) (around_other ok 30 p tt t ∙ e) k)
        where
          c : T (is s 6 f) × (b s f ≡ 1)
          c = subst (λ (l : List ℕ). T (is s 6 (head l)) × (b s (head l) ≡ 1)) e (ok.class_outside p.whole p.range t)

          w : Walks s f × T (is s 6 f)
          w = around_walks ok p.whole f p.walks (subst (λ (l : List ℕ). Mem f l) (sym e) (here refl))

          rest : fs ≡ []
          rest = around_rest ok p.whole f fs p.walks e ∙ unit_function_top ok f w.0 w.1 c.1

          hit : Mem o (f ∷ fs) → ⊥
          hit (here q) = nu (ap (b s) q ∙ c.1)
          hit (there j) = Memᴰ.not-nil (subst (λ (l : List ℕ). Mem o l) rest j)

      plain : Mem g (kids s p.whole) → T (is s 2 p.whole) ⊎ T (is s 4 p.whole || is s 52 p.whole) → Literal s g
      plain q (inl t) = absurd (Memᴰ.not-nil (subst (λ (l : List ℕ). Mem o l) (around_other ok 2 p tt t ∙ unit_top ok p.whole p.walks t) k))
      plain q (inr t) = last (or_cases (is s 4 p.whole) (is s 52 p.whole) t)
        where
          last : T (is s 4 p.whole) ⊎ T (is s 52 p.whole) → Literal s g
          last (inl c) = absurd (T_not (is s 4 p.whole) p.not_class c)
          last (inr c) =
              record {
                literal = p.whole;
                walks = p.walks;
                range = p.range;
                kind_is_lem = c;
                holds = holder_is ok p.whole g p.range q;
                function_is = only_child (rows s) (child s p.whole) g (ok.one_function p.whole p.range c) q;
                around_is = around_other ok 52 p tt c;
              }

      go : T (is s 30 p.whole) ⊎ T (not (is s 30 p.whole)) → Literal s g
      go (inl t) = absurd (method t (functions_of s p.whole) refl)
      go (inr t) = plain (held ok p t) (or_cases (is s 2 p.whole) (is s 4 p.whole || is s 52 p.whole) (ok.functions p.whole g p.range (held ok p t) h))
