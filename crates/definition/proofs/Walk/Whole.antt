-- The walk comes to every unit, function, statement and expression of a sheet that fits.
use mathlib.Core.Path.{◌≡◌, refl, sym, ap, ◌∙◌, subst}
use mathlib.Core.Logic.{◌⊎◌, inl, inr}
use mathlib.Core.List.Memᴰ
use mathlib.Core.List.Memᴰ.{head as here}
use mathlib.Core.List.Memᴰ.{tail as there}
use mathlib.Core.List.{List, [], ◌∷◌, Memᴰ as Mem}
use mathlib.Core.Bool.{not, ◌||◌}
use Prim.Native.Nat.{ℕ, zero, suc, ◌+◌, ◌-◌, ◌<◌, ◌≤◌}
use native.Mathlib.Omega.{arith}
use lib.ListN.{length}
use lib.Dec.{leb, T, T_not, not_T, eqb→eq, leb→le}
use Rattle.definition.specs.Basics.{when◌then◌else◌, head}
use Rattle.definition.specs.Sheet.{Sheet, kind, a, b, rows, chain, kids, is, holder, lies_in, climb}
use Rattle.definition.specs.Outside.{Outside}
use Rattle.definition.specs.Walk.{parts, is_part}
use Rattle.definition.specs.Bounds.{walked}
use Rattle.definition.proofs.Lists.Tests.{or_cases, or_left, or_right, decide, if_true, if_false, kind_apart}
use Rattle.definition.proofs.Lists.Members.{test_mem, mem_filter, mem_concat_map, Nodup, nodup_none, nodup_one, pigeonhole}
use Rattle.definition.proofs.Format.Links.{held}
use Rattle.definition.proofs.Walk.Fits.{Fits}
use Rattle.definition.proofs.Walk.Rows.{kind_not_zero, deep_same, Reached, reached_root, reached_part, lies_in_holder, is_not_zero}

-- a line of parts from row 0 to row x
data Line (s : Sheet) : ℕ → ℕ → Type 0 where
  top : Line s 0 0
  part : {n p x : ℕ} → Line s n p → Mem x (parts s p) → Line s (suc n) x

abbrev Lined : Sheet → ℕ → Type 0
Lined s x = (n : ℕ) × Line s n x

module _ {O : Outside} {s : Sheet} (ok : Fits O s) where
  -- every row but 0 is a child of a lower row
  held_by : (r : ℕ) → r < rows s → (r ≡ 0 → ⊥) → (p : ℕ) × (p < r) × (p < rows s) × Mem r (kids s p)
  held_by r l z =
      let h = held s ok.links r (omega arith) l in
      (holder s r, h.1, omega (arith, h.1), test_mem r (kids s (holder s r)) h.0)

  no_kids : (p x : ℕ) → p < rows s → Mem x (kids s p) → T (not (is s 30 p))
  no_kids p x l m = not_T (is s 30 p) (λ t. chain_none (rows s) (subst (λ (k : ℕ). Mem x (chain (rows s) s k)) (ok.class_leaf p l t) m))
    where
      chain_none : (n : ℕ) → Mem x (chain n s 0) → ⊥
      chain_none zero q = Memᴰ.not-nil q
      chain_none (suc n) q = Memᴰ.not-nil q

  -- a child that is walked as a part
  kid_part : (p x : ℕ) → p < rows s → Mem x (kids s p) → T (is_part s x) → Mem x (parts s p)
  kid_part p x l m h =
      mem_filter (is_part s) x _ h (subst (λ (k : ℕ). Mem x (kids s k)) (sym (if_false (is s 30 p) (a s p) p (no_kids p x l m))) m)

  method_part : (d x : ℕ) → T (is s 30 d) → Mem x (kids s (a s d)) → T (is_part s x) → Mem x (parts s d)
  method_part d x t m h = mem_filter (is_part s) x _ h (subst (λ (k : ℕ). Mem x (kids s k)) (sym (if_true (is s 30 d) (a s d) d t)) m)

  is_unit : (x : ℕ) → T (is s 2 x) → T (is_part s x)
  is_unit x h = or_left (is s 2 x || is s 6 x) (leb 20 (kind s x)) (or_left (is s 2 x) (is s 6 x) h)

  is_function_lem : (x : ℕ) → T (is s 6 x) → T (is_part s x)
  is_function_lem x h = or_left (is s 2 x || is s 6 x) (leb 20 (kind s x)) (or_right (is s 2 x) (is s 6 x) h)

  is_statement : (x : ℕ) → T (leb 20 (kind s x)) → T (is_part s x)
  is_statement x h = or_right (is s 2 x || is s 6 x) (leb 20 (kind s x)) h

  high_kind : (j x : ℕ) → T (leb 20 j) → T (is s j x) → T (leb 20 (kind s x))
  high_kind j x l h = subst (λ (k : ℕ). T (leb 20 k)) (sym (eqb→eq (kind s x) j h)) l

  statement_not_zero : (x : ℕ) → T (leb 20 (kind s x)) → x ≡ 0 → ⊥
  statement_not_zero x h e =
      let k : kind s x ≡ 0 = ap (kind s) e ∙ ok.header in
      let l : 20 ≤ kind s x = leb→le 20 (kind s x) h in
      omega arith

  unit_line : (x : ℕ) → x < rows s → T (is s 2 x) → Lined s x
  unit_line x l h =
      let c = held_by x l (kind_not_zero ok 2 x tt h) in
      let e : c.0 ≡ 0 = ok.units c.0 x c.2 c.3 h in
      (1, part top (kid_part 0 x ok.some_row (subst (λ (p : ℕ). Mem x (kids s p)) e c.3) (is_unit x h)))

  under : (p x : ℕ) → p < rows s → Mem x (kids s p) → T (is_part s x) → Lined s p → Lined s x
  under p x l m h q = (suc q.0, part q.1 (kid_part p x l m h))

  unit_function_line : (f : ℕ) → f < rows s → T (is s 6 f) → b s f ≡ 1 → Lined s f
  unit_function_line f l h e =
      let c = held_by f l (kind_not_zero ok 6 f tt h) in
      under c.0 f c.2 c.3 (is_function_lem f h) (unit_line c.0 c.2 ((ok.unit_functions c.0 f c.2 c.3 h).0 e))

  -- a statement whose innermost function is a unit's
  open_line : (n y : ℕ) → y < rows s → T (leb 20 (kind s y)) → T (is s 6 (head (climb n s y))) → b s (head (climb n s y)) ≡ 1 → Lined s y
  open_line zero y l h f e = absurd (is_not_zero ok 6 tt f)
  open_line (suc n) y l h f e = go (decide (is s 6 p)) (open_line n p)
    where
      c : (p : ℕ) × (p < y) × (p < rows s) × Mem y (kids s p)
      c = held_by y l (statement_not_zero y h)

      p : ℕ
      p = c.0

      sort : T (is s 6 p) ⊎ T (leb 20 (kind s p))
      sort = or_cases (is s 6 p) (leb 20 (kind s p)) (ok.statements p y c.2 c.3 h)

      not_class : T (is s 6 p) ⊎ T (leb 20 (kind s p)) → T (not (is s 4 p))
      not_class (inl t) = not_T (is s 4 p) (kind_apart (kind s p) 6 4 tt t)
      not_class (inr t) = not_T (is s 4 p) (λ q. let k : kind s p ≡ 4 = eqb→eq (kind s p) 4 q in let g : 20 ≤ kind s p = leb→le 20 (kind s p) t in omega arith)

      lies : lies_in s y ≡ p
      lies = lies_in_holder ok p y c.2 c.3 (not_class sort)

      climb_is : climb (suc n) s y ≡ (when is s 6 p then p ∷ climb n s p else climb n s p)
      climb_is = ap (λ (q : ℕ). when is s 6 q then q ∷ climb n s q else climb n s q) lies

      go : T (is s 6 p) ⊎ T (not (is s 6 p)) → (p < rows s → T (leb 20 (kind s p)) → T (is s 6 (head (climb n s p))) → b s (head (climb n s p)) ≡ 1 → Lined s p) → Lined s y
      go (inl t) up =
          let i : head (climb (suc n) s y) ≡ p = ap head (climb_is ∙ if_true (is s 6 p) (p ∷ climb n s p) (climb n s p) t) in
          under p y c.2 c.3 (is_statement y h) (unit_function_line p c.2 t (ap (b s) (sym i) ∙ e))
      go (inr t) up =
          let i : climb (suc n) s y ≡ climb n s p = climb_is ∙ if_false (is s 6 p) (p ∷ climb n s p) (climb n s p) t in
          under p y c.2 c.3 (is_statement y h)
          (up c.2 (high sort) (subst (λ (k : List ℕ). T (is s 6 (head k))) i f) (ap (λ (k : List ℕ). b s (head k)) (sym i) ∙ e))
        where
          high : T (is s 6 p) ⊎ T (leb 20 (kind s p)) → T (leb 20 (kind s p))
          high (inl q) = absurd (T_not (is s 6 p) t q)
          high (inr q) = q

  declaration_line : (d : ℕ) → d < rows s → T (is s 30 d) → Lined s d
  declaration_line d l t = let c = ok.class_outside d l t in open_line (rows s) d l (high_kind 30 d tt t) c.0 c.1

  method_line : (p x : ℕ) → p < rows s → T (is s 4 p) → Mem x (kids s p) → T (is_part s x) → Lined s x
  method_line p x l t m h =
      let d = ok.class_declared p l t in
      let q = declaration_line d.0 d.1 d.2 in
      (suc q.0, part q.1 (method_part d.0 x d.2 (subst (λ (k : ℕ). Mem x (kids s k)) (sym d.3) m) h))

  line : (n x : ℕ) → x < n → x < rows s → T (is_part s x) → Lined s x
  line zero x h l t = absurd (omega arith)
  line (suc n) x h l t = go (or_cases (is s 2 x || is s 6 x) (leb 20 (kind s x)) t) (λ p h l t. line n p h l t)
    where
      Up : Type 0
      Up = (p : ℕ) → p < n → p < rows s → T (is_part s p) → Lined s p

      statement : T (leb 20 (kind s x)) → ((p : ℕ) → p < n → p < rows s → T (is_part s p) → Lined s p) → Lined s x
      statement k up =
          let c = held_by x l (statement_not_zero x k) in
          under c.0 x c.2 c.3 t (up c.0 (omega (arith, c.1)) c.2 (sort c.0 (or_cases (is s 6 c.0) (leb 20 (kind s c.0)) (ok.statements c.0 x c.2 c.3 k))))
        where
          sort : (p : ℕ) → T (is s 6 p) ⊎ T (leb 20 (kind s p)) → T (is_part s p)
          sort p (inl q) = is_function_lem p q
          sort p (inr q) = is_statement p q

      function : T (is s 6 x) → ((p : ℕ) → p < n → p < rows s → T (is_part s p) → Lined s p) → Lined s x
      function k up = first (or_cases (is s 2 c.0) (is s 4 c.0 || is s 52 c.0) (ok.functions c.0 x c.2 c.3 k))
        where
          c : (p : ℕ) × (p < x) × (p < rows s) × Mem x (kids s p)
          c = held_by x l (kind_not_zero ok 6 x tt k)

          second : T (is s 4 c.0) ⊎ T (is s 52 c.0) → Lined s x
          second (inl q) = method_line c.0 x c.2 q c.3 t
          second (inr q) = under c.0 x c.2 c.3 t (up c.0 (omega (arith, c.1)) c.2 (is_statement c.0 (high_kind 52 c.0 tt q)))

          first : T (is s 2 c.0) ⊎ T (is s 4 c.0 || is s 52 c.0) → Lined s x
          first (inl q) = under c.0 x c.2 c.3 t (unit_line c.0 c.2 q)
          first (inr q) = second (or_cases (is s 4 c.0) (is s 52 c.0) q)

      low : T (is s 2 x) ⊎ T (is s 6 x) → ((p : ℕ) → p < n → p < rows s → T (is_part s p) → Lined s p) → Lined s x
      low (inl k) up = unit_line x l k
      low (inr k) up = function k up

      go : T (is s 2 x || is s 6 x) ⊎ T (leb 20 (kind s x)) → ((p : ℕ) → p < n → p < rows s → T (is_part s p) → Lined s p) → Lined s x
      go (inl k) up = low (or_cases (is s 2 x) (is s 6 x) k) up
      go (inr k) up = statement k up

  -- a line is shorter than the sheet has rows
  line_reached : {n x : ℕ} → Line s n x → Reached s n x
  line_reached top = reached_root ok
  line_reached (part l m) = reached_part ok _ (line_reached l) m

  path : {n x : ℕ} → Line s n x → List ℕ
  path top = 0 ∷ []
  path (part {x = x} l m) = x ∷ path l

  path_length : {n x : ℕ} (l : Line s n x) → length (path l) ≡ suc n
  unfolding path
  path_length top = refl
  path_length (part l m) = ap suc (path_length l)

  path_depth : {n x : ℕ} (l : Line s n x) (y : ℕ) → Mem y (path l) → (j : ℕ) × (j ≤ n) × Reached s j y
  unfolding path
  path_depth top y (here e) = (0, omega arith, subst (λ (k : ℕ). Reached s 0 k) (sym e) (reached_root ok))
  path_depth top y (there m) = absurd (Memᴰ.not-nil m)
  path_depth (part {n = n} {x = x} l q) y (here e) = (suc n, omega arith, subst (λ (k : ℕ). Reached s (suc n) k) (sym e) (line_reached (part l q)))
  path_depth (part l q) y (there m) = let r = path_depth l y m in (r.0, omega (arith, r.1), r.2)

  path_nodup : {n x : ℕ} (l : Line s n x) → Nodup (path l)
  unfolding path
  path_nodup top = nodup_one Memᴰ.not-nil nodup_none
  path_nodup (part {n = n} {x = x} l q) =
      nodup_one (λ m. let r = path_depth l x m in
      let e : r.0 ≡ suc n = deep_same r.2.deep (line_reached (part l q)).deep in
      omega (arith, r.1)) (path_nodup l)

  line_short : {n x : ℕ} → Line s n x → n < rows s
  line_short {n} l = omega (arith, path_length l, pigeonhole (rows s) (path_nodup l) (λ y m. (path_depth l y m).2.in_range))

  line_walked : {n p : ℕ} → Line s n p → (d x : ℕ) → Mem x (walked d s p) → Mem x (walked (n + d) s 0)
  line_walked top d x m = subst (λ (k : ℕ). Mem x (walked k s 0)) (plus_zero d) m
    where
      plus_zero : (d : ℕ) → d ≡ 0 + d
      plus_zero d = omega arith
  line_walked (part {n = n} {p = p} {x = k} l q) d x m =
      let e : n + suc d ≡ suc n + d = omega arith in
      subst (λ (i : ℕ). Mem x (walked i s 0)) e (line_walked l (suc d) x (there (mem_concat_map (walked d s) k x (parts s p) q m)))

  -- the walk comes to every unit, function, statement and expression
  pub all_walked : (x : ℕ) → x < rows s → T (is_part s x) → Mem x (walked (rows s) s 0)
  all_walked x l t =
      let q = line (suc x) x (omega arith) l t in
      let h : q.0 < rows s = line_short q.1 in
      let d : ℕ = rows s - suc q.0 in
      let e : q.0 + suc d ≡ rows s = omega arith in
      subst (λ (i : ℕ). Mem x (walked i s 0)) e (line_walked q.1 (suc d) x (here refl))

  pub statement_walked : (j x : ℕ) → x < rows s → T (leb 20 j) → T (is s j x) → Mem x (walked (rows s) s 0)
  statement_walked j x l h t = all_walked x l (is_statement x (high_kind j x h t))
