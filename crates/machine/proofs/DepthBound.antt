-- At most 21 functions lie around an identifier of a sheet whose depths are at most 64: each takes three levels of depth, its own, its
-- body's and that of the literal in it.
use mathlib.Core.Path.{◌≡◌, refl, sym, ap, ◌∙◌, subst}
use mathlib.Core.Logic.{◌⊎◌, inl, inr}
use mathlib.Core.List.Memᴰ.{head as here}
use mathlib.Core.List.{List, [], ◌∷◌, Memᴰ as Mem}
use mathlib.Core.Bool.{Bool, true, false, not, ◌||◌}
use Prim.Native.Nat.{ℕ, zero, suc, ◌+◌, ◌*◌, ◌<◌, ◌≤◌}
use native.Mathlib.Omega.{arith}
use lib.ListN.{length, get_or}
use lib.Dec.{eqb, leb, T, T_not, not_T, leb→le, eqb→eq}
use Rattle.definition.specs.Basics.{when◌then◌else◌, ◌⇒◌, bit, all, head}
use Rattle.definition.specs.Sheet.{Sheet, kind, rows, is, a, b, kids, holder, functions_of, function_of}
use Rattle.definition.specs.Outside.{Outside}
use Rattle.definition.specs.Format.{tables, at, depths_fit}
use Rattle.definition.specs.Walk.{parts}
use Rattle.definition.proofs.Lists.Tests.{T-imp, decide, or_cases, if_true, if_false, kind_apart, bit_not, bit_le, and_left, and_right}
use Rattle.definition.proofs.Lists.Members.{filter_mem, mem_test}
use Rattle.definition.proofs.Format.Links.{held, kid_bounds, depth_step}
use Rattle.definition.proofs.Format.Facts.{SheetFacts}
use Rattle.definition.proofs.Format.Tree.{class_holder, kid_edge}
use Rattle.definition.proofs.Walk.Fits.{Fits}
use Rattle.definition.proofs.Walk.Rows.{holder_is, kids_row, kind_not_zero, is_not_zero}
use Rattle.definition.proofs.Walk.Around.{Walks, PartOf, inner, part_of, part_of_nonzero, functions_zero, in_function, around_rest, around_walks}

nonzero : (x : ℕ) → (x ≡ 0 → ⊥) → 0 < x
nonzero zero h = absurd (h refl)
nonzero (suc x) h = omega arith

all_at : (p : ℕ → Bool) (xs : List ℕ) (i : ℕ) → T (p 0) → T (all p xs) → T (p (get_or xs i 0))
all_at p [] i z h = z
all_at p (x ∷ xs) zero z h = and_left (p x) (all p xs) h
all_at p (x ∷ xs) (suc i) z h = all_at p xs i z (and_right (p x) (all p xs) h)

inner_length : (s : Sheet) (w : ℕ) → length (inner s w) ≡ bit (is s 6 w) + length (functions_of s w)
inner_length s w = go (is s 6 w)
  where
    go : (t : Bool) → length (when t then w ∷ functions_of s w else functions_of s w) ≡ bit t + length (functions_of s w)
    go true = omega arith
    go false = omega arith

-- how many levels a function, a statement and another row may lack
abbrev slack : Bool → Bool → ℕ
slack t u = when t then 0 else when u then 2 else 1

slack_none : (t u : Bool) → T t → slack t u ≡ 0
slack_none true u h = refl
slack_none false u h = absurd h

slack_two : (t u : Bool) → T (not t) → T u → slack t u ≡ 2
slack_two true u h g = absurd h
slack_two false true h g = refl
slack_two false false h g = absurd g

slack_some : (t u : Bool) → T (not t) → 1 ≤ slack t u
slack_some true u h = absurd h
slack_some false true h = omega arith
slack_some false false h = omega arith

slack_one : (t u : Bool) → T (not u) → slack t u ≤ 1
slack_one true u h = omega arith
slack_one false true h = absurd h
slack_one false false h = omega arith

slack_most : (t u : Bool) → slack t u ≤ 2
slack_most true u = omega arith
slack_most false true = omega arith
slack_most false false = omega arith

abbrev depth : Sheet → ℕ → ℕ
depth s x = at (tables s).depths x

module _ {O : Outside} {s : Sheet} (ok : Fits O s) where
  -- a part of a row that is no class declaration is its child; of one that is, its class's
  part_kid : (w x : ℕ) → T (not (is s 30 w)) → Mem x (parts s w) → Mem x (kids s w)
  part_kid w x h m =
      subst (λ (p : ℕ). Mem x (kids s p)) (if_false (is s 30 w) (a s w) w h) (filter_mem (λ k. is s 2 k || is s 6 k || leb 20 (kind s k)) x (kids s (when is s 30 w then a s w else w)) m).0

  part_method : (w x : ℕ) → T (is s 30 w) → Mem x (parts s w) → Mem x (kids s (a s w))
  part_method w x h m =
      subst (λ (p : ℕ). Mem x (kids s p)) (if_true (is s 30 w) (a s w) w h) (filter_mem (λ k. is s 2 k || is s 6 k || leb 20 (kind s k)) x (kids s (when is s 30 w then a s w else w)) m).0

  -- none lies around a unit, nor around its function
  unit_bare : (u : ℕ) → Walks s u → T (is s 2 u) → functions_of s u ≡ []
  unit_bare u w t = go (decide (is s 30 q.whole))
    where
      q : PartOf s u
      q = part_of_nonzero ok u w (kind_not_zero ok 2 u tt t)

      go : T (is s 30 q.whole) ⊎ T (not (is s 30 q.whole)) → functions_of s u ≡ []
      go (inl h) =
          let c = ok.class_named q.whole q.range h in
          absurd (kind_not_zero ok 4 (a s q.whole) tt c.1 (ok.units (a s q.whole) u c.0 (part_method q.whole u h q.part) t))
      go (inr h) =
          let e : q.whole ≡ 0 = ok.units q.whole u q.range (part_kid q.whole u h q.part) t in
          q.around ∙ ap (inner s) e ∙ if_false (is s 6 0) (0 ∷ functions_of s 0) (functions_of s 0) (not_T (is s 6 0) (is_not_zero ok 6 tt)) ∙ functions_zero ok

  function_bare : (f : ℕ) → Walks s f → T (is s 6 f) → b s f ≡ 1 → functions_of s f ≡ []
  function_bare f w t e = go (decide (is s 30 q.whole))
    where
      q : PartOf s f
      q = part_of_nonzero ok f w (kind_not_zero ok 6 f tt t)

      go : T (is s 30 q.whole) ⊎ T (not (is s 30 q.whole)) → functions_of s f ≡ []
      go (inl h) =
          let c = ok.class_named q.whole q.range h in
          let u : T (is s 2 (a s q.whole)) = (ok.unit_functions (a s q.whole) f c.0 (part_method q.whole f h q.part) t).0 e in
          absurd (kind_apart (kind s (a s q.whole)) 2 4 tt u c.1)
      go (inr h) =
          let u : T (is s 2 q.whole) = (ok.unit_functions q.whole f q.range (part_kid q.whole f h q.part) t).0 e in
          q.around ∙ if_false (is s 6 q.whole) (q.whole ∷ functions_of s q.whole) (functions_of s q.whole) (not_T (is s 6 q.whole) (kind_apart (kind s q.whole) 2 6 tt u))
          ∙ unit_bare q.whole q.walks u

  -- one lies around a class declaration
  declaration_one : (d : ℕ) → Walks s d → d < rows s → T (is s 30 d) → length (functions_of s d) ≡ 1
  declaration_one d w l h =
      let q = in_function ok d w (subst (λ (k : ℕ). T (leb 20 k)) (sym (eqb→eq (kind s d) 30 h)) tt) in
      let g : ℕ = q.0 in
      let e : functions_of s d ≡ g ∷ q.1 = q.2 in
      let hd : function_of s d ≡ g = ap head e in
      let c = ok.class_outside d l h in
      let v = around_walks ok d g w (subst (λ (fs : List ℕ). Mem g fs) (sym e) (here refl)) in
      let bare : q.1 ≡ [] = around_rest ok d g q.1 w e ∙ function_bare g v.0 v.1 (subst (λ (f : ℕ). b s f ≡ 1) hd c.1) in
      ap length e ∙ ap (λ (fs : List ℕ). suc (length fs)) bare

module _ (n : ℕ) {O : Outside} {s : Sheet} (ok : Fits O s) (fa : SheetFacts n s) where
  deeper : (x w : ℕ) → 0 < x → x < rows s → holder s x ≡ w → depth s x ≡ suc (depth s w)
  deeper x w z l e = depth_step s ok.links x z l ∙ ap (λ (p : ℕ). suc (depth s p)) e

  method_deep : (c x : ℕ) → c < rows s → T (is s 4 c) → Mem x (kids s c) → 0 < x → 3 ≤ depth s x
  method_deep c x l t m z =
      let zc : 0 < c = nonzero c (kind_not_zero ok 4 c tt t) in
      let u : ℕ = holder s c in
      let tu : T (is s 2 u) = class_holder n s fa c l t in
      let lu : u < c = (held s ok.links c zc l).1 in
      omega (arith, deeper x c z (kids_row ok c x l m) (holder_is ok c x l m), deeper c u zc l refl, deeper u (holder s u) (nonzero u (kind_not_zero ok 2 u tt tu)) (omega arith) refl)

  -- three levels for each function around, less what a function, a statement and an expression may lack
  Deep-enough : ℕ → Type 0
  Deep-enough x = 3 * length (functions_of s x) ≤ depth s x + slack (is s 6 x) (leb (kind s x) 39)

  deep_zero : (x : ℕ) → x ≡ 0 → Deep-enough x
  unfolding Deep-enough
  deep_zero x e =
      let f : length (functions_of s x) ≡ 0 = ap (λ (k : ℕ). length (functions_of s k)) e ∙ ap length (functions_zero ok) in
      omega (arith, f)

  -- a function stands in no function
  function_edge : (w x : ℕ) → w < rows s → Mem x (kids s w) → T (is s 6 x) → T (is s 6 w) → ⊥
  function_edge w x l m t v = case (or_cases (is s 2 w) (is s 4 w || is s 52 w) (ok.functions w x l m t))
    where
      case : T (is s 2 w) ⊎ T (is s 4 w || is s 52 w) → ⊥
      case (inl y) = kind_apart (kind s w) 2 6 tt y v
      case (inr y) = last (or_cases (is s 4 w) (is s 52 w) y)
        where
          last : T (is s 4 w) ⊎ T (is s 52 w) → ⊥
          last (inl y) = kind_apart (kind s w) 4 6 tt y v
          last (inr y) = kind_apart (kind s w) 52 6 tt y v

  -- the child x of row w
  deep_kid : (w x : ℕ) → w < rows s → Walks s w → T (not (is s 4 w)) → Mem x (kids s w)
      → Deep-enough w
      → depth s x ≡ suc (depth s w) → length (functions_of s x) ≡ bit (is s 6 w) + length (functions_of s w)
      → T (is s 6 w) ⊎ T (not (is s 6 w)) → T (is s 6 x) ⊎ T (not (is s 6 x)) → Deep-enough x
  unfolding Deep-enough
  deep_kid w x lw ww nc k i e f (inl tw) (inl tx) = absurd (function_edge w x lw k tx tw)
  deep_kid w x lw ww nc k i e f (inl tw) (inr nx) =
      omega (
        arith,
        i,
        e,
        f,
        bit_le (is s 6 w),
        slack_none (is s 6 w) (leb (kind s w) 39) tw,
        slack_two (is s 6 x) (leb (kind s x) 39) nx (T-imp (is s 6 w) (leb (kind s x) 39) (kid_edge n s fa (λ p k. eqb p 6 ⇒ leb k 39) tt w x lw (mem_test x (kids s w) k)) tw),
      )
  deep_kid w x lw ww nc k i e f (inr nw) (inr nx) =
      omega (arith, i, e, f, bit_not (is s 6 w) (T_not (is s 6 w) nw), slack_most (is s 6 w) (leb (kind s w) 39), slack_some (is s 6 x) (leb (kind s x) 39) nx)
  deep_kid w x lw ww nc k i e f (inr nw) (inl tx) = case (or_cases (is s 2 w) (is s 4 w || is s 52 w) (ok.functions w x lw k tx))
    where
      case : T (is s 2 w) ⊎ T (is s 4 w || is s 52 w) → 3 * length (functions_of s x) ≤ depth s x + slack (is s 6 x) (leb (kind s x) 39)
      case (inl y) = omega (arith, f, bit_not (is s 6 w) (T_not (is s 6 w) nw), ap length (unit_bare ok w ww y))
      case (inr y) = last (or_cases (is s 4 w) (is s 52 w) y)
        where
          last : T (is s 4 w) ⊎ T (is s 52 w) → 3 * length (functions_of s x) ≤ depth s x + slack (is s 6 x) (leb (kind s x) 39)
          last (inl v) = absurd (T_not (is s 4 w) nc v)
          last (inr v) =
              omega (
                arith,
                i,
                e,
                f,
                bit_not (is s 6 w) (T_not (is s 6 w) nw),
                slack_one (is s 6 w) (leb (kind s w) 39) (subst (λ (j : ℕ). T (not (leb j 39))) (sym (eqb→eq (kind s w) 52 v)) tt),
              )

  deep_part : (m x : ℕ) → x ≤ suc m → (q : PartOf s x) → ((w : ℕ) → w ≤ m → Walks s w → Deep-enough w) → T (is s 30 q.whole) ⊎ T (not (is s 30 q.whole)) → Deep-enough x
  unfolding Deep-enough
  deep_part m x l q up (inl h) =
      let d : ℕ = q.whole in
      let c = ok.class_named d q.range h in
      let k : Mem x (kids s (a s d)) = part_method ok d x h q.part in
      let z : 0 < x = omega (arith, (kid_bounds s ok.links (a s d) x c.0 (mem_test x (kids s (a s d)) k)).0) in
      omega (
        arith,
        method_deep (a s d) x c.0 c.1 k z,
        ap length q.around,
        inner_length s d,
        bit_not (is s 6 d) (kind_apart (kind s d) 30 6 tt h),
        declaration_one ok d q.walks q.range h,
      )
  deep_part m x l q up (inr h) =
      let w : ℕ = q.whole in
      let k : Mem x (kids s w) = part_kid ok w x h q.part in
      let y = kid_bounds s ok.links w x q.range (mem_test x (kids s w) k) in
      deep_kid w x q.range q.walks q.not_class k (up w (omega (arith, y.0)) q.walks)
      (deeper x w (omega (arith, y.0)) y.1 (holder_is ok w x q.range k))
      (ap length q.around ∙ inner_length s w)
      (decide (is s 6 w)) (decide (is s 6 x))

  functions_deep : (m x : ℕ) → x ≤ m → Walks s x → Deep-enough x
  functions_deep zero x l w = deep_zero x (omega arith)
  functions_deep (suc m) x l w = go (part_of ok x w) (λ y h v. functions_deep m y h v)
    where
      go : (x ≡ 0) ⊎ PartOf s x → ((y : ℕ) → y ≤ m → Walks s y → Deep-enough y) → Deep-enough x
      go (inl e) up = deep_zero x e
      go (inr q) up = deep_part m x l q up (decide (is s 30 q.whole))

  pub functions_few : T (depths_fit s) → (x : ℕ) → Walks s x → T (is s 50 x) → length (functions_of s x) ≤ 21
  unfolding Deep-enough
  functions_few h x w v =
      let i : 3 * length (functions_of s x) ≤ depth s x + slack (is s 6 x) (leb (kind s x) 39) = functions_deep x x (omega arith) w in
      let l : depth s x ≤ 64 = leb→le (depth s x) 64 (all_at (λ d. leb d 64) (tables s).depths x tt h) in
      omega (arith, slack_one (is s 6 x) (leb (kind s x) 39) (subst (λ (j : ℕ). T (not (leb j 39))) (sym (eqb→eq (kind s x) 50 v)) tt))
