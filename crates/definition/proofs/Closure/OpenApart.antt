-- Of the declarations open at one moment, a variable is the only one with its code, function, and slot or index.
use mathlib.Core.Path.{◌≡◌, refl, sym, ap, ◌∙◌, subst}
use mathlib.Core.Logic.{◌⊎◌, inl, inr}
use mathlib.Core.List.{List, [], ◌∷◌, Memᴰ as Mem}
use mathlib.Core.Bool.{not}
use Prim.Native.Nat.{ℕ, suc}
use native.Mathlib.Omega.{arith}
use lib.ListN.{length, get_or, take, drop, length-drop}
use lib.Dec.{eqb, T, T_not, eqb→eq, eqb_refl}
use Rattle.definition.specs.Basics.{when◌then◌else◌, place, bit}
use Rattle.definition.specs.Sheet.{Sheet, kind, kids, kids_of, is, b}
use Rattle.definition.specs.Outside.{Outside}
use Rattle.definition.specs.Meaning.{Meaning, nothing, variable, row_of, owner_of, is_variable, global, function, class, toplevel}
use Rattle.definition.specs.Scope.{Stack, Moment, history}
use Rattle.definition.specs.Slots.{is_local, open_locals, code}
use Rattle.definition.proofs.Closure.Open.{OpenAt}
use Rattle.definition.proofs.Lists.Tests.{and_both, if_true, if_false, kind_apart, decide}
use Rattle.definition.proofs.Lists.Members.{mem_filter, place_found}
use Rattle.definition.proofs.Closure.SlotsApart.{apart}
use Rattle.definition.proofs.Walk.Fits.{Fits}
use Rattle.definition.proofs.Closure.Variables.{KindOf, parameter, local, Variable, open_variable, variable_same}

-- the code, the slot or index, and the function of a variable
code_of_lem : (O : Outside) (s : Sheet) (d : Meaning) (k : ℕ) → T (is_variable d)
    → code s (history O s) d k ≡ (when is s 11 (row_of d) then 4 ∷ place (eqb (row_of d)) (kids_of s 11 (owner_of d)) ∷ owner_of d ∷ [] else 5 ∷ k ∷ owner_of d ∷ bit (eqb (b s (row_of d)) 1) ∷ [])
code_of_lem O s nothing k h = absurd h
code_of_lem O s (function f) k h = absurd h
code_of_lem O s (class c) k h = absurd h
code_of_lem O s (global g m) k h = absurd h
code_of_lem O s (toplevel r) k h = absurd h
code_of_lem O s (variable r f) k h = refl

pub argument_code : (O : Outside) (s : Sheet) (d : Meaning) (k : ℕ) → T (is_variable d) → T (is s 11 (row_of d))
    → code s (history O s) d k ≡ 4 ∷ place (eqb (row_of d)) (kids_of s 11 (owner_of d)) ∷ owner_of d ∷ []
argument_code O s d k h t = code_of_lem O s d k h ∙ if_true (is s 11 (row_of d)) _ _ t

pub local_code : (O : Outside) (s : Sheet) (d : Meaning) (k : ℕ) → T (is_variable d) → T (not (is s 11 (row_of d))) → code s (history O s) d k ≡ 5 ∷ k ∷ owner_of d ∷ bit (eqb (b s (row_of d)) 1) ∷ []
local_code O s d k h t = code_of_lem O s d k h ∙ if_false (is s 11 (row_of d)) _ _ t

abbrev first_of : List ℕ → ℕ
first_of l = get_or l 0 0

first_take : (l : List ℕ) → first_of (take 3 l) ≡ first_of l
first_take [] = refl
first_take (x ∷ xs) = refl

-- what has a variable's code is a variable
code_variable : (O : Outside) (s : Sheet) (e : Meaning) (k n : ℕ) → (n ≡ 4) ⊎ (n ≡ 5) → first_of (code s (history O s) e k) ≡ n → T (is_variable e)
code_variable O s nothing k n (inl p) q = omega arith
code_variable O s nothing k n (inr p) q = omega arith
code_variable O s (function f) k n (inl p) q = omega arith
code_variable O s (function f) k n (inr p) q = omega arith
code_variable O s (class f) k n (inl p) q = omega arith
code_variable O s (class f) k n (inr p) q = omega arith
code_variable O s (global g m) k n (inl p) q = omega arith
code_variable O s (global g m) k n (inr p) q = omega arith
code_variable O s (toplevel r) k n (inl p) q = omega arith
code_variable O s (toplevel r) k n (inr p) q = omega arith
code_variable O s (variable r f) k n p q = tt

pub same_place : (S : Stack) (i j n k : ℕ) (d e : Meaning) (st st' : Stack) → OpenAt S i n d st → OpenAt S j k e st' → st ≡ st' → i ≡ j
same_place S i j n k d e st st' p q r =
    let x : length (drop i S) ≡ suc (length st) = ap length p in
    let y : length (drop j S) ≡ suc (length st') = ap length q in
    let z : length st ≡ length st' = ap length r in
    omega (arith, length-drop i S, length-drop j S)

same_index : (x y : ℕ) (l : List ℕ) → Mem x l → Mem y l → place (eqb x) l ≡ place (eqb y) l → x ≡ y
same_index x y l m n e =
    let p = place_found (eqb x) x l (eqb_refl x) m in
    let q = place_found (eqb y) y l (eqb_refl y) n in
    let f : p.0 ∷ p.1 ≡ q.0 ∷ q.1 = sym p.2 ∙ ap (λ (i : ℕ). drop i l) e ∙ q.2 in
    let w : p.0 ≡ q.0 = cc in
    eqb→eq x p.0 p.3 ∙ w ∙ sym (eqb→eq y q.0 q.3)

module _ {O : Outside} {s : Sheet} (ok : Fits O s) where
  is_parameter : (x f : ℕ) → KindOf s x f → T (is s 11 x) → Mem x (kids_of s 11 f)
  is_parameter x f (parameter h m) t = mem_filter (is s 11) x (kids s f) t m
  is_parameter x f (local h) t = absurd (kind_apart (kind s x) 29 11 tt h t)

  pub is_local_lem : (d : Meaning) (f : ℕ) → T (is_variable d) → KindOf s (row_of d) f → T (not (is s 11 (row_of d))) → T (is_local s d)
  is_local_lem d f v (parameter h m) t = absurd (T_not (is s 11 (row_of d)) t h)
  is_local_lem d f v (local h) t = and_both (is_variable d) (is s 29 (row_of d)) v h

  told_variables : (m : Moment) → Mem m (history O s) → (i j n k : ℕ) (d e : Meaning) (st st' : Stack) → OpenAt m.stack i n d st → OpenAt m.stack j k e st'
      → T (is_variable d) → T (is_variable e) → take 3 (code s (history O s) d (open_locals s st)) ≡ take 3 (code s (history O s) e (open_locals s st')) → i ≡ j
  told_variables m q i j n k d e st st' p r v w c = go (decide (is s 11 (row_of d))) (decide (is s 11 (row_of e)))
    where
      x : Variable O s d st
      x = open_variable ok m q i n d st p v

      y : Variable O s e st'
      y = open_variable ok m q j k e st' r w

      go : T (is s 11 (row_of d)) ⊎ T (not (is s 11 (row_of d))) → T (is s 11 (row_of e)) ⊎ T (not (is s 11 (row_of e))) → i ≡ j
      go (inl t) (inl u) =
          let f : 4 ∷ place (eqb (row_of d)) (kids_of s 11 (owner_of d)) ∷ owner_of d ∷ [] ≡ 4 ∷ place (eqb (row_of e)) (kids_of s 11 (owner_of e)) ∷ owner_of e ∷ [] =
          sym (ap (take 3) (argument_code O s d (open_locals s st) v t)) ∙ c ∙ ap (take 3) (argument_code O s e (open_locals s st') w u) in
          let o : owner_of e ≡ owner_of d = sym (ap (λ (l : List ℕ). get_or l 2 0) f) in
          let g : place (eqb (row_of d)) (kids_of s 11 (owner_of d)) ≡ place (eqb (row_of e)) (kids_of s 11 (owner_of d)) =
          ap (λ (l : List ℕ). get_or l 1 0) f ∙ ap (λ (z : ℕ). place (eqb (row_of e)) (kids_of s 11 z)) o in
          let h : row_of d ≡ row_of e =
          same_index (row_of d) (row_of e) (kids_of s 11 (owner_of d)) (is_parameter (row_of d) (owner_of d) x.kind_of t)
          (subst (λ (z : ℕ). Mem (row_of e) (kids_of s 11 z)) o (is_parameter (row_of e) (owner_of e) y.kind_of u)) g in
          same_place m.stack i j n k d e st st' p r (variable_same ok d e st st' x y h).1
      go (inl t) (inr u) =
          let f : ◌≡◌ {A = ℕ} 4 5 = ap first_of (sym (ap (take 3) (argument_code O s d (open_locals s st) v t)) ∙ c ∙ ap (take 3) (local_code O s e (open_locals s st') w u)) in
          absurd (omega arith)
      go (inr t) (inl u) =
          let f : ◌≡◌ {A = ℕ} 5 4 = ap first_of (sym (ap (take 3) (local_code O s d (open_locals s st) v t)) ∙ c ∙ ap (take 3) (argument_code O s e (open_locals s st') w u)) in
          absurd (omega arith)
      go (inr t) (inr u) =
          apart s m.stack i j n k d e st st' p r (is_local_lem d (owner_of d) v x.kind_of t) (is_local_lem e (owner_of e) w y.kind_of u)
          (ap (λ (l : List ℕ). get_or l 1 0) (sym (ap (take 3) (local_code O s d (open_locals s st) v t)) ∙ c ∙ ap (take 3) (local_code O s e (open_locals s st') w u)))

  first_code : (d : Meaning) (k : ℕ) → T (is_variable d) → (first_of (code s (history O s) d k) ≡ 4) ⊎ (first_of (code s (history O s) d k) ≡ 5)
  first_code d k v = go (decide (is s 11 (row_of d)))
    where
      go : T (is s 11 (row_of d)) ⊎ T (not (is s 11 (row_of d))) → (first_of (code s (history O s) d k) ≡ 4) ⊎ (first_of (code s (history O s) d k) ≡ 5)
      go (inl t) = inl (ap first_of (argument_code O s d k v t))
      go (inr t) = inr (ap first_of (local_code O s d k v t))

  pub told_apart : (m : Moment) → Mem m (history O s) → (i j n k : ℕ) (d e : Meaning) (st st' : Stack) → OpenAt m.stack i n d st → OpenAt m.stack j k e st'
      → T (is_variable d) → take 3 (code s (history O s) d (open_locals s st)) ≡ take 3 (code s (history O s) e (open_locals s st')) → i ≡ j
  told_apart m q i j n k d e st st' p r v c =
      told_variables m q i j n k d e st st' p r v
      (code_variable O s e (open_locals s st') (first_of (code s (history O s) d (open_locals s st))) (first_code d (open_locals s st) v)
      (sym (first_take (code s (history O s) e (open_locals s st'))) ∙ ap first_of (sym c) ∙ first_take (code s (history O s) d (open_locals s st)))) c
