-- The questions on constructor calls: of one call, of the list of them from the last back, and after those on classes.
use mathlib.Core.Path.{◌≡◌, refl, sym, ap, ◌∙◌}
use mathlib.Core.Bool.{Bool, true, false, not}
use mathlib.Core.List.{List, [], ◌∷◌, ◌++◌, map}
use Prim.Native.Nat.{ℕ, zero, suc, ◌+◌, ◌-◌, ◌<◌, ◌≤◌}
use native.Mathlib.Omega.{arith}
use lib.Dec.{eqb}
use lib.ListN.{length}
use borrow.Author.Tests.{eq-eqb, ne_eqb}
use Rattle.definition.specs.Basics.{when◌then◌else◌, first}
use Rattle.definition.specs.Sheet.{Sheet, child, next, rows, chain}
use Rattle.definition.specs.Classes.{class_name, method_of}
use Rattle.definition.specs.Question.{Refusal, none, ask, first_no, arguments}
use Rattle.definition.proofs.Lists.Members.{map_append}
use Rattle.definition.specs.Outside.{Outside}
use Rattle.machine.specs.Machine.{Store, Node, node_word, node_at, previous, chain_to}
use Rattle.machine.proofs.ByKind.{list_none, list_more}
use Rattle.after.specs.Inherited.{methods_in, check_call_in}
use Rattle.std.proofs.Common.{Result, Ok, Err}
use Rattle.std.specs.Result.{result_and}
use Rattle.ast.specs.Question.{question_number}
use Rattle.ast.specs.Refused.{refusal_of, refusal_in}
use Rattle.ast.specs.declared.question.Refusal.{Refusal as Refused}
use Rattle.ast.proofs.QuestionLaws.{question_none}

-- a call has fewer arguments than the sheet has rows, or none
chain_few : (s : Sheet) (n k : ℕ) → length (chain n s k) ≤ n
chain_few s zero k = omega arith
chain_few s (suc n) zero = omega arith
chain_few s (suc n) (suc k) = omega (arith, chain_few s n (next s (suc k)))

pub arguments_few : (s : Sheet) (r : ℕ) → arguments s r ≤ rows s
arguments_few s r = omega (arith, chain_few s (rows s) (child s r))

-- a refusal of three values
abbrev no : ℕ → ℕ → ℕ → Refusal
no q r n = record { number = q; at = r; name = n }

-- one call: y is its node, f the constructor, w its parameters, i the position, m the class's name
module _ (O : Outside) (s : Sheet) (o : Store) (y : Node) {f w i m : ℕ} (e : f ≡ (method_of 23 (methods_in O s o (rows s) y.one)).fun) (h : w ≡ (method_of 23 (methods_in O s o (rows s) y.one)).params)
    (p : i ≡ child s y.key) (q : m ≡ class_name O s y.one) where
  same_no : (k : ℕ) → no k i m ≡ no k (child s y.key) (class_name O s y.one)
  same_no k = ap (λ (j : ℕ). no k j m) p ∙ ap (no k (child s y.key)) q

  abbrev asked : Bool → Bool → Refusal
  asked t u = when t then no 20 (child s y.key) (class_name O s y.one) else ask 21 (child s y.key) (class_name O s y.one) u

  pub call_without : f ≡ 0 → no 20 i m ≡ check_call_in O s o y
  call_without z = same_no 20 ∙ sym (ap (λ (t : Bool). asked t (eqb (arguments s y.key + 1) (method_of 23 (methods_in O s o (rows s) y.one)).params)) (eq-eqb _ 0 (sym e ∙ z)))

  module _ (g : f ≡ 0 → ⊥) {x : ℕ} (d : x ≡ arguments s y.key) where
    at_init : check_call_in O s o y ≡ asked false (eqb (x + 1) w)
    at_init =
        ap (λ (t : Bool). asked t (eqb (arguments s y.key + 1) (method_of 23 (methods_in O s o (rows s) y.one)).params)) (ne_eqb _ 0 (λ z. g (e ∙ z)))
        ∙ sym (ap (λ (j : ℕ). asked false (eqb (j + 1) w)) d ∙ ap (λ (j : ℕ). asked false (eqb (arguments s y.key + 1) j)) h)

    pub call_fits : x + 1 ≡ w → none ≡ check_call_in O s o y
    call_fits z = sym (at_init ∙ ap (asked false) (eq-eqb (x + 1) w z))

    pub call_unfit : (x + 1 ≡ w → ⊥) → no 21 i m ≡ check_call_in O s o y
    call_unfit z = same_no 21 ∙ sym (at_init ∙ ap (asked false) (ne_eqb (x + 1) w z))

-- a refusal that is one
abbrev is_no : Refusal → Bool
is_no x = not (eqb x.number 0)

first_append : (d : Refusal) (xs ys : List Refusal) → first is_no d (xs ++ ys) ≡ first is_no (first is_no d ys) xs
first_append d [] ys = refl
first_append d (x ∷ xs) ys = ap (λ (z : Refusal). when is_no x then x else z) (first_append d xs ys)

-- The calls from the last back: f is the answer on a call, x the first no of the calls passed.
module _ (q : List ℕ) (f : Node → Refusal) where
  unfoldable pub calls_to : ℕ → Refusal → Refusal
  calls_to i x = first is_no x (map f (chain_to q i))

  pub calls_all : (i : ℕ) → calls_to i none ≡ first_no (map f (chain_to q i))
  unfolding calls_to
  calls_all i = refl

  pub calls_end : (i : ℕ) (x : Refusal) → i ≤ 0 → x ≡ calls_to i x
  unfolding calls_to
  calls_end i x l = sym (ap (λ (ys : List Node). first is_no x (map f ys)) (list_none q i (omega arith)))

  -- y answers on the call of node i
  pub node_answer : (i : ℕ) {y : Refusal} {k c : ℕ} → k ≡ node_word q i 1 → c ≡ node_word q i 2 → y ≡ f (record { key = k; one = c; two = node_word q i 3 }) → y ≡ f (node_at q i)
  node_answer i {y} {k} {c} d g e =
      e ∙ ap (λ (n : ℕ). f (record { key = n; one = c; two = node_word q i 3 })) d ∙ ap (λ (n : ℕ). f (record { key = node_word q i 1; one = n; two = node_word q i 3 })) g

  module _ (i : ℕ) (x : Refusal) (l : 0 < i) {y : Refusal} (e : y ≡ f (node_at q (i - 1))) {j : ℕ} (b : j ≡ previous q (i - 1)) where
    step : calls_to i x ≡ calls_to j (when is_no y then y else x)
    unfolding calls_to
    step =
        ap (λ (n : ℕ). first is_no x (map f (chain_to q n))) below
        ∙ ap (λ (ys : List Node). first is_no x (map f ys)) (list_more q (i - 1))
        ∙ ap (first is_no x) (map_append f (chain_to q (previous q (i - 1))) (node_at q (i - 1) ∷ []))
        ∙ first_append x (map f (chain_to q (previous q (i - 1)))) (f (node_at q (i - 1)) ∷ [])
        ∙ sym (ap (λ (n : ℕ). first is_no (when is_no y then y else x) (map f (chain_to q n))) b
        ∙ ap (λ (z : Refusal). first is_no (when is_no z then z else x) (map f (chain_to q (previous q (i - 1))))) e)
      where
        below : i ≡ suc (i - 1)
        below = omega arith

-- an earlier no takes the place of a later one
and_first : (y x : Result (Unit {0}) Refused) → refusal_in (result_and y x) ≡ (when is_no (refusal_in y) then refusal_in y else refusal_in x)
and_first (Ok u) x = refl
and_first (Err q) x = sym (ap (λ (t : Bool). when not t then refusal_of q else refusal_in x) (ne_eqb (question_number q.question) 0 (question_none q.question)))

pub calls_step : (q : List ℕ) (f : Node → Refusal) (i : ℕ) (y x : Result (Unit {0}) Refused) → 0 < i → refusal_in y ≡ f (node_at q (i - 1))
    → {z : Result (Unit {0}) Refused} → z ≡ result_and y x → {j : ℕ} → j ≡ previous q (i - 1) → calls_to q f j (refusal_in z) ≡ calls_to q f i (refusal_in x)
calls_step q f i y x l e {z} h {j} b = ap (λ (r : Result (Unit {0}) Refused). calls_to q f j (refusal_in r)) h ∙ ap (calls_to q f j) (and_first y x) ∙ sym (step q f i (refusal_in x) l e b)

-- The first of two: x on classes, and then the first no of a list.
pub later_classes : (z : Refusal) {x y : Refusal} → x ≡ y → (x.number ≡ 0 → ⊥) → x ≡ first_no (y ∷ z ∷ [])
later_classes z {x} {y} e g = e ∙ sym (ap (λ (t : Bool). when not t then y else when is_no z then z else none) (ne_eqb y.number 0 (λ h. g (ap (λ (r : Refusal). r.number) e ∙ h))))

first_again : (xs : List Refusal) → first_no xs ≡ (when is_no (first_no xs) then first_no xs else none)
first_again [] = refl
first_again (x ∷ xs) = go (is_no x) refl (first_again xs)
  where
    go : (t : Bool) → is_no x ≡ t → first_no xs ≡ (when is_no (first_no xs) then first_no xs else none)
        → (when t then x else first_no xs) ≡ (when is_no (when t then x else first_no xs) then (when t then x else first_no xs) else none)
    go true e h = sym (ap (λ (b : Bool). when b then x else none) e)
    go false e h = h

pub later_calls : {x y z : Refusal} (xs : List Refusal) → x ≡ y → x.number ≡ 0 → z ≡ first_no xs → z ≡ first_no (y ∷ first_no xs ∷ [])
later_calls {x} {y} {z} xs e g h =
    h ∙ first_again xs
    ∙ sym (ap (λ (t : Bool). when not t then y else when is_no (first_no xs) then first_no xs else none) (eq-eqb y.number 0 (sym (ap (λ (r : Refusal). r.number) e) ∙ g)))
