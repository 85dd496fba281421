-- Loops and stores of the program, one turn at a time: equations for the proofs of its routines.
use mathlib.Core.Path.{◌≡◌, refl, sym, ap, ◌∙◌}
use mathlib.Core.List.{List, [], ◌∷◌, ◌++◌}
use mathlib.Core.Bool.{Bool, true, false, ◌||◌, true≢false}
use Prim.Native.Nat.{ℕ, zero, suc, ◌+◌, ◌-◌, ◌*◌, ◌<◌, ◌≤◌}
use native.Mathlib.Omega.{arith}
use native.Mathlib.Numerals.{towards_suc, sub-one}
use lib.ListN.{length, set, length-append}
use lib.Seq.{sets}
use lib.Dec.{eqb}
use Rattle.definition.specs.Basics.{when◌then◌else◌, any, place}
use Rattle.machine.specs.Machine.{node_word, Node, previous, chain_back, reversed, Store, list_at, has_key, append_node, add_capture}
use Rattle.machine.proofs.Lists.{any_append, place_append}
use Rattle.machine.proofs.Nodes.{chain_back_hit, chain_back_down}

-- Stores: five words of an entry and four of a node, one after another.
pub five_stores : (v : List ℕ) (i t m x y k : ℕ) → set (set (set (set (set v i t) (i + 1) m) (i + 2) x) (i + 3) y) (i + 4) k ≡ sets v i (t ∷ m ∷ x ∷ y ∷ k ∷ [])
five_stores v i t m x y k = simp towards_suc

pub four_stores : (v : List ℕ) (i t m x y : ℕ) → set (set (set (set v i t) (i + 1) m) (i + 2) x) (i + 3) y ≡ sets v i (t ∷ m ∷ x ∷ y ∷ [])
four_stores v i t m x y = simp towards_suc

-- a capture added in the functions around, the innermost first
module _ (x : Node) (o : Store) where
  pub capture_none : add_capture [] x o ≡ o
  unfolding add_capture
  capture_none = refl

  module _ (g : ℕ) (gs : List ℕ) where
    pub capture_ends : (eqb g x.one || has_key x.key (list_at o (8 * g + 6))) ≡ true → add_capture (g ∷ gs) x o ≡ o
    unfolding add_capture
    capture_ends h = rw h

    pub capture_goes : (eqb g x.one || has_key x.key (list_at o (8 * g + 6))) ≡ false → add_capture (g ∷ gs) x o ≡ add_capture gs x (append_node (8 * g + 6) x o)
    unfolding add_capture
    capture_goes h = rw h

-- The index of a key in a list of nodes, counted while the list is walked from the last node back: 0 at the key, else one more.
abbrev pub since : ℕ → List Node → ℕ → ℕ
since k [] c = c
since k (y ∷ ys) c = since k ys (when eqb k y.key then 0 else suc c)

abbrev hit : ℕ → List Node → Bool
hit k xs = any (λ y. eqb k y.key) xs

since_none : (k : ℕ) (xs : List Node) (c : ℕ) → hit k xs ≡ false → since k xs c ≡ c + length xs
since_none k [] c h = omega arith
since_none k (y ∷ ys) c h = by (eqb k y.key) h (λ d g. since_none k ys d g)
  where
    by : (t : Bool) → (t || hit k ys) ≡ false → ((d : ℕ) → hit k ys ≡ false → since k ys d ≡ d + length ys) → since k ys (when t then 0 else suc c) ≡ c + suc (length ys)
    by true g i = absurd (true≢false g)
    by false g i = omega (arith, i (suc c) g)

place_none : {A : Type 0} (p : A → Bool) (xs ys : List A) → any p xs ≡ false → place p (xs ++ ys) ≡ length xs + place p ys
place_none p [] ys h = omega arith
place_none p (x ∷ xs) ys h = by (p x) h (λ g. place_none p xs ys g)
  where
    by : (t : Bool) → (t || any p xs) ≡ false → (any p xs ≡ false → place p (xs ++ ys) ≡ length xs + place p ys) → (when t then 0 else suc (place p (xs ++ ys))) ≡ suc (length xs) + place p ys
    by true g i = absurd (true≢false g)
    by false g i = omega (arith, i g)

turn_length : (xs : List Node) → length (reversed xs) ≡ length xs
unfolding reversed
turn_length [] = refl
turn_length (x ∷ xs) = length-append (reversed xs) (x ∷ []) ∙ omega (arith, turn_length xs)

turn_hit : (k : ℕ) (xs : List Node) → hit k (reversed xs) ≡ hit k xs
unfolding reversed
turn_hit k [] = refl
turn_hit k (x ∷ xs) = any_append (λ y. eqb k y.key) (reversed xs) (x ∷ []) ∙ ap (λ (t : Bool). t || (eqb k x.key || false)) (turn_hit k xs) ∙ by (hit k xs) (eqb k x.key)
  where
    by : (t u : Bool) → (t || (u || false)) ≡ (u || t)
    by true true = refl
    by true false = refl
    by false true = refl
    by false false = refl

pub place_since : (k : ℕ) (xs : List Node) (c : ℕ) → hit k xs ≡ true → place (λ y. eqb k y.key) (reversed xs) ≡ since k xs c
unfolding reversed
place_since k [] c h = absurd (true≢false (sym h))
place_since k (y ∷ ys) c h = by (hit k ys) refl (eqb k y.key) refl h (λ d g. place_since k ys d g)
  where
    by : (t : Bool) → hit k ys ≡ t → (u : Bool) → eqb k y.key ≡ u → (u || t) ≡ true
        → ((d : ℕ) → hit k ys ≡ true → place (λ y. eqb k y.key) (reversed ys) ≡ since k ys d)
        → place (λ y. eqb k y.key) (reversed ys ++ y ∷ []) ≡ since k ys (when u then 0 else suc c)
    by true e u f g i = place_append (λ y. eqb k y.key) (reversed ys) (y ∷ []) (turn_hit k ys ∙ e) ∙ i (when u then 0 else suc c) e
    by false e true f g i =
        place_none (λ y. eqb k y.key) (reversed ys) (y ∷ []) (turn_hit k ys ∙ e)
        ∙ ap (λ (t : Bool). length (reversed ys) + (when t then 0 else 1)) f ∙ omega (arith, turn_length ys, since_none k ys 0 e)
    by false e false f g i = absurd (true≢false (sym g))

-- the count, one node back
pub since_back : (q : List ℕ) (i k c : ℕ) → since k (chain_back q (suc i) (suc i)) c ≡ since k (chain_back q (previous q i) (previous q i)) (when eqb k (node_word q i 1) then 0 else suc c)
since_back q i k c =
    ap (λ (l : List Node). since k l c) (chain_back_hit q i)
    ∙ ap (λ (l : List Node). since k l (when eqb k (node_word q i 1) then 0 else suc c))
    (chain_back_down q i (previous q i) (omega arith))

-- one turn of the loop: from i > 0 to i', with the count c'
pub since_reversed : (q : List ℕ) (i k c x : ℕ) {c' i' : ℕ} → 0 < i → x ≡ node_word q (i - 1) 1 → c' ≡ (when eqb k x then 0 else suc c) → i' ≡ previous q (i - 1)
    → since k (chain_back q i' i') c' ≡ since k (chain_back q i i) c
since_reversed q zero k c x h ex ec ei = absurd (omega arith)
since_reversed q (suc i) k c x {c'} {i'} h ex ec ei =
    let e₁ : x ≡ node_word q i 1 = rw sub-one at ex in
    let e₂ : i' ≡ previous q i = rw sub-one at ei in
    rw (e₂, ec, e₁) (sym (since_back q i k c))

pub count_le : (k x c : ℕ) {c' : ℕ} → c' ≡ (when eqb k x then 0 else suc c) → c' ≤ suc c
count_le k x c {c'} e = by (eqb k x) e
  where
    by : (t : Bool) → c' ≡ (when t then 0 else suc c) → c' ≤ suc c
    by true e = omega arith
    by false e = omega arith

pub since_end : (q : List ℕ) (i k c : ℕ) → i ≤ 0 → c ≡ since k (chain_back q i i) c
unfolding chain_back
since_end q zero k c h = refl
since_end q (suc i) k c h = absurd (omega arith)
