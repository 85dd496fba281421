-- The walk over a child list that marks names, and the pass over all rows that asks for it.
use mathlib.Core.Path.{◌≡◌, sym, ap, ◌∙◌}
use mathlib.Core.List.{List, [], ◌∷◌}
use mathlib.Core.Bool.{Bool, true, false, ◌&&◌}
use Prim.Native.Nat.{ℕ, suc, ◌+◌, ◌-◌, ◌<◌, ◌≤◌}
use native.Mathlib.Omega.{arith}
use Rattle.definition.specs.Sheet.{Sheet}
use Rattle.distinct.specs.Apart.{child_unmarked, child_marked, unmarked, marked, row_unmarked, row_marked, all_unmarked}

-- one child of a list more, and the end of the list
module _ (s : Sheet) (k v : ℕ) (m : List ℕ) {cs ds : List ℕ} {c : ℕ} (e : cs ≡ c ∷ ds) where
  pub list_refused : {x w : Bool} → x ≡ child_unmarked s k v m c → x ≡ false → unmarked s k v m cs ≡ w → false ≡ w
  unfolding unmarked
  list_refused h f i = sym (ap (λ (t : Bool). t && unmarked s k v (child_marked s k v m c) ds) (sym h ∙ f)) ∙ sym (ap (unmarked s k v m) e) ∙ i

  module _ {x : Bool} {u : List ℕ} (f : x ≡ true) (g : x ≡ true → u ≡ child_marked s k v m c) where
    pub list_next : {w : Bool} → x ≡ child_unmarked s k v m c → unmarked s k v m cs ≡ w → unmarked s k v u ds ≡ w
    unfolding unmarked
    list_next h i =
        ap (λ (y : List ℕ). unmarked s k v y ds) (g f) ∙ sym (ap (λ (t : Bool). t && unmarked s k v (child_marked s k v m c) ds) (sym h ∙ f)) ∙ sym (ap (unmarked s k v m) e) ∙ i

    pub marks_next : {w : List ℕ} → marked s k v m cs ≡ w → marked s k v u ds ≡ w
    unfolding marked
    marks_next i = ap (λ (y : List ℕ). marked s k v y ds) (g f) ∙ sym (ap (marked s k v m) e) ∙ i

pub list_done : (s : Sheet) (k v : ℕ) (m : List ℕ) {cs : List ℕ} → cs ≡ [] → unmarked s k v m cs ≡ true
unfolding unmarked
list_done s k v m e = ap (unmarked s k v m) e

pub marks_done : (s : Sheet) (k v : ℕ) (m : List ℕ) {cs : List ℕ} → cs ≡ [] → marked s k v m cs ≡ m
unfolding marked
marks_done s k v m e = ap (marked s k v m) e

-- the pass over all rows
count_down : (n r : ℕ) → r < n → n - r ≡ suc (n - (r + 1))
count_down n r l = omega arith

all_step : (s : Sheet) (n r : ℕ) (m : List ℕ) → r < n → all_unmarked s (n - r) r m ≡ (row_unmarked s r m && all_unmarked s (n - (r + 1)) (r + 1) (row_marked s r m))
unfolding all_unmarked
all_step s n r m l =
    let e : suc r ≡ r + 1 = omega arith in
    ap (λ (k : ℕ). all_unmarked s k r m) (count_down n r l) ∙ ap (λ (k : ℕ). row_unmarked s r m && all_unmarked s (n - (r + 1)) k (row_marked s r m)) e

pub all_refused : (s : Sheet) (n r : ℕ) (m : List ℕ) {x w : Bool} → r < n → x ≡ row_unmarked s r m → x ≡ false → all_unmarked s (n - r) r m ≡ w → false ≡ w
all_refused s n r m l e f i = ap (λ (y : Bool). y && all_unmarked s (n - (r + 1)) (r + 1) (row_marked s r m)) (sym (sym e ∙ f)) ∙ sym (all_step s n r m l) ∙ i

pub all_next : (s : Sheet) (n r : ℕ) (m : List ℕ) {x w : Bool} {u : List ℕ} → r < n → x ≡ row_unmarked s r m → x ≡ true → (x ≡ true → u ≡ row_marked s r m)
    → all_unmarked s (n - r) r m ≡ w → all_unmarked s (n - (r + 1)) (r + 1) u ≡ w
all_next s n r m l e f g i =
    ap (λ (y : List ℕ). all_unmarked s (n - (r + 1)) (r + 1) y) (g f)
    ∙ ap (λ (y : Bool). y && all_unmarked s (n - (r + 1)) (r + 1) (row_marked s r m)) (sym (sym e ∙ f)) ∙ sym (all_step s n r m l) ∙ i

pub all_done : (s : Sheet) (n r : ℕ) (m : List ℕ) → n ≤ r → all_unmarked s (n - r) r m ≡ true
unfolding all_unmarked
all_done s n r m l = let e : n - r ≡ 0 = omega arith in ap (λ (k : ℕ). all_unmarked s k r m) e

pub all_start : (s : Sheet) (n : ℕ) (m : List ℕ) → all_unmarked s (n - 0) 0 m ≡ all_unmarked s n 0 m
all_start s n m = let e : n - 0 ≡ n = omega arith in ap (λ (k : ℕ). all_unmarked s k 0 m) e
