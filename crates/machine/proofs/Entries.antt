-- The open entries, read as the definition's stack: each search from the end is the definition's function of that stack.
use mathlib.Core.Path.{◌≡◌, refl, sym, ap}
use mathlib.Core.Logic.{◌⊎◌, inl, inr}
use mathlib.Core.List.{List, [], ◌∷◌}
use mathlib.Core.Bool.{Bool, true, false, ◌||◌}
use Prim.Native.Nat.{ℕ, zero, suc, ◌<◌, ◌≤◌}
use native.Mathlib.Omega.{arith}
use lib.ListN.{length}
use lib.Dec.{eqb, leb}
use borrow.Author.Tests.{leb-true, ne_eqb}
use Rattle.definition.specs.Basics.{when◌then◌else◌}
use Rattle.definition.specs.Sheet.{Sheet, is}
use Rattle.definition.specs.Meaning.{Meaning, nothing, function, class, global, toplevel, variable}
use Rattle.definition.specs.Scope.{Entry, scope, looping, bound, Stack, find, top, taken, around, in_loop, closed}
use Rattle.machine.specs.Machine.{entry_word, meaning_of, find_name, taken_in, loop_in, function_marks, last_mark, meaning_at}

abbrev pub entry_of : ℕ → ℕ → ℕ → ℕ → Entry
entry_of t m x y = when leb t 1 then (when eqb t 0 then looping else scope m) else bound m (meaning_of t x y)

-- the first n entries, last first
unfoldable pub entries : List ℕ → ℕ → Stack
entries v zero = []
entries v (suc n) = entry_of (entry_word v n 0) (entry_word v n 1) (entry_word v n 2) (entry_word v n 3) ∷ entries v n

pub entries_length : (v : List ℕ) (n : ℕ) → length (entries v n) ≡ n
unfolding entries
entries_length v zero = refl
entries_length v (suc n) = ap suc (entries_length v n)

-- One entry more, by the tests on its tag.
find_one : (b₁ b₀ b₂ : Bool) (v : List ℕ) (m n k x : ℕ) (d : Meaning) (st : Stack) → eqb x m ≡ b₂
    → entries v (suc n) ≡ (when b₁ then (when b₀ then looping else scope x) else bound x d) ∷ st → find m st ≡ entries v k
    → find m ((when b₁ then (when b₀ then looping else scope x) else bound x d) ∷ st) ≡ entries v (when b₁ then k else when b₂ then suc n else k)
find_one true true b₂ v m n k x d st e h i = i
find_one true false b₂ v m n k x d st e h i = i
find_one false b₀ true v m n k x d st e h i = rw e (sym h)
find_one false b₀ false v m n k x d st e h i = rw e i

pub find_is : (v : List ℕ) (m n : ℕ) → find m (entries v n) ≡ entries v (find_name v m n)
unfolding entries find_name
find_is v m zero = refl
find_is v m (suc n) = find_one (leb (entry_word v n 0) 1) (eqb (entry_word v n 0) 0) (eqb (entry_word v n 1) m) v m n (find_name v m n) (entry_word v n 1) _ (entries v n) refl refl (find_is v m n)

top_one : (b₁ b₀ b₃ b₄ b₅ b₆ b₇ : Bool) (r m x y : ℕ) (st : Stack)
    → (b₁ ≡ true → (b₃ ≡ false) × (b₄ ≡ false) × (b₅ ≡ false) × (b₆ ≡ false) × (b₇ ≡ false))
    → top ((when b₁ then (when b₀ then looping else scope m)
    else bound m (when b₃ then function x
    else when b₄ then class x
    else when b₅ then global x y else when b₆ then variable x y else when b₇ then toplevel x else nothing))
    ∷ st)
    ≡ (when b₃ then function x else when b₄ then class x else when b₅ then global x y else when b₆ then variable x y else when b₇ then toplevel x else nothing)
top_one true true b₃ b₄ b₅ b₆ b₇ r m x y st h = let g = h refl in rw (g.0, g.1, g.2, g.3, g.4)
top_one true false b₃ b₄ b₅ b₆ b₇ r m x y st h = let g = h refl in rw (g.0, g.1, g.2, g.3, g.4)
top_one false b₀ b₃ b₄ b₅ b₆ b₇ r m x y st h = refl

pub top_is : (v : List ℕ) (k : ℕ) → top (entries v k) ≡ meaning_at v k
unfolding entries meaning_at
top_is v zero = refl
top_is v (suc i) =
    top_one (leb (entry_word v i 0) 1) (eqb (entry_word v i 0) 0) (eqb (entry_word v i 0) 3) (eqb (entry_word v i 0) 4)
    (eqb (entry_word v i 0) 5) (eqb (entry_word v i 0) 6) (eqb (entry_word v i 0) 7) 0 _ _ _ (entries v i)
    (λ e. let l : entry_word v i 0 ≤ 1 = leb-true (entry_word v i 0) 1 e in (
      ne_eqb (entry_word v i 0) 3 (λ q. omega arith),
      ne_eqb (entry_word v i 0) 4 (λ q. omega arith),
      ne_eqb (entry_word v i 0) 5 (λ q. omega arith),
      ne_eqb (entry_word v i 0) 6 (λ q. omega arith),
      ne_eqb (entry_word v i 0) 7 (λ q. omega arith),
    ))

taken_one : (b₁ b₀ : Bool) (m x : ℕ) (d : Meaning) (st : Stack) (t : Bool) → taken m st ≡ t
    → taken m ((when b₁ then (when b₀ then looping else scope x) else bound x d) ∷ st) ≡ (when b₁ then (when b₀ then t else false) else (eqb x m || t))
taken_one true true m x d st t i = i
taken_one true false m x d st t i = refl
taken_one false b₀ m x d st t i = ap (λ (u : Bool). eqb x m || u) i

pub taken_is : (v : List ℕ) (m n : ℕ) → taken m (entries v n) ≡ taken_in v m n
unfolding entries taken_in
taken_is v m zero = refl
taken_is v m (suc n) = taken_one (leb (entry_word v n 0) 1) (eqb (entry_word v n 0) 0) m (entry_word v n 1) _ (entries v n) (taken_in v m n) (taken_is v m n)

loop_one : (s : Sheet) (b₁ b₀ : Bool) (x : ℕ) (d : Meaning) (st : Stack) (t : Bool) → in_loop s st ≡ t
    → in_loop s ((when b₁ then (when b₀ then looping else scope x) else bound x d) ∷ st) ≡ (when b₁ then (when b₀ then true else when is s 6 x then false else t) else t)
loop_one s true true x d st t i = refl
loop_one s true false x d st t i = ap (λ (u : Bool). when is s 6 x then false else u) i
loop_one s false b₀ x d st t i = i

pub loop_is : (s : Sheet) (v : List ℕ) (n : ℕ) → in_loop s (entries v n) ≡ loop_in s v n
unfolding entries loop_in
loop_is s v zero = refl
loop_is s v (suc n) = loop_one s (leb (entry_word v n 0) 1) (eqb (entry_word v n 0) 0) (entry_word v n 1) _ (entries v n) (loop_in s v n) (loop_is s v n)

around_one : (s : Sheet) (b₁ b₀ : Bool) (x : ℕ) (d : Meaning) (st : Stack) (t : List ℕ) → around s st ≡ t
    → around s ((when b₁ then (when b₀ then looping else scope x) else bound x d) ∷ st) ≡ (when b₁ then (when b₀ then t else when is s 6 x then x ∷ t else t) else t)
around_one s true true x d st t i = i
around_one s true false x d st t i = ap (λ (u : List ℕ). when is s 6 x then x ∷ u else u) i
around_one s false b₀ x d st t i = i

pub around_is : (s : Sheet) (v : List ℕ) (n : ℕ) → around s (entries v n) ≡ function_marks s v n
unfolding entries function_marks
around_is s v zero = refl
around_is s v (suc n) = around_one s (leb (entry_word v n 0) 1) (eqb (entry_word v n 0) 0) (entry_word v n 1) _ (entries v n) (function_marks s v n) (around_is s v n)

closed_one : (b₁ b₀ : Bool) (v : List ℕ) (n k x : ℕ) (d : Meaning) → closed (entries v n) ≡ entries v k
    → closed ((when b₁ then (when b₀ then looping else scope x) else bound x d) ∷ entries v n) ≡ entries v (when b₁ then (when b₀ then k else n) else k)
closed_one true true v n k x d i = i
closed_one true false v n k x d i = refl
closed_one false b₀ v n k x d i = i

pub closed_is : (v : List ℕ) (n : ℕ) → closed (entries v n) ≡ entries v (last_mark v n)
unfolding entries last_mark
closed_is v zero = refl
closed_is v (suc n) = closed_one (leb (entry_word v n 0) 1) (eqb (entry_word v n 0) 0) v n (last_mark v n) (entry_word v n 1) _ (closed_is v n)

-- the last mark is among the entries
if_le : (b : Bool) (x y n : ℕ) → x ≤ n → y ≤ n → (when b then x else y) ≤ n
if_le true x y n p q = p
if_le false x y n p q = q

pub mark_le : (v : List ℕ) (n : ℕ) → last_mark v n ≤ n
unfolding last_mark
mark_le v zero = omega arith
mark_le v (suc n) =
    let h : last_mark v n ≤ n = mark_le v n in
    let g : last_mark v n ≤ suc n = omega arith in
    if_le (leb (entry_word v n 0) 1) _ _ (suc n) (if_le (eqb (entry_word v n 0) 0) _ _ (suc n) g (omega arith)) g

-- The last scope mark, if it is not the first entry, is a mark before the end.
mark_one : (b₁ b₀ : Bool) (v : List ℕ) (n k : ℕ) → leb (entry_word v n 0) 1 ≡ b₁ → (k ≡ 0) ⊎ ((k < n) × (leb (entry_word v k 0) 1 ≡ true))
    → ((when b₁ then (when b₀ then k else n) else k) ≡ 0)
    ⊎ (((when b₁ then (when b₀ then k else n) else k) < suc n) × (leb (entry_word v (when b₁ then (when b₀ then k else n) else k) 0) 1 ≡ true))
mark_one true false v n k e i = inr (omega arith, e)
mark_one true true v n k e (inl h) = inl h
mark_one true true v n k e (inr h) = inr (omega (arith, h.0), h.1)
mark_one false b₀ v n k e (inl h) = inl h
mark_one false b₀ v n k e (inr h) = inr (omega (arith, h.0), h.1)

pub mark_lt : (v : List ℕ) (n : ℕ) → (last_mark v n ≡ 0) ⊎ ((last_mark v n < n) × (leb (entry_word v (last_mark v n) 0) 1 ≡ true))
unfolding last_mark
mark_lt v zero = inl refl
mark_lt v (suc n) = mark_one (leb (entry_word v n 0) 1) (eqb (entry_word v n 0) 0) v n (last_mark v n) refl (mark_lt v n)

-- entries read only the words below them
pub entries_same : (v v' : List ℕ) (n : ℕ) → ((i : ℕ) → i < n → (c : ℕ) → c < 5 → entry_word v' i c ≡ entry_word v i c) → entries v' n ≡ entries v n
unfolding entries
entries_same v v' zero h = refl
entries_same v v' (suc n) h =
    let g₀ = h n (omega arith) 0 (omega arith) in
    let g₁ = h n (omega arith) 1 (omega arith) in
    let g₂ = h n (omega arith) 2 (omega arith) in
    let g₃ = h n (omega arith) 3 (omega arith) in
    rw (g₀, g₁, g₂, g₃, entries_same v v' n (λ i l c q. h i (omega arith) c q))
