-- How often the walk enters a function, and how many entries it pushes, of a sheet that fits.
use mathlib.Core.Path.{◌≡◌, refl, sym, ◌∙◌, subst}
use mathlib.Core.Logic.{◌⊎◌, inl, inr}
use mathlib.Core.List.Memᴰ.{head as here}
use mathlib.Core.List.Memᴰ.{tail as there}
use mathlib.Core.List.{List, [], ◌∷◌, ◌++◌, map, Memᴰ as Mem}
use mathlib.Core.Bool.{Bool, true, false, not, ◌||◌, ◌&&◌}
use Prim.Native.Nat.{ℕ, suc, ◌+◌, ◌*◌, ◌<◌, ◌≤◌}
use native.Mathlib.Omega.{arith}
use lib.ListN.{length}
use lib.Dec.{eqb, ltb, T, T_not, eqb_refl, eqb→eq}
use borrow.Author.Tests.{ltb-false}
use Rattle.definition.specs.Basics.{when◌then◌else◌, filter, concat_map, bit, count, ◌∈?◌, total}
use Rattle.definition.specs.Sheet.{Sheet, rows, is, kids, kids_of, child}
use Rattle.definition.specs.Outside.{Outside}
use Rattle.definition.specs.Walk.{Event, enter, leave, loop, declare, bring, visit, imports, literal_let, before, after, after_part, parts, each, walk}
use Rattle.definition.specs.Bounds.{walked, own, is_enter, is_declare}
use Rattle.definition.proofs.Lists.Tests.{decide, bit_not, bit_le}
use Rattle.definition.proofs.Lists.Members.{Nodup, nodup_none, nodup_one, count_append, count_mem, test_mem}
use Rattle.definition.proofs.Walk.Fits.{Fits}
use Rattle.definition.proofs.Walk.Rows.{reached_root}
use Rattle.definition.proofs.Walk.Walked.{walked_nodup, walked_length, found}
use Rattle.definition.proofs.Walk.Once.{count_trace, count_brings, count_map, count_none, brings_imports}
use Rattle.definition.proofs.Walk.Bounds.{enters_bound, declares_bound}
use Rattle.machine.proofs.Stacks.{Distinct, a_none, a_one}
use Rattle.machine.proofs.AfterRows.{All, al_none, al_one}
use Rattle.machine.proofs.Reached.{functions_entered}
use Rattle.machine.proofs.EntryBound.{entries_pushed}

-- is row x entered?
abbrev pub enters_of : ℕ → Event → Bool
enters_of x (enter r) = eqb r x
enters_of x leave = false
enters_of x loop = false
enters_of x (declare r) = false
enters_of x (bring r n d) = false
enters_of x (visit r) = false

abbrev pub is_loop : Event → Bool
is_loop (enter r) = false
is_loop leave = false
is_loop loop = true
is_loop (declare r) = false
is_loop (bring r n d) = false
is_loop (visit r) = false

-- at a row at most its own scope opens
enter_before : (x r : ℕ) (t2 t6 t25 t27 t30 : Bool) (e2 e6 e25 : List Event) → count (enters_of x) e2 ≡ 0 → count (enters_of x) e6 ≡ 0 → count (enters_of x) e25 ≡ 0
    → count (enters_of x) (when t2 then enter r ∷ e2 else when t6 then enter r ∷ e6 else when t25 then enter r ∷ e25
    else when t27 then enter r ∷ [] else when t30 then visit r ∷ [] else []) ≤ bit (eqb r x)
enter_before x r true t6 t25 t27 t30 e2 e6 e25 f g h = omega arith
enter_before x r false true t25 t27 t30 e2 e6 e25 f g h = omega arith
enter_before x r false false true t27 t30 e2 e6 e25 f g h = omega arith
enter_before x r false false false true t30 e2 e6 e25 f g h = omega arith
enter_before x r false false false false true e2 e6 e25 f g h = omega arith
enter_before x r false false false false false e2 e6 e25 f g h = omega arith

enter_part : (x r : ℕ) (t59 t27 : Bool) → count (enters_of x) (when t59 then visit r ∷ [] else when t27 then loop ∷ [] else []) ≡ 0
enter_part x r true t27 = refl
enter_part x r false true = refl
enter_part x r false false = refl

enter_parts : (x : ℕ) (s : Sheet) (r i : ℕ) (ks : List ℕ) → count (enters_of x) (each (λ k. []) s r i ks) ≡ 0
enter_parts x s r i [] = refl
enter_parts x s r i (k ∷ ks) =
    omega (arith, count_append (enters_of x) (after_part s r i) (each (λ k. []) s r (suc i) ks), enter_parts x s r (suc i) ks, enter_part x r (is s 59 r && eqb i 0) (is s 27 r && eqb i 1))

enter_after : (x r : ℕ) (tl t29 t52 tv : Bool) → count (enters_of x) (when tl then leave ∷ [] else when t29 then (when t52 then [] else declare r ∷ []) else when tv then visit r ∷ [] else []) ≡ 0
enter_after x r true t29 t52 tv = refl
enter_after x r false true true tv = refl
enter_after x r false true false tv = refl
enter_after x r false false t52 true = refl
enter_after x r false false t52 false = refl

enter_own : (x : ℕ) (s : Sheet) (r : ℕ) → count (enters_of x) (own s r) ≤ bit (eqb r x)
enter_own x s r =
    let e : count (enters_of x) (before s r) ≤ bit (eqb r x) =
    enter_before x r (is s 2 r) (is s 6 r) (is s 25 r) (is s 27 r) (is s 30 r)
    (concat_map (imports s r) (kids_of s 3 r) ++ map declare (kids_of s 4 r)) (map declare (kids_of s 11 r)) (map declare (filter (literal_let s) (kids s r)))
    (count_none (enters_of x) (concat_map (imports s r) (kids_of s 3 r)) (map declare (kids_of s 4 r))
    (count_brings (enters_of x) (λ i n d. tt) (brings_imports s r (kids_of s 3 r)))
    (count_map (enters_of x) declare (kids_of s 4 r) (λ k. tt)))
    (count_map (enters_of x) declare (kids_of s 11 r) (λ k. tt)) (count_map (enters_of x) declare (filter (literal_let s) (kids s r)) (λ k. tt)) in
    omega (
      arith,
      count_append (enters_of x) (before s r ++ each (λ k. []) s r 0 (parts s r)) (after s r),
      count_append (enters_of x) (before s r) (each (λ k. []) s r 0 (parts s r)),
      enter_parts x s r 0 (parts s r),
      enter_after x r (is s 2 r || is s 6 r || is s 25 r || is s 27 r) (is s 29 r) (is s 52 (child s r)) (is s 21 r || is s 23 r || is s 24 r || is s 50 r || is s 51 r || is s 52 r || is s 55 r),
    )

-- at a row at most one loop begins
loop_before : (r : ℕ) (t2 t6 t25 t27 t30 : Bool) (e2 e6 e25 : List Event) → count is_loop e2 ≡ 0 → count is_loop e6 ≡ 0 → count is_loop e25 ≡ 0
    → count is_loop (when t2 then enter r ∷ e2 else when t6 then enter r ∷ e6 else when t25 then enter r ∷ e25 else when t27 then enter r ∷ [] else when t30 then visit r ∷ [] else []) ≡ 0
loop_before r true t6 t25 t27 t30 e2 e6 e25 f g h = omega arith
loop_before r false true t25 t27 t30 e2 e6 e25 f g h = omega arith
loop_before r false false true t27 t30 e2 e6 e25 f g h = omega arith
loop_before r false false false true t30 e2 e6 e25 f g h = omega arith
loop_before r false false false false true e2 e6 e25 f g h = omega arith
loop_before r false false false false false e2 e6 e25 f g h = omega arith

loop_part : (r : ℕ) (t59 t27 t1 : Bool) → count is_loop (when t59 then visit r ∷ [] else when t27 && t1 then loop ∷ [] else []) ≤ bit t1
loop_part r true t27 t1 = omega arith
loop_part r false true true = omega arith
loop_part r false true false = omega arith
loop_part r false false t1 = omega arith

one_more_lem : (i : ℕ) → bit (eqb (suc (suc i)) 1) ≡ 0
one_more_lem i = bit_not (eqb (suc (suc i)) 1) (λ t. let e : suc (suc i) ≡ 1 = eqb→eq (suc (suc i)) 1 t in omega arith)

loop_later : (s : Sheet) (r i : ℕ) (ks : List ℕ) → count is_loop (each (λ k. []) s r (suc (suc i)) ks) ≡ 0
loop_later s r i [] = refl
loop_later s r i (k ∷ ks) =
    omega (
      arith,
      count_append is_loop (after_part s r (suc (suc i))) (each (λ k. []) s r (suc (suc (suc i))) ks),
      loop_later s r (suc i) ks,
      loop_part r (is s 59 r && eqb (suc (suc i)) 0) (is s 27 r) (eqb (suc (suc i)) 1),
      one_more_lem i,
    )

loop_second : (s : Sheet) (r : ℕ) (ks : List ℕ) → count is_loop (each (λ k. []) s r 1 ks) ≤ 1
loop_second s r [] = omega arith
loop_second s r (k ∷ ks) =
    omega (
      arith,
      count_append is_loop (after_part s r 1) (each (λ k. []) s r 2 ks),
      loop_later s r 0 ks,
      loop_part r (is s 59 r && eqb 1 0) (is s 27 r) (eqb 1 1),
    )

loop_parts : (s : Sheet) (r : ℕ) (ks : List ℕ) → count is_loop (each (λ k. []) s r 0 ks) ≤ 1
loop_parts s r [] = omega arith
loop_parts s r (k ∷ ks) =
    omega (
      arith,
      count_append is_loop (after_part s r 0) (each (λ k. []) s r 1 ks),
      loop_second s r ks,
      loop_part r (is s 59 r && eqb 0 0) (is s 27 r) (eqb 0 1),
    )

loop_after : (r : ℕ) (tl t29 t52 tv : Bool) → count is_loop (when tl then leave ∷ [] else when t29 then (when t52 then [] else declare r ∷ []) else when tv then visit r ∷ [] else []) ≡ 0
loop_after r true t29 t52 tv = refl
loop_after r false true true tv = refl
loop_after r false true false tv = refl
loop_after r false false t52 true = refl
loop_after r false false t52 false = refl

loop_own : (s : Sheet) (r : ℕ) → count is_loop (own s r) ≤ 1
loop_own s r =
    let e : count is_loop (before s r) ≡ 0 =
    loop_before r (is s 2 r) (is s 6 r) (is s 25 r) (is s 27 r) (is s 30 r)
    (concat_map (imports s r) (kids_of s 3 r) ++ map declare (kids_of s 4 r)) (map declare (kids_of s 11 r)) (map declare (filter (literal_let s) (kids s r)))
    (count_none is_loop (concat_map (imports s r) (kids_of s 3 r)) (map declare (kids_of s 4 r))
    (count_brings is_loop (λ i n d. tt) (brings_imports s r (kids_of s 3 r)))
    (count_map is_loop declare (kids_of s 4 r) (λ k. tt)))
    (count_map is_loop declare (kids_of s 11 r) (λ k. tt)) (count_map is_loop declare (filter (literal_let s) (kids s r)) (λ k. tt)) in
    omega (
      arith,
      count_append is_loop (before s r ++ each (λ k. []) s r 0 (parts s r)) (after s r),
      count_append is_loop (before s r) (each (λ k. []) s r 0 (parts s r)),
      loop_parts s r (parts s r),
      loop_after r (is s 2 r || is s 6 r || is s 25 r || is s 27 r) (is s 29 r) (is s 52 (child s r)) (is s 21 r || is s 23 r || is s 24 r || is s 50 r || is s 51 r || is s 52 r || is s 55 r),
    )

-- sums
total_length : (f : ℕ → ℕ) (xs : List ℕ) → ((x : ℕ) → f x ≤ 1) → total f xs ≤ length xs
total_length f [] h = omega arith
total_length f (x ∷ xs) h = omega (arith, h x, total_length f xs h)

total_none : (f : ℕ → ℕ) (w : ℕ) (ks : List ℕ) → (Mem w ks → ⊥) → ((k : ℕ) → f k ≤ bit (eqb k w)) → total f ks ≡ 0
total_none f w [] q p = refl
total_none f w (k ∷ ks) q p = omega (arith, p k, total_none f w ks (λ m. q (there m)) p, bit_not (eqb k w) (λ g. q (here (sym (eqb→eq k w g)))))

total_bit : (f : ℕ → ℕ) (w : ℕ) {ks : List ℕ} → Nodup ks → ((k : ℕ) → f k ≤ bit (eqb k w)) → total f ks ≤ 1
total_bit f w nodup_none le = omega arith
total_bit f w (nodup_one {x = y} {xs = ys} h n) le = go (decide (eqb y w)) (total_bit f w n le)
  where
    go : T (eqb y w) ⊎ T (not (eqb y w)) → total f ys ≤ 1 → f y + total f ys ≤ 1
    go (inl t) r = omega (arith, le y, bit_le (eqb y w), total_none f w ys (subst (λ (k : ℕ). Mem k ys → ⊥) (eqb→eq y w t) h) le)
    go (inr t) r = omega (arith, le y, bit_not (eqb y w) (T_not (eqb y w) t))

on : (t : Bool) → T t → bit t ≡ 1
on true h = refl
on false h = absurd h

self : (x : ℕ) → bit (eqb x x) ≡ 1
self x = on (eqb x x) (eqb_refl x)

-- functions entered, by number
entered_count : (s : Sheet) (x : ℕ) (es : List Event) → count (λ y. eqb y x) (functions_entered s es) ≤ count (enters_of x) es
entered_count s x [] = omega arith
entered_count s x (enter r ∷ es) = go (is s 6 r) (entered_count s x es)
  where
    go : (t : Bool) → count (λ y. eqb y x) (functions_entered s es) ≤ count (enters_of x) es
        → count (λ y. eqb y x) (when t then r ∷ functions_entered s es else functions_entered s es)
        ≤ bit (eqb r x) + count (enters_of x) es
    go true i = omega arith
    go false i = omega arith
entered_count s x (leave ∷ es) = omega (arith, entered_count s x es)
entered_count s x (loop ∷ es) = omega (arith, entered_count s x es)
entered_count s x (declare r ∷ es) = omega (arith, entered_count s x es)
entered_count s x (bring r n d ∷ es) = omega (arith, entered_count s x es)
entered_count s x (visit r ∷ es) = omega (arith, entered_count s x es)

apart_count : (xs : List ℕ) → ((x : ℕ) → count (λ y. eqb y x) xs ≤ 1) → Distinct xs
apart_count [] f = a_none
apart_count (x ∷ xs) f = a_one (go (x ∈? xs) (λ m. omega (arith, f x, self x, count_mem (λ y. eqb y x) x xs (eqb_refl x) (test_mem x xs m)))) (apart_count xs (λ y. omega (arith, f y)))
  where
    go : (t : Bool) → (T t → ⊥) → t ≡ false
    go true h = absurd (h tt)
    go false h = refl

below_count : (n : ℕ) (xs : List ℕ) → ((x : ℕ) → n ≤ x → count (λ y. eqb y x) xs ≡ 0) → All (λ r. ltb r n) xs
below_count n [] f = al_none
below_count n (x ∷ xs) f = al_one (go (ltb x n) refl) (below_count n xs (λ y l. omega (arith, f y l)))
  where
    go : (t : Bool) → ltb x n ≡ t → t ≡ true
    go true e = refl
    go false e = absurd (omega (arith, f x (ltb-false x n e), self x))

abbrev pushed : List Event → ℕ
pushed es = count is_enter es + count is_loop es + count is_declare es

pushes_count : (es : List Event) → entries_pushed es ≡ pushed es
pushes_count [] = refl
pushes_count (enter r ∷ es) = omega (arith, pushes_count es)
pushes_count (leave ∷ es) = omega (arith, pushes_count es)
pushes_count (loop ∷ es) = omega (arith, pushes_count es)
pushes_count (declare r ∷ es) = omega (arith, pushes_count es)
pushes_count (bring r n d ∷ es) = omega (arith, pushes_count es)
pushes_count (visit r ∷ es) = omega (arith, pushes_count es)

module _ {O : Outside} {s : Sheet} (ok : Fits O s) where
  enters_once : (x : ℕ) → count (enters_of x) (walk s) ≤ 1
  enters_once x =
      omega (arith, count_trace (enters_of x) (rows s) s 0, total_bit (λ y. count (enters_of x) (own s y)) x (walked_nodup ok (rows s) 0 (reached_root ok)) (λ y. enter_own x s y))

  enters_rows : (x : ℕ) → rows s ≤ x → count (enters_of x) (walk s) ≡ 0
  enters_rows x l =
      count_trace (enters_of x) (rows s) s 0
      ∙ total_none (λ y. count (enters_of x) (own s y)) x (walked (rows s) s 0)
      (λ m. let h : x < rows s = (found ok (rows s) 0 x (reached_root ok) m).reached.in_range in omega arith) (λ y. enter_own x s y)

  -- functions are entered once, and are rows
  pub entered_once : Distinct (functions_entered s (walk s))
  entered_once = apart_count (functions_entered s (walk s)) (λ x. omega (arith, entered_count s x (walk s), enters_once x))

  pub entered_rows : (n : ℕ) → rows s ≤ n → All (λ r. ltb r n) (functions_entered s (walk s))
  entered_rows n h = below_count n (functions_entered s (walk s)) (λ x l. omega (arith, entered_count s x (walk s), enters_rows x (omega arith)))

  -- a scope, a loop and a declaration for each row
  pub loops_bound : count is_loop (walk s) ≤ rows s
  loops_bound = omega (arith, count_trace is_loop (rows s) s 0, total_length (λ x. count is_loop (own s x)) (walked (rows s) s 0) (loop_own s), walked_length ok (rows s))

  pub pushes_bound : entries_pushed (walk s) ≤ 3 * rows s
  pushes_bound = omega (arith, pushes_count (walk s), enters_bound ok, loops_bound, declares_bound ok)
