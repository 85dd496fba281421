-- How long a walk is: what `Bounds` states, of every sheet that fits.
use mathlib.Core.Path.{◌≡◌, refl, sym, ap, ◌∙◌, subst}
use mathlib.Core.List.Memᴰ
use mathlib.Core.List.Memᴰ.{head as here}
use mathlib.Core.List.Memᴰ.{tail as there}
use mathlib.Core.List.{List, [], ◌∷◌, ◌++◌, map, Memᴰ as Mem}
use mathlib.Core.Logic.{◌⊎◌, inl, inr}
use mathlib.Core.Bool.{Bool, true, false, not, ◌||◌, ◌&&◌}
use Prim.Native.Nat.{ℕ, suc, ◌+◌, ◌<◌, ◌≤◌}
use native.Mathlib.Omega.{arith}
use lib.ListN.{length}
use lib.Dec.{eqb, T, T_not, eqb_refl, eqb→eq}
use Rattle.definition.specs.Basics.{when◌then◌else◌, filter, concat_map, bit, count, total}
use Rattle.definition.specs.Sheet.{Sheet, rows, is, kids, kids_of, child}
use Rattle.definition.specs.Outside.{Outside}
use Rattle.definition.specs.Walk.{Event, enter, leave, loop, declare, bring, visit, imports, literal_let, before, after, after_part, parts, each, walk}
use Rattle.definition.specs.Scope.{start, declares, around}
use Rattle.definition.specs.Bounds.{WalkBounds, own, is_visit, is_enter, is_declare, walked}
use Rattle.definition.proofs.Lists.Tests.{decide, bit_not, bit_le}
use Rattle.definition.proofs.Lists.Members.{count_append, Nodup, nodup_none, nodup_one, count_mem, pigeonhole, map_mem, filter_mem}
use Rattle.definition.proofs.Walk.Fits.{Fits}
use Rattle.definition.proofs.Walk.Rows.{kind_not_zero, reached_root}
use Rattle.definition.proofs.Walk.Whole.{all_walked}
use Rattle.definition.proofs.Walk.Walked.{walked_length, walked_nodup, found}
use Rattle.definition.proofs.Walk.Once.{visit_own, count_trace, visits_once, count_brings, count_map, count_none, brings_imports, declares_once}
use Rattle.definition.proofs.Walk.Told.{Declarer, a_class, a_parameter, a_let, Told, t_declare, told}
use Rattle.definition.proofs.Walk.Moments.{mem_moments}

total_length : (f : ℕ → ℕ) (xs : List ℕ) → ((x : ℕ) → f x ≤ 1) → total f xs ≤ length xs
total_length f [] h = omega arith
total_length f (x ∷ xs) h = omega (arith, h x, total_length f xs h)

-- at a row at most one scope opens
enter_before : (r : ℕ) (t2 t6 t25 t27 t30 : Bool) (e2 e6 e25 : List Event) → count is_enter e2 ≡ 0 → count is_enter e6 ≡ 0 → count is_enter e25 ≡ 0
    → count is_enter (when t2 then enter r ∷ e2 else when t6 then enter r ∷ e6 else when t25 then enter r ∷ e25 else when t27 then enter r ∷ [] else when t30 then visit r ∷ [] else []) ≤ 1
enter_before r true t6 t25 t27 t30 e2 e6 e25 f g h = omega arith
enter_before r false true t25 t27 t30 e2 e6 e25 f g h = omega arith
enter_before r false false true t27 t30 e2 e6 e25 f g h = omega arith
enter_before r false false false true t30 e2 e6 e25 f g h = omega arith
enter_before r false false false false true e2 e6 e25 f g h = omega arith
enter_before r false false false false false e2 e6 e25 f g h = omega arith

enter_part : (r : ℕ) (t59 t27 : Bool) → count is_enter (when t59 then visit r ∷ [] else when t27 then loop ∷ [] else []) ≡ 0
enter_part r true t27 = refl
enter_part r false true = refl
enter_part r false false = refl

enter_parts : (s : Sheet) (r i : ℕ) (ks : List ℕ) → count is_enter (each (λ k. []) s r i ks) ≡ 0
enter_parts s r i [] = refl
enter_parts s r i (k ∷ ks) =
    omega (arith, count_append is_enter (after_part s r i) (each (λ k. []) s r (suc i) ks), enter_parts s r (suc i) ks, enter_part r (is s 59 r && eqb i 0) (is s 27 r && eqb i 1))

enter_after : (r : ℕ) (tl t29 t52 tv : Bool) → count is_enter (when tl then leave ∷ [] else when t29 then (when t52 then [] else declare r ∷ []) else when tv then visit r ∷ [] else []) ≡ 0
enter_after r true t29 t52 tv = refl
enter_after r false true true tv = refl
enter_after r false true false tv = refl
enter_after r false false t52 true = refl
enter_after r false false t52 false = refl

enter_own : (s : Sheet) (r : ℕ) → count is_enter (own s r) ≤ 1
enter_own s r =
    let e : count is_enter (before s r) ≤ 1 =
    enter_before r (is s 2 r) (is s 6 r) (is s 25 r) (is s 27 r) (is s 30 r)
    (concat_map (imports s r) (kids_of s 3 r) ++ map declare (kids_of s 4 r)) (map declare (kids_of s 11 r)) (map declare (filter (literal_let s) (kids s r)))
    (count_none is_enter (concat_map (imports s r) (kids_of s 3 r)) (map declare (kids_of s 4 r))
    (count_brings is_enter (λ i n d. tt) (brings_imports s r (kids_of s 3 r)))
    (count_map is_enter declare (kids_of s 4 r) (λ k. tt)))
    (count_map is_enter declare (kids_of s 11 r) (λ k. tt)) (count_map is_enter declare (filter (literal_let s) (kids s r)) (λ k. tt)) in
    omega (
      arith,
      count_append is_enter (before s r ++ each (λ k. []) s r 0 (parts s r)) (after s r),
      count_append is_enter (before s r) (each (λ k. []) s r 0 (parts s r)),
      enter_parts s r 0 (parts s r),
      enter_after r (is s 2 r || is s 6 r || is s 25 r || is s 27 r) (is s 29 r) (is s 52 (child s r)) (is s 21 r || is s 23 r || is s 24 r || is s 50 r || is s 51 r || is s 52 r || is s 55 r),
    )

-- numbers each of which stands at most once
nodup_count : (xs : List ℕ) → ((x : ℕ) → Mem x xs → count (λ y. eqb y x) xs ≤ 1) → Nodup xs
nodup_count [] f = nodup_none
nodup_count (x ∷ xs) f = nodup_one twice (nodup_count xs (λ y m. let h : count (λ z. eqb z y) (x ∷ xs) ≤ 1 = f y (there m) in omega arith))
  where
    on : (t : Bool) → T t → bit t ≡ 1
    on true h = refl
    on false h = absurd h

    twice : Mem x xs → ⊥
    twice m = omega (arith, f x (here refl), on (eqb x x) (eqb_refl x), count_mem (λ z. eqb z x) x xs (eqb_refl x) m)

abbrev declared_rows : List Event → List ℕ
declared_rows es = map declares (filter is_declare es)

declared_length : (es : List Event) → length (declared_rows es) ≡ count is_declare es
declared_length [] = refl
declared_length (enter r ∷ es) = omega (arith, declared_length es)
declared_length (leave ∷ es) = omega (arith, declared_length es)
declared_length (loop ∷ es) = omega (arith, declared_length es)
declared_length (declare r ∷ es) = omega (arith, declared_length es)
declared_length (bring r n d ∷ es) = omega (arith, declared_length es)
declared_length (visit r ∷ es) = omega (arith, declared_length es)

declared_count : (x : ℕ) (es : List Event) → count (λ y. eqb y x) (declared_rows es) ≤ count (λ e. eqb (declares e) x) es
declared_count x [] = omega arith
declared_count x (enter r ∷ es) = omega (arith, declared_count x es)
declared_count x (leave ∷ es) = omega (arith, declared_count x es)
declared_count x (loop ∷ es) = omega (arith, declared_count x es)
declared_count x (declare r ∷ es) = omega (arith, declared_count x es)
declared_count x (bring r n d ∷ es) = omega (arith, declared_count x es)
declared_count x (visit r ∷ es) = omega (arith, declared_count x es)

is_declare_lem : (e : Event) → T (is_declare e) → e ≡ declare (declares e)
is_declare_lem (enter r) h = absurd h
is_declare_lem leave h = absurd h
is_declare_lem loop h = absurd h
is_declare_lem (declare r) h = refl
is_declare_lem (bring r n d) h = absurd h
is_declare_lem (visit r) h = absurd h

absent_once : (x : ℕ) (xs : List ℕ) → (Mem x xs → ⊥) → count (eqb x) xs ≡ 0
absent_once x [] f = refl
absent_once x (y ∷ ys) f = omega (arith, absent_once x ys (λ m. f (there m)), bit_not (eqb x y) (λ t. f (here (eqb→eq x y t))))

nodup_once : (x : ℕ) {xs : List ℕ} → Nodup xs → count (eqb x) xs ≤ 1
nodup_once x nodup_none = omega arith
nodup_once x (nodup_one {x = y} {xs = ys} h n) = go (decide (eqb x y)) (nodup_once x n)
  where
    go : T (eqb x y) ⊎ T (not (eqb x y)) → count (eqb x) ys ≤ 1 → bit (eqb x y) + count (eqb x) ys ≤ 1
    go (inl t) l = omega (arith, bit_le (eqb x y), absent_once x ys (λ m. h (Memᴰ.cast (sym (eqb→eq x y t)) m)))
    go (inr t) l = omega (arith, bit_not (eqb x y) (T_not (eqb x y) t))

module _ {O : Outside} {s : Sheet} (ok : Fits O s) where
  pub visits_bound : count is_visit (walk s) ≤ rows s
  visits_bound =
      omega (
        arith,
        count_trace is_visit (rows s) s 0,
        total_length (λ x. count is_visit (own s x)) (walked (rows s) s 0)
            (λ x. visit_own s is_visit (record { enters = λ r. tt; leaves = tt; loops = tt; declares = λ r. tt; brings = λ r n d. tt }) x),
        walked_length ok (rows s),
      )

  pub enters_bound : count is_enter (walk s) ≤ rows s
  enters_bound = omega (arith, count_trace is_enter (rows s) s 0, total_length (λ x. count is_enter (own s x)) (walked (rows s) s 0) (enter_own s), walked_length ok (rows s))

  declarer_row : {fs : List ℕ} {x : ℕ} → Told s fs (declare x) → (x < rows s) × (x ≡ 0 → ⊥)
  declarer_row {fs} {x} (t_declare e l d) = (l, go d)
    where
      go : Declarer s fs x → x ≡ 0 → ⊥
      go (a_class h) = kind_not_zero ok 4 x tt h
      go (a_parameter h i k m) = kind_not_zero ok 11 x tt h
      go (a_let h n) = kind_not_zero ok 29 x tt h

  declared_row : (x : ℕ) → Mem x (declared_rows (walk s)) → (x < rows s) × (x ≡ 0 → ⊥)
  declared_row x m =
      let q = map_mem declares x (filter is_declare (walk s)) m in
      let f = filter_mem is_declare q.0 (walk s) q.1 in
      let k = mem_moments s (start O) q.0 (walk s) f.0 in
      let e : k.0.event ≡ declare x = k.2 ∙ is_declare_lem q.0 f.1 ∙ ap declare (sym q.2) in
      declarer_row (subst (λ (v : Event). Told s (around s k.0.stack) v) e (told ok k.0 k.1))

  pub declares_bound : count is_declare (walk s) ≤ rows s
  declares_bound =
      omega (
        arith,
        declared_length (walk s),
        pigeonhole (rows s)
            (nodup_count (declared_rows (walk s)) (λ x m. omega (arith, declared_count x (walk s), declares_once ok x (declared_row x m).1))) (λ x m. (declared_row x m).0),
      )

  -- a number that stands nowhere twice
  pub once : (r : ℕ) → count (eqb r) (walked (rows s) s 0) ≤ 1
  once r = nodup_once r (walked_nodup ok (rows s) 0 (reached_root ok))

-- The bounds of every sheet that fits.
pub walk_bounds : {O : Outside} {s : Sheet} → Fits O s → WalkBounds s
walk_bounds {s} ok =
    record {
      at_rows = λ p. count_trace p (rows s) s 0;
      in_sheet = λ r m. (found ok (rows s) 0 r (reached_root ok) m).reached.in_range;
      once = once ok;
      every = all_walked ok;
      visited_once = visits_once ok;
      declared_once_lem = declares_once ok;
      visits = visits_bound ok;
      scopes = enters_bound ok;
      declarations = declares_bound ok;
    }
