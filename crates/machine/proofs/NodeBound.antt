-- Where a variable is declared, and how many nodes the walk takes, of a sheet that fits.
use mathlib.Core.Path.{◌≡◌, refl, sym, ap, ◌∙◌, subst}
use mathlib.Core.List.Memᴰ
use mathlib.Core.List.Memᴰ.{head as here}
use mathlib.Core.List.Memᴰ.{tail as there}
use mathlib.Core.List.{List, [], ◌∷◌, Memᴰ as Mem}
use mathlib.Core.Bool.{Bool, true, false, true≢false, not, ◌||◌}
use Prim.Native.Nat.{ℕ, zero, suc, ◌+◌, ◌*◌, ◌<◌, ◌≤◌}
use native.Mathlib.Omega.{arith}
use lib.ListN.{length}
use lib.Dec.{eqb, T, T_not, not_T, eqb→eq}
use Rattle.definition.specs.Basics.{when◌then◌else◌, filter, bit, count, total, from, head, ◌∈?◌}
use Rattle.definition.specs.Sheet.{Sheet, kind, rows, is, functions_of}
use Rattle.definition.specs.Outside.{Outside}
use Rattle.definition.specs.Meaning.{Meaning, class, is_variable, owner_of}
use Rattle.definition.specs.Walk.{Event, enter, leave, loop, declare, bring, visit, walk}
use Rattle.definition.specs.Scope.{Stack, Moment, around, inside, declared, step, moments, history, start}
use Rattle.definition.specs.Bounds.{own, walked}
use Rattle.definition.proofs.Lists.Tests.{kind_apart, true_of, T_true, eqb_of}
use Rattle.definition.proofs.Lists.Members.{Nodup, nodup_none, nodup_one, nodup_filter, filter_mem, all_pass, empty_of, count_append, mem_test}
use Rattle.definition.proofs.Walk.Fits.{Fits}
use Rattle.definition.proofs.Format.Passes.{from_suc}
use Rattle.definition.proofs.Walk.Rows.{reached_root, kind_not_zero}
use Rattle.definition.proofs.Walk.Walked.{walked_nodup, found}
use Rattle.definition.proofs.Walk.Once.{OnlyVisits, visit_own, count_trace}
use Rattle.definition.proofs.Walk.Around.{Walks}
use Rattle.definition.proofs.Walk.Told.{Declarer, a_class, a_parameter, a_let, Told, t_declare, t_visit, told}
use Rattle.definition.proofs.Closure.Declared.{declared_variable}
use Rattle.definition.proofs.Closure.Variables.{head_mem}
use Rattle.machine.specs.Machine.{visits_kind}
use Rattle.machine.specs.Space.{nodes_of, nodes_for}
use Rattle.machine.proofs.StoreParts.{node_cost, nodes_needed}
use Rattle.machine.proofs.Reached.{Reached, r_here, r_later}

pub reached_mem : {O : Outside} {s : Sheet} {z : Stack} {es : List Event} {m : Moment} → Reached O s z es m → Mem m (moments s z es)
reached_mem r_here = here refl
reached_mem (r_later q w) = there (reached_mem w)

not_class : (t : Bool) (c : ℕ) (d : Meaning) → T t → is_variable (when t then class c else d) ≡ true → ⊥
not_class true c d h v = true≢false (sym v)
not_class false c d h v = h

-- a variable is declared in a function
module _ {O : Outside} {s : Sheet} (ok : Fits O s) where
  some_function : (fs : List ℕ) (r : ℕ) → Told s fs (declare r) → is_variable (declared s r (head fs)) ≡ true → fs ≡ [] → ⊥
  some_function fs r (t_declare e l d) v = go d
    where
      go : Declarer s fs r → fs ≡ [] → ⊥
      go (a_class h) q = not_class (is s 4 r) (256 + r) _ h v
      go (a_parameter h i k m) q = kind_not_zero ok 6 (head fs) tt i (ap head q)
      go (a_let h n) q = n q

  owner_around : (fs : List ℕ) (r : ℕ) → Told s fs (declare r) → is_variable (declared s r (head fs)) ≡ true → (owner_of (declared s r (head fs)) ∈? fs) ≡ true
  owner_around fs r t v =
      let f : ℕ = head fs in
      let o : owner_of (declared s r f) ≡ f =
      ap owner_of (declared_variable s r f (T_true _ v)).0 in
      ap (λ (k : ℕ). k ∈? fs) o ∙ true_of (f ∈? fs) (mem_test f fs (head_mem fs (some_function fs r t v)))

  pub declared_inside : (m : Moment) → Reached O s (start O) (walk s) m → (r : ℕ) → m.event ≡ declare r
      → is_variable (declared s r (inside s m.stack)) ≡ true → (owner_of (declared s r (inside s m.stack)) ∈? around s m.stack) ≡ true
  declared_inside m w r e v =
      owner_around (around s m.stack) r (subst (λ (x : Event). Told s (around s m.stack) x) e (told ok m (reached_mem w))) v

-- Nodes: those of a visit, by the kind of its row.
abbrev is_other : Sheet → ℕ → Bool
is_other s r = is s 59 r || is s 21 r

abbrev visits_other : Sheet → Event → Bool
visits_other s e = visits_kind s 59 e || visits_kind s 21 e

three : (t u v : Bool) (k : ℕ) → (T t → T u → ⊥) → (T v → k ≤ 21)
    → (when t then 1 else 0) + (when u then 1 else 0) + (when v then k else 0) ≤ 21 * bit v + bit (t || u)
three true true v k f j = absurd (f tt tt)
three true false true k f j = omega (arith, j tt)
three true false false k f j = omega arith
three false true true k f j = omega (arith, j tt)
three false true false k f j = omega arith
three false false true k f j = omega (arith, j tt)
three false false false k f j = omega arith

no_cost : (s : Sheet) (k : ℕ) → kind s 0 ≡ 0 → (when is s 59 0 then 1 else 0) + (when is s 21 0 then 1 else 0) + (when is s 50 0 then k else 0) ≡ 0
no_cost s k hd = rw hd

node_cost_bound : (s : Sheet) → kind s 0 ≡ 0 → (z : Stack) (e : Event) → (T (visits_kind s 50 e) → length (around s z) ≤ 21)
    → node_cost s (record { event = e; stack = z }) ≤ 21 * bit (visits_kind s 50 e) + bit (visits_other s e)
node_cost_bound s hd z (enter r) f = omega (arith, no_cost s (length (around s z)) hd)
node_cost_bound s hd z leave f = omega (arith, no_cost s (length (around s z)) hd)
node_cost_bound s hd z loop f = omega (arith, no_cost s (length (around s z)) hd)
node_cost_bound s hd z (declare r) f = omega (arith, no_cost s (length (around s z)) hd)
node_cost_bound s hd z (bring r n d) f = omega (arith, no_cost s (length (around s z)) hd)
node_cost_bound s hd z (visit r) f = three (is s 59 r) (is s 21 r) (is s 50 r) (length (around s z)) (kind_apart (kind s r) 59 21 tt) f

needed_visits : (s : Sheet) → kind s 0 ≡ 0 → (z : Stack) (es : List Event)
    → ((m : Moment) → Mem m (moments s z es) → T (visits_kind s 50 m.event) → length (around s m.stack) ≤ 21)
    → nodes_needed s (moments s z es) ≤ 21 * count (visits_kind s 50) es + count (visits_other s) es
needed_visits s hd z [] f = omega arith
needed_visits s hd z (e ∷ es) f =
    omega (
      arith,
      node_cost_bound s hd z e (λ t. f (record { event = e; stack = z }) (here refl) t),
      needed_visits s hd (step s z e) es (λ m q. f m (there q)),
    )

-- what rows may take, by their kinds
kinds_split : (s : Sheet) (xs : List ℕ) → total (nodes_of s) xs ≡ 21 * count (is s 50) xs + count (is_other s) xs
kinds_split s [] = refl
kinds_split s (x ∷ xs) = omega (arith, kinds_split s xs, one (is s 50 x) (is s 59 x) (is s 21 x) (kind_apart (kind s x) 50 59 tt) (kind_apart (kind s x) 50 21 tt))
  where
    one : (v t u : Bool) → (T v → T t → ⊥) → (T v → T u → ⊥) → ◌≡◌ {A = ℕ} (when v then 21 else when t || u then 1 else 0) (21 * bit v + bit (t || u))
    one true true u f g = absurd (f tt tt)
    one true false true f g = absurd (g tt tt)
    one true false false f g = refl
    one false true u f g = refl
    one false false true f g = refl
    one false false false f g = refl

-- numbers below n without repeats: no more of them pass a test than of all below n
without : (p : ℕ → Bool) (n : ℕ) {xs : List ℕ} → Nodup xs → count p xs ≤ bit (p n) + count p (filter (λ x. not (eqb x n)) xs)
without p n nodup_none = omega arith
without p n (nodup_one {x = x} {xs = xs} h k) = go (eqb x n) (λ t. t) (without p n k)
  where
    other : T (eqb x n) → (y : ℕ) → Mem y xs → T (not (eqb y n))
    other t y m = not_T (eqb y n) (λ q. h (Memᴰ.cast (eqb→eq x n t ∙ sym (eqb→eq y n q)) m))

    go : (t : Bool) → (T t → T (eqb x n)) → count p xs ≤ bit (p n) + count p (filter (λ y. not (eqb y n)) xs)
        → bit (p x) + count p xs ≤ bit (p n) + count p (when not t then x ∷ filter (λ y. not (eqb y n)) xs else filter (λ y. not (eqb y n)) xs)
    go true t b = rw (all_pass (λ y. not (eqb y n)) xs (other (t tt))) (omega (arith, ap (λ (y : ℕ). bit (p y)) (eqb→eq x n (t tt))))
    go false t b = omega arith

count_below : (p : ℕ → Bool) (n : ℕ) {xs : List ℕ} → Nodup xs → ((x : ℕ) → Mem x xs → x < n) → count p xs ≤ count p (from 0 n)
count_below p zero {xs} k f = rw (empty_of xs (λ x m. let h : x < 0 = f x m in omega arith)) (omega arith)
count_below p (suc n) {xs} k f =
    omega (
      arith,
      without p n k,
      count_below p n (nodup_filter (λ x. not (eqb x n)) k)
          (λ x m. let r = filter_mem (λ x. not (eqb x n)) x xs m in
          let h : x < suc n = f x r.0 in
          let d : x ≡ n → ⊥ = λ e. T_not (eqb x n) r.1 (eqb_of x n e) in
          omega arith),
      ap (count p) (from_suc n),
      count_append p (from 0 n) (n ∷ []),
    )

total_bits : (f : ℕ → ℕ) (p : ℕ → Bool) (xs : List ℕ) → ((x : ℕ) → f x ≤ bit (p x)) → total f xs ≤ count p xs
total_bits f p [] h = omega arith
total_bits f p (x ∷ xs) h = omega (arith, h x, total_bits f p xs h)

times : (c d : ℕ) → c ≤ d → 21 * c ≤ 21 * d
times c d h = omega arith

module _ {O : Outside} {s : Sheet} (ok : Fits O s) where
  visit_around : ((x : ℕ) → Walks s x → T (is s 50 x) → length (functions_of s x) ≤ 21) → (fs : List ℕ) (e : Event) → T (visits_kind s 50 e) → Told s fs e → length fs ≤ 21
  visit_around f fs (enter _) h _ = elim h [ ]
  visit_around f fs leave h _ = elim h [ ]
  visit_around f fs loop h _ = elim h [ ]
  visit_around f fs (declare _) h _ = elim h [ ]
  visit_around f fs (bring _ _ _) h _ = elim h [ ]
  visit_around f fs (visit x) h (t_visit q w) = subst (λ (l : List ℕ). length l ≤ 21) (sym q) (f x w h)

  -- each row is visited at most once, so as many visits pass a test as rows, at most
  visits_of : (p : Event → Bool) → OnlyVisits p → count p (walk s) ≤ count (λ r. p (visit r)) (from 0 (rows s))
  visits_of p q =
      omega (
        arith,
        count_trace p (rows s) s 0,
        total_bits (λ x. count p (own s x)) (λ r. p (visit r)) (walked (rows s) s 0) (visit_own s p q),
        count_below (λ r. p (visit r)) (rows s) (walked_nodup ok (rows s) 0 (reached_root ok)) (λ x m. (found ok (rows s) 0 x (reached_root ok) m).reached.in_range),
      )

  pub nodes_bound : ((x : ℕ) → Walks s x → T (is s 50 x) → length (functions_of s x) ≤ 21) → nodes_needed s (history O s) ≤ nodes_for s
  unfolding nodes_for
  nodes_bound f =
      omega (
        arith,
        needed_visits s ok.header (start O) (walk s) (λ m q t. visit_around f (around s m.stack) m.event t (told ok m q)),
        times (count (visits_kind s 50) (walk s)) (count (is s 50) (from 0 (rows s)))
            (visits_of (visits_kind s 50) (record { enters = λ r. tt; leaves = tt; loops = tt; declares = λ r. tt; brings = λ r n d. tt })),
        visits_of (visits_other s) (record { enters = λ r. tt; leaves = tt; loops = tt; declares = λ r. tt; brings = λ r n d. tt }),
        kinds_split s (from 0 (rows s)),
      )

-- no more than 21 for each row
of_few : (s : Sheet) (xs : List ℕ) → total (nodes_of s) xs ≤ 21 * length xs
of_few s [] = omega arith
of_few s (x ∷ xs) = omega (arith, of_few s xs, one (is s 50 x) (is_other s x))
  where
    one : (v t : Bool) → (when v then 21 else when t then 1 else 0) ≤ 21
    one true t = omega arith
    one false true = omega arith
    one false false = omega arith

pub nodes_few : (s : Sheet) → nodes_for s ≤ 21 * rows s
unfolding nodes_for
nodes_few s = omega (arith, of_few s (from 0 (rows s)), from_long 0 (rows s))
  where
    from_long : (i k : ℕ) → length (from i k) ≡ k
    from_long i zero = refl
    from_long i (suc k) = ap suc (from_long (suc i) k)
