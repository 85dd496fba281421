-- How many fields a class has after inheritance, at most.
use mathlib.Core.Path.{◌≡◌}
use mathlib.Core.List.{List, [], ◌∷◌, ◌++◌, map}
use mathlib.Core.Bool.{Bool, true, false, not, ◌&&◌}
use Prim.Native.Nat.{ℕ, zero, suc, ◌+◌, ◌-◌, ◌*◌, ◌≤◌}
use native.Mathlib.Omega.{arith}
use lib.ListN.{length, length-append, length-map}
use lib.Dec.{eqb, leb, leb→le}
use Rattle.definition.specs.Basics.{when◌then◌else◌, filter, distinct, count, ◌∈?◌}
use Rattle.definition.specs.Sheet.{Sheet, next, child, a, rows, chain, kids, is, kids_of}
use Rattle.definition.specs.Outside.{Outside, Method, record_of}
use Rattle.definition.specs.Walk.{Event, enter, leave, loop, declare, bring, visit, walk}
use Rattle.definition.specs.Scope.{Stack, Moment, step, moments, start, history, visited, visits, within}
use Rattle.definition.specs.Classes.{of_sheet, own_methods, class_of, registered, own_fields, merge_fields, parent_of, fields, method_at}
use Rattle.definition.specs.Bounds.{is_visit}
use Rattle.definition.proofs.Walk.Bounds.{visits_bound}
use Rattle.definition.proofs.Classes.{recorded}
use Rattle.machine.specs.Machine.{Store}
use Rattle.machine.specs.Reads.{PastFour}
use Rattle.after.specs.Inherited.{parent_in, method_names_in}
use Rattle.machine.proofs.Theorems.{rows_few}
use Rattle.after.proofs.Ranges.{past_fits}

module _ {A : Type 0} where
  filter_length : (p : A → Bool) (xs : List A) → length (filter p xs) ≤ length xs
  filter_length p [] = omega arith
  filter_length p (x ∷ xs) = go (p x) (filter_length p xs)
    where
      go : (t : Bool) → length (filter p xs) ≤ length xs → length (when t then x ∷ filter p xs else filter p xs) ≤ suc (length xs)
      go true l = omega arith
      go false l = omega arith

  distinct_length : (same : A → A → Bool) (xs : List A) → length (distinct same xs) ≤ length xs
  distinct_length same [] = omega arith
  distinct_length same (x ∷ xs) = omega (arith, filter_length (λ y. not (same x y)) (distinct same xs), distinct_length same xs)

chain_length : (n : ℕ) (s : Sheet) (r : ℕ) → length (chain n s r) ≤ n
chain_length zero s r = omega arith
chain_length (suc n) s zero = omega arith
chain_length (suc n) s (suc r) = omega (arith, chain_length n s (next s (suc r)))

-- rows of a kind are visited at most as often as rows are visited
visits_length : (s : Sheet) (j : ℕ) → is s (suc j) 0 ≡ false → (z : Stack) (es : List Event) → length (visits s (moments s z es) (suc j)) ≤ count is_visit es
visits_length s j hd z [] = omega arith
visits_length s j hd z (enter r ∷ es) = rw hd (omega (arith, visits_length s j hd (step s z (enter r)) es))
visits_length s j hd z (leave ∷ es) = rw hd (omega (arith, visits_length s j hd (step s z leave) es))
visits_length s j hd z (loop ∷ es) = rw hd (omega (arith, visits_length s j hd (step s z loop) es))
visits_length s j hd z (declare r ∷ es) = rw hd (omega (arith, visits_length s j hd (step s z (declare r)) es))
visits_length s j hd z (bring r n d ∷ es) = rw hd (omega (arith, visits_length s j hd (step s z (bring r n d)) es))
visits_length s j hd z (visit r ∷ es) = go (is s (suc j) r) (visits_length s j hd (step s z (visit r)) es)
  where
    m : Moment
    m = record { event = visit r; stack = z }

    rest : List Moment
    rest = visits s (moments s z es) (suc j)

    go : (t : Bool) → length rest ≤ count is_visit es → length (when t then m ∷ rest else rest) ≤ 1 + count is_visit es
    go true l = omega arith
    go false l = omega arith

module _ {O : Outside} {s : Sheet} (ok : PastFour O s) where
  visited_length : length (visits s (history O s) 21) ≤ rows s
  visited_length = omega (arith, visits_length s 20 (rw (past_fits ok).header) (start O) (walk s), visits_bound (past_fits ok))

  registered_length : (c : ℕ) → length (registered s (history O s) c) ≤ rows s
  registered_length c =
      omega (
        arith,
        length-map ms (λ m. a s (child s (visited m.event))),
        filter_length (λ m. is s 54 (child s (visited m.event)) && eqb (class_of s (within s m)) c)
            (visits s (history O s) 21),
        visited_length,
      )
    where
      ms : List Moment
      ms = filter (λ m. is s 54 (child s (visited m.event)) && eqb (class_of s (within s m)) c) (visits s (history O s) 21)

  -- own fields are at most two for each row, or 8,192
  own_length : (c : ℕ) → length (own_fields O s (history O s) c) ≤ 8192
  own_length c = go (of_sheet s c)
    where
      both : List ℕ
      both = map (a s) (kids_of s 10 (c - 256)) ++ registered s (history O s) (c - 256)

      go : (t : Bool) → length (when t then distinct eqb both else (record_of O c).fields) ≤ 8192
      go true =
          omega (
            arith,
            distinct_length eqb both,
            length-append (map (a s) (kids_of s 10 (c - 256))) (registered s (history O s) (c - 256)),
            length-map (kids_of s 10 (c - 256)) (a s),
            filter_length (is s 10) (kids s (c - 256)),
            chain_length (rows s) s (child s (c - 256)),
            registered_length (c - 256),
            rows_few s ok.whole,
          )
      go false = leb→le (length (record_of O c).fields) 8192 (recorded O (λ x. leb (length x.fields) 8192) tt ok.outside.few_fields c)

  fields_length : (n c : ℕ) → length (fields O s (history O s) n c) ≤ n * 8192
  fields_length zero c = omega arith
  fields_length (suc n) c = go (eqb (parent_of s (history O s) c) 0) (fields_length n (parent_of s (history O s) c))
    where
      up : List ℕ
      up = fields O s (history O s) n (parent_of s (history O s) c)

      own : List ℕ
      own = own_fields O s (history O s) c

      go : (t : Bool) → length up ≤ n * 8192 → length (when t then own else merge_fields up own) ≤ suc n * 8192
      go true l = omega (arith, own_length c)
      go false l = omega (arith, own_length c, length-append up (filter (λ j. not (j ∈? up)) own), filter_length (λ j. not (j ∈? up)) own)

  pub fields_few : (c : ℕ) → length (fields O s (history O s) (rows s) c) ≤ 16777216
  fields_few c = omega (arith, fields_length (rows s) c, rows_few s ok.whole)

-- methods: at most one for each row and ancestor
own_methods_length : {O : Outside} {s : Sheet} → PastFour O s → (c : ℕ) → length (map (λ m. m.name) (own_methods O s c)) ≤ 8192
own_methods_length {O} {s} ok c = omega (arith, length-map (own_methods O s c) (λ m. m.name), go (of_sheet s c))
  where
    fs : List ℕ
    fs = kids_of s 6 (c - 256)

    go : (t : Bool) → length (when t then map (method_at s) fs else (record_of O c).methods) ≤ 8192
    go true = omega (arith, rows_few s ok.whole, length-map {B = Method} fs (method_at s), filter_length (is s 6) (kids s (c - 256)), chain_length (rows s) s (child s (c - 256)))
    go false = leb→le (length (record_of O c).methods) 8192 (recorded O (λ x. leb (length x.methods) 8192) tt ok.outside.few_methods c)

methods_length : {O : Outside} {s : Sheet} → PastFour O s → (o : Store) (n c : ℕ) → length (method_names_in O s o n c) ≤ n * 8192
unfolding method_names_in
methods_length ok o zero c = omega arith
methods_length {O} {s} ok o (suc n) c = go (eqb (parent_in s o c) 0) (methods_length ok o n (parent_in s o c))
  where
    up : List ℕ
    up = method_names_in O s o n (parent_in s o c)

    own : List ℕ
    own = map (λ m. m.name) (own_methods O s c)

    go : (t : Bool) → length up ≤ n * 8192 → length (when t then own else merge_fields up own) ≤ suc n * 8192
    go true h = omega (arith, own_methods_length ok c)
    go false h = omega (arith, own_methods_length ok c, length-append up (filter (λ j. not (j ∈? up)) own), filter_length (λ j. not (j ∈? up)) own)

pub methods_few : {O : Outside} {s : Sheet} → PastFour O s → (o : Store) (c : ℕ) → length (method_names_in O s o (rows s) c) ≤ 16777216
methods_few {O} {s} ok o c = omega (arith, methods_length ok o (rows s) c, rows_few s ok.whole)
