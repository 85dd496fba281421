-- How many parameters a method has that a class has, its own or inherited, fits a word: as do the words of an outside, and the rows of a sheet.
use mathlib.Core.List.{List, [], ◌∷◌, map}
use mathlib.Core.Bool.{Bool, true, false, not}
use Prim.Native.Nat.{ℕ, zero, suc, ◌+◌, ◌-◌, ◌≤◌}
use native.Mathlib.Omega.{arith}
use lib.ListN.{length, get_or}
use lib.Dec.{eqb}
use Rattle.definition.specs.Basics.{when◌then◌else◌, filter, any, first, from}
use Rattle.definition.specs.Sheet.{Sheet, word, next, child, rows, chain, is, kids_of}
use Rattle.definition.specs.Outside.{Method, no_record, record_of}
use Rattle.definition.specs.Classes.{of_sheet, method_at, own_methods, no_method, method_of, merge_methods}
use Rattle.definition.proofs.Lists.Members.{Every, every_none, every_one, every_append}
use Rattle.machine.specs.Machine.{Store}
use Rattle.after.specs.Inherited.{parent_in, methods_in}
use Rattle.raise.proofs.OwnerLaws.{every_map}
use Rattle.outside.specs.Words.{method_in, methods_at, record_at, over}

abbrev Few : Method → Type 0
Few m = m.params ≤ 4294967295

first_few : (p : Method → Bool) (d : Method) {ms : List Method} → Few d → Every Few ms → Few (first p d ms)
first_few p d l every_none = l
first_few p d l (every_one {x = m} {xs = ms} h q) = go (p m) (first_few p d l q)
  where
    go : (t : Bool) → Few (first p d ms) → Few (when t then m else first p d ms)
    go true k = h
    go false k = k

kept_few : (p : Method → Bool) {ms : List Method} → Every Few ms → Every Few (filter p ms)
kept_few p every_none = every_none
kept_few p (every_one {x = m} {xs = ms} h q) = go (p m) (kept_few p q)
  where
    go : (t : Bool) → Every Few (filter p ms) → Every Few (when t then m ∷ filter p ms else filter p ms)
    go true k = every_one h k
    go false k = k

replaced_few : {up own : List Method} → Every Few up → Every Few own → Every Few (map (λ m. first (λ o. eqb o.name m.name) m own) up)
replaced_few every_none q = every_none
replaced_few (every_one {x = m} h p) q = every_one (first_few (λ o. eqb o.name m.name) m h q) (replaced_few p q)

merged_few : {up own : List Method} → Every Few up → Every Few own → Every Few (merge_methods up own)
merged_few {up} {own} p q = every_append (replaced_few p q) (kept_few (λ o. not (any (λ m. eqb m.name o.name) up)) q)

-- the children of a row are at most as many as the rows
chained_few : (p : ℕ → Bool) (n : ℕ) (s : Sheet) (r : ℕ) → length (filter p (chain n s r)) ≤ n
chained_few p zero s r = omega arith
chained_few p (suc n) s zero = omega arith
chained_few p (suc n) s (suc r) = go (p (suc r)) (chained_few p n s (next s (suc r)))
  where
    rest : List ℕ
    rest = filter p (chain n s (next s (suc r)))

    go : (t : Bool) → length rest ≤ n → length (when t then suc r ∷ rest else rest) ≤ suc n
    go true l = omega arith
    go false l = omega arith

-- Words that fit.
module _ (w : List ℕ) (fit : (j : ℕ) → get_or w j 0 ≤ 4294967295) where
  held_few : (p n : ℕ) → Every Few (methods_at w p n)
  unfolding methods_at
  held_few p zero = every_none
  held_few p (suc n) = every_one {x = method_in w p} (fit (p + 2)) (held_few (p + 3) n)

  recorded_few : (c : ℕ) → Every Few (record_of (over w) c).methods
  unfolding over
  recorded_few c = go (from (word w 0 0) (word w 0 1 - word w 0 0))
    where
      go : (rs : List ℕ) → Every Few (first (λ x. eqb x.number c) no_record (map (record_at w) rs)).methods
      go [] = every_none
      go (r ∷ rs) = by (eqb (word w r 0) c) (go rs)
        where
          by : (t : Bool) → Every Few (first (λ x. eqb x.number c) no_record (map (record_at w) rs)).methods
              → Every Few (when t then record_at w r else first (λ x. eqb x.number c) no_record (map (record_at w) rs)).methods
          by true h = held_few (word w r 4) (word w r 5)
          by false h = h

  module _ (s : Sheet) (few : rows s ≤ 2048) where
    own_few : (c : ℕ) → Every Few (own_methods (over w) s c)
    own_few c = go (of_sheet s c)
      where
        go : (t : Bool) → Every Few (when t then map (method_at s) (kids_of s 6 (c - 256)) else (record_of (over w) c).methods)
        go true = every_map (method_at s) (kids_of s 6 (c - 256)) (λ f q. omega (arith, chained_few (is s 11) (rows s) s (child s f)))
        go false = recorded_few c

    methods_few : (o : Store) (n c : ℕ) → Every Few (methods_in (over w) s o n c)
    unfolding methods_in
    methods_few o zero c = every_none
    methods_few o (suc n) c = go (eqb (parent_in s o c) 0) (methods_few o n (parent_in s o c))
      where
        up : List Method
        up = methods_in (over w) s o n (parent_in s o c)

        go : (t : Bool) → Every Few up → Every Few (when t then own_methods (over w) s c else merge_methods up (own_methods (over w) s c))
        go true p = own_few c
        go false p = merged_few p (own_few c)

    pub params_few : (o : Store) (n c k : ℕ) → (method_of k (methods_in (over w) s o n c)).params ≤ 4294967295
    params_few o n c k = first_few (λ m. eqb m.name k) no_method (omega arith) (methods_few o n c)
