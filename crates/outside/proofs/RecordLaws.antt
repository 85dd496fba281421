-- Records, methods and names found in the lent words, one row or place at a time.
use mathlib.Core.Path.{◌≡◌, refl, sym, ap, ◌∙◌}
use mathlib.Core.Bool.{Bool, true, false, ◌||◌}
use mathlib.Core.List.{List, ◌∷◌, map}
use Prim.Native.Nat.{ℕ, zero, suc, ◌+◌, ◌-◌, ◌<◌, ◌≤◌}
use native.Mathlib.Omega.{arith}
use lib.Dec.{eqb}
use lib.ListN.{get_or}
use borrow.Author.Tests.{eq-eqb, ne_eqb}
use Rattle.definition.specs.Basics.{when◌then◌else◌, any, first, from}
use Rattle.definition.specs.Sheet.{Sheet, word, a, kids_of}
use Rattle.definition.specs.Outside.{Method as Held, ClassRecord, is_recorded, record_of, no_record}
use Rattle.definition.specs.Classes.{of_sheet, has_record, class_name, own_methods, method_at, method_of, arity, no_method}
use Rattle.outside.specs.Words.{spaced_at, method_in, methods_at, record_at, over}
use Rattle.std.proofs.Common.{Option, None, Some, []}
use Rattle.ast.specs.declared.kind.Kind.{Kind}
use Rattle.ast.specs.declared.kind.Kind.TheVariants.{Field}
use Rattle.ast.specs.Kind.{kind_number}
use Rattle.ast.proofs.KindLaws.{kind_of_number}
use Rattle.std.specs.Option.{is_some}
use Rattle.outside.specs.Found.{row_record, named_in, fields_in, methods_in, Records, Tells}
use Rattle.outside.specs.declared.records.Recorded.{Recorded}
use Rattle.outside.specs.declared.records.Method.{Method}
use Rattle.std.specs.Option.{MatchOption}
use Rattle.std.specs.Option.{unwrap_or}
use Rattle.sheet.proofs.FindLaws.{row_number, method_function, method_params, found_in, found_row, found_none_row}

-- What is told of a record: whether there is one, its name, fields and methods.
pub record Seen : Type 0 where
  pub some : Bool
  pub name : ℕ
  pub fields : List ℕ
  pub methods : List Held

abbrev seen : Bool → ClassRecord → Seen
seen t x = record { some = t; name = x.name; fields = x.fields; methods = x.methods }

-- what x tells
abbrev pub told : List ℕ → Option Recorded → Seen
told w x = record { some = is_some x; name = named_in x; fields = fields_in w x; methods = methods_in w x }

module _ (w : List ℕ) (c : ℕ) where
  -- the record of class c among those of n rows from row i on
  unfoldable pub sought : ℕ → ℕ → Seen
  sought i n = seen (any (λ x. eqb x.number c) (map (record_at w) (from i n))) (first (λ x. eqb x.number c) no_record (map (record_at w) (from i n)))

  pub sought_none : (i n : ℕ) → n ≤ 0 → told w None ≡ sought i n
  unfolding sought
  sought_none i zero l = refl
  sought_none i (suc n) l = absurd (omega arith)

  step : (i n : ℕ) → sought i (suc n) ≡ (when eqb (word w i 0) c then seen true (record_at w i) else sought (suc i) n)
  unfolding sought
  step i n = go (eqb (word w i 0) c)
    where
      xs : List ClassRecord
      xs = map (record_at w) (from (suc i) n)

      go : (t : Bool) → seen (t || any (λ x. eqb x.number c) xs) (when t then record_at w i else first (λ x. eqb x.number c) no_record xs)
          ≡ (when t then seen true (record_at w i) else seen (any (λ x. eqb x.number c) xs) (first (λ x. eqb x.number c) no_record xs))
      go true = refl
      go false = refl

  -- row i is of class k
  module _ (i n : ℕ) (l : 0 < n) {k : ℕ} (e : k ≡ word w i 0) where
    here : sought i n ≡ (when eqb (word w i 0) c then seen true (record_at w i) else sought (suc i) (n - 1))
    here = let z : n ≡ suc (n - 1) = omega arith in ap (sought i) z ∙ step i (n - 1)

    pub sought_here : k ≡ c → told w (Some (row_record w i)) ≡ sought i n
    sought_here h = sym (here ∙ ap (λ (t : Bool). when t then seen true (record_at w i) else sought (suc i) (n - 1)) (eq-eqb (word w i 0) c (sym e ∙ h)))

    pub sought_next : (k ≡ c → ⊥) → sought (i + 1) (n - 1) ≡ sought i n
    sought_next h =
        let z : i + 1 ≡ suc i = omega arith in
        ap (λ (j : ℕ). sought j (n - 1)) z
        ∙ sym (here ∙ ap (λ (t : Bool). when t then seen true (record_at w i) else sought (suc i) (n - 1)) (ne_eqb (word w i 0) c (λ z. h (e ∙ z))))

  -- among all
  pub all_sought : {i n : ℕ} (x : Option Recorded) → i ≡ word w 0 0 → n ≡ word w 0 1 → told w x ≡ sought i (n - i) → Records w c x
  unfolding sought over
  all_sought {i} {n} x d f e =
      let whole : told w x ≡ sought (word w 0 0) (word w 0 1 - word w 0 0) = e ∙ ap (λ (j : ℕ). sought j (n - j)) d ∙ ap (λ (j : ℕ). sought (word w 0 0) (j - word w 0 0)) f in
      record {
        recorded = ap (λ (y : Seen). y.some) whole;
        named = ap (λ (y : Seen). y.name) whole;
        fields_are = ap (λ (y : Seen). y.fields) whole;
        methods_are = ap (λ (y : Seen). y.methods) whole;
      }

-- The method of name m among n methods from place p on; k is the name of the first.
module _ (w : List ℕ) (m p n : ℕ) where
  pub methods_none : n ≤ 0 → no_method ≡ method_of m (methods_at w p n)
  unfolding methods_at
  methods_none l = let z : n ≡ 0 = omega arith in sym (ap (λ (j : ℕ). method_of m (methods_at w p j)) z)

  module _ (l : 0 < n) {k : ℕ} (e : k ≡ get_or w p 0) where
    method_first : method_of m (methods_at w p n) ≡ (when eqb (get_or w p 0) m then method_in w p else method_of m (methods_at w (p + 3) (n - 1)))
    unfolding methods_at
    method_first = let z : n ≡ suc (n - 1) = omega arith in ap (λ (j : ℕ). method_of m (methods_at w p j)) z

    pub methods_here : k ≡ m → method_in w p ≡ method_of m (methods_at w p n)
    methods_here h = sym (method_first ∙ ap (λ (t : Bool). when t then method_in w p else method_of m (methods_at w (p + 3) (n - 1))) (eq-eqb (get_or w p 0) m (sym e ∙ h)))

    pub methods_next : (k ≡ m → ⊥) → method_of m (methods_at w (p + 3) (n - 1)) ≡ method_of m (methods_at w p n)
    methods_next h =
        sym (method_first ∙ ap (λ (t : Bool). when t then method_in w p else method_of m (methods_at w (p + 3) (n - 1))) (ne_eqb (get_or w p 0) m (λ z. h (e ∙ z))))

-- n names, d words from one to the next
module _ (w : List ℕ) (d p n : ℕ) where
  pub spaced_none : n ≡ 0 → spaced_at w d p n ≡ []
  unfolding spaced_at
  spaced_none z = ap (spaced_at w d p) z

  pub spaced_next : (n ≡ 0 → ⊥) → spaced_at w d p n ≡ get_or w p 0 ∷ spaced_at w d (p + d) (n - 1)
  unfolding spaced_at
  spaced_next f = let z : n ≡ suc (n - 1) = omega arith in ap (spaced_at w d p) z

-- the names of methods
pub method_names_lem : (w : List ℕ) (p n : ℕ) → spaced_at w 3 p n ≡ map (λ (m : Held). m.name) (methods_at w p n)
unfolding spaced_at methods_at
method_names_lem w p zero = refl
method_names_lem w p (suc n) = ap (λ (l : List ℕ). get_or w p 0 ∷ l) (method_names_lem w (p + 3) n)

-- what is told of one list of methods is told of another that has the same one
pub tells_as : (n : ℕ) {ms ks : List Held} {m : Method} → Tells n ms m → method_of n ms ≡ method_of n ks → Tells n ks m
tells_as n t e = record { fun_is = t.fun_is ∙ ap (λ (y : Held). y.fun) e; params_are = t.params_are ∙ ap (λ (y : Held). y.params) e }

pub tells_none : (n : ℕ) {ms : List Held} → no_method ≡ method_of n ms → Tells n ms (record { fun = record { 0 = 0 }; params = 0 })
tells_none n e = record { fun_is = ap (λ (y : Held). y.fun) e; params_are = ap (λ (y : Held). y.params) e }

-- A class by its rows or by its record: x says whether row c is a class row, and r tells its record.
module _ (s : Sheet) (w : List ℕ) (c : ℕ) {x : Bool} (e : x ≡ of_sheet s c) where
  pub has_own : x ≡ true → true ≡ has_record (over w) s c
  has_own h = sym (ap (λ (t : Bool). t || is_recorded (over w) c) (sym e ∙ h))

  pub name_own : x ≡ true → {n : ℕ} → n ≡ a s (c - 256) → n ≡ class_name (over w) s c
  name_own h i = i ∙ sym (ap (λ (t : Bool). when t then a s (c - 256) else (record_of (over w) c).name) (sym e ∙ h))

  pub own_number : x ≡ true → 256 ≤ c
  own_number h = row_number s c (sym e ∙ h)

  pub own_listed : x ≡ true → {n : ℕ} (f : Option ℕ) {m : Method} → f ≡ found_in s 6 n (c - 256) → m.fun.0 ≡ unwrap_or f 0
      → MatchOption f (m.params ≡ 0) (λ row. m.params ≡ arity s row) → Tells n (own_methods (over w) s c) m
  own_listed h {n} f {m} i j k =
      let z = listed_tells f i j k in
      tells_as n {ms = map (method_at s) (kids_of s 6 (c - 256))} z
      (sym (ap (λ (t : Bool). method_of n (when t then map (method_at s) (kids_of s 6 (c - 256)) else (record_of (over w) c).methods)) (sym e ∙ h)))
    where
      listed_tells : (f : Option ℕ) → f ≡ found_in s 6 n (c - 256) → m.fun.0 ≡ unwrap_or f 0 → MatchOption f (m.params ≡ 0) (λ row. m.params ≡ arity s row)
          → Tells n (map (method_at s) (kids_of s 6 (c - 256))) m
      listed_tells (Some row) i j k =
          let q = found_row s 6 n (c - 256) row i in
          record {
            fun_is = j ∙ method_function s n (c - 256) row q.0;
            params_are = k ∙ sym (ap (λ (t : Bool). when t then 0 else arity s row) (ne_eqb row 0 q.1)) ∙ method_params s n (c - 256) row q.0;
          }
      listed_tells None i j k =
          let q = found_none_row s 6 n (c - 256) i in
          record { fun_is = j ∙ method_function s n (c - 256) 0 q; params_are = k ∙ method_params s n (c - 256) 0 q }

  module _ (h : x ≡ false) {r : Option Recorded} (k : Records w c r) where
    pub has_record_lem : is_some r ≡ has_record (over w) s c
    has_record_lem = k.recorded ∙ sym (ap (λ (t : Bool). t || is_recorded (over w) c) (sym e ∙ h))

    pub name_record : named_in r ≡ class_name (over w) s c
    name_record = k.named ∙ sym (ap (λ (t : Bool). when t then a s (c - 256) else (record_of (over w) c).name) (sym e ∙ h))

    pub own_recorded : {n : ℕ} {m : Method} → Tells n (methods_in w r) m → Tells n (own_methods (over w) s c) m
    own_recorded {n} t =
        tells_as n t
        (ap (method_of n) k.methods_are ∙ sym (ap (λ (t : Bool). method_of n (when t then map (method_at s) (kids_of s 6 (c - 256)) else (record_of (over w) c).methods)) (sym e ∙ h)))

-- the numbers of an outside in words are the walk's
pub over_base : (w : List ℕ) → (over w).base ≡ 0
unfolding over
over_base w = refl

-- a kind that is not that of fields has another number
pub no_field : (k : Kind) → (k ≡ Field → ⊥) → eqb (kind_number k) 10 ≡ false
no_field k f = ne_eqb (kind_number k) 10 (λ e. f (kind_of_number k Field e))
