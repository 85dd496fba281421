-- The answer rows of declarations: those of lets, parameters and functions, and what each open declaration is told as.
use mathlib.Core.Path.{◌≡◌, sym, ap, ◌∙◌, subst}
use mathlib.Core.Logic.{◌⊎◌, inl, inr}
use mathlib.Core.List.{List, [], ◌∷◌, ◌++◌, map, Memᴰ as Mem}
use mathlib.Core.Bool.{not}
use Prim.Native.Nat.{ℕ, ◌+◌, ◌<◌}
use native.Mathlib.Omega.{arith}
use lib.ListN.{length, get_or, take}
use lib.Dec.{eqb, T}
use Rattle.definition.specs.Basics.{filter, final, place, head, bit}
use Rattle.definition.specs.Sheet.{Sheet, a, b, rows, is, kids_of, function_of}
use Rattle.definition.specs.Outside.{Outside, core, based}
use Rattle.definition.specs.Meaning.{Meaning, row_of, owner_of, is_variable}
use Rattle.definition.specs.Scope.{Stack, Moment, find, lookup, history, declares, declared, declaration, within, visited, visits}
use Rattle.definition.specs.Slots.{is_local, open_locals, local_count, code}
use Rattle.definition.specs.Capture.{Use, use_at, uses, captures, escaping}
use Rattle.definition.specs.Answer.{eight, let_row, identifier_row, host_row, instance_row, member_row, literal_rows, function_rows, rows_of, answers}
use Rattle.definition.specs.Claims.{Row, rows_for, first_for, told, declared_as}
use Rattle.definition.proofs.Lists.Tests.{and_left, and_right, and_both, decide, if_true, if_false}
use Rattle.definition.proofs.Lists.Members.{map_mem, filter_mem, map_append, map_map}
use Rattle.definition.proofs.Walk.Fits.{Fits}
use Rattle.definition.proofs.Walk.Once.{declarings_of}
use Rattle.definition.proofs.Closure.Open.{OpenAt, OpenRow}
use Rattle.definition.proofs.Closure.Declared.{declared_bit}
use Rattle.definition.proofs.Closure.Variables.{Variable, open_variable, variable_same, Opened, find_open}
use Rattle.definition.proofs.Closure.OpenApart.{argument_code, local_code, same_place, is_local_lem}
use Rattle.definition.proofs.Closure.Following.{rows_for_lem, not_kind}

-- the same outside, with numbers as the walk tells them
abbrev pub relative : Outside → Outside
relative O = based O 0

pub no_base : (n : ℕ) → n + (relative core).base ≡ n
no_base n = omega arith

rows_of_function : (O : Outside) (s : Sheet) (h : List Moment) (r : ℕ) → T (is s 6 r) → rows_of O s h r ≡ function_rows s h r
rows_of_function O s h r t =
    if_false (is s 29 r) (let_row s h r) _ (not_kind s 6 29 r tt t) ∙ if_false (is s 50 r) (identifier_row s h r) _ (not_kind s 6 50 r tt t)
    ∙ if_false (is s 51 r) (host_row s h r) _ (not_kind s 6 51 r tt t) ∙ if_false (is s 55 r) (instance_row s h r) _ (not_kind s 6 55 r tt t)
    ∙ if_false (is s 54 r) (member_row O s h r) _ (not_kind s 6 54 r tt t) ∙ if_false (is s 52 r) (literal_rows s h r) _ (not_kind s 6 52 r tt t)
    ∙ if_true (is s 6 r) (function_rows s h r) _ t

pub function_rows_lem : (O : Outside) (s : Sheet) (h : List Moment) (f : ℕ) → f < rows s → T (is s 6 f)
    → rows_for (answers O s h) f
    ≡ eight (f ∷ 20 ∷ local_count s h f ∷ length (captures s h f) ∷ length (escaping s h f) ∷ [])
    ∷ map (λ u. eight (f ∷ code s h u.means u.slot)) (captures s h f)
    ++ map (λ k. eight (f ∷ 5 ∷ k ∷ f ∷ 1 ∷ [])) (escaping s h f)
function_rows_lem O s h f l t =
    let top : Row = eight (f ∷ 20 ∷ local_count s h f ∷ length (captures s h f) ∷ length (escaping s h f) ∷ []) in
    rows_for_lem O s h f l ∙ ap (map (λ vs. eight (f ∷ vs))) (rows_of_function O s h f t)
    ∙ ap (λ (z : List Row). top ∷ z) (map_append (λ vs. eight (f ∷ vs)) (map (λ u. code s h u.means u.slot) (captures s h f)) (map (λ k. 5 ∷ k ∷ f ∷ 1 ∷ []) (escaping s h f)))
    ∙ ap (λ (z : List Row). top ∷ z ++ map (λ vs. eight (f ∷ vs)) (map (λ k. 5 ∷ k ∷ f ∷ 1 ∷ []) (escaping s h f)))
    (map_map (λ vs. eight (f ∷ vs)) (λ u. code s h u.means u.slot) (captures s h f))
    ∙ ap (λ (z : List Row). top ∷ map (λ u. eight (f ∷ code s h u.means u.slot)) (captures s h f) ++ z) (map_map (λ vs. eight (f ∷ vs)) (λ k. 5 ∷ k ∷ f ∷ 1 ∷ []) (escaping s h f))

-- a variable's code, function and slot or index are its first three values
pub three : (O : Outside) (s : Sheet) (d : Meaning) (x k : ℕ) → T (is_variable d) → take 3 (told (eight (x ∷ code s (history O s) d k))) ≡ take 3 (code s (history O s) d k)
three O s d x k v = go (decide (is s 11 (row_of d)))
  where
    go : T (is s 11 (row_of d)) ⊎ T (not (is s 11 (row_of d))) → take 3 (told (eight (x ∷ code s (history O s) d k))) ≡ take 3 (code s (history O s) d k)
    go (inl t) = let e = argument_code O s d k v t in ap (λ (l : List ℕ). take 3 (told (eight (x ∷ l)))) e ∙ sym (ap (take 3) e)
    go (inr t) = let e = local_code O s d k v t in ap (λ (l : List ℕ). take 3 (told (eight (x ∷ l)))) e ∙ sym (ap (take 3) e)

module _ {O : Outside} {s : Sheet} (ok : Fits O s) where
  -- how an open variable was declared
  pub declared_once_lem : (m : Moment) → Mem m (history O s) → (i n : ℕ) (d : Meaning) (st : Stack) → OpenAt m.stack i n d st → T (is_variable d)
      → (k : Moment) × (filter (λ y. eqb (declares y.event) (row_of d)) (history O s) ≡ k ∷ []) × (k.stack ≡ st) × (declaration s k ≡ d) × (owner_of d ≡ function_of s (row_of d))
  declared_once_lem m q i n d st p v =
      let x : Variable O s d st = open_variable ok m q i n d st p v in
      let k : Moment = x.declaring.moment in
      let e : declares k.event ≡ row_of d = ap declares x.declaring.event_is in (
        k,
        subst (λ (r : ℕ). filter (λ y. eqb (declares y.event) r) (history O s) ≡ k ∷ []) e (declarings_of ok k x.declaring.among (λ z. x.row_not_zero (sym e ∙ z))),
        x.declaring.stack_is,
        ap (λ (r : ℕ). declared s r (within s k)) e ∙ x.declaring.decl_is,
        x.owner_is ∙ ap head (sym x.around_is),
      )

  -- the answer row of a let that declares a local
  let_row_lem : (m : Moment) → Mem m (history O s) → (i n : ℕ) (d : Meaning) (st : Stack) → OpenAt m.stack i n d st → T (is_local s d)
      → rows_for (answers O s (history O s)) (row_of d) ≡ eight (row_of d ∷ code s (history O s) d (open_locals s st)) ∷ []
  let_row_lem m q i n d st p t =
      let r : ℕ = row_of d in
      let v : T (is_variable d) = and_left (is_variable d) (is s 29 r) t in
      let c = declared_once_lem m q i n d st p v in
      rows_for_lem O s (history O s) r (open_variable ok m q i n d st p v).in_range
      ∙ ap (map (λ vs. eight (r ∷ vs)))
      (if_true (is s 29 r) (let_row s (history O s) r) _ (and_right (is_variable d) (is s 29 r) t)
      ∙ ap (λ (l : List Moment). take 1 (map (λ y. code s (history O s) (declaration s y) (open_locals s y.stack)) (final l) ++ ((0 ∷ []) ∷ []))) c.1
      ∙ ap (λ (e : Meaning). code s (history O s) e (open_locals s c.0.stack) ∷ []) c.3 ∙ ap (λ (y : Stack). code s (history O s) d (open_locals s y) ∷ []) c.2)

  -- what an open declaration is told as: its code and values
  pub declared_row : (m : Moment) → Mem m (history O s) → (i n : ℕ) (d : Meaning) (st : Stack) → OpenAt m.stack i n d st → T (is_variable d)
      → declared_as (relative O) s (answers O s (history O s)) (row_of d) ≡ told (eight (row_of d ∷ code s (history O s) d (open_locals s st)))
  declared_row m q i n d st p v = go (decide (is s 11 (row_of d)))
    where
      owner : owner_of d ≡ function_of s (row_of d)
      owner = (declared_once_lem m q i n d st p v).4

      go : T (is s 11 (row_of d)) ⊎ T (not (is s 11 (row_of d)))
          → declared_as (relative O) s (answers O s (history O s)) (row_of d) ≡ told (eight (row_of d ∷ code s (history O s) d (open_locals s st)))
      go (inl t) =
          if_true (is s 11 (row_of d)) _ (told (first_for (answers O s (history O s)) (row_of d))) t
          ∙ ap (λ (g : ℕ). told (eight (row_of d ∷ 4 ∷ place (eqb (row_of d)) (kids_of s 11 (function_of s (row_of d))) ∷ g ∷ []))) (no_base (function_of s (row_of d)))
          ∙ ap (λ (f : ℕ). told (eight (row_of d ∷ 4 ∷ place (eqb (row_of d)) (kids_of s 11 f) ∷ f ∷ []))) (sym owner)
          ∙ ap (λ (c : List ℕ). told (eight (row_of d ∷ c))) (sym (argument_code O s d (open_locals s st) v t))
      go (inr t) =
          if_false (is s 11 (row_of d)) _ (told (first_for (answers O s (history O s)) (row_of d))) t
          ∙ ap (λ (rs : List Row). told (get_or rs 0 [])) (let_row_lem m q i n d st p (is_local_lem ok d (owner_of d) v (open_variable ok m q i n d st p v).kind_of t))

  -- the same by rows
  pub open_told : (m : Moment) → Mem m (history O s) → (d : ℕ) (o : OpenRow m.stack d)
      → declared_as (relative O) s (answers O s (history O s)) d ≡ told (eight (d ∷ code s (history O s) o.means (open_locals s o.before)))
  open_told m q d o =
      subst (λ (r : ℕ). declared_as (relative O) s (answers O s (history O s)) r ≡ told (eight (r ∷ code s (history O s) o.means (open_locals s o.before)))) o.row_is_lem
      (declared_row m q o.at o.name o.means o.before o.is_open o.is_variable_lem)

  -- what an identifier means is told as its code and values
  pub use_told : (u : Use) → Mem u (uses s (history O s)) → T (is_variable u.means)
      → declared_as (relative O) s (answers O s (history O s)) (row_of u.means) ≡ told (eight (0 ∷ code s (history O s) u.means u.slot))
  use_told u q v =
      let x = map_mem (use_at s) u (visits s (history O s) 50) q in
      let y = filter_mem (λ m. is s 50 (visited m.event)) x.0 (history O s) x.1 in
      subst (λ (w : Use). declared_as (relative O) s (answers O s (history O s)) (row_of w.means) ≡ told (eight (0 ∷ code s (history O s) w.means w.slot))) (sym x.2)
      (at_moment x.0 y.0 (subst (λ (w : Use). T (is_variable w.means)) x.2 v))
    where
      at_moment : (m : Moment) → Mem m (history O s) → T (is_variable (use_at s m).means)
          → declared_as (relative O) s (answers O s (history O s)) (row_of (use_at s m).means) ≡ told (eight (0 ∷ code s (history O s) (use_at s m).means (use_at s m).slot))
      at_moment m i w =
          let n : ℕ = a s (visited m.event) in
          let o : Opened s n m.stack (find n m.stack) = find_open s n m.stack w in
          declared_row m i o.at n (lookup n m.stack) o.before o.is_open w
          ∙ ap (λ (k : ℕ). told (eight (0 ∷ code s (history O s) (lookup n m.stack) k))) (sym o.slot_is)

  -- a row is open at one place
  pub one_place : (m : Moment) → Mem m (history O s) → (d : ℕ) (x y : OpenRow m.stack d) → x.at ≡ y.at
  one_place m q d x y =
      let v : Variable O s x.means x.before = open_variable ok m q x.at x.name x.means x.before x.is_open x.is_variable_lem in
      let w : Variable O s y.means y.before = open_variable ok m q y.at y.name y.means y.before y.is_open y.is_variable_lem in
      same_place m.stack x.at y.at x.name y.name x.means y.means x.before y.before x.is_open y.is_open
      (variable_same ok x.means y.means x.before y.before v w (x.row_is_lem ∙ sym y.row_is_lem)).1

  -- an open let: its answer row
  pub local_row : (m : Moment) → Mem m (history O s) → (d : ℕ) (o : OpenRow m.stack d) → T (is s 29 d)
      → rows_for (answers O s (history O s)) d ≡ eight (d ∷ 5 ∷ open_locals s o.before ∷ (function_of s d + 0) ∷ b s d ∷ []) ∷ []
  local_row m q d o t = subst (λ (r : ℕ). T (is s 29 r) → rows_for (answers O s (history O s)) r ≡ eight (r ∷ 5 ∷ open_locals s o.before ∷ (function_of s r + 0) ∷ b s r ∷ []) ∷ []) o.row_is_lem row t
    where
      r : ℕ
      r = row_of o.means

      mutability : T (is s 29 r) → bit (eqb (b s r) 1) ≡ b s r
      mutability h =
          let x : Variable O s o.means o.before = open_variable ok m q o.at o.name o.means o.before o.is_open o.is_variable_lem in
          declared_bit s r (within s x.declaring.moment) h (subst (λ (e : Meaning). T (is_variable e)) (sym x.declaring.decl_is) o.is_variable_lem)

      row : T (is s 29 r) → rows_for (answers O s (history O s)) r ≡ eight (r ∷ 5 ∷ open_locals s o.before ∷ (function_of s r + 0) ∷ b s r ∷ []) ∷ []
      row h =
          let_row_lem m q o.at o.name o.means o.before o.is_open (and_both (is_variable o.means) (is s 29 r) o.is_variable_lem h)
          ∙ ap (λ (c : List ℕ). eight (r ∷ c) ∷ []) (local_code O s o.means (open_locals s o.before) o.is_variable_lem (not_kind s 29 11 r tt h))
          ∙ ap (λ (z : ℕ). eight (r ∷ 5 ∷ open_locals s o.before ∷ owner_of o.means ∷ z ∷ []) ∷ []) (mutability h)
          ∙ ap (λ (f : ℕ). eight (r ∷ 5 ∷ open_locals s o.before ∷ f ∷ b s r ∷ []) ∷ [])
          ((declared_once_lem m q o.at o.name o.means o.before o.is_open o.is_variable_lem).4
          ∙ sym (no_base (function_of s r)))
