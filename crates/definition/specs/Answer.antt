-- The answer rows, in rising sheet row.
use Rattle.std.specs.Prelude.{Bool, not, ◌&&◌, ◌||◌, List, [], ◌∷◌, ◌++◌, map, ℕ, zero, suc, ◌+◌, ◌-◌, length, get_or, set, take, replicate, eqb, ltb}
use Rattle.definition.specs.Basics.{when◌then◌else◌, filter, concat_map, from, bit}
use Rattle.definition.specs.Kind.{CLASS, FUNCTION, LET, IDENTIFIER, HOST_CONSTANT, LITERAL, MEMBER, INSTANCEOF, CALL}
use Rattle.definition.specs.Sheet.{Sheet, child, a, b, rows, is, holder}
use Rattle.definition.specs.Meaning.{is_class, class_number}
use Rattle.definition.specs.Outside.{Outside, Method}
use Rattle.definition.specs.Scope.{Moment, lookup, visited, visits, visit_of, declaring_of, declaration, within}
use Rattle.definition.specs.Slots.{code, open_locals, local_count}
use Rattle.definition.specs.Capture.{use_at, distance, captures, seen_from, sources, escaping}
use Rattle.definition.specs.Classes.{method_named, own_methods, parent_of, fields, methods, has_children}
use Rattle.definition.specs.Question.{open_on, receiver}

-- eight numbers: the given ones, then zeros
abbrev pub eight : List ℕ → List ℕ
eight vs = take 8 (vs ++ replicate 8 0)

-- code and values with n as the fourth value
abbrev pub with_fourth : ℕ → List ℕ → List ℕ
with_fourth n vs = get_or vs 0 0 ∷ get_or vs 1 0 ∷ get_or vs 2 0 ∷ get_or vs 3 0 ∷ n ∷ []

-- the rows of fields, with their slots from i on
abbrev pub numbered : ℕ → List ℕ → List (List ℕ)
numbered i [] = []
numbered i (n ∷ ns) = (23 ∷ i ∷ n ∷ []) ∷ numbered (suc i) ns

-- is row r the base of a call's member callee?
abbrev pub is_callee_base : Sheet → ℕ → Bool
is_callee_base s r = is s MEMBER (holder s r) && is s CALL (holder s (holder s r)) && eqb (child s (holder s (holder s r))) (holder s r)

module _ (s : Sheet) (h : List Moment) where
  -- a let: what it declares, or code 0
  abbrev pub let_row : ℕ → List (List ℕ)
  let_row r = take 1 (map (λ m. code s h (declaration s m) (open_locals s m.stack)) (declaring_of h r) ++ ((0 ∷ []) ∷ []))

  -- the calls of a method on a class
  abbrev pub class_calls : List Moment
  class_calls = filter (λ m. not (eqb (receiver s (visited m.event) (open_on s m.stack)) 0)) (visits s h CALL)

  -- an identifier: what it means in its function and, fourth, how far out that is; nothing where it is the base of a class method's callee
  abbrev pub identifier_row : ℕ → List (List ℕ)
  identifier_row r =
      map (λ m. with_fourth (distance (use_at s m)) (seen_from s h (within s m) (use_at s m)))
      (filter (λ m. not (is_callee_base s r && is_class (use_at s m).means)) (visit_of h r))

  -- MAIN_UNIT: true in the main function itself
  abbrev pub host_row : ℕ → List (List ℕ)
  host_row r = map (λ m. (when eqb (within s m) (b s 0) then 7 else 8) ∷ []) (visit_of h r)

  abbrev pub instance_row : ℕ → List (List ℕ)
  instance_row r = map (λ m. 2 ∷ class_number (lookup (a s r) m.stack) ∷ []) (visit_of h r)

  -- a literal: a row for each source
  abbrev pub literal_rows : ℕ → List (List ℕ)
  literal_rows r = concat_map (λ m. sources s h (within s m) (child s r)) (visit_of h r)

  -- a function: its counts, what it captures, its escaping locals
  abbrev pub function_rows : ℕ → List (List ℕ)
  function_rows f =
      (20 ∷ local_count s h f ∷ length (captures s h f) ∷ length (escaping s h f) ∷ [])
      ∷ map (λ u. code s h u.means u.slot) (captures s h f)
      ++ map (λ k. 5 ∷ k ∷ f ∷ 1 ∷ []) (escaping s h f)

module _ (O : Outside) (s : Sheet) (h : List Moment) where
  -- a member: the function where it is a class method's callee
  abbrev pub member_row : ℕ → List (List ℕ)
  member_row r =
      map (λ m. 1 ∷ method_named (a s r) (own_methods O s (receiver s (visited m.event) (open_on s m.stack))) ∷ [])
      (filter (λ m. eqb (child s (visited m.event)) r) (class_calls s h))

  -- a class: its counts, its fields by slot, its methods
  abbrev pub class_rows : ℕ → List (List ℕ)
  class_rows r =
      let c : ℕ = 256 + r in
      let fs : List ℕ = fields O s h (rows s) c in
      let ms : List Method = methods O s h (rows s) c in
      (22 ∷ parent_of s h c ∷ bit (has_children s h c) ∷ length fs ∷ length ms ∷ [])
      ∷ numbered 0 fs
      ++ map (λ m. 24 ∷ m.name ∷ m.fun ∷ []) ms

  -- the answer rows of sheet row r, without its number
  abbrev pub rows_of : ℕ → List (List ℕ)
  rows_of r =
      when is s LET r then let_row s h r
      else when is s IDENTIFIER r then identifier_row s h r
      else when is s HOST_CONSTANT r then host_row s h r
      else when is s INSTANCEOF r then instance_row s h r
      else when is s MEMBER r then member_row r
      else when is s LITERAL r then literal_rows s h r
      else when is s FUNCTION r then function_rows s h r
      else when is s CLASS r then class_rows r
      else []

  -- all answer rows
  abbrev pub answers : List (List ℕ)
  answers = concat_map (λ r. map (λ vs. eight (r ∷ vs)) (rows_of r)) (from 0 (rows s))

-- A function as answer rows number it, over base n: one of the sheet is raised by it, one of an earlier entry has its own number.
abbrev pub raised_function : ℕ → ℕ → ℕ
raised_function n f = when ltb f 2048 then f + n else f - 2048

-- a class: those of the core keep their numbers
abbrev pub raised_class : ℕ → ℕ → ℕ
raised_class n c = when ltb c 256 then c else 256 + raised_function n (c - 256)

-- an answer row with its functions and classes so numbered
abbrev pub raised_row : ℕ → List ℕ → List ℕ
raised_row n x =
    let c : ℕ = get_or x 1 0 in
    when eqb c 1 then set x 2 (raised_function n (get_or x 2 0))
    else when eqb c 2 || eqb c 22 then set x 2 (raised_class n (get_or x 2 0))
    else when eqb c 4 || eqb c 5 then set x 3 (get_or x 3 0 + n)
    else when eqb c 24 then set x 3 (raised_function n (get_or x 3 0))
    else x

-- the answer rows over base n; over base 0 there is no earlier entry, and nothing to raise
abbrev pub raised : ℕ → List (List ℕ) → List (List ℕ)
raised zero out = out
raised (suc n) out = map (raised_row (suc n)) out
