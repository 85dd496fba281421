-- Demand 3, the closure claim, as statements on a sheet, what stands outside it, and its answer rows. They speak of the walk's scopes, of the
-- rows of the sheet and of the answer rows alone, and not of the slots, local counts, captures and source lists of the definitions: an
-- answer that gets one of these wrong does not meet them, however it was made.
use Rattle.std.specs.Prelude.{◌≡◌, ◌⊎◌, ◌↔◌, Bool, not, ◌&&◌, ℕ, suc, ◌+◌, ◌<◌, length, get_or, take, drop, eqb, T}
use mathlib.Core.List.{List, [], ◌∷◌, map, Memᴰ as Mem}
use Rattle.definition.specs.Basics.{when◌then◌else◌, filter, count, place, largest, ◌∈?◌}
use Rattle.definition.specs.Kind.{FUNCTION, PARAMETER, LET, IDENTIFIER, LITERAL}
use Rattle.definition.specs.Sheet.{Sheet, a, b, rows, is, kids_of, holder, functions_of, function_of}
use Rattle.definition.specs.Meaning.{is_variable, row_of}
use Rattle.definition.specs.Outside.{Outside}
use Rattle.definition.specs.Scope.{Moment, Stack, scope, looping, bound, lookup, history, visited, declares, declarings, declaration, within}
use Rattle.definition.specs.Slots.{is_local}
use Rattle.definition.specs.Answer.{eight}

-- An answer row: sheet row, code, values.
abbrev pub Row : Type 0
Row = List ℕ

-- the answer rows of sheet row r, and the first of them
abbrev pub rows_for : List Row → ℕ → List Row
rows_for out r = filter (λ x. eqb (get_or x 0 0) r) out

abbrev pub first_for : List Row → ℕ → Row
first_for out r = get_or (rows_for out r) 0 []

-- code and values of an answer row
abbrev pub told : Row → List ℕ
told x = drop 1 x

-- Following an answer: row x leads outward, in n steps, to row y.
pub data Follows (s : Sheet) (out : List Row) : Row → ℕ → Row → Type 0 where
  -- it ends at code 4 or 5;
  ends : {x : Row} → (get_or x 1 0 ≡ 4) ⊎ (get_or x 1 0 ≡ 5) → Follows s out x 0 x
  -- code 6 with index i is a step to source i, counted from 0, of the literal of its sheet row's function
  steps : {x y : Row} {n : ℕ} → get_or x 1 0 ≡ 6 → T (is s LITERAL (holder s (function_of s (get_or x 0 0))))
      → Follows s out (get_or (rows_for out (holder s (function_of s (get_or x 0 0)))) (get_or x 2 0) []) n y → Follows s out x (suc n) y

-- the let and parameter rows of the locals and arguments that are open, innermost first
abbrev pub open_rows : Stack → List ℕ
open_rows [] = []
open_rows (scope r ∷ st) = open_rows st
open_rows (looping ∷ st) = open_rows st
open_rows (bound n d ∷ st) = when is_variable d then row_of d ∷ open_rows st else open_rows st

-- how many locals are open: the slot of the next one
abbrev pub open_lets : Sheet → Stack → ℕ
open_lets s st = count (is s LET) (open_rows st)

-- the largest slot that a local of function f takes, plus 1, or 0
abbrev pub slots_used : Sheet → List Moment → ℕ → ℕ
slots_used s h f = largest (map (λ m. suc (open_lets s m.stack)) (filter (λ m. is_local s (declaration s m) && eqb (within s m) f) (declarings s h 29)))

-- code and values of the local or argument of row d: an argument's are 4, its index, its function (its row, raised by the base); a
-- local's stand in the answer row of its let
abbrev pub declared_as : Outside → Sheet → List Row → ℕ → List ℕ
declared_as O s out d =
    when is s PARAMETER d then told (eight (d ∷ 4 ∷ place (eqb d) (kids_of s PARAMETER (function_of s d)) ∷ (function_of s d + O.base) ∷ []))
    else told (first_for out d)

-- how many functions lie around row r inside the function of row d
abbrev pub between : Sheet → ℕ → ℕ → ℕ
between s r d = place (eqb (function_of s d)) (functions_of s r)

-- is an identifier that stands in function f visited, and does it mean the local or argument of row d?
abbrev pub used_in : Sheet → ℕ → ℕ → Moment → Bool
used_in s f d m =
    is s IDENTIFIER (visited m.event) && f ∈? functions_of s (visited m.event)
    && is_variable (lookup (a s (visited m.event)) m.stack) && eqb (row_of (lookup (a s (visited m.event)) m.stack)) d

-- Of identifier r, visited with st open, that means the local or argument of row d:
pub record Followed (O : Outside) (s : Sheet) (out : List Row) (st : Stack) (r d : ℕ) : Type 0 where
  -- "following its answer": it has one answer row;
  pub row : Row
  pub only_row : rows_for out r ≡ row ∷ []
  -- "outward through the closures' source lists ends at exactly that declaration ..
  pub end : Row
  pub own_around : Mem (function_of s d) (functions_of s r)
  -- .. in exactly as many steps as functions lie around the identifier inside the declaration's own",
  pub follows : Follows s out row (between s r d) end
  pub tells : told end ≡ declared_as O s out d
  -- F-6: that number of steps is the fourth value of its row;
  pub far : get_or row 5 0 ≡ between s r d
  -- "the only one open there with its code, function and slot or index"
  pub is_open : count (eqb d) (open_rows st) ≡ 1
  pub alone : (e : ℕ) → Mem e (open_rows st) → take 3 (declared_as O s out e) ≡ take 3 (declared_as O s out d) → e ≡ d

-- Of function f: the rows of the locals and arguments that it captures, by index.
pub record Captures (O : Outside) (s : Sheet) (out : List Row) (f : ℕ) : Type 0 where
  pub captured : List ℕ
  -- "Each function captures exactly the n declarations that document 01 gives it": the locals and arguments of functions
  -- around it that identifiers in it mean,
  pub given : (d : ℕ) → Mem d captured ↔ (((m : Moment) × Mem m (history O s) × T (used_in s f d m)) × Mem (function_of s d) (functions_of s f))
  -- "once each, indices 0 to n-1 in its order": the walk's order of first use,
  pub once : (i j : ℕ) → i < length captured → j < length captured → get_or captured i 0 ≡ get_or captured j 0 → i ≡ j
  pub ordered : (i j : ℕ) → i < j → j < length captured
      → place (used_in s f (get_or captured i 0)) (history O s) < place (used_in s f (get_or captured j 0)) (history O s)
  -- as the answer rows say: the first has code 20, a local count, n and an escape count, then come the n declarations;
  pub counted : (k : ℕ) × (e : ℕ) × (first_for out f ≡ eight (f ∷ 20 ∷ k ∷ length captured ∷ e ∷ []))
  pub listed : take (length captured) (drop 1 (rows_for out f)) ≡ map (λ d. f ∷ declared_as O s out d) captured
  -- "its literal lists exactly n sources in that order, and following source i ends at the declaration captured as i";
  pub sources : T (is s LITERAL (holder s f)) → length (rows_for out (holder s f)) ≡ length captured
  pub followed : T (is s LITERAL (holder s f)) → (i : ℕ) → i < length captured
      → (y : Row) × Follows s out (get_or (rows_for out (holder s f)) i []) (between s (holder s f) (get_or captured i 0)) y
      × (told y ≡ declared_as O s out (get_or captured i 0))
  -- "a function without a literal captures nothing"
  pub no_literal : T (not (is s LITERAL (holder s f))) → captured ≡ []

-- Demand 3, whole: the closure claim on sheet s with O outside and answer rows `out`.
pub record Demand3 (O : Outside) (s : Sheet) (out : List Row) : Type 0 where
  -- Every identifier of the sheet is visited once in the walk. "For each identifier that means a local or an argument" there:
  pub identifiers : (r : ℕ) → r < rows s → T (is s IDENTIFIER r)
      → (m : Moment) × (filter (λ k. eqb (visited k.event) r) (history O s) ≡ m ∷ [])
      × (T (is_variable (lookup (a s r) m.stack)) → Followed O s out m.stack r (row_of (lookup (a s r) m.stack)))
  -- Following has one end and one number of steps.
  pub one_end : (x y z : Row) (n k : ℕ) → Follows s out x n y → Follows s out x k z → (n ≡ k) × (y ≡ z)
  -- "Each function captures .."
  pub functions : (f : ℕ) → f < rows s → T (is s FUNCTION f) → Captures O s out f
  -- What is open at a moment of the walk is a parameter or a let, and was declared once, by its own row.
  pub opened : (m : Moment) → Mem m (history O s) → (d : ℕ) → Mem d (open_rows m.stack)
      → (T (is s PARAMETER d) ⊎ T (is s LET d)) × (count (λ k. eqb (declares k.event) d) (history O s) ≡ 1)
  -- A local has one answer row: code 5, its slot, its function, 1 if it is mutable; the slot is "below its local count".
  pub locals : (m : Moment) → Mem m (history O s) → (d : ℕ) → Mem d (open_rows m.stack) → T (is s LET d)
      → (k : ℕ) × (rows_for out d ≡ eight (d ∷ 5 ∷ k ∷ (function_of s d + O.base) ∷ b s d ∷ []) ∷ []) × (k < get_or (first_for out (function_of s d)) 2 0)
  -- "Locals of one function open at the same point of the walk have different slots": those of different functions too.
  pub slots_apart : (m : Moment) → Mem m (history O s) → (d e : ℕ) → Mem d (open_rows m.stack) → Mem e (open_rows m.stack)
      → T (is s LET d) → T (is s LET e) → get_or (first_for out d) 2 0 ≡ get_or (first_for out e) 2 0 → d ≡ e
  -- "slots and count being document 01's": a local was declared once, in the next slot, as many as locals were open there; a function's
  -- count is its largest slot plus 1, or 0.
  pub slots : (m : Moment) → Mem m (history O s) → (d : ℕ) → Mem d (open_rows m.stack) → T (is s LET d)
      → (k : Moment) × (filter (λ y. eqb (declares y.event) d) (history O s) ≡ k ∷ []) × (get_or (first_for out d) 2 0 ≡ open_lets s k.stack)
  pub counts : (f : ℕ) → f < rows s → T (is s FUNCTION f) → get_or (first_for out f) 2 0 ≡ slots_used s (history O s) f
