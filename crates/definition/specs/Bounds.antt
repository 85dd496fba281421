-- How long a walk is, as statements: what a program needs to know for its buffers.
use Rattle.std.specs.Prelude.{◌≡◌, Bool, true, false, ℕ, zero, suc, ◌<◌, ◌≤◌, eqb, T}
use mathlib.Core.List.{List, [], ◌∷◌, ◌++◌, Memᴰ as Mem}
use Rattle.definition.specs.Basics.{count, total, concat_map}
use Rattle.definition.specs.Sheet.{Sheet, rows}
use Rattle.definition.specs.Walk.{Event, enter, leave, loop, declare, bring, visit, before, after, each, is_part, parts, walk}
use Rattle.definition.specs.Scope.{visited, declares}

-- the rows in the order in which the walk of row r comes to them; d bounds the depth
abbrev pub walked : ℕ → Sheet → ℕ → List ℕ
walked zero s r = []
walked (suc d) s r = r ∷ concat_map (walked d s) (parts s r)

-- what happens at row r itself, without its parts
abbrev pub own : Sheet → ℕ → List Event
own s r = before s r ++ each (λ k. []) s r 0 (parts s r) ++ after s r

-- is it a visit?
abbrev pub is_visit : Event → Bool
is_visit (enter r) = false
is_visit leave = false
is_visit loop = false
is_visit (declare r) = false
is_visit (bring r n d) = false
is_visit (visit r) = true

-- does a scope open?
abbrev pub is_enter : Event → Bool
is_enter (enter r) = true
is_enter leave = false
is_enter loop = false
is_enter (declare r) = false
is_enter (bring r n d) = false
is_enter (visit r) = false

-- does a class, parameter or let declare its name?
abbrev pub is_declare : Event → Bool
is_declare (enter r) = false
is_declare leave = false
is_declare loop = false
is_declare (declare r) = true
is_declare (bring r n d) = false
is_declare (visit r) = false

-- Of the walk over sheet s:
pub record WalkBounds (s : Sheet) : Type 0 where
  -- what happens in it happens at the rows that are walked,
  pub at_rows : (p : Event → Bool) → count p (walk s) ≡ total (λ r. count p (own s r)) (walked (rows s) s 0)
  -- rows of the sheet, each walked at most once,
  pub in_sheet : (r : ℕ) → Mem r (walked (rows s) s 0) → r < rows s
  pub once : (r : ℕ) → count (eqb r) (walked (rows s) s 0) ≤ 1
  -- and every unit, function, statement and expression among them;
  pub every : (r : ℕ) → r < rows s → T (is_part s r) → Mem r (walked (rows s) s 0)
  -- each row is visited at most once and declares at most once,
  pub visited_once : (r : ℕ) → (r ≡ 0 → ⊥) → count (λ e. eqb (visited e) r) (walk s) ≤ 1
  pub declared_once_lem : (r : ℕ) → (r ≡ 0 → ⊥) → count (λ e. eqb (declares e) r) (walk s) ≤ 1
  -- so there are at most as many visits, scopes and declarations as rows.
  pub visits : count is_visit (walk s) ≤ rows s
  pub scopes : count is_enter (walk s) ≤ rows s
  pub declarations : count is_declare (walk s) ≤ rows s
