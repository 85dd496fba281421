-- The start of the walk: the outermost scope, and the header, at which nothing happens.
use mathlib.Core.Path.{◌≡◌, sym, ap, subst, ◌∙◌}
use mathlib.Core.List.{List, []}
use mathlib.Core.Bool.{◌&&◌}
use Prim.Native.Nat.{ℕ, ◌-◌, ◌*◌, ◌≤◌}
use native.Mathlib.Omega.{arith}
use lib.Dec.{eqb, leb, eqb→eq}
use lib.ListN.{length}
use Rattle.definition.specs.Sheet.{Sheet, kind, rows}
use Rattle.definition.specs.Outside.{Outside}
use Rattle.definition.specs.Walk.{walk, before, after}
use Rattle.definition.specs.Format.{sheet_fits}
use Rattle.definition.specs.Question.{none}
use Rattle.definition.proofs.Lists.Tests.{true_of, and_left}
use Rattle.definition.proofs.Format.Accepted.{some_row}
use Rattle.definition.proofs.Walk.Fitting.{fits}
use Rattle.machine.specs.Machine.{State, Scopes, open_names, no_scopes, start_state, run_state}
use Rattle.machine.specs.Reads.{PastFour, Walked}
use Rattle.machine.proofs.Theorems.{rows_few, walk_refines}
use Rattle.row_events.specs.Prepared.{Ready}
use Rattle.resolve_syms.specs.Walked.{walked, parts_walked}
use Rattle.resolve_syms.proofs.WalkLaws.{walk_by}
use Rattle.row_events.proofs.RowLaws.{runs_none}

-- nothing happens at the header but the walk of its parts, the units
before_header : (s : Sheet) (r : ℕ) → kind s r ≡ 0 → before s r ≡ []
before_header s r k = rw k

after_header : (s : Sheet) (r : ℕ) → kind s r ≡ 0 → after s r ≡ []
after_header s r k = rw k

walk_header : (O : Outside) (s : Sheet) (x : State) {y : State} → PastFour O s → y ≡ parts_walked O (rows s - 1) s 0 x → y ≡ walked O (rows s) s 0 x
walk_header O s x {y} ok h =
    walk_by O (rows s) s 0 x (λ e. omega (arith, some_row s ok.whole)) (runs_none O s (before s 0) x (before_header s 0 header)) h (runs_none O s (after s 0) y (after_header s 0 header))
  where
    header : kind s 0 ≡ 0
    header = (fits ok.names s ok.outside (some_row s ok.whole) (true_of (sheet_fits ok.names s) ok.fitting)).header

-- the whole walk, from the outermost scope and a clear table
pub units_walked : (O : Outside) (s : Sheet) (cs v t q : List ℕ) (p : Scopes) (y : State) → Ready O s cs v t q → p ≡ open_names s O.names (no_scopes s v)
    → y ≡ parts_walked O (rows s - 1) s 0 (record { scopes = p; store = record { used = 0; calls = 0; table = t; nodes = q }; refusal = none }) → Walked O s y
unfolding walked start_state
units_walked O s cs v t q p y r e h =
    subst (Walked O s) (sym run) (walk_refines s v t q r.past r.lent.clear_rows.zeros r.lent.for_entries r.lent.for_rows r.lent.for_nodes)
  where
    run : y ≡ run_state O s (walk s) (start_state O s v t q)
    run = walk_header O s _ r.past h ∙ ap (λ (u : Scopes). run_state O s (walk s) (record { scopes = u; store = record { used = 0; calls = 0; table = t; nodes = q }; refusal = none })) e

-- a sheet past question 1 is small
pub sheet_small : (O : Outside) (s : Sheet) → PastFour O s → length s ≤ 16384
sheet_small O s ok = omega (arith, rows_few s ok.whole, whole_words)
  where
    whole_words : 8 * rows s ≡ length s
    whole_words = eqb→eq (8 * rows s) (length s) (and_left (eqb (8 * rows s) (length s)) (leb 1 (rows s)) (and_left (eqb (8 * rows s) (length s) && leb 1 (rows s)) (leb (rows s) 2048) ok.whole))

pub some_rows : (O : Outside) (s : Sheet) → PastFour O s → 1 ≤ rows s
some_rows O s ok = some_row s ok.whole
