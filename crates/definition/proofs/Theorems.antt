-- What is proved of the definitions, for readers and for the crates above.
use mathlib.Core.Path.{◌≡◌, sym, subst}
use mathlib.Core.List.{List}
use Prim.Native.Nat.{ℕ}
use native.Mathlib.Omega.{arith}
use lib.Dec.{T}
use Rattle.definition.specs.Sheet.{Sheet}
use Rattle.definition.specs.Outside.{Outside, core, OutsideFits}
use Rattle.definition.specs.Names.{name_count}
use Rattle.definition.specs.Format.{sheet_fits}
use Rattle.definition.specs.Outcome.{rows_fit, asked, outcome}
use Rattle.definition.specs.Claims.{Demand3}
use Rattle.definition.specs.Bounds.{WalkBounds}
use Rattle.definition.proofs.Lists.Tests.{true_of}
use Rattle.definition.proofs.Format.Accepted.{Accepted, accepted, asked_accepted, some_row}
use Rattle.definition.proofs.Walk.Fitting.{fits}
use Rattle.definition.proofs.Walk.Bounds.{walk_bounds}
use Rattle.definition.proofs.Closure.Demand.{demand_3}
use Rattle.definition.proofs.Closure.Raised.{demand_3_raised}

-- what stands outside a plain sheet
pub core_fits : OutsideFits core
core_fits = record { outward = tt; apart = tt; few = omega arith; few_fields = tt; few_methods = tt; methods_apart = tt }

-- Demand 3, whole: of the words of a sheet, the bytes of its names and the number of words of the lent buffer, where no
-- question gets a no, the closure claim holds of the answer rows.
pub closure_claim : (s : Sheet) (names : List ℕ) (lent : ℕ) → (outcome s names lent).number ≡ 0 → Demand3 core s (outcome s names lent).rows
closure_claim s names lent e =
    let x : Accepted s names lent = accepted s names lent e in
    subst (Demand3 core s) (sym x.rows) (demand_3 (fits (name_count names) s core_fits (some_row s x.whole) (true_of (sheet_fits (name_count names) s) x.fitting)))

-- The same over any outside, with n names and numbers raised by the base: of every sheet past questions 1 and 3, where no question from 5
-- on gets a no.
pub closure_claim_over : {O : Outside} → OutsideFits O → (n lent : ℕ) (s : Sheet) → T (rows_fit s) → T (sheet_fits n s) → (asked O lent s).number ≡ 0 → Demand3 O s (asked O lent s).rows
closure_claim_over {O} known n lent s whole fitting e =
    subst (Demand3 O s) (sym (asked_accepted O lent s e).2) (demand_3_raised (fits n s known (some_row s whole) (true_of (sheet_fits n s) fitting)))

-- How long the walk is, of every sheet past questions 1 and 3, with n names.
pub walk_bounded : (s : Sheet) (n : ℕ) → T (rows_fit s) → T (sheet_fits n s) → WalkBounds s
walk_bounded s n whole fitting = walk_bounds (fits n s core_fits (some_row s whole) (true_of (sheet_fits n s) fitting))
