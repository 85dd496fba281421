use mathlib.Core.Path.{sym, ap}
use mathlib.Core.List.{[], ◌∷◌}
use Prim.Native.Nat.{ℕ}
use lib.Dec.{eqb}
use native.Mathlib.Omega.{arith}
use Rattle.shapes.specs.States.{entry_of, state_table}
use Rattle.shapes.proofs.TableLaws.{no_row}
use Rattle.shapes.proofs.Matching.{none_of}
use Rattle.shapes.proofs.may_end.Goals as goal

pub returns-in_default-4 : goal.returns-in_default-4
returns-in_default-4 c =
    sym (ap (λ (x : ℕ). eqb x 1) (none_of (λ k. entry_of state_table k 0) 26
    ((13 ∷ []) ∷ (12 ∷ []) ∷ (5 ∷ []) ∷ (4 ∷ []) ∷ (2 ∷ []) ∷ (1 ∷ []) ∷ (9 ∷ 20 ∷ 23 ∷ []) ∷ []) tt (λ k h. no_row state_table k 0 h) c.args.state
    ((((((c.in_default.in_default-own.rest, λ e. omega arith), λ e. omega arith), λ e. omega arith), λ e. omega arith), λ e. omega arith), λ e. omega arith)))
