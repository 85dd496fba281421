use mathlib.Core.Path.{sym}
use mathlib.Core.List.{[], ◌∷◌}
use Prim.Native.Nat.{◌+◌, ◌/◌, ◌%◌}
use native.Mathlib.Omega.{arith}
use Rattle.shapes.specs.States.{entry_of, state_table}
use Rattle.shapes.proofs.TableLaws.{no_row}
use Rattle.shapes.proofs.Matching.{none_of}
use Rattle.shapes.proofs.state_by_key.Goals as goal

pub returns-in_default : goal.returns-in_default
returns-in_default c =
    sym (none_of (λ k. entry_of state_table (k / 16) (k % 16 + 1)) 416
    ((395 ∷ []) ∷ (364 ∷ []) ∷ (347 ∷ []) ∷ (187 ∷ []) ∷ (172 ∷ []) ∷ (84 ∷ 324 ∷ []) ∷ (54 ∷ 294 ∷ 310 ∷ []) ∷ (53 ∷ 293 ∷ []) ∷ (51 ∷ 275 ∷ 291 ∷ 307 ∷ []) ∷ (218 ∷ []) ∷ (204 ∷ 268 ∷ [])
    ∷ (155 ∷ []) ∷ (252 ∷ []) ∷ (140 ∷ []) ∷ (105 ∷ []) ∷ (88 ∷ []) ∷ (71 ∷ []) ∷ (50 ∷ []) ∷ (33 ∷ []) ∷ (52 ∷ 107 ∷ 124 ∷ 228 ∷ 276 ∷ 292 ∷ 308 ∷ 379 ∷ 411 ∷ []) ∷ [])
    tt (λ k h. no_row state_table (k / 16) (k % 16 + 1) (omega arith)) c.args.key c.in_default.in_default-own.rest)
