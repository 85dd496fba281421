use Rattle.std.proofs.Common.{◌≡◌, ◌+◌, ◌*◌, ◌≤◌, length}
use Rattle.outside.specs.Words.{over}
use Rattle.sheet.specs.Rest.{rows_left}
use Rattle.walk.specs.WalkState.{state_of, Same}
use Rattle.resolve_syms.specs.Walked.{parts_walked, rest_walked}
use Rattle.resolve_syms.proofs.cycle.+resolvers.Given as goal

-- a row falls to its parts at the next depth, the parts to a row by its kind
abbrev pub decreases-resolve_fun : goal.decreases-resolve_fun
decreases-resolve_fun l = l.left * 3

abbrev pub decreases-resolve_stmt : goal.decreases-resolve_stmt
decreases-resolve_stmt l = l.left * 3

abbrev pub decreases-resolve_expr : goal.decreases-resolve_expr
decreases-resolve_expr l = l.left * 3

abbrev pub decreases-resolve_any : goal.decreases-resolve_any
decreases-resolve_any l = l.left * 3 + 1

abbrev pub decreases-resolve_parts : goal.decreases-resolve_parts
decreases-resolve_parts l = l.left * 3 + 2

abbrev pub invariant-resolve_parts-loop-part : goal.invariant-resolve_parts-loop-part
invariant-resolve_parts-loop-part l =
    (rest_walked (over l.initial.walk.outside.now) l.fn.left l.initial.walk.sheet.now l.fn.row l.index (rows_left l.part-iterator) (state_of l.walk)
    ≡ parts_walked (over l.initial.walk.outside.now) l.fn.left l.initial.walk.sheet.now l.fn.row (state_of l.initial.walk))
    × Same l.initial.walk l.walk
    × (l.index + length (rows_left l.part-iterator) ≤ 16384)
