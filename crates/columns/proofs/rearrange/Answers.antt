-- `rearrange` meets its contract. Assumes nothing.
use mathlib.Core.Path.{sym}
use Prim.Native.Nat.{ℕ, ◌^◌, ◌<◌, ◌≤◌}
use native.Mathlib.Omega.{arith}
use lib.ListN.{length, get_or}
use Rattle.definition.specs.Sheet.{rows as rows_of}
use Rattle.ast.proofs.QuestionLaws.{question_none}
use Rattle.columns.specs.Ways.{way_of, opposite}
use Rattle.columns.proofs.Laws.{way_length, way_undone, passed_sizes, zeros_after_no, rearranged}
use Rattle.columns.proofs.WriteLaws.{cleared_after, rest_cleared}
use Rattle.columns.proofs.rearrange.Goals as goal

pub returns-in-Err : goal.returns-in-Err
returns-in-Err c =
    zeros_after_no (way_of c.args.way) (way_of (opposite c.args.way)) c.args.source.now (length c.args.target.now) _ _ c.in-Err.ensures (question_none c.in-Err.no)
    c.clear.ensures

pub write-requires : goal.write-requires
write-requires c = passed_sizes c.args.source.now (length c.args.target.now) (sym c.in_default.ensures)

pub slice_bounds-clear-count : goal.slice_bounds-clear-count
slice_bounds-clear-count c =
    omega (arith, (passed_sizes c.args.source.now (length c.args.target.now) (sym c.in_default.ensures)).2, c.write.auto.target)

pub slice_bounds-clear-start : goal.slice_bounds-clear-start
slice_bounds-clear-start c =
    omega (arith, (passed_sizes c.args.source.now (length c.args.target.now) (sym c.in_default.ensures)).2, c.write.auto.target)

pub returns : goal.returns
returns c =
    let way = c.args.way in
    let s = c.args.source.now in
    let ok = sym c.in_default.ensures in
    let sizes = passed_sizes s (length c.args.target.now) ok in
    let few : rows_of s ≤ 2 ^ 32 = omega (arith, sizes.1) in
    let words : (i : ℕ) → get_or s i 0 < 2 ^ 32 = λ i. (c.type_inv.source i).fits in
    let long = way_length way s sizes.0 in
    rearranged (way_of way) (way_of (opposite way)) s (length c.args.target.now) _ ok long (way_undone way s sizes.0 few words)
    (rest_cleared (length s) (way_of way s) c.args.target.now _ _ long c.write.auto.target c.write.ensures
    (cleared_after (length s) _ _ (omega (arith, sizes.2, c.write.auto.target)) c.clear-2.ensures))
