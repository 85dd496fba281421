use Rattle.std.proofs.Common.{◌≡◌, true, false, ◌-◌, ℕ, List, sym, ap, ◌∙◌, rules}
use Rattle.definition.specs.Sheet.{Sheet}
use Rattle.definition.specs.Walk.{before, after, after_part, is_part, leave}
use Rattle.machine.specs.Machine.{run_state, step_state}
use Rattle.row_events.proofs.RowLaws.{runs_none, runs_one, before_expr, after_fun}
use Rattle.outside.specs.Words.{over}
use Rattle.sheet.specs.Rest.{rows_left}
use Rattle.walk.specs.WalkState.{state_of, Same}
use Rattle.walk.proofs.StepLaws.{after_err, is_refused}
use Rattle.resolve_syms.specs.Walked.{walked, parts_walked}
use Rattle.resolve_syms.proofs.WalkLaws.{walk_none, walk_by, walk_no, walk_no_parts, rest_starts, rest_ends, rest_skips, rest_on, rest_no, rest_no_after, rows_few, place_on, place_past, read_on}
use Rattle.resolve_syms.proofs.cycle.+resolvers.Goals as goal

pub resolve_stmt-returns-then-left-eq0-clause-step : goal.resolve_stmt-returns-then-left-eq0-clause-step
resolve_stmt-returns-then-left-eq0-clause-step t c = walk_none _ _ _ _ _ c.if-left-eq0.true

pub resolve_stmt-returns-in_err-before-clause-step : goal.resolve_stmt-returns-in_err-before-clause-step
resolve_stmt-returns-in_err-before-clause-step t c =
    after_err c.before-2.new.walk _ c.in_err-before.field-0.0 c.from_residual.ensures.1
    ∙ walk_no _ _ _ _ (state_of c.args.walk.now) c.if-left-eq0.false (c.in_err-before.ensures.step _) (is_refused c.in_err-before.field-0.0)

pub resolve_stmt-returns-in_err-resolve_parts-clause-step : goal.resolve_stmt-returns-in_err-resolve_parts-clause-step
resolve_stmt-returns-in_err-resolve_parts-clause-step t c =
    let parts = λ (o : List ℕ) (s : Sheet). parts_walked (over o) (c.args.left - 1) s c.args.row (state_of c.before-2.new.walk) in
    after_err c.resolve_parts.new.walk _ c.in_err-resolve_parts.field-0.0 c.from_residual-in_err-resolve_parts.ensures.1
    ∙ walk_no_parts _ _ _ _ (state_of c.args.walk.now) c.if-left-eq0.false (c.in_ok-before.ensures.step _)
    (read_on parts c.before-2.ensures.same c.in_err-resolve_parts.ensures.step) (is_refused c.in_err-resolve_parts.field-0.0)

pub resolve_stmt-returns-clause-step : goal.resolve_stmt-returns-clause-step
resolve_stmt-returns-clause-step t c =
    let parts = λ (o : List ℕ) (s : Sheet). parts_walked (over o) (c.args.left - 1) s c.args.row (state_of c.before-2.new.walk) in
    let last = λ (o : List ℕ) (s : Sheet). run_state (over o) s (after s c.args.row) (state_of c.resolve_parts.new.walk) in
    let same : Same c.args.walk.now c.resolve_parts.new.walk = search rules in
    walk_by _ _ _ _ (state_of c.args.walk.now) c.if-left-eq0.false (c.in_ok-before.ensures.step _)
    (read_on parts c.before-2.ensures.same c.in_ok-resolve_parts.ensures.step) (read_on last same (c.in_ok-after.ensures.step _))

pub resolve_stmt-returns-in_err-after-clause-step : goal.resolve_stmt-returns-in_err-after-clause-step
resolve_stmt-returns-in_err-after-clause-step t c =
    let parts = λ (o : List ℕ) (s : Sheet). parts_walked (over o) (c.args.left - 1) s c.args.row (state_of c.before-2.new.walk) in
    let last = λ (o : List ℕ) (s : Sheet). run_state (over o) s (after s c.args.row) (state_of c.resolve_parts.new.walk) in
    let same : Same c.args.walk.now c.resolve_parts.new.walk = search rules in
    after_err c.after.new.walk _ c.in_err-after.field-0.0 c.from_residual-in_err-after.ensures.1
    ∙ walk_by _ _ _ _ (state_of c.args.walk.now) c.if-left-eq0.false (c.in_ok-before.ensures.step _)
    (read_on parts c.before-2.ensures.same c.in_ok-resolve_parts.ensures.step) (read_on last same (c.in_err-after.ensures.step _))

pub resolve_fun-returns-then-left-eq0-clause-step : goal.resolve_fun-returns-then-left-eq0-clause-step
resolve_fun-returns-then-left-eq0-clause-step t c = walk_none _ _ _ _ _ c.if-left-eq0.true

pub resolve_fun-returns-in_err-before_function-clause-step : goal.resolve_fun-returns-in_err-before_function-clause-step
resolve_fun-returns-in_err-before_function-clause-step t c =
    after_err c.before_function.new.walk _ c.in_err-before_function.field-0.0 c.from_residual.ensures.1
    ∙ walk_no _ _ _ _ (state_of c.args.walk.now) c.if-left-eq0.false (c.in_err-before_function.ensures.step _) (is_refused c.in_err-before_function.field-0.0)

pub resolve_fun-returns-in_err-resolve_parts-clause-step : goal.resolve_fun-returns-in_err-resolve_parts-clause-step
resolve_fun-returns-in_err-resolve_parts-clause-step t c =
    let parts = λ (o : List ℕ) (s : Sheet). parts_walked (over o) (c.args.left - 1) s c.args.row (state_of c.before_function.new.walk) in
    after_err c.resolve_parts.new.walk _ c.in_err-resolve_parts.field-0.0 c.from_residual-in_err-resolve_parts.ensures.1
    ∙ walk_no_parts _ _ _ _ (state_of c.args.walk.now) c.if-left-eq0.false (c.in_ok-before_function.ensures.step _)
    (read_on parts c.before_function.ensures.same c.in_err-resolve_parts.ensures.step) (is_refused c.in_err-resolve_parts.field-0.0)

pub resolve_fun-returns-clause-step : goal.resolve_fun-returns-clause-step
resolve_fun-returns-clause-step t c =
    let s = c.args.walk.now.sheet.now in
    let parts = λ (o : List ℕ) (s : Sheet). parts_walked (over o) (c.args.left - 1) s c.args.row (state_of c.before_function.new.walk) in
    let last = λ (o : List ℕ) (s : Sheet). step_state (over o) s leave (state_of c.resolve_parts.new.walk) in
    let same : Same c.args.walk.now c.resolve_parts.new.walk = search rules in
    walk_by _ _ s _ (state_of c.args.walk.now) c.if-left-eq0.false (c.in_ok-before_function.ensures.step _)
    (read_on parts c.before_function.ensures.same c.in_ok-resolve_parts.ensures.step)
    (runs_one _ s (after s c.args.row) leave _ (after_fun s c.args.row c.requires.1) (read_on last same (c.close_scope.ensures.step _)))

pub resolve_expr-returns-then-left-eq0-clause-step : goal.resolve_expr-returns-then-left-eq0-clause-step
resolve_expr-returns-then-left-eq0-clause-step t c = walk_none _ _ _ _ _ c.if-left-eq0.true

pub resolve_expr-returns-in_err-resolve_parts-clause-step : goal.resolve_expr-returns-in_err-resolve_parts-clause-step
resolve_expr-returns-in_err-resolve_parts-clause-step t c =
    let s = c.args.walk.now.sheet.now in
    let O = over c.args.walk.now.outside.now in
    after_err c.resolve_parts.new.walk _ c.in_err-resolve_parts.field-0.0 c.from_residual.ensures.1
    ∙ walk_no_parts O _ s _ (state_of c.args.walk.now) c.if-left-eq0.false (runs_none O s (before s c.args.row) (state_of c.args.walk.now) (before_expr s c.args.row c.requires.1))
    c.in_err-resolve_parts.ensures.step (is_refused c.in_err-resolve_parts.field-0.0)

pub resolve_expr-returns-clause-step : goal.resolve_expr-returns-clause-step
resolve_expr-returns-clause-step t c =
    let s = c.args.walk.now.sheet.now in
    let O = over c.args.walk.now.outside.now in
    let last = λ (o : List ℕ) (s : Sheet). run_state (over o) s (after s c.args.row) (state_of c.resolve_parts.new.walk) in
    walk_by O _ s _ (state_of c.args.walk.now) c.if-left-eq0.false (runs_none O s (before s c.args.row) (state_of c.args.walk.now) (before_expr s c.args.row c.requires.1))
    c.in_ok-resolve_parts.ensures.step (read_on last c.resolve_parts.ensures.same (c.after.ensures.step _))

pub resolve_parts-loop-part-init : goal.resolve_parts-loop-part-init
resolve_parts-loop-part-init t c =
    let rows = ap rows_left c.into_iter-part-iterator.ensures.into_iter_gives ∙ c.kids-part-items.ensures in (
      rest_starts _ _ _ _ _ (state_of c.args.walk.now) _ c.parts_of.ensures rows,
      search rules,
      rows_few c.args.walk.now.sheet.now _ c.requires.small rows,
    )

pub resolve_parts-returns-in_err-resolve_any-clause-step : goal.resolve_parts-returns-in_err-resolve_any-clause-step
resolve_parts-returns-in_err-resolve_any-clause-step t c =
    let s = c.args.walk.now.sheet.now in
    let row = λ (o : List ℕ) (s : Sheet). walked (over o) c.args.left s c.in-Some.part (state_of c.loop-part.walk) in
    let same = ap (λ b. b.now) c.loop-part.invariant.1.sheet in
    let here : is_part s c.in-Some.part ≡ true = ap (λ (v : Sheet). is_part v c.in-Some.part) (sym same) ∙ sym c.is_part.ensures ∙ c.if-is_part.true in
    after_err c.resolve_any.new.walk _ c.in_err-resolve_any.field-0.0 c.from_residual.ensures.1
    ∙ rest_no _ _ s c.args.row c.loop-part.index (state_of c.loop-part.walk) c.in-Some.part (rows_left c.next.new.self) c.in-Some.ensures.steps c.loop-part.invariant.0 here
    (read_on row c.loop-part.invariant.1 c.in_err-resolve_any.ensures.step) (is_refused c.in_err-resolve_any.field-0.0)

pub resolve_parts-returns-in_err-after_part-clause-step : goal.resolve_parts-returns-in_err-after_part-clause-step
resolve_parts-returns-in_err-after_part-clause-step t c =
    let s = c.args.walk.now.sheet.now in
    let row = λ (o : List ℕ) (s : Sheet). walked (over o) c.args.left s c.in-Some.part (state_of c.loop-part.walk) in
    let part = λ (o : List ℕ) (s : Sheet). run_state (over o) s (after_part s c.args.row c.loop-part.index) (state_of c.resolve_any.new.walk) in
    let same = ap (λ b. b.now) c.loop-part.invariant.1.sheet in
    let here : is_part s c.in-Some.part ≡ true = ap (λ (v : Sheet). is_part v c.in-Some.part) (sym same) ∙ sym c.is_part.ensures ∙ c.if-is_part.true in
    let later : Same c.args.walk.now c.resolve_any.new.walk = search rules in
    after_err c.after_part.new.walk _ c.in_err-after_part.field-0.0 c.from_residual-in_err-after_part.ensures.1
    ∙ rest_no_after _ _ s c.args.row c.loop-part.index (state_of c.loop-part.walk) c.in-Some.part (rows_left c.next.new.self) c.in-Some.ensures.steps c.loop-part.invariant.0 here
    (read_on row c.loop-part.invariant.1 c.in_ok-resolve_any.ensures.step) (read_on part later c.in_err-after_part.ensures.step) (is_refused c.in_err-after_part.field-0.0)

pub resolve_parts-loop-part-preserved-then-is_part : goal.resolve_parts-loop-part-preserved-then-is_part
resolve_parts-loop-part-preserved-then-is_part t c =
    let s = c.args.walk.now.sheet.now in
    let row = λ (o : List ℕ) (s : Sheet). walked (over o) c.args.left s c.in-Some.part (state_of c.loop-part.walk) in
    let part = λ (o : List ℕ) (s : Sheet). run_state (over o) s (after_part s c.args.row c.loop-part.index) (state_of c.resolve_any.new.walk) in
    let same = ap (λ b. b.now) c.loop-part.invariant.1.sheet in
    let here : is_part s c.in-Some.part ≡ true = ap (λ (v : Sheet). is_part v c.in-Some.part) (sym same) ∙ sym c.is_part.ensures ∙ c.if-is_part.true in
    let later : Same c.args.walk.now c.resolve_any.new.walk = search rules in (
      rest_on _ _ s c.args.row c.loop-part.index (state_of c.loop-part.walk) c.in-Some.part (rows_left c.next.new.self) c.in-Some.ensures.steps c.loop-part.invariant.0 here
          (read_on row c.loop-part.invariant.1 c.in_ok-resolve_any.ensures.step) (read_on part later c.in_ok-after_part.ensures.step),
      search rules,
      place_on c.loop-part.index c.in-Some.part c.in-Some.ensures.steps c.loop-part.invariant.2,
    )

pub resolve_parts-loop-part-preserved : goal.resolve_parts-loop-part-preserved
resolve_parts-loop-part-preserved t c =
    let s = c.args.walk.now.sheet.now in
    let same = ap (λ b. b.now) c.loop-part.invariant.1.sheet in
    let here : is_part s c.in-Some.part ≡ false = ap (λ (v : Sheet). is_part v c.in-Some.part) (sym same) ∙ sym c.is_part.ensures ∙ c.if-is_part.false in (
      rest_skips _ _ s c.args.row c.loop-part.index (state_of c.loop-part.walk) c.in-Some.part (rows_left c.next.new.self) c.in-Some.ensures.steps c.loop-part.invariant.0 here,
      search rules,
      place_past c.loop-part.index c.in-Some.part c.in-Some.ensures.steps c.loop-part.invariant.2,
    )

pub resolve_parts-returns-clause-step : goal.resolve_parts-returns-clause-step
resolve_parts-returns-clause-step t c =
    rest_ends _ _ _ _ c.loop-part.index (state_of c.loop-part.walk) c.in-None.ensures.steps.0 c.loop-part.invariant.0
