use mathlib.Core.List.{List}
use mathlib.Core.Path.{sym, ap, ◌∙◌}
use Rattle.std.specs.Prelude.{Option}
use Rattle.std.specs.Option.{unwrap_or}
use Prim.Native.Nat.{ℕ}
use native.Mathlib.Omega.{arith}
use lib.Seq.{sets}
use lib.ListN.{length, replicate}
use Rattle.unit_order.specs.Order.{order, units, circles}
use Rattle.import_circle.proofs.RankLaws.{row_found}
use Rattle.order_units.proofs.AskedLaws.{importing, left_file, left_some, found_some, settled_circle, settled_list}
use Rattle.order_units.proofs.order_in.Goals as goal

pub start_units-started-requires : goal.start_units-started-requires
start_units-started-requires c =
    (importing c.args.sheet.now c.requires.0, c.requires.1)

pub overflow_cast-started : goal.overflow_cast-started
overflow_cast-started c =
    omega (arith, c.start_units-started.ensures.few, c.requires.0.few)

pub lowest_circling-requires : goal.lowest_circling-requires
lowest_circling-requires c = importing c.args.sheet.now c.requires.0

pub unwrap-u-requires : goal.unwrap-u-requires
unwrap-u-requires c =
    found_some c.lowest_circling.result
    (left_some c.args.sheet.now c.requires.0 _ c.start_units-started.ensures.marks c.some_left.result c.some_left.ensures 0 c.if-some_left.true (unwrap_or c.lowest_circling.result 0)
    (ap (λ (o : Option ℕ). unwrap_or o 0) c.lowest_circling.ensures ∙ row_found (circles c.args.sheet.now) (units c.args.sheet.now)))

pub refuse_at-requires : goal.refuse_at-requires
refuse_at-requires c =
    left_file c.args.sheet.now c.requires.0 _ c.start_units-started.ensures.marks c.some_left.result c.some_left.ensures 0 c.if-some_left.true c.unwrap-u.result
    (sym (ap (λ (o : Option ℕ). unwrap_or o 0) c.unwrap-u.ensures) ∙ ap (λ (o : Option ℕ). unwrap_or o 0) c.lowest_circling.ensures
    ∙ row_found (circles c.args.sheet.now) (units c.args.sheet.now))

pub returns-then-some_left : goal.returns-then-some_left
returns-then-some_left c =
    let long = c.start_units-started.auto.list ∙ c.clear.auto.words in
    settled_circle c.args.sheet.now c.requires.0 _ c.start_units-started.ensures.marks c.some_left.result c.some_left.ensures (length c.args.list.now) c.if-some_left.true
    c.unwrap-u.result (sym (ap (λ (o : Option ℕ). unwrap_or o 0) c.unwrap-u.ensures) ∙ ap (λ (o : Option ℕ). unwrap_or o 0) c.lowest_circling.ensures
    ∙ row_found (circles c.args.sheet.now) (units c.args.sheet.now))
    (c.refuse_at.ensures.0, c.refuse_at.ensures.1 ∙ ap (λ (k : ℕ). replicate k 0) long)

pub returns : goal.returns
returns c =
    settled_list c.args.sheet.now c.requires.0 _ c.start_units-started.ensures.marks c.some_left.result c.some_left.ensures (length c.args.list.now) c.if-some_left.false c.start_units-started.result
    c.start_units-started.ensures.count _ (c.start_units-started.ensures.list ∙ ap (λ (w : List ℕ). sets w 0 (order c.args.sheet.now)) c.clear.ensures) c.accept_list.ensures
