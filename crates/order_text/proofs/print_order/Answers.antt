-- `print_order` meets its contract: what is read, ordered and printed. Assumes nothing.
use mathlib.Core.Path.{sym, ap, subst, ◌∙◌}
use Prim.Native.Nat.{ℕ, ◌+◌, ◌-◌, ◌*◌}
use native.Mathlib.Omega.{arith}
use lib.ListN.{length, replicate}
use lib.Seq.{length-take-le}
use Rattle.text.specs.Reading.{SheetRead}
use Rattle.text.proofs.Longer.{read_few}
use Rattle.order_text.proofs.ReplyLaws.{few, zeros_size, printed_order_lem}
use Rattle.order_text.proofs.print_order.Goals as goal

pub overflow_mul-n : goal.overflow_mul-n
overflow_mul-n c =
    omega (arith, c.requires.1, read_few _ _ _ c.read_sheet-n.ensures.count)

pub slice_bounds-order_units-end : goal.slice_bounds-order_units-end
slice_bounds-order_units-end c =
    omega (arith, c.read_sheet-n.auto.words, read_few _ _ _ c.read_sheet-n.ensures.count)

pub slice_bounds-order_units-end-2 : goal.slice_bounds-order_units-end-2
slice_bounds-order_units-end-2 c =
    sym (length-take-le _ _ (omega (arith, c.read_sheet-n.auto.words, read_few _ _ _ c.read_sheet-n.ensures.count)))

pub write_units-requires : goal.write_units-requires
write_units-requires c =
    let size = zeros_size 16392 c.args.report.now c.requires.2 in
    (omega (arith, c.order_units-x.auto.list, size, c.requires.0), c.requires.2 ∙ ap (λ (n : ℕ). replicate n 0) (sym size))

pub print_answer-requires : goal.print_answer-requires
print_answer-requires c =
    let read =
    subst (λ (n : ℕ). SheetRead c.args.sheet.now n c.read_sheet-n.result c.read_sheet-n.new.words) c.requires.1
    c.read_sheet-n.ensures in
    let rows =
    few (length c.args.list.now) c.args.sheet.now c.args.names.now c.read_sheet-n.result c.read_sheet-n.new.words
    c.order_units-x.new.list c.order_units-x.result c.write_units.new.report
    (length c.args.report.now - 8 * (length c.order_units-x.new.list + 1)) c.requires.0 read c.order_units-x.ensures c.write_units.ensures in
    (omega (arith, rows, c.write_units.auto.report, zeros_size 16392 c.args.report.now c.requires.2), omega (arith, rows, c.requires.3))

pub returns : goal.returns
returns c =
    let read =
    subst (λ (n : ℕ). SheetRead c.args.sheet.now n c.read_sheet-n.result c.read_sheet-n.new.words) c.requires.1
    c.read_sheet-n.ensures in
    printed_order_lem (length c.args.list.now) c.args.sheet.now c.args.names.now c.read_sheet-n.result c.read_sheet-n.new.words
    c.order_units-x.new.list c.order_units-x.result c.write_units.new.report
    (length c.args.report.now - 8 * (length c.order_units-x.new.list + 1)) c.requires.0 read c.order_units-x.ensures c.write_units.ensures
    c.args.text.now _ _ _ c.print_answer.ensures
