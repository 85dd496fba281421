-- `order_lent` meets its contract. Assumes nothing.
use mathlib.Core.Path.{sym, subst}
use Prim.Native.Nat.{ℕ}
use native.Mathlib.Omega.{arith}
use borrow.Author.Rules.{rules}
use Rattle.report.specs.Report.{Begins}
use Rattle.report.proofs.Laws.{replied, replied_none}
use Rattle.order_text.specs.Reply.{printed_order}
use Rattle.order_text.proofs.ReplyLaws.{list_length, replied_order}
use Rattle.order_text.proofs.order_lent.Goals as goal

pub returns-then-lent : goal.returns-then-lent
returns-then-lent c = replied_order (replied_none c.args.lent _ c.args.text.now c.then-lent.either)

pub slice_bounds-print_order-end-2 : goal.slice_bounds-print_order-end-2
slice_bounds-print_order-end-2 c =
    sym (list_length c.args.lent c.if-lent.false)

pub print_order-requires : goal.print_order-requires
print_order-requires c =
    let size = list_length c.args.lent c.if-lent.false in
    (omega (arith, size, c.if-lent.false), search rules, search rules, search rules)

pub returns : goal.returns
returns c =
    replied_order (replied c.args.lent _ c.args.text.now _ _ c.if-lent.false c.if-text-lt-LONGEST.false
    (subst (λ (n : ℕ). Begins (printed_order n c.args.sheet.now c.args.names.now) c.args.text.now
    c.print_order.result c.print_order.new.text) (list_length c.args.lent c.if-lent.false) c.print_order.ensures))
