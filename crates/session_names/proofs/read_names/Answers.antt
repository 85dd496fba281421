-- `read_names` meets its contract. Assumes nothing.
use Rattle.std.proofs.Common.{ap, not, arith}
use Rattle.names.proofs.Laws.{table_size}
use Rattle.session_names.proofs.NameLaws.{listing_no, fixed_no, list_no, names_no, names_yes}
use Rattle.session_names.proofs.read_names.Goals as goal

pub returns-then-not-is_fixed : goal.returns-then-not-is_fixed
returns-then-not-is_fixed c = fixed_no c.args.session.words.now c.args.session.bytes.now c.is_fixed.ensures (ap not c.if-not-is_fixed.true)

pub returns-in_err-list : goal.returns-in_err-list
returns-in_err-list c =
    listing_no _ _ c.from_residual.ensures
    (list_no c.args.session.words.now c.args.session.bytes.now c.is_fixed.ensures (ap not c.if-not-is_fixed.false) c.number_at-end.ensures.0 c.in_err-list.ensures)

pub returns-then-count-number_at : goal.returns-then-count-number_at
returns-then-count-number_at c =
    let list = c.in_ok-list.list.listed in
    names_no c.args.session.words.now c.args.session.bytes.now c.is_fixed.ensures (ap not c.if-not-is_fixed.false) c.number_at-end.ensures.0 c.in_ok-list.ensures c.in_ok-list.list.fit
    c.number_at.result c.count.result (omega (arith, c.count.ensures, table_size list.names.now list.of_names)) c.number_at.ensures.0 c.if-count-number_at.true

pub returns : goal.returns
returns c =
    let list = c.in_ok-list.list.listed in
    names_yes c.args.session.words.now c.args.session.bytes.now c.is_fixed.ensures (ap not c.if-not-is_fixed.false) c.number_at-end.ensures.0 c.in_ok-list.ensures c.in_ok-list.list.fit
    c.number_at.result c.count.result (omega (arith, c.count.ensures, table_size list.names.now list.of_names)) c.number_at.ensures.0 c.if-count-number_at.false
