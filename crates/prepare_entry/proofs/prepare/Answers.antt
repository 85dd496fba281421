-- `prepare` meets its contract. Assumes nothing.
use Rattle.std.proofs.Common.{sym, ◌≡◌, ◌+◌, arith, length}
use Rattle.definition.specs.Names.{listed}
use Rattle.entry_ready.proofs.PastLaws.{passed}
use Rattle.session.specs.Words.{whole, session_in}
use Rattle.names.proofs.Laws.{table_size}
use Rattle.prepare_entry.proofs.ToldLaws.{list_all, starts_few, prepared_refused, prepared_told}
use Rattle.prepare_entry.proofs.prepare.Goals as goal

pub returns-in_err-ask_entry : goal.returns-in_err-ask_entry
returns-in_err-ask_entry c =
    prepared_refused c.args.session.words.now c.args.session.bytes.now c.args.sheet.now c.args.names.now c.in-Some.ensures.0 c.from_residual.result c.in_err-ask_entry.field-0.0
    c.from_residual.ensures.1 c.in_err-ask_entry.ensures

pub number_names-told-requires : goal.number_names-told-requires
number_names-told-requires c =
    ((passed _ c.args.sheet.now c.args.names.now (sym c.in_ok-ask_entry.ensures)).names_fit_lem, c.requires)

pub overflow_cast-result : goal.overflow_cast-result
overflow_cast-result c =
    let list = c.in-Some.list.listed in
    let held = c.in-Some.ensures in
    let counted : c.count.result + 1 ≡ length (listed list.names.now) + 1 = omega (arith, c.count.ensures, table_size list.names.now list.of_names) in
    omega (arith, starts_few c.args.session.words.now c.args.session.bytes.now held.0 held.1 counted)

pub returns : goal.returns
returns c =
    let list = c.in-Some.list.listed in
    let held = c.in-Some.ensures in
    let counted : c.count.result + 1 ≡ length (listed list.names.now) + 1 = omega (arith, c.count.ensures, table_size list.names.now list.of_names) in
    prepared_told c.args.session.words.now c.args.session.bytes.now c.args.sheet.now c.args.names.now held.0 (sym c.in_ok-ask_entry.ensures) _
    (c.number_names-told.ensures (session_in whole c.args.session.words.now c.args.session.bytes.now) (list_all c.args.session.words.now c.args.session.bytes.now held.0 held.1))
    held.1 counted (omega arith)
