-- `read_request` meets its contract: what is read is the row. Assumes nothing.
use Rattle.request.proofs.Laws.{no_row, verb_unknown, row_broken, row_told}
use Rattle.request.proofs.read_request.Goals as goal

pub returns-then-read_sheet-eq0 : goal.returns-then-read_sheet-eq0
returns-then-read_sheet-eq0 c = no_row c.args.header.now _ _ c.read_sheet.ensures _ c.if-read_sheet-eq0.true c.refuse.ensures

pub returns-in-Err : goal.returns-in-Err
returns-in-Err c =
    verb_unknown c.args.header.now _ _ c.read_sheet.ensures c.read_sheet.auto.words c.if-read_sheet-eq0.false _ _ c.in-Err.ensures c.refuse-in-Err.ensures

pub returns-in-Ok-check : goal.returns-in-Ok-check
returns-in-Ok-check c =
    row_told c.args.header.now _ _ c.read_sheet.ensures c.read_sheet.auto.words c.if-read_sheet-eq0.false _ _ c.in-Ok.ensures c.largest_of.ensures _ _
    c.in-Ok-check.ensures c.tell.ensures

pub returns-in-Err-check : goal.returns-in-Err-check
returns-in-Err-check c =
    row_broken c.args.header.now _ _ c.read_sheet.ensures c.read_sheet.auto.words c.if-read_sheet-eq0.false _ _ c.in-Ok.ensures c.largest_of.ensures _ _
    c.in-Err-check.ensures c.refuse-in-Err-check.ensures
