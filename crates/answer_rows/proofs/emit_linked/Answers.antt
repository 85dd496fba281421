use Rattle.answer_rows.proofs.ScratchLaws.{small_sheet}
use Rattle.answer_rows.proofs.ReadyLaws.{rows_ready}
use Rattle.after.proofs.Ranges.{past_fits}
use Rattle.answer_rows.proofs.emit_linked.Goals as goal

pub link_literals-requires : goal.link_literals-requires
link_literals-requires c =
    let ok = c.requires.0 in
    let room = c.requires.2 in
    (small_sheet ok, (past_fits ok).header, room.clear_first, room.for_first, room.for_next)

pub mark_parents-requires : goal.mark_parents-requires
mark_parents-requires c =
    let room = c.requires.2 in (small_sheet c.requires.0, room.for_children, room.clear_children.zeros)

pub emit_each-requires : goal.emit_each-requires
emit_each-requires c =
    (rows_ready c.args.tables c.requires.0 c.requires.1 c.link_literals.ensures c.mark_parents.ensures, c.requires.3, c.requires.4)
