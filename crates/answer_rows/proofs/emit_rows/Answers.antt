use Rattle.answer_rows.proofs.ScratchLaws.{scratch_zeros, rows_most}
use Rattle.answer_rows.proofs.ReadyLaws.{few_fields}
use mathlib.Core.Path.{refl, sym}
use Rattle.answer_rows.proofs.emit_rows.Goals as goal

pub emit_linked-requires : goal.emit_linked-requires
emit_linked-requires c =
    (c.requires.0, few_fields c.args.tables c.requires.0 c.args.store c.requires.1, scratch_zeros _ 2048 (rows_most _ c.requires.0), refl, refl)

pub returns : goal.returns
returns c =
    rw (c.out-1.given.1.1 (sym c.emit_linked.ensures.same)) (c.emit_linked.ensures.step c.args.store)
