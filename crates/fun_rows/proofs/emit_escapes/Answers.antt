use Rattle.std.proofs.Common.{ap, ◌∙◌, map, List, ℕ}
use Rattle.sink.specs.Sink.{emit_all}
use Rattle.sink.specs.Written.{written}
use Rattle.fun_rows.specs.Escaping.{slots_left}
use Rattle.fun_rows.proofs.EscapeLaws.{slot_row, rows_rest, rows_end}
use Rattle.fun_rows.proofs.emit_escapes.Goals as goal

pub loop-slot-preserved : goal.loop-slot-preserved
loop-slot-preserved c =
    (rows_rest (slot_row c.args.f.0) (written c.loop-slot.out) c.in-Some.ensures.steps c.emit_decl.ensures.step ∙ c.loop-slot.invariant.0, c.emit_decl.ensures.same ∙ c.loop-slot.invariant.1)
