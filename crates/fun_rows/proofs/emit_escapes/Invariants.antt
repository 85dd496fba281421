use Rattle.std.proofs.Common.{◌≡◌, map}
use Rattle.sink.specs.Sink.{emit_all}
use Rattle.sink.specs.Written.{written}
use Rattle.fun_rows.specs.Escaping.{slots_left}
use Rattle.fun_rows.proofs.EscapeLaws.{slot_row}
use Rattle.fun_rows.proofs.emit_escapes.Given as goal

abbrev pub invariant-loop-slot : goal.invariant-loop-slot
invariant-loop-slot l =
    (emit_all (map (slot_row l.f.0) (slots_left l.slot-iterator)) (written l.out)
    ≡ emit_all (map (slot_row l.f.0) (slots_left l.initial.slot-iterator)) (written l.initial.out))
    × (l.out.words.ghost_name ≡ l.initial.out.words.ghost_name)
