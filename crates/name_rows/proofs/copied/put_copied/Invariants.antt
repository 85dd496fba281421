use Rattle.std.proofs.Common.{◌≡◌, ◌+◌, ◌-◌}
use Rattle.definition.specs.Basics.{from}
use Rattle.outside.specs.Words.{over}
use Rattle.sink.specs.Written.{written}
use Rattle.name_rows.specs.Put.{filled, copied_row, put_all}
use Rattle.name_rows.proofs.KeptLaws.{Kept}
use Rattle.name_rows.proofs.copied.put_copied.Given as goal

abbrev pub invariant-loop-at : goal.invariant-loop-at
invariant-loop-at l =
    (put_all (copied_row (over l.tables.outside.now) l.tables.sheet.now l.wanted l.initial.out.words.now) (from l.at (l.at-end - l.at)) (filled l.next l.out)
    ≡ put_all (copied_row (over l.tables.outside.now) l.tables.sheet.now l.wanted l.initial.out.words.now) (from l.i l.n) (filled l.initial.next l.initial.out))
    × Kept (l.i + l.n) (written l.initial.out) (written l.out)
    × (l.out.words.ghost_name ≡ l.initial.out.words.ghost_name)
