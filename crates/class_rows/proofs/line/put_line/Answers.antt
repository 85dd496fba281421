use Rattle.ast.specs.Kind.{kind_number}
use mathlib.Core.Path.{refl, ◌∙◌}
use Rattle.store.specs.Stored.{store_of}
use Rattle.name_rows.specs.Put.{filled, name_row}
use Rattle.class_rows.proofs.LineLaws.{copied_all, line_after}
use Rattle.outside.specs.Words.{over}
use Rattle.class_rows.proofs.line.put_line.Goals as goal

pub put_copied-next-requires : goal.put_copied-next-requires
put_copied-next-requires c = (
  (c.requires.1 c.if-a-eq0.false (record { used = 0; calls = 0 })).below,
  (c.requires.1 c.if-a-eq0.false (record { used = 0; calls = 0 })).within,
)
