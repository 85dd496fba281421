use native.Mathlib.Omega.{arith}
use Rattle.class_rows.proofs.AboveLaws.{counted_wanted}
use Rattle.class_rows.proofs.ClassLaws.{head_row}
use Rattle.class_rows.proofs.class_head.Goals as goal

pub returns : goal.returns
returns c =
    λ o. head_row c.args.tables c.args.subclassed.now c.args.row c.requires.0 o
    (c.parent_of-parent.ensures o c.args.tables.nodes.now) c.mark_bit-children.ensures c.wanted.ensures
    (c.count_line-field_count.ensures o) c.wanted-2.ensures (c.count_line-method_count.ensures o)
