use native.Mathlib.Omega.{arith}
use lib.ListN.{length-take, length-drop}
use Rattle.entry_classes.proofs.RowLaws.{part_few, passed_near}
use Rattle.entry_classes.proofs.RunLaws.{writing_start, writing_fits, writing_more, writing_end}
use Rattle.entry_classes.proofs.append_part.Goals as goal

pub loop-i-init : goal.loop-i-init
loop-i-init c =
    writing_start c.requires.2

pub overflow_mul-i : goal.overflow_mul-i
overflow_mul-i c =
    omega (arith, c.loop-i-test.true, c.requires.1)

pub overflow_mul-i-in-loop-i : goal.overflow_mul-i-in-loop-i
overflow_mul-i-in-loop-i c =
    omega (arith, c.loop-i-test.true, c.requires.1)

pub offset_bounds-out-i : goal.offset_bounds-out-i
offset_bounds-out-i c =
    omega (arith, c.loop-i-test.true, c.requires.1)

pub slice_bounds-append_row-count : goal.slice_bounds-append_row-count
slice_bounds-append_row-count c =
    omega (arith, c.loop-i-test.true, c.requires.1)

pub slice_bounds-append_row-start : goal.slice_bounds-append_row-start
slice_bounds-append_row-start c =
    omega (arith, c.loop-i-test.true, c.requires.1)

pub slice_bounds-append_row-end : goal.slice_bounds-append_row-end
slice_bounds-append_row-end c =
    omega (arith, c.loop-i-test.true, c.requires.1)

pub append_row-p-requires : goal.append_row-p-requires
append_row-p-requires c = (
  omega (arith, c.loop-i.invariant.near, passed_near c.args.part c.loop-i-test.true, c.requires.0),
  simp (length-take, length-drop) (omega (arith, c.loop-i-test.true, c.requires.1)),
  writing_fits c.loop-i.invariant c.loop-i-test.true,
)

pub overflow_add-p : goal.overflow_add-p
overflow_add-p c =
    omega (arith, c.append_row-p.ensures.0, part_few c.args.part, c.loop-i.invariant.near, passed_near c.args.part c.loop-i-test.true, c.requires.0)

pub loop-i-preserved : goal.loop-i-preserved
loop-i-preserved c =
    writing_more c.loop-i.invariant c.loop-i-test.true c.append_row-p.ensures.0 (λ x. (c.append_row-p.ensures.1 x.0 x.1).size)
    (λ x. (c.append_row-p.ensures.1 x.0 x.1).put) (omega (arith, c.append_row-p.auto))

pub shape_of-words : goal.shape_of-words
shape_of-words c =
    c.loop-i.invariant.long

pub returns : goal.returns
returns c =
    λ o q. writing_end c.loop-i.invariant c.loop-i-test.false (o, q)
