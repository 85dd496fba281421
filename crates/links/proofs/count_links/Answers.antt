use Rattle.std.proofs.Common.{length-set, arith}
use Rattle.definition.specs.Sheet.{next, child}
use Rattle.links.proofs.LinkLaws.{counted_next, more_le, link_below, linked_le}
use Rattle.links.proofs.count_links.Goals as goal

pub bounds-seen-next : goal.bounds-seen-next
bounds-seen-next c =
    let b = link_below c.args.sheet.now c.requires.2 c.loop-row.row (omega arith) in omega (arith, b.0, c.loop-row.invariant.1.size)

pub overflow_add-seen : goal.overflow_add-seen
overflow_add-seen c =
    let b = link_below c.args.sheet.now c.requires.2 c.loop-row.row (omega arith) in
    omega (arith, c.loop-row.invariant.1.here _ b.0, linked_le c.args.sheet.now c.loop-row.row (next c.args.sheet.now c.loop-row.row))

pub bounds-seen-next-in-loop-row : goal.bounds-seen-next-in-loop-row
bounds-seen-next-in-loop-row c =
    let b = link_below c.args.sheet.now c.requires.2 c.loop-row.row (omega arith) in omega (arith, b.0, c.loop-row.invariant.1.size)

pub bounds-seen-child : goal.bounds-seen-child
bounds-seen-child c =
    let b = link_below c.args.sheet.now c.requires.2 c.loop-row.row (omega arith) in
    simp length-set (omega (arith, b.1, c.loop-row.invariant.1.size))

pub overflow_add-seen-in-loop-row : goal.overflow_add-seen-in-loop-row
overflow_add-seen-in-loop-row c =
    let s = c.args.sheet.now in
    let r = c.loop-row.row in
    let b = link_below s c.requires.2 r (omega arith) in
    omega (arith, c.loop-row.invariant.1.here _ b.1, linked_le s r (child s r), more_le c.loop-row.seen (next s r) (child s r) (omega (arith, b.0, c.loop-row.invariant.1.size)))

pub bounds-seen-child-in-loop-row : goal.bounds-seen-child-in-loop-row
bounds-seen-child-in-loop-row c =
    let b = link_below c.args.sheet.now c.requires.2 c.loop-row.row (omega arith) in
    simp length-set (omega (arith, b.1, c.loop-row.invariant.1.size))

pub loop-row-preserved : goal.loop-row-preserved
loop-row-preserved c =
    let b = link_below c.args.sheet.now c.requires.2 c.loop-row.row (omega arith) in (
      omega arith,
      counted_next c.args.sheet.now _ c.loop-row.row c.loop-row.seen c.loop-row.invariant.1 b.0 b.1,
      simp length-set c.loop-row.invariant.2,
    )
