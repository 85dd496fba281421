use native.Mathlib.Omega.{arith}
use Rattle.walk_space.proofs.RoomLaws.{small_room, middle_room, large_room}
use Rattle.answer_rows.proofs.ScratchLaws.{rows_most}
use Rattle.resolver.proofs.resolve_sized.Goals as goal

pub resolve_with-requires : goal.resolve_with-requires
resolve_with-requires c =
    let small = c.is_small.ensures c.if-is_small.true in
    (c.requires, small_room _ _ _ small.0 small.1 (omega arith) (omega arith))

pub nodes_for-requires : goal.nodes_for-requires
nodes_for-requires c = rows_most _ c.requires.past

pub resolve_with-requires-then-nodes_for-le-MIDDLE_NODES : goal.resolve_with-requires-then-nodes_for-le-MIDDLE_NODES
resolve_with-requires-then-nodes_for-le-MIDDLE_NODES c =
    (c.requires, middle_room _ _ _ (rows_most _ c.requires.past) (omega (arith, c.if-nodes_for-le-MIDDLE_NODES.true, c.nodes_for.ensures)) (omega arith) (omega arith))

pub resolve_with-requires-2 : goal.resolve_with-requires-2
resolve_with-requires-2 c = (c.requires, large_room _ _ _ (rows_most _ c.requires.past) (omega arith) (omega arith))
