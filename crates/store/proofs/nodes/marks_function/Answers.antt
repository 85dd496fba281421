use Rattle.store.proofs.nodes.marks_function.Goals as goal
