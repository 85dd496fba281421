use Rattle.symbols.proofs.decl.slot_after.Goals as goal

pub returns-then-is_local : goal.returns-then-is_local
returns-then-is_local c = rw (← c.is_local.ensures, c.if-is_local.true) c.one_more.ensures

pub returns-else-is_local : goal.returns-else-is_local
returns-else-is_local c = rw (← c.is_local.ensures, c.if-is_local.false)
