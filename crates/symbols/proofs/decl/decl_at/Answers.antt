use Rattle.symbols.proofs.DeclLaws.{at_none, at_some}
use Rattle.symbols.proofs.decl.decl_at.Goals as goal

pub returns-then-k-eq0 : goal.returns-then-k-eq0
returns-then-k-eq0 c = at_none c.args.entries.now c.args.k c.if-k-eq0.true

pub returns : goal.returns
returns c =
    at_some c.args.entries.now c.args.k _ _ _ _ _ c.if-k-eq0.false
    c.entry_word.ensures c.entry_word-2.ensures
    c.entry_word-3.ensures c.entry_word-4.ensures c.decl_of.ensures
