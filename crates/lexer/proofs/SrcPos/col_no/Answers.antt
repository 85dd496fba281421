use Rattle.std.proofs.Common.{rules}
use Rattle.lexer.specs.SrcPos.{column_of}
use Rattle.lexer.proofs.SrcPos.col_no.Goals as goal

pub returns : goal.returns
unfolding column_of
returns c = search rules
