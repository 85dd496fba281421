use Rattle.std.proofs.Common.{rules}
use Rattle.lexer.specs.SrcPos.{line_of}
use Rattle.lexer.proofs.SrcPos.line_no.Goals as goal

pub returns : goal.returns
unfolding line_of
returns c = search rules
