use Rattle.std.proofs.Common.{rules}
use Rattle.lexer.specs.SrcPos.{file_of}
use Rattle.lexer.proofs.SrcPos.file_id.Goals as goal

pub returns : goal.returns
unfolding file_of
returns c = search rules
