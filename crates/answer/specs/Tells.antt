-- What an answer says: document 01's numbers for it.
use Rattle.std.specs.Prelude.{◌≡◌, length}
use Rattle.definition.specs.Outcome.{Outcome}
use Rattle.lexer.specs.SrcPos.{file_of, line_of, column_of}
use Rattle.answer.specs.declared.Answer.{Answer}

-- Answer x is outcome o: question number, position, name, number of answer rows, final globals.
pub record Tells (o : Outcome) (x : Answer) : Type 0 where
  pub number : x.number ≡ o.number
  pub file : file_of x.pos.0 ≡ o.file
  pub line : line_of x.pos.0 ≡ o.line
  pub column : column_of x.pos.0 ≡ o.column
  pub name : x.name ≡ o.name
  pub rows : x.rows ≡ length o.rows
  pub globals : x.globals ≡ o.globals
