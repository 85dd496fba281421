-- What a writer of answer rows has written.
use Rattle.std.specs.Prelude.{List, [], ◌∷◌, ℕ}
use Rattle.ast.specs.Code.{code_number}
use Rattle.sink.specs.Sink.{Sink, sink}
use Rattle.sink.specs.declared.AnswerRow.{AnswerRow}
use Rattle.sink.specs.declared.Rows.{Rows}

-- the eight words of an answer row
abbrev pub words_of : AnswerRow → List ℕ
words_of x = x.row ∷ code_number x.code ∷ x.one ∷ x.two ∷ x.three ∷ x.four ∷ 0 ∷ 0 ∷ []

-- the rows of a writer, and its words
abbrev pub written : Rows → Sink
written rows = sink rows.count rows.words.now
