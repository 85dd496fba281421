-- The questions and their numbers.
use Rattle.std.specs.Prelude.{ℕ, Result, Ok, Err}
use Rattle.ast.specs.declared.question.Question.{Question}
use Rattle.ast.specs.declared.question.Question.TheVariants.{RowsFit, NamesFit, FormatFits, DepthFits, InLoop, Mutable, LetFree, Declared, NullDeclared, InstanceofClass, ParentClass, ConstructedRecord, MethodThere, MethodArity, Exported, NameFree, Known, NoCycle, ParentRecord, InitThere, InitArity, Room, Session, SessionRoom, EntryLeft, NoCircle}

-- the number of a question
abbrev pub question_number : Question → ℕ
question_number RowsFit = 1
question_number NamesFit = 2
question_number FormatFits = 3
question_number DepthFits = 4
question_number InLoop = 5
question_number Mutable = 6
question_number LetFree = 7
question_number Declared = 8
question_number NullDeclared = 9
question_number InstanceofClass = 10
question_number ParentClass = 11
question_number ConstructedRecord = 12
question_number MethodThere = 13
question_number MethodArity = 14
question_number Exported = 15
question_number NameFree = 16
question_number Known = 17
question_number NoCycle = 18
question_number ParentRecord = 19
question_number InitThere = 20
question_number InitArity = 21
question_number Room = 22
question_number Session = 23
question_number SessionRoom = 24
question_number EntryLeft = 25
question_number NoCircle = 29

-- the number of the question that got a no, or 0 if none did
abbrev pub no_of : {A : Type 0} → Result A Question → ℕ
no_of (Ok x) = 0
no_of (Err q) = question_number q
