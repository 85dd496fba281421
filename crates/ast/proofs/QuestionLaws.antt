-- The number of a question is not 0, which stands for none.
use Rattle.std.proofs.Common.{◌≡◌, ap, arith, ◌<◌, Result, Ok, Err}
use Rattle.std.specs.Result.{IsErrAnd}
use Rattle.ast.specs.declared.question.Question.{Question}
use Rattle.ast.specs.declared.question.Question.TheVariants.{RowsFit, NamesFit, FormatFits, DepthFits, InLoop, Mutable, LetFree, Declared, NullDeclared, InstanceofClass}
use Rattle.ast.specs.declared.question.Question.TheVariants.{ParentClass, ConstructedRecord, MethodThere, MethodArity, Exported, NameFree, Known, NoCycle, ParentRecord, InitThere}
use Rattle.ast.specs.declared.question.Question.TheVariants.{InitArity, Room, Session, SessionRoom, EntryLeft, NoCircle}
use Rattle.ast.specs.Question.{question_number, no_of}
use Rattle.ast.specs.Refused.{refusal_of, refusal_in}
use Rattle.ast.specs.declared.question.Refusal.{Refusal as Refused}

pub question_some : (q : Question) → 0 < question_number q
question_some RowsFit = omega arith
question_some NamesFit = omega arith
question_some FormatFits = omega arith
question_some DepthFits = omega arith
question_some InLoop = omega arith
question_some Mutable = omega arith
question_some LetFree = omega arith
question_some Declared = omega arith
question_some NullDeclared = omega arith
question_some InstanceofClass = omega arith
question_some ParentClass = omega arith
question_some ConstructedRecord = omega arith
question_some MethodThere = omega arith
question_some MethodArity = omega arith
question_some Exported = omega arith
question_some NameFree = omega arith
question_some Known = omega arith
question_some NoCycle = omega arith
question_some ParentRecord = omega arith
question_some InitThere = omega arith
question_some InitArity = omega arith
question_some Room = omega arith
question_some Session = omega arith
question_some SessionRoom = omega arith
question_some EntryLeft = omega arith
question_some NoCircle = omega arith

pub question_none : (q : Question) → question_number q ≡ 0 → ⊥
question_none q e = omega (arith, question_some q)

-- a question that `?` hands on
pub no_handed : {A : Type 0} (r : Result A Question) (q : Question) → IsErrAnd r (λ e. e ≡ q) → no_of r ≡ question_number q
no_handed (Ok x) q h = absurd h
no_handed (Err e) q h = ap question_number h

-- a refusal that `?` hands on
pub refusal_handed : {A : Type 0} (r : Result A Refused) (q : Refused) → IsErrAnd r (λ e. e ≡ q) → refusal_in r ≡ refusal_of q
refusal_handed (Ok x) q h = absurd h
refusal_handed (Err e) q h = ap refusal_of h
