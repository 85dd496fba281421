use mathlib.Core.Path.{sym}
use native.Mathlib.Omega.{arith}
use Rattle.ast.proofs.QuestionLaws.{question_none}
use lib.Seq.{length-take-le}
use Rattle.prompt.proofs.EnteredLaws.{entered_no}
use Rattle.prompt.proofs.enter.Goals as goal

pub returns-in-Err : goal.returns-in-Err
returns-in-Err c =
    entered_no c.args.words.now c.args.bytes.now c.args.sheet.now c.args.names.now _
    c.in-Err.ensures.no (question_none _) c.refuse.ensures.0 c.refuse.ensures.1

pub slice_bounds-numbers-end : goal.slice_bounds-numbers-end
slice_bounds-numbers-end c =
    omega (arith, c.prepare.auto.numbers, c.in-Ok.ensures.told.few)

pub slice_bounds-enter_told-end : goal.slice_bounds-enter_told-end
slice_bounds-enter_told-end c =
    sym (length-take-le c.in-Ok.entry.names c.prepare.new.numbers (omega (arith, c.prepare.auto.numbers, c.in-Ok.ensures.told.few)))

pub enter_told-requires : goal.enter_told-requires
enter_told-requires c =
    (c.in-Ok.ensures.told.told, c.in-Ok.ensures.told.first)
