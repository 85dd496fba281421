use mathlib.Core.Path.{refl, sym}
use native.Mathlib.Omega.{arith}
use Rattle.ast.proofs.QuestionLaws.{question_none}
use lib.Seq.{length-take-le}
use Rattle.prepare_entry.proofs.ToldLaws.{all_apart, first_few, names_good, new_few, numbers_few, last_is}
use Rattle.session.specs.Words.{whole, session_in}
use Rattle.preview.proofs.PreviewLaws.{previewed_no, previewed_on}
use Rattle.preview.proofs.preview.Goals as goal

pub returns-in-Err : goal.returns-in-Err
returns-in-Err c =
    previewed_no c.args.words.now c.args.bytes.now c.args.sheet.now c.args.names.now _
    c.in-Err.ensures.no (question_none _) c.refuse.ensures.0 c.refuse.ensures.1

pub slice_bounds-numbers-end : goal.slice_bounds-numbers-end
slice_bounds-numbers-end c =
    omega (arith, c.prepare.auto.numbers, c.in-Ok.ensures.told.few)

pub slice_bounds-told-end : goal.slice_bounds-told-end
slice_bounds-told-end c =
    sym (length-take-le c.in-Ok.entry.names c.prepare.new.numbers (omega (arith, c.prepare.auto.numbers, c.in-Ok.ensures.told.few)))

pub try_sheet-answer-requires : goal.try_sheet-answer-requires
try_sheet-answer-requires c =
    (c.args.bytes.now, c.args.names.now, c.in-Ok.ensures.told.told)

pub overflow_sub-entry : goal.overflow_sub-entry
overflow_sub-entry c =
    omega (arith, c.in-Ok.ensures.told.first)

pub overflow_cast-entry : goal.overflow_cast-entry
overflow_cast-entry c =
    omega (arith, new_few (c.in-Ok.ensures.told.told))

pub overflow_add-entry : goal.overflow_add-entry
overflow_add-entry c =
    let told = c.in-Ok.ensures.told.told in
    omega (arith, first_few c.args.words.now c.args.bytes.now told.fits (c.in-Ok.ensures.told.first), new_few told)

pub entry_number-requires : goal.entry_number-requires
entry_number-requires c =
    numbers_few (c.in-Ok.ensures.told.told)

pub returns : goal.returns
returns c =
    let told = c.in-Ok.ensures.told.told in
    previewed_on c.args.words.now c.args.bytes.now c.args.sheet.now c.args.names.now _ told c.try_sheet-answer.ensures refl
    (c.entry_number.ensures (session_in whole c.args.words.now c.args.bytes.now) c.args.names.now (all_apart c.args.words.now c.args.bytes.now told.fits) (names_good told) told.told
    (last_is told (c.in-Ok.ensures.told.first)))
