use mathlib.Core.Path.{refl, ◌∙◌}
use native.Mathlib.Omega.{arith}
use Rattle.prepare_entry.proofs.ToldLaws.{all_apart, list_inside, first_few, names_good, new_few, numbers_few, last_is}
use Rattle.session.specs.Words.{whole, session_in}
use Rattle.prompt.proofs.EnteredLaws.{laid_readable, entered_yes, entered_on}
use Rattle.prompt.proofs.enter_told.Goals as goal

pub overflow_cast-entry : goal.overflow_cast-entry
overflow_cast-entry c =
    omega (arith, new_few c.requires.0)

pub overflow_add-entry : goal.overflow_add-entry
overflow_add-entry c =
    omega (arith, first_few c.args.words.now c.args.bytes.now c.requires.0.fits c.requires.1, new_few c.requires.0)

pub entry_number-requires : goal.entry_number-requires
entry_number-requires c =
    numbers_few c.requires.0

pub returns-then-answer-ne0 : goal.returns-then-answer-ne0
returns-then-answer-ne0 c =
    entered_on c.args.words.now c.args.bytes.now c.args.sheet.now c.args.names.now _ c.requires.0.fits c.requires.0.none
    (c.enter_sheet-answer.ensures c.args.bytes.now c.args.names.now c.requires.0) refl
    (c.entry_number.ensures (session_in whole c.args.words.now c.args.bytes.now) c.args.names.now (all_apart c.args.words.now c.args.bytes.now c.requires.0.fits)
    (names_good c.requires.0) c.requires.0.told
    (last_is c.requires.0 c.requires.1))
    c.if-answer-ne0.true

pub append_names-requires : goal.append_names-requires
append_names-requires c =
    (names_good c.requires.0, omega (arith, c.word_at.ensures, list_inside c.args.words.now c.args.bytes.now c.requires.0.fits))

pub invariant_of-count_shown : goal.invariant_of-count_shown
invariant_of-count_shown c = record {
  readable =
      laid_readable c.args.words.now c.args.bytes.now c.args.sheet.now c.args.names.now _ c.requires.0.fits c.requires.0.none
      (c.enter_sheet-answer.ensures c.args.bytes.now c.args.names.now c.requires.0) refl
      (c.entry_number.ensures (session_in whole c.args.words.now c.args.bytes.now) c.args.names.now (all_apart c.args.words.now c.args.bytes.now c.requires.0.fits)
      (names_good c.requires.0) c.requires.0.told
      (last_is c.requires.0 c.requires.1))
      c.if-answer-ne0.false;
}

pub returns : goal.returns
returns c =
    entered_yes c.args.words.now c.args.bytes.now c.args.sheet.now c.args.names.now _ c.requires.0.fits c.requires.0.none
    (c.enter_sheet-answer.ensures c.args.bytes.now c.args.names.now c.requires.0) refl
    (c.entry_number.ensures (session_in whole c.args.words.now c.args.bytes.now) c.args.names.now (all_apart c.args.words.now c.args.bytes.now c.requires.0.fits)
    (names_good c.requires.0) c.requires.0.told
    (last_is c.requires.0 c.requires.1))
    c.if-answer-ne0.false (c.append_names.ensures (session_in whole c.args.words.now c.args.bytes.now) c.requires.0.told c.requires.1 ∙ rw c.word_at.ensures)
    c.count_shown-shown.ensures c.put_at.ensures
