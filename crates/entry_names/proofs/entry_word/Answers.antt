-- `entry_word` meets its contract. Assumes nothing.
use Rattle.entry_names.proofs.SheetLaws.{word_named, word_plain}
use Rattle.entry_names.proofs.entry_word.Goals as goal

pub returns-then-holds_name : goal.returns-then-holds_name
returns-then-holds_name c =
    word_named c.args.sheet.now c.args.numbers.now c.args.i c.word_at-word.ensures c.word_at-kind.ensures
    c.holds_name.ensures c.if-holds_name.true c.number_told.ensures

pub returns : goal.returns
returns c =
    word_plain c.args.sheet.now c.args.numbers.now c.args.i c.word_at-word.ensures c.word_at-kind.ensures
    c.holds_name.ensures c.if-holds_name.false
