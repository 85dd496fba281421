-- `find_lent` meets its contract: what is found and printed. Assumes nothing.
use mathlib.Core.Path.{sym, ap, ◌∙◌}
use native.Mathlib.Omega.{arith}
use lib.ListN.{length}
use Rattle.report.proofs.Laws.{replied, replied_short}
use Rattle.find_text.proofs.ReplyLaws.{printed_find_lem, replied_names}
use Rattle.find_text.proofs.find_lent.Goals as goal

pub returns-then-text-lt-LONGEST : goal.returns-then-text-lt-LONGEST
returns-then-text-lt-LONGEST c =
    replied_names (replied_short 0 _ c.args.text.now c.if-text-lt-LONGEST.true)

pub slice_bounds-print_answer-end : goal.slice_bounds-print_answer-end
slice_bounds-print_answer-end c =
    sym (ap length c.found_words-words.ensures)

pub print_answer-requires : goal.print_answer-requires
print_answer-requires c =
    (omega (arith, ap length c.found_words-words.ensures), omega (arith, c.if-text-lt-LONGEST.false))

pub returns : goal.returns
returns c =
    replied_names (replied 0 _ c.args.text.now _ _ (omega arith) c.if-text-lt-LONGEST.false
    (printed_find_lem c.args.names.now c.args.name.now c.find_name.result c.found_words-words.result c.find_name.ensures
    c.found_words-words.ensures c.args.text.now _ _ _ c.print_answer.ensures))
