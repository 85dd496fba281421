-- `withdrawal::withdraw` meets its contract. Assumes nothing.
use mathlib.Core.Path.{sym, ◌∙◌}
use Rattle.ast.proofs.QuestionLaws.{question_none}
use Rattle.withdrawal.proofs.WithdrawLaws.{entry_there, cut_readable, withdrawn_by, words_cut, words_kept}
use Rattle.withdrawal.proofs.withdraw.Goals as goal

pub returns-in-Err : goal.returns-in-Err
returns-in-Err c =
    withdrawn_by c.args.words.now c.args.bytes.now _ (c.number.ensures ∙ c.in-Err.ensures) c.answer_of.ensures
    (words_kept c.args.words.now c.args.bytes.now (λ z. question_none _ (c.in-Err.ensures ∙ z)))

pub cut_counts-requires : goal.cut_counts-requires
cut_counts-requires c =
    entry_there c.args.words.now c.args.bytes.now (sym c.in_default.ensures)

pub invariant_of-count_shown : goal.invariant_of-count_shown
invariant_of-count_shown c =
    record { readable = cut_readable c.args.words.now c.args.bytes.now (sym c.in_default.ensures) c.cut_counts.ensures }

pub returns : goal.returns
returns c =
    withdrawn_by c.args.words.now c.args.bytes.now _ c.in_default.ensures c.answer_of-2.ensures
    (words_cut c.args.words.now c.args.bytes.now (sym c.in_default.ensures) c.cut_counts.ensures c.count_shown-shown.ensures c.put_at.ensures)
