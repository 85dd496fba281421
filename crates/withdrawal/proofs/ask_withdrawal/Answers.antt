-- `withdrawal::ask_withdrawal` meets its contract. Assumes nothing.
use Rattle.std.proofs.Common.{sym, ◌∙◌}
use Rattle.ast.proofs.QuestionLaws.{no_handed}
use Rattle.session_names.proofs.NameLaws.{listing_fits}
use Rattle.withdrawal.proofs.WithdrawLaws.{no_session, no_found, no_entry, no_question}
use Rattle.withdrawal.proofs.ask_withdrawal.Goals as goal

pub returns-in_err-ok_or : goal.returns-in_err-ok_or
returns-in_err-ok_or c =
    no_handed _ _ c.from_residual.ensures.1 ∙ no_found c.check_session.result _ _ c.in_err-ok_or.ensures.value
    ∙ no_session c.args.session.words.now c.args.session.bytes.now (sym (listing_fits _ _ c.check_session.ensures) ∙ sym c.in_err-ok_or.ensures.variant)

pub returns-then-word_at-eq0 : goal.returns-then-word_at-eq0
returns-then-word_at-eq0 c =
    no_entry c.args.session.words.now c.args.session.bytes.now (sym (listing_fits _ _ c.check_session.ensures) ∙ sym c.in_ok-ok_or.ensures.variant)
    (sym c.word_at.ensures ∙ c.if-word_at-eq0.true)

pub returns : goal.returns
returns c =
    no_question c.args.session.words.now c.args.session.bytes.now (sym (listing_fits _ _ c.check_session.ensures) ∙ sym c.in_ok-ok_or.ensures.variant)
    (λ z. c.if-word_at-eq0.false (c.word_at.ensures ∙ z))
