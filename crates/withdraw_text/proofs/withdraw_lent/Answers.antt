-- `withdraw_text::withdraw_lent` meets its contract. Assumes nothing.
use native.Mathlib.Omega.{arith}
use Rattle.withdraw_text.proofs.ReplyLaws.{not_replied, replied}
use Rattle.withdraw_text.proofs.withdraw_lent.Goals as goal

pub returns-then-text-lt-LONGEST : goal.returns-then-text-lt-LONGEST
returns-then-text-lt-LONGEST c =
    not_replied c.args.words.now c.args.bytes.now c.args.text.now c.if-text-lt-LONGEST.true

pub returns : goal.returns
returns c =
    replied c.args.words.now c.args.bytes.now c.args.text.now c.withdraw-x.result (omega (arith, c.if-text-lt-LONGEST.false)) c.withdraw-x.ensures c.print_reply.ensures
