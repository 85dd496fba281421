-- `withdraw_text::print_reply` meets its contract. Assumes nothing.
use mathlib.Core.Path.{ap, ◌∙◌}
use mathlib.Core.List.{[]}
use native.Mathlib.Omega.{arith}
use lib.ListN.{length, length-append}
use Rattle.withdraw_text.proofs.ReplyLaws.{eight_fitted, reply_written}
use Rattle.withdraw_text.proofs.print_reply.Goals as goal

pub slice_bounds-write_rows-end : goal.slice_bounds-write_rows-end
slice_bounds-write_rows-end c =
    omega (arith, length-append c.write_fitted.new.lent [], ap length c.write_fitted.ensures ∙ eight_fitted c.args.words.now)

pub returns : goal.returns
returns c =
    reply_written c.args.number c.args.words.now c.write_fitted.ensures c.requires c.write_rows.ensures
