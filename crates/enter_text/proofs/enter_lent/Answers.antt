-- `enter_lent` meets its contract. Assumes nothing.
use Rattle.std.proofs.Common.{rules, of_calls}
use mathlib.Core.List.{List}
use Prim.Native.Nat.{ℕ}
use lib.ListN.{length}
use Rattle.prompt.specs.Entered.{Entered}
use Rattle.enter_text.proofs.EntryLaws.{few_rows, entered_by}
use Rattle.enter_text.proofs.enter_lent.Goals as goal

pub reply_to-reply-requires-clause-few : goal.reply_to-reply-requires-clause-few
reply_to-reply-requires-clause-few c rows out x out' s e called =
    let a : (w' : List ℕ) × (b' : List ℕ) × Entered c.args.words.now c.args.bytes.now rows.now c.args.names.now (length out.now) x out'.now w' b' =
    search (rules, of_calls) in
    few_rows c.args.words.now c.args.bytes.now rows.now c.args.names.now a.2.tells e

pub returns : goal.returns
returns c =
    entered_by c.args.lent c.args.words.now c.args.bytes.now c.args.sheet.now c.args.names.now c.args.text.now c.reply_to-reply.result c.reply_to-reply.ensures.told
    (λ n a. search (rules, of_calls))
    (λ e. let none = c.reply_to-reply.ensures.none e in (none.0, none.1, search rules, search rules))
    c.with_session.ensures.told c.with_session.ensures.none
