-- `preview_lent` meets its contract. Assumes nothing.
use Rattle.std.proofs.Common.{rules, of_calls}
use lib.ListN.{length}
use Rattle.preview.specs.Previewed.{Previewed}
use Rattle.enter_text.proofs.EntryLaws.{few_rows}
use Rattle.preview_text.proofs.PreviewLaws.{previewed_by}
use Rattle.preview_text.proofs.preview_lent.Goals as goal

pub reply_to-reply-requires-clause-few : goal.reply_to-reply-requires-clause-few
reply_to-reply-requires-clause-few c rows out x out' s e called =
    let a : Previewed c.args.words.now c.args.bytes.now rows.now c.args.names.now (length out.now) x out'.now = search (rules, of_calls) in
    few_rows c.args.words.now c.args.bytes.now rows.now c.args.names.now a.tells e

pub returns : goal.returns
returns c =
    previewed_by c.args.lent c.args.words.now c.args.bytes.now c.args.sheet.now c.args.names.now c.args.text.now c.reply_to-reply.result c.reply_to-reply.ensures.told
    (λ n a. search (rules, of_calls))
    (λ e. let none = c.reply_to-reply.ensures.none e in (none.0, none.1))
    c.with_session.ensures.told c.with_session.ensures.none
