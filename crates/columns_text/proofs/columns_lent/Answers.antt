-- `columns_lent` meets its contract. Assumes nothing.
use Rattle.std.proofs.Common.{rules, of_calls}
use mathlib.Core.Path.{◌≡◌, sym, subst}
use Prim.Native.Nat.{ℕ}
use lib.ListN.{length}
use Rattle.report.specs.Report.{Begins, reply}
use Rattle.report.proofs.Laws.{replied_by}
use Rattle.columns.specs.Columns.{Rearranged}
use Rattle.columns.specs.Ways.{way_of, opposite}
use Rattle.columns_text.specs.Reply.{told_by, printed_columns}
use Rattle.columns_text.proofs.ReplyLaws.{few_rows, printed_columns_lem, replied_text}
use Rattle.columns_text.proofs.columns_lent.Goals as goal

pub reply_to-requires-clause-few : goal.reply_to-requires-clause-few
reply_to-requires-clause-few c rows out x out' s e called =
    let a : (q : ℕ) × (x ≡ told_by q c.args.lent) = search (rules, of_calls) in
    few_rows _ a.1

pub returns : goal.returns
returns c =
    let lent = c.args.lent in
    let told = printed_columns c.args.way lent c.args.sheet.now in
    replied_text
    (subst (λ (n : ℕ). Begins (reply lent (length c.args.text.now) told) c.args.text.now n c.reply_to.new.text) (sym c.unwrap_or.ensures)
    (replied_by lent told c.args.text.now c.reply_to.result c.reply_to.ensures.told
    (λ n low r.
    let a : (q : ℕ) × (Rearranged (way_of c.args.way) (way_of (opposite c.args.way)) r.rows.now (length r.out.now) q r.out'.now) × (r.x ≡ told_by q lent) =
    search (rules, of_calls) in
    printed_columns_lem c.args.way lent c.args.sheet.now r.k r.words low r.read r.rows_are r.room r.kept a.1 a.2)
    (λ e. let none = c.reply_to.ensures.none e in (none.0, none.1))))
