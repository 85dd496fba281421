-- `resolve_lent` meets its contract. Assumes nothing.
use Rattle.std.proofs.Common.{rules, of_calls}
use mathlib.Core.Path.{sym, subst}
use Prim.Native.Nat.{ℕ}
use native.Mathlib.Omega.{arith}
use lib.ListN.{length}
use Rattle.report.specs.Report.{Begins, reply}
use Rattle.report.proofs.Laws.{replied_by}
use Rattle.resolver.specs.Answered.{Answered}
use Rattle.resolve_text.specs.Report.{printed_with}
use Rattle.resolve_text.proofs.ReportLaws.{few_rows, printed_report}
use Rattle.resolve_text.proofs.Longer.{replied_texts}
use Rattle.resolve_text.proofs.resolve_lent.Goals as goal

pub reply_to-requires-clause-few : goal.reply_to-requires-clause-few
reply_to-requires-clause-few c rows out x out' s e called =
    let a : Answered rows.now c.args.names.now (length out.now) x out'.now = search (rules, of_calls) in
    omega (arith, few_rows a, e)

pub returns : goal.returns
returns c =
    let lent = c.args.lent in
    let told = printed_with lent c.args.sheet.now c.args.names.now in
    replied_texts
    (subst (λ (n : ℕ). Begins (reply lent (length c.args.text.now) told) c.args.text.now n c.reply_to.new.text) (sym c.unwrap_or.ensures)
    (replied_by lent told c.args.text.now c.reply_to.result c.reply_to.ensures.told
    (λ n low r.
    let a : Answered r.rows.now c.args.names.now (length r.out.now) r.x r.out'.now = search (rules, of_calls) in
    printed_report lent c.args.sheet.now c.args.names.now r.k r.words low r.read r.rows_are r.room a)
    (λ e. let none = c.reply_to.ensures.none e in (none.0, none.1))))
