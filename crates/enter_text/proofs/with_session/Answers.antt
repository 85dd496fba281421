-- `with_session` meets its contract: the reply, and the session's row after it. Assumes nothing.
use mathlib.Core.Path.{sym, subst}
use mathlib.Core.List.{List, ◌++◌}
use Prim.Native.Nat.{ℕ, ◌+◌, ◌-◌}
use lib.ListN.{length}
use borrow.Rule.Slice.PartMut.{put_mid}
use Rattle.std.specs.Prelude.{Option}
use Rattle.std.specs.Option.{IfSome}
use Rattle.report.specs.Report.{Begins}
use Rattle.report.proofs.Laws.{begins_more}
use Rattle.enter_text.specs.Reply.{session_row}
use Rattle.enter_text.proofs.with_session.Goals as goal

pub returns-clause-told : goal.returns-clause-told
returns-clause-told c =
    let n = c.in-Some.n in
    let m = length c.args.text.now - n in
    subst (λ (r : Option ℕ). IfSome r (λ k. (told before : List ℕ) → Begins told before k c.args.text.now
    → Begins (told ++ session_row c.args.words.now) before (n + 81) (put_mid n m c.args.text.now c.print_session.new.text))) (sym c.in-Some.is)
    (λ told before h. begins_more h c.print_session.ensures)
