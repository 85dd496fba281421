use denote.Ref.{Bor, MutBor}
use Rattle.std.proofs.Common.{rules, of_calls}
use mathlib.Core.Path.{◌≡◌, ap, sym, subst, ◌∙◌}
use mathlib.Core.List.{List}
use Prim.Native.Nat.{ℕ, ◌+◌, ◌-◌, ◌*◌, ◌≤◌}
use native.Mathlib.Omega.{arith}
use lib.ListN.{length, take, drop, replicate, length-drop, length-replicate}
use lib.Seq.{length-take-le}
use Rattle.text.specs.Reading.{SheetRead}
use Rattle.text.proofs.Longer.{read_few}
use Rattle.report.specs.Report.{Begins}
use Rattle.report.specs.Asked.{report_text}
use Rattle.report.proofs.Laws.{asked_printed}
use borrow.Rule.Slice.PartMut.{same_len_mid}
use Rattle.report.proofs.reply_to.Goals as goal

pub overflow_mul-words : goal.overflow_mul-words
overflow_mul-words g c =
    omega (arith, length-replicate {A = ℕ} 16384 0, read_few _ _ _ c.read_sheet-n.ensures.count)

pub slice_bounds-words-end : goal.slice_bounds-words-end
slice_bounds-words-end g c =
    omega (arith, c.read_sheet-n.auto.words, read_few _ _ _ c.read_sheet-n.ensures.count)

pub slice_bounds-ask-end : goal.slice_bounds-ask-end
slice_bounds-ask-end g c =
    sym (length-take-le _ _ (omega (arith, c.read_sheet-n.auto.words, read_few _ _ _ c.read_sheet-n.ensures.count)))

pub returns-clause-told : goal.returns-clause-told
returns-clause-told g c =
    let m : ℕ = 8 + 8 * c.args.lent - 8 in
    let size = length-replicate {A = ℕ} 16392 0 in
    let lent : length (take m (drop 8 (replicate {A = ℕ} 16392 0))) ≡ 8 * c.args.lent =
    length-take-le m (drop 8 (replicate {A = ℕ} 16392 0)) (omega (arith, length-drop 8 (replicate {A = ℕ} 16392 0), size, c.if-lent.false)) ∙ omega arith in
    let met : (rows : Bor (List ℕ)) × (out : MutBor (List ℕ)) × (out' : MutBor (List ℕ)) × (rows.now ≡ take (8 * c.read_sheet-n.result) c.read_sheet-n.new.words)
    × (out.now ≡ take m (drop 8 (replicate {A = ℕ} 16392 0))) × (out'.now ≡ c.ask-x.new.arg3)
    × goal.F-step g c.args.ask.now rows out c.ask-x.result out' c.ask-x.new.self = search (rules, of_calls) in
    let few : c.ask-x.result.rows ≤ c.args.lent = c.requires.few _ _ _ _ _ (ap length met.4 ∙ lent) met.6 in
    let long : length c.ask-x.new.arg3 ≡ 8 * c.args.lent = c.ask-x.auto.arg3 ∙ lent in (
      omega (arith, c.if-lent.false),
      c.if-text-longest.false,
      record {
        k = c.read_sheet-n.result;
        words = c.read_sheet-n.new.words;
        read = subst (λ (n : ℕ). SheetRead c.args.sheet.now n c.read_sheet-n.result c.read_sheet-n.new.words) (length-replicate {A = ℕ} 16384 0) c.read_sheet-n.ensures;
        rows = met.0;
        rows_are = met.3;
        out = met.1;
        room = ap length met.4 ∙ lent;
        x = c.ask-x.result;
        out' = met.2;
        kept = ap length met.5 ∙ long;
        answer = met.6;
        fits = omega (arith, few, c.if-lent.false, c.print_answer.ensures.count);
        text = subst (λ (o : List ℕ). Begins (report_text c.ask-x.result o) c.args.text.now c.print_answer.result c.print_answer.new.text) (sym met.5)
            (asked_printed c.ask-x.result m (replicate {A = ℕ} 16392 0) c.ask-x.new.arg3 (omega (arith, size)) (omega (arith, few, long)) c.args.text.now _ _ _
            (omega (arith, few, same_len_mid 8 m (replicate {A = ℕ} 16392 0) c.ask-x.new.arg3 c.ask-x.auto.arg3, size, c.if-lent.false)) c.print_answer.ensures);
      },
    )
