use Rattle.std.proofs.Common.{ap, ◌∙◌, length, List, ℕ, map}
use Rattle.fun_rows.proofs.EscapeLaws.{function_rows_lem, slot_row}
use Rattle.class_names.specs.Read.{store_in}
use Rattle.sink.specs.Sink.{emit_all}
use Rattle.sink.specs.Written.{written}
use Rattle.fun_rows.proofs.emit_function.Goals as goal

pub returns-clause-step : goal.returns-clause-step
returns-clause-step c =
    λ o.
    let e = c.of-escaping.ensures o in
    function_rows_lem c.args.tables.sheet.now (store_in c.args.tables o) c.args.f.0 _ _ _ _ (written c.args.out.now) c.word-last.ensures c.word.ensures
    c.count_nodes.ensures (c.number.ensures ∙ ap length e) c.push.ensures.step c.emit_captured.ensures.step
    (c.emit_escapes.ensures.step ∙ ap (λ (ns : List ℕ). emit_all (map (slot_row c.args.f.0) ns) (written c.emit_captured.new.out)) e)
