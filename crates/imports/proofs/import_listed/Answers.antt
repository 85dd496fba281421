use Rattle.std.proofs.Common.{ap, refl, map, ◌∙◌, [], ◌∷◌, rules}
use Rattle.sheet.specs.Exports.{export_of}
use Rattle.sheet.specs.Rest.{rows_left}
use Rattle.walk.specs.WalkState.{state_of}
use Rattle.walk.proofs.StepLaws.{after_err, is_refused}
use Rattle.walk.proofs.RunLaws.{loop_on, loop_no, loop_end}
use Rattle.imports.proofs.ImportLaws.{brought_listed, listed_brought}
use Rattle.imports.proofs.import_listed.Goals as goal

pub loop-listed-preserved : goal.loop-listed-preserved
loop-listed-preserved c =
    let s = c.args.walk.now.sheet.now in
    let same = ap (λ b. b.now) c.loop-listed.invariant.1.sheet in (
      λ O. loop_on O s s (brought_listed s c.args.u c.args.i c.in-Some.listed ∷ []) (map (brought_listed s c.args.u c.args.i) (rows_left c.next.new.self)) (state_of c.loop-listed.walk) _ refl
          (ap (map (brought_listed s c.args.u c.args.i)) c.in-Some.ensures.steps)
          (listed_brought O same c.in-Some.listed _ c.args.u c.args.i c.word-name.ensures (ap (export_of c.loop-listed.walk.sheet.now) c.unwrap_or-export.ensures ∙ c.find_export.ensures)
          (c.in_ok-bring.ensures.step O)) (c.loop-listed.invariant.0 O),
      search rules,
    )

pub returns-in_err-bring-clause-step : goal.returns-in_err-bring-clause-step
returns-in_err-bring-clause-step c =
    let s = c.args.walk.now.sheet.now in
    let same = ap (λ b. b.now) c.loop-listed.invariant.1.sheet in
    λ O. after_err c.bring.new.walk _ c.in_err-bring.field-0.0 c.from_residual.ensures.1
    ∙ loop_no O s s (brought_listed s c.args.u c.args.i c.in-Some.listed ∷ []) (map (brought_listed s c.args.u c.args.i) (rows_left c.next.new.self)) (state_of c.loop-listed.walk) _ refl
    (ap (map (brought_listed s c.args.u c.args.i)) c.in-Some.ensures.steps)
    (listed_brought O same c.in-Some.listed _ c.args.u c.args.i c.word-name.ensures (ap (export_of c.loop-listed.walk.sheet.now) c.unwrap_or-export.ensures ∙ c.find_export.ensures)
    (c.in_err-bring.ensures.step O)) (c.loop-listed.invariant.0 O) (is_refused c.in_err-bring.field-0.0)

pub returns-clause-step : goal.returns-clause-step
returns-clause-step c =
    λ O. loop_end O c.args.walk.now.sheet.now (state_of c.loop-listed.walk) (ap (map (brought_listed c.args.walk.now.sheet.now c.args.u c.args.i)) c.in-None.ensures.steps.0)
    (c.loop-listed.invariant.0 O)
