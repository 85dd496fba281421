use Rattle.std.proofs.Common.{ap, refl, map, ◌∙◌, [], ◌∷◌, rules}
use Rattle.sheet.specs.Rest.{kind_left}
use Rattle.walk.specs.WalkState.{state_of}
use Rattle.walk.proofs.StepLaws.{after_err, is_refused}
use Rattle.walk.proofs.RunLaws.{loop_on, loop_no, loop_end}
use Rattle.imports.proofs.ImportLaws.{brought_row, row_brought}
use Rattle.imports.proofs.import_kind.Goals as goal

pub loop-export-preserved : goal.loop-export-preserved
loop-export-preserved c =
    let s = c.args.walk.now.sheet.now in
    let same = ap (λ b. b.now) c.loop-export.invariant.1.sheet in (
      λ O. loop_on O s s (brought_row s c.args.i c.in-Some.export ∷ []) (map (brought_row s c.args.i) (kind_left c.next.new.self)) (state_of c.loop-export.walk) _ refl
          (ap (map (brought_row s c.args.i)) c.in-Some.ensures.steps) (row_brought O same c.in-Some.export _ c.args.i c.word-name.ensures (c.in_ok-bring.ensures.step O)) (c.loop-export.invariant.0 O),
      search rules,
    )

pub returns-in_err-bring-clause-step : goal.returns-in_err-bring-clause-step
returns-in_err-bring-clause-step c =
    let s = c.args.walk.now.sheet.now in
    let same = ap (λ b. b.now) c.loop-export.invariant.1.sheet in
    λ O. after_err c.bring.new.walk _ c.in_err-bring.field-0.0 c.from_residual.ensures.1
    ∙ loop_no O s s (brought_row s c.args.i c.in-Some.export ∷ []) (map (brought_row s c.args.i) (kind_left c.next.new.self)) (state_of c.loop-export.walk) _ refl
    (ap (map (brought_row s c.args.i)) c.in-Some.ensures.steps) (row_brought O same c.in-Some.export _ c.args.i c.word-name.ensures (c.in_err-bring.ensures.step O))
    (c.loop-export.invariant.0 O) (is_refused c.in_err-bring.field-0.0)

pub returns-clause-step : goal.returns-clause-step
returns-clause-step c =
    λ O. loop_end O c.args.walk.now.sheet.now (state_of c.loop-export.walk) (ap (map (brought_row c.args.walk.now.sheet.now c.args.i)) c.in-None.ensures.steps.0)
    (c.loop-export.invariant.0 O)
