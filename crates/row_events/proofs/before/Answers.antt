use Rattle.std.proofs.Common.{ap, ◌∙◌, rules}
use Rattle.ast.specs.declared.kind.Kind.TheVariants.{Unit, Function, Block, For, ClassDeclaration}
use Rattle.ast.specs.Kind.{kind_number}
use Rattle.definition.specs.Walk.{enter, visit, before}
use Rattle.walk.specs.WalkState.{state_of}
use Rattle.row_events.proofs.RowLaws.{runs_none, runs_one, before_for, before_class, before_none, other_kind}
use Rattle.row_events.proofs.before.Goals as goal

pub returns-in_default-clause-step : goal.returns-in_default-clause-step
returns-in_default-clause-step c =
    let s = c.args.walk.now.sheet.now in
    let no = c.in_default.ensures.1 in
    λ O. runs_none O s (before s c.args.row) (state_of c.args.walk.now) (before_none s c.args.row (no Unit) (no Function) (no Block) (no For) (no ClassDeclaration))

pub returns-in-For-clause-step : goal.returns-in-For-clause-step
returns-in-For-clause-step c =
    let s = c.args.walk.now.sheet.now in
    λ O. runs_one O s (before s c.args.row) (enter c.args.row) (state_of c.args.walk.now) (before_for s c.args.row (c.in-Ok.ensures ∙ ap kind_number c.in-For.is)) (c.open_scope.ensures.step O)

pub returns-in-ClassDeclaration-clause-step : goal.returns-in-ClassDeclaration-clause-step
returns-in-ClassDeclaration-clause-step c =
    let s = c.args.walk.now.sheet.now in
    λ O. runs_one O s (before s c.args.row) (visit c.args.row) (state_of c.args.walk.now) (before_class s c.args.row (c.in-Ok.ensures ∙ ap kind_number c.in-ClassDeclaration.is))
    (c.resolve_parent.ensures.step O)

pub returns-in_default-kind : goal.returns-in_default-kind
returns-in_default-kind c =
    let s = c.args.walk.now.sheet.now in
    let no = other_kind c.in-Ok.kind in
    record {
      step = λ O. runs_none O s (before s c.args.row) (state_of c.args.walk.now)
          (before_none s c.args.row (no Unit c.in-Ok.ensures c.in_default-kind.not-Unit) (no Function c.in-Ok.ensures c.in_default-kind.not-Function)
          (no Block c.in-Ok.ensures c.in_default-kind.not-Block)
          (no For c.in-Ok.ensures c.in_default-kind.not-For) (no ClassDeclaration c.in-Ok.ensures c.in_default-kind.not-ClassDeclaration));
      same = search rules;
    }
