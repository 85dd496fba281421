use Rattle.std.proofs.Common.{◌≡◌, ap, arith, ◌∙◌, rules}
use Rattle.definition.specs.Sheet.{kind}
use Rattle.ast.specs.declared.kind.Kind.TheVariants.{Unit, Function, Block, For, Let, Assign, Break, Continue, Identifier, HostConstant, Literal, Instanceof}
use Rattle.ast.specs.Kind.{kind_number}
use Rattle.definition.specs.Walk.{leave, visit, after}
use Rattle.walk.specs.WalkState.{state_of}
use Rattle.row_events.proofs.RowLaws.{runs_none, runs_one, after_scope, after_jump, after_assign, after_ident, after_host, after_function, after_instanceof, after_none, other_kind}
use Rattle.row_events.proofs.after.Goals as goal

pub returns-in_default-clause-step : goal.returns-in_default-clause-step
returns-in_default-clause-step c =
    let s = c.args.walk.now.sheet.now in
    let no = c.in_default.ensures.1 in
    λ O. runs_none O s (after s c.args.row) (state_of c.args.walk.now)
    (after_none s c.args.row (no Unit) (no Function) (no Block) (no For) (no Let) (no Assign) (no Break) (no Continue) (no Identifier) (no HostConstant) (no Literal) (no Instanceof))

pub returns-in-Unit-clause-step : goal.returns-in-Unit-clause-step
returns-in-Unit-clause-step c =
    let s = c.args.walk.now.sheet.now in
    λ O. runs_one O s (after s c.args.row) leave (state_of c.args.walk.now) (after_scope s c.args.row c.in-Ok.kind c.in-Ok.ensures c.in-Unit.is) (c.close_scope.ensures.step O)

pub returns-in-Assign-clause-step : goal.returns-in-Assign-clause-step
returns-in-Assign-clause-step c =
    let s = c.args.walk.now.sheet.now in
    λ O. runs_one O s (after s c.args.row) (visit c.args.row) (state_of c.args.walk.now) (after_assign s c.args.row (c.in-Ok.ensures ∙ ap kind_number c.in-Assign.is)) (c.check_assign.ensures.step O)

pub returns-in-Break-clause-step : goal.returns-in-Break-clause-step
returns-in-Break-clause-step c =
    let s = c.args.walk.now.sheet.now in
    λ O. runs_one O s (after s c.args.row) (visit c.args.row) (state_of c.args.walk.now) (after_jump s c.args.row c.in-Ok.kind c.in-Ok.ensures c.in-Break.is) (c.check_jump.ensures O)

pub returns-in-Identifier-clause-step : goal.returns-in-Identifier-clause-step
returns-in-Identifier-clause-step c =
    let s = c.args.walk.now.sheet.now in
    λ O. runs_one O s (after s c.args.row) (visit c.args.row) (state_of c.args.walk.now) (after_ident s c.args.row (c.in-Ok.ensures ∙ ap kind_number c.in-Identifier.is))
    (c.resolve_ident.ensures.step O)

pub returns-in-HostConstant-clause-step : goal.returns-in-HostConstant-clause-step
returns-in-HostConstant-clause-step c =
    let s = c.args.walk.now.sheet.now in
    λ O. runs_one O s (after s c.args.row) (visit c.args.row) (state_of c.args.walk.now) (after_host s c.args.row (c.in-Ok.ensures ∙ ap kind_number c.in-HostConstant.is))
    (c.resolve_host_const.ensures.step O)

pub returns-in-Literal-clause-step : goal.returns-in-Literal-clause-step
returns-in-Literal-clause-step c =
    let s = c.args.walk.now.sheet.now in
    λ O. runs_one O s (after s c.args.row) (visit c.args.row) (state_of c.args.walk.now) (after_function s c.args.row (c.in-Ok.ensures ∙ ap kind_number c.in-Literal.is))
    (c.note_literal.ensures.step O)

pub returns-in-Instanceof-clause-step : goal.returns-in-Instanceof-clause-step
returns-in-Instanceof-clause-step c =
    let s = c.args.walk.now.sheet.now in
    λ O. runs_one O s (after s c.args.row) (visit c.args.row) (state_of c.args.walk.now) (after_instanceof s c.args.row (c.in-Ok.ensures ∙ ap kind_number c.in-Instanceof.is))
    (c.check_instanceof.ensures.step O)

pub returns-in_default-kind : goal.returns-in_default-kind
returns-in_default-kind c =
    let s = c.args.walk.now.sheet.now in
    let no = other_kind c.in-Ok.kind in
    record {
      step = λ O. runs_none O s (after s c.args.row) (state_of c.args.walk.now)
          (after_none s c.args.row (no Unit c.in-Ok.ensures c.in_default-kind.not-Unit) (no Function c.in-Ok.ensures c.in_default-kind.not-Function)
          (no Block c.in-Ok.ensures c.in_default-kind.not-Block) (no For c.in-Ok.ensures c.in_default-kind.not-For)
          (no Let c.in-Ok.ensures c.in_default-kind.not-Let) (no Assign c.in-Ok.ensures c.in_default-kind.not-Assign) (no Break c.in-Ok.ensures c.in_default-kind.not-Break)
          (no Continue c.in-Ok.ensures c.in_default-kind.not-Continue)
          (no Identifier c.in-Ok.ensures c.in_default-kind.not-Identifier)
          (no HostConstant c.in-Ok.ensures c.in_default-kind.not-HostConstant)
          (no Literal c.in-Ok.ensures c.in_default-kind.not-Literal)
          (no Instanceof c.in-Ok.ensures c.in_default-kind.not-Instanceof));
      same = search rules;
    }

pub check_assign-requires : goal.check_assign-requires
check_assign-requires c =
    let k : kind c.args.walk.now.sheet.now c.args.row ≡ 21 = c.in-Ok.ensures ∙ ap kind_number c.in-Assign.is in
    ((c.requires.1 (omega (arith, k))).classes, k)
