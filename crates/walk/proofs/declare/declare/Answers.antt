use Rattle.std.proofs.Common.{refl, sym, ◌∙◌}
use Rattle.machine.specs.Machine.{new_meaning}
use Rattle.walk.specs.WalkState.{state_of}
use Rattle.walk.proofs.DeclareLaws.{declare_no, declare_yes}
use Rattle.walk.proofs.declare.declare.Goals as goal

pub returns-then-has_local-clause-step : goal.returns-then-has_local-clause-step
returns-then-has_local-clause-step c =
    λ O. declare_no O c.args.walk.now.sheet.now c.args.row (state_of c.args.walk.now) refl _ c.word-name.ensures _ c.declare_question.ensures
    (sym c.has_local.ensures ∙ c.if-has_local.true) refl

pub returns-clause-step : goal.returns-clause-step
returns-clause-step c =
    let s = c.args.walk.now.sheet.now in
    let x = state_of c.args.walk.now in
    let e = c.declared_by-d.ensures c.args.walk.now.entries.now in
    λ O. declare_yes O s c.args.row x refl _ c.word-name.ensures (sym c.has_local.ensures ∙ c.if-has_local.false)
    (c.define-walk.ensures (new_meaning s c.args.row x.scopes) e)
    (c.store_let.ensures O c.args.walk.now.store c.args.walk.now.entries.now c.args.walk.now.nodes.now e)
