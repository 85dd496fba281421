use Rattle.std.proofs.Common.{refl, sym, ap, ◌∙◌}
use Rattle.definition.specs.Meaning.{is_declared}
use Rattle.sheet.specs.Exports.{export_of}
use Rattle.symbols.specs.OpenDecls.{meant}
use Rattle.symbols.proofs.DeclLaws.{means_declared}
use Rattle.walk.specs.WalkState.{state_of, scopes_in}
use Rattle.imports.proofs.ImportLaws.{bring_none, bring_taken, bring_new}
use Rattle.imports.proofs.bring.Goals as goal

pub returns-in_default-clause-step : goal.returns-in_default-clause-step
returns-in_default-clause-step c =
    let s = c.args.walk.now.sheet.now in
    λ O. bring_none O s c.args.i c.args.m (export_of s c.args.x) (state_of c.args.walk.now) refl
    (ap is_declared (sym c.exported.ensures.value) ∙ ap (λ o. is_declared (meant o)) c.in_default.is) refl

pub returns-then-has_local-clause-step : goal.returns-then-has_local-clause-step
returns-then-has_local-clause-step c =
    let s = c.args.walk.now.sheet.now in
    let declared = ap is_declared (sym c.exported.ensures.value ∙ ap meant c.in-Some.is) ∙ means_declared c.in-Some.d in
    λ O. bring_taken O s c.args.i c.args.m (export_of s c.args.x) (state_of c.args.walk.now) refl declared (sym c.has_local.ensures ∙ c.if-has_local.true) refl

pub returns-clause-step : goal.returns-clause-step
returns-clause-step c =
    let s = c.args.walk.now.sheet.now in
    let k = export_of s c.args.x in
    let declared = ap is_declared (sym c.exported.ensures.value ∙ ap meant c.in-Some.is) ∙ means_declared c.in-Some.d in
    λ O. bring_new O s c.args.i c.args.m k (state_of c.args.walk.now) refl declared (sym c.has_local.ensures ∙ c.if-has_local.false)
    (c.define-walk.ensures k (c.exported.ensures.stands c.in-Some.d (scopes_in c.args.walk.now) c.in-Some.is))
