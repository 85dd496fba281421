use mathlib.Core.Path.{refl, sym, ◌∙◌}
use borrow.Author.Tests.{eqb-true, eqb-false}
use Rattle.definition.specs.Meaning.{class, variable}
use Rattle.symbols.specs.OpenScopes.{scopes_of}
use Rattle.symbols.proofs.DeclLaws.{made, declared_class, declared_parameter}
use Rattle.symbols.proofs.decl.declared_by.Goals as goal

pub returns-then-is_kind-2 : goal.returns-then-is_kind-2
returns-then-is_kind-2 c =
    λ v. made c.args.sheet.now c.args.row (scopes_of c.args.env v) _ (class _)
    (declared_class c.args.sheet.now c.args.row _ (eqb-true _ 4 (sym c.is_kind-2.ensures ∙ c.if-is_kind-2.true))) (record { meaning = refl; next_slot = refl; next_number = refl })

pub returns : goal.returns
returns c =
    λ v. made c.args.sheet.now c.args.row (scopes_of c.args.env v) _ (variable _ _)
    (declared_parameter c.args.sheet.now c.args.row _ (eqb-false _ 4 (sym c.is_kind-2.ensures ∙ c.if-is_kind-2.false))
    (eqb-false _ 29 (sym c.is_kind.ensures ∙ c.if-is_kind.false)))
    (record { meaning = refl; next_slot = refl; next_number = refl })
