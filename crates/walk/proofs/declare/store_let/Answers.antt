use Rattle.walk.proofs.DeclareLaws.{let_stored}
use Rattle.store.proofs.CodeLaws.{told_four}
use Rattle.store.specs.Stored.{store_of}
use Rattle.symbols.specs.OpenScopes.{scopes_of}
use Rattle.machine.proofs.ByKind.{store_other}
use borrow.Author.Tests.{eqb-true}
use mathlib.Core.Path.{sym, ◌∙◌}
use Rattle.walk.proofs.declare.store_let.Goals as goal

pub returns-then-not-is_kind : goal.returns-then-not-is_kind
returns-then-not-is_kind c =
    λ O o v q e. sym (store_other O c.args.sheet.now (scopes_of c.args.env v)
    (store_of o c.args.results.now q) c.args.row
    (sym c.is_kind.ensures ∙ c.if-not-is_kind.true))

pub returns : goal.returns
returns c =
    λ O o v q e. let_stored O c.args.sheet.now c.args.row (scopes_of c.args.env v)
    (store_of o c.args.results.now q) c.args.d _ _ _ (eqb-true _ 29 (sym c.is_kind.ensures ∙ c.if-not-is_kind.false)) e
    (c.count_local.ensures o q) (told_four c.code_of.result ∙ c.code_of.ensures _ _)
    (c.write_decl.ensures o q)
