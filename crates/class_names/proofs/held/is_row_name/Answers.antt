use Rattle.std.proofs.Common.{◌≡◌, sym, ◌∙◌}
use Rattle.ast.specs.Kind.{kind_number}
use Rattle.ast.specs.declared.kind.Kind.TheVariants.{Field}
use Rattle.ast.proofs.KindLaws.{same_kind}
use borrow.Author.Tests.{eqb-true, eqb-false}
use Rattle.store.specs.Stored.{store_of}
use Rattle.class_names.proofs.NameLaws.{row_listed, row_stored, row_none}
use Rattle.class_names.proofs.held.is_row_name.Goals as goal

pub returns-then-has_named : goal.returns-then-has_named
returns-then-has_named c =
    λ o. c.if-has_named.true ∙ row_listed c.args.tables.sheet.now (store_of o c.args.tables.results.now c.args.tables.nodes.now) (kind_number c.args.kind) c.args.row c.args.m
    (sym c.if-has_named.true ∙ c.has_named.ensures)

pub returns-then-eq : goal.returns-then-eq
returns-then-eq c =
    let e : kind_number c.args.kind ≡ 10 = eqb-true (kind_number c.args.kind) 10 (sym (same_kind c.args.kind Field) ∙ sym c.eq.ensures ∙ c.if-eq.true) in
    λ o. row_stored c.args.tables.sheet.now (store_of o c.args.tables.results.now c.args.tables.nodes.now) (kind_number c.args.kind) c.args.row c.args.m
    (sym c.if-has_named.false ∙ c.has_named.ensures) e c.word.ensures c.has_key.ensures

pub returns-else-eq : goal.returns-else-eq
returns-else-eq c =
    let f : (kind_number c.args.kind ≡ 10 → ⊥) = eqb-false (kind_number c.args.kind) 10 (sym (same_kind c.args.kind Field) ∙ sym c.eq.ensures ∙ c.if-eq.false) in
    λ o. c.if-eq.false ∙ row_none c.args.tables.sheet.now (store_of o c.args.tables.results.now c.args.tables.nodes.now) (kind_number c.args.kind) c.args.row c.args.m
    (sym c.if-has_named.false ∙ c.has_named.ensures) f
