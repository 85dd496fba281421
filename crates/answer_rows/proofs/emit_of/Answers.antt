use denote.Enum.Declared.{tag_of}
use Rattle.ast.specs.contracts.kind.Kind.{the_type}
use Rattle.ast.proofs.KindLaws.{kind_of_number}
use native.Mathlib.Omega.{arith}
use Rattle.std.proofs.Common.{Err}
use Rattle.ast.specs.Kind.{ReadsKind}
use Rattle.class_names.specs.Read.{outside_in, store_in}
use Rattle.ast.specs.declared.kind.Kind.TheVariants.{Let, HostConstant, Instanceof, Identifier, Member, Literal, Function, Class}
use Rattle.ast.specs.Kind.{kind_number}
use Rattle.outside.specs.Words.{over}
use Rattle.answer_rows.proofs.RowLaws.{rows_let, rows_host, rows_instance, rows_identifier, rows_member}
use Rattle.answer_rows.proofs.RowLaws.{rows_literal, rows_function, rows_class, rows_none}
use Rattle.store.specs.Stored.{store_of}
use Rattle.sink.specs.Sink.{emit_all}
use Rattle.sink.specs.Written.{written}
use mathlib.Core.Path.{◌≡◌, refl, sym, ap, ◌∙◌}
use Rattle.definition.specs.Answer.{eight}
use Rattle.definition.proofs.Lists.Tests.{eqb_of}
use Rattle.definition.specs.Sheet.{kind}
use mathlib.Core.List.{List, ◌∷◌, map}
use Prim.Native.Nat.{ℕ}
use Rattle.after.specs.Rows.{rows_in}
use Rattle.class_rows.proofs.PlaceLaws.{placed_kept}
use Rattle.sink.proofs.SinkLaws.{emit_one}
use Rattle.store.specs.declared.nodes.Store.{Store}
use Rattle.answer_rows.proofs.emit_of.Goals as goal

-- the counters of a store say nothing about its rows
no_counts : Store
no_counts = record { used = 0; calls = 0 }

pub emit_class-requires : goal.emit_class-requires
emit_class-requires c =
    let ready = c.requires.0 in
    let t =
    eqb_of (kind c.args.tables.sheet.now c.args.row) 4
    (c.in-Ok-Class.ensures ∙ ap kind_number c.in-Ok-Class.field-0-is) in (
      record {
        row = c.requires.1;
        short = ready.small;
        marked = ready.marked;
        fields = ready.fields c.args.row t;
        methods = ready.methods c.args.row t;
      },
      c.requires.2,
    )

pub returns-in-Ok-Let-clause-placed : goal.returns-in-Ok-Let-clause-placed
returns-in-Ok-Let-clause-placed c = placed_kept c.requires.2 _ (emit_one _ _ c.emit_row.ensures.step)

pub returns-in-Ok-HostConstant-clause-placed : goal.returns-in-Ok-HostConstant-clause-placed
returns-in-Ok-HostConstant-clause-placed c = placed_kept c.requires.2 _ (emit_one _ _ c.emit_row-in-Ok-HostConstant.ensures.step)

pub returns-in-Ok-Instanceof-clause-placed : goal.returns-in-Ok-Instanceof-clause-placed
returns-in-Ok-Instanceof-clause-placed c = placed_kept c.requires.2 _ (emit_one _ _ c.emit_row-in-Ok-Instanceof.ensures.step)

pub returns-in-Ok-Identifier-clause-placed : goal.returns-in-Ok-Identifier-clause-placed
returns-in-Ok-Identifier-clause-placed c = placed_kept c.requires.2 _ c.emit_shown.ensures.step

pub returns-in-Ok-Member-clause-placed : goal.returns-in-Ok-Member-clause-placed
returns-in-Ok-Member-clause-placed c = placed_kept c.requires.2 _ c.emit_member.ensures.step

pub returns-in-Ok-Literal-clause-placed : goal.returns-in-Ok-Literal-clause-placed
returns-in-Ok-Literal-clause-placed c = placed_kept c.requires.2 _ (c.emit_literal.ensures.step no_counts)

pub returns-in-Ok-Function-clause-placed : goal.returns-in-Ok-Function-clause-placed
returns-in-Ok-Function-clause-placed c = placed_kept c.requires.2 _ (c.emit_function.ensures.step no_counts)

pub returns-in-Ok-Class-clause-step : goal.returns-in-Ok-Class-clause-step
returns-in-Ok-Class-clause-step c =
    let k = written c.args.out.now in
    let kind_is_lem = c.in-Ok-Class.ensures ∙ ap kind_number c.in-Ok-Class.field-0-is in
    λ o. rows_class (over c.args.tables.outside.now) c.args.tables.sheet.now
    (store_of o c.args.tables.results.now c.args.tables.nodes.now) c.args.row k kind_is_lem
    (c.emit_class.ensures.step o
    ∙ ap (λ (l : List (List ℕ)). emit_all (map (λ vs. eight (c.args.row ∷ vs)) l) k)
    (c.requires.0.named c.args.row o))

pub returns-in_default : goal.returns-in_default
returns-in_default c =
    let step : (o : Store) → written c.args.out.now ≡ emit_all (rows_in (over c.args.tables.outside.now) c.args.tables.sheet.now (store_in c.args.tables o) c.args.row) (written c.args.out.now) =
    λ o. rows_none (outside_in c.args.tables) c.args.tables.sheet.now (store_in c.args.tables o) c.args.row (written c.args.out.now)
    (λ e. omega (arith, ap (tag_of the_type) (kind_of_number _ Let (sym c.in_default.ensures ∙ e))))
    (λ e. omega (arith, ap (tag_of the_type) (kind_of_number _ HostConstant (sym c.in_default.ensures ∙ e))))
    (λ e. omega (arith, ap (tag_of the_type) (kind_of_number _ Instanceof (sym c.in_default.ensures ∙ e))))
    (λ e. omega (arith, ap (tag_of the_type) (kind_of_number _ Identifier (sym c.in_default.ensures ∙ e))))
    (λ e. omega (arith, ap (tag_of the_type) (kind_of_number _ Member (sym c.in_default.ensures ∙ e))))
    (λ e. omega (arith, ap (tag_of the_type) (kind_of_number _ Literal (sym c.in_default.ensures ∙ e))))
    (λ e. omega (arith, ap (tag_of the_type) (kind_of_number _ Function (sym c.in_default.ensures ∙ e))))
    (λ e. omega (arith, ap (tag_of the_type) (kind_of_number _ Class (sym c.in_default.ensures ∙ e)))) in
    record { step = step; placed = placed_kept c.requires.2 _ (step no_counts); same = refl }

pub returns-in_default-2 : goal.returns-in_default-2
returns-in_default-2 c =
    let told : ReadsKind (kind c.args.tables.sheet.now c.args.row) (Err c.in_default.field-0) = rw c.in_default.is at c.kind_at.ensures in
    let other = told.1 in
    let step : (o : Store) → written c.args.out.now ≡ emit_all (rows_in (over c.args.tables.outside.now) c.args.tables.sheet.now (store_in c.args.tables o) c.args.row) (written c.args.out.now) =
    λ o. rows_none (outside_in c.args.tables) c.args.tables.sheet.now (store_in c.args.tables o) c.args.row (written c.args.out.now)
    (other Let) (other HostConstant) (other Instanceof) (other Identifier) (other Member) (other Literal) (other Function) (other Class) in
    record { step = step; placed = placed_kept c.requires.2 _ (step no_counts); same = refl }
