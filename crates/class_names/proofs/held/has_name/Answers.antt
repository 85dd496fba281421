use Rattle.std.proofs.Common.{◌≡◌, sym, ◌∙◌, ◌+◌, ◌-◌, arith}
use Rattle.ast.specs.Kind.{kind_number}
use Rattle.store.specs.Stored.{store_of}
use Rattle.outside.specs.Words.{over}
use Rattle.class_names.proofs.NameLaws.{names_own, names_top, names_up, names_none}
use Rattle.class_names.proofs.held.has_name.Goals as goal

pub returns-then-is_own : goal.returns-then-is_own
returns-then-is_own c =
    λ o. names_own (over c.args.tables.outside.now) c.args.tables.sheet.now (store_of o c.args.tables.results.now c.args.tables.nodes.now) (kind_number c.args.kind) (c.args.n -
    c.loop.counter) c.loop.class.0
    c.args.m (omega (arith, c.loop-test.true)) (sym c.if-is_own.true ∙ c.is_own.ensures o)
    ∙ c.loop.invariant o

pub returns-then-class-eq0 : goal.returns-then-class-eq0
returns-then-class-eq0 c =
    λ o. names_top (over c.args.tables.outside.now) c.args.tables.sheet.now (store_of o c.args.tables.results.now c.args.tables.nodes.now) (kind_number c.args.kind) (c.args.n -
    c.loop.counter) c.loop.class.0
    c.args.m (omega (arith, c.loop-test.true)) (sym c.if-is_own.false ∙ c.is_own.ensures o) (c.parent_of-class.ensures o c.args.tables.nodes.now) c.if-class-eq0.true
    ∙ c.loop.invariant o

pub loop-preserved : goal.loop-preserved
loop-preserved c =
    let e : c.args.n - (c.loop.counter + 1) ≡ c.args.n - c.loop.counter - 1 = omega arith in
    λ o. rw e (names_up (over c.args.tables.outside.now) c.args.tables.sheet.now (store_of o c.args.tables.results.now c.args.tables.nodes.now) (kind_number c.args.kind) (c.args.n -
    c.loop.counter) c.loop.class.0
    c.args.m (omega (arith, c.loop-test.true)) (sym c.if-is_own.false ∙ c.is_own.ensures o) (c.parent_of-class.ensures o c.args.tables.nodes.now) c.if-class-eq0.false
    ∙ c.loop.invariant o)

pub returns : goal.returns
returns c =
    λ o. names_none (over c.args.tables.outside.now) c.args.tables.sheet.now (store_of o c.args.tables.results.now c.args.tables.nodes.now) (kind_number c.args.kind) (c.args.n -
    c.loop.counter) c.loop.class.0
    c.args.m (omega (arith, c.loop-test.false))
    ∙ c.loop.invariant o
