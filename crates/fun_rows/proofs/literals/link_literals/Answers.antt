use Rattle.fun_rows.proofs.ChainLaws.{chained_none, chained_skip, chained_more, chained_all}
use native.Mathlib.Omega.{arith}
use mathlib.Core.Path.{sym, ◌∙◌}
use Rattle.fun_rows.proofs.literals.link_literals.Goals as goal

pub loop-l-init : goal.loop-l-init
loop-l-init c = (
  omega arith,
  chained_none c.args.sheet.now c.args.results.now c.args.first.now
      c.args.after.now c.requires.3 c.requires.4 c.requires.2,
)

pub loop-l-preserved-then-is_reached : goal.loop-l-preserved-then-is_reached
loop-l-preserved-then-is_reached c = (
  omega (arith, c.loop-l.invariant.0),
  chained_more c.args.sheet.now c.args.results.now c.loop-l.first c.loop-l.after _ _ c.loop-l.l
      _ _ c.loop-l-test.true c.loop-l.invariant.0 c.loop-l.invariant.1 (sym c.if-is_reached.true ∙ c.is_reached.ensures) c.word-fun.ensures
      c.entry_at.ensures c.put_entry.ensures c.put_entry-then-is_reached.ensures,
)

pub loop-l-preserved : goal.loop-l-preserved
loop-l-preserved c = (
  omega (arith, c.loop-l.invariant.0),
  chained_skip c.args.sheet.now c.args.results.now c.loop-l.first c.loop-l.after c.loop-l.l
      c.loop-l-test.true c.loop-l.invariant.0 c.loop-l.invariant.1
      (sym c.if-is_reached.false ∙ c.is_reached.ensures),
)

pub returns : goal.returns
returns c =
    chained_all c.args.sheet.now c.args.results.now c.loop-l.first c.loop-l.after c.loop-l.l
    c.loop-l-test.false c.requires.1 c.loop-l.invariant.1
