-- `write` meets its contract. Invariant of both loops: the places passed are written. Assumes nothing.
use mathlib.Core.Path.{ap, ◌∙◌}
use mathlib.Core.List.{◌++◌}
use Prim.Native.Nat.{ℕ}
use native.Mathlib.Omega.{arith}
use lib.ListN.{drop}
use Rattle.columns.specs.Ways.{way_of}
use Rattle.columns.proofs.Laws.{line_begun, word_written, line_written, all_written}
use Rattle.columns.proofs.write.Goals as goal

pub loop-j-init : goal.loop-j-init
loop-j-init c =
    let size = c.table_size-height.ensures in
    line_begun c.args.way c.args.source.now _ _ size.0 size.1 c.args.target.now (omega arith) c.loop-i.i c.loop-i.target c.loop-i-test.true c.loop-i.invariant

pub loop-j-preserved : goal.loop-j-preserved
loop-j-preserved c =
    let size = c.table_size-height.ensures in
    word_written c.args.way c.args.source.now _ _ size.0 size.1 c.loop-i.target (omega arith) c.loop-i.i c.loop-j.j _ c.loop-j.target c.loop-i-test.true c.loop-j-test.true
    c.loop-j.invariant c.word_of.ensures

pub loop-i-preserved : goal.loop-i-preserved
loop-i-preserved c =
    let size = c.table_size-height.ensures in
    line_written c.args.way c.args.source.now _ _ size.0 size.1 c.args.target.now (omega arith) c.loop-i.i c.loop-j.j c.loop-j.target c.loop-i.target c.loop-i-test.true
    c.loop-j-test.false (omega arith) c.loop-i.invariant c.loop-j.invariant

pub returns : goal.returns
returns c =
    let size = c.table_size-height.ensures in
    all_written c.args.way c.args.source.now _ _ size.0 size.1 c.args.target.now (omega arith) c.loop-i.i c.loop-i.target c.loop-i-test.false (omega arith) c.loop-i.invariant
    ∙ ap (λ (k : ℕ). way_of c.args.way c.args.source.now ++ drop k c.args.target.now) c.requires.0
