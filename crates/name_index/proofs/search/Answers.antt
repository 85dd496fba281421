-- `name_index::search` meets its contract. Invariant: the walk has passed the places read. Assumes nothing.
use Rattle.std.proofs.Common.{arith, ap, ◌∙◌}
use Rattle.definition.specs.Names.{same_name}
use Rattle.name_index.specs.Index.{found_number}
use Rattle.name_index.proofs.QuestionLaws.{some_found}
use Rattle.name_index.proofs.StepLaws.{walked_free, walked_here, walked_on}
use Rattle.name_index.proofs.search.Goals as goal

pub returns-then-number-eq0 : goal.returns-then-number-eq0
returns-then-number-eq0 c =
    let end =
    walked_free c.args.index.now c.args.first c.loop-read.read c.requires.0 c.requires.1 (omega arith) c.loop-read.invariant c.if-number-eq0.true in
    (ap found_number end.0, end.1)

pub returns-then-same_name : goal.returns-then-same_name
returns-then-same_name c =
    let same = c.same_name.ensures ∙ ap (same_name c.args.name.now) c.named.ensures in
    let end =
    walked_here c.args.index.now c.args.first c.loop-read.read c.requires.0 c.requires.1 (omega arith) c.loop-read.invariant c.if-number-eq0.false
    same c.if-same_name.true in
    (some_found _ c.if-number-eq0.false ∙ ap found_number end.0, end.1)

pub loop-read-preserved : goal.loop-read-preserved
loop-read-preserved c =
    let same = c.same_name.ensures ∙ ap (same_name c.args.name.now) c.named.ensures in
    walked_on c.args.index.now c.args.first c.loop-read.read c.requires.0 c.requires.1 (omega arith) c.loop-read.invariant c.if-number-eq0.false
    same c.if-same_name.false
