use mathlib.Core.Path.{ap, ◌∙◌}
use Prim.Native.Nat.{ℕ}
use native.Mathlib.Omega.{arith}
use lib.ListN.{get_or}
use Rattle.sheet.specs.Rest.{kind_left}
use Rattle.import_circle.proofs.RankLaws.{ranked_start, ranked_more, ranked_end}
use Rattle.import_circle.proofs.highest_import.Goals as goal

pub loop-k-init : goal.loop-k-init
loop-k-init c =
    ranked_start c.args.sheet.now c.args.u c.args.ranks.now (ap kind_left c.into_iter-k-iterator.ensures.into_iter_gives ∙ c.kids_of-k-items.ensures)

pub loop-k-preserved : goal.loop-k-preserved
loop-k-preserved c =
    let other = c.entry_at.ensures ∙ ap (λ (i : ℕ). get_or c.args.ranks.now i 0) c.word.ensures in
    ranked_more c.args.sheet.now c.args.u c.args.ranks.now c.loop-k.rank c.loop-k.invariant c.in-Some.ensures.steps (omega (arith, c.max-rank.ensures)) (omega (arith, other, c.max-rank.ensures))

pub returns : goal.returns
returns c =
    ranked_end c.args.sheet.now c.args.u c.args.ranks.now c.loop-k.rank c.loop-k.invariant c.in-None.ensures.steps.0
