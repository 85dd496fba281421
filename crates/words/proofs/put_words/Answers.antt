use Rattle.std.proofs.Common.{ap, ◌∙◌, List, ℕ, set, ◌+◌, get_or}
use Rattle.words.proofs.PutLaws.{put_more}
use Rattle.words.proofs.put_words.Goals as goal

pub loop-i-preserved : goal.loop-i-preserved
loop-i-preserved c =
    c.put_at.ensures ∙ ap (λ (v : List ℕ). set v (c.args.place + c.loop-i.i) (get_or c.args.xs.now c.loop-i.i 0)) c.loop-i.invariant
    ∙ put_more c.args.xs.now c.args.words.now c.args.place c.loop-i.i c.loop-i-test.true
