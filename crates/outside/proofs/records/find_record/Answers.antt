use Rattle.std.proofs.Common.{◌≡◌, ap, ◌∙◌, ◌+◌, ◌-◌, Some, arith}
use Rattle.outside.specs.declared.records.Recorded.{Recorded}
use Rattle.outside.proofs.RecordLaws.{sought, told, sought_none, sought_here, sought_next, all_sought}
use Rattle.outside.proofs.records.find_record.Goals as goal

pub returns-then-word-c : goal.returns-then-word-c
returns-then-word-c c =
    let w = c.args.outside.now in
    all_sought w c.args.c.0 _ c.word-i.ensures c.word-i-end.ensures
    (ap (λ (x : Recorded). told w (Some x)) c.record_at.ensures
    ∙ sought_here w c.args.c.0 c.loop-i.i (c.word-i-end.result - c.loop-i.i) (omega (arith, c.loop-i-test.true)) c.word.ensures c.if-word-c.true
    ∙ c.loop-i.invariant)

pub loop-i-preserved : goal.loop-i-preserved
loop-i-preserved c =
    let w = c.args.outside.now in
    let z : c.word-i-end.result - (c.loop-i.i + 1) ≡ c.word-i-end.result - c.loop-i.i - 1 = omega arith in
    ap (sought w c.args.c.0 (c.loop-i.i + 1)) z
    ∙ sought_next w c.args.c.0 c.loop-i.i (c.word-i-end.result - c.loop-i.i) (omega (arith, c.loop-i-test.true)) c.word.ensures c.if-word-c.false
    ∙ c.loop-i.invariant

pub returns : goal.returns
returns c =
    let w = c.args.outside.now in
    all_sought w c.args.c.0 _ c.word-i.ensures c.word-i-end.ensures
    (sought_none w c.args.c.0 c.loop-i.i (c.word-i-end.result - c.loop-i.i) (omega (arith, c.loop-i-test.false))
    ∙ c.loop-i.invariant)
