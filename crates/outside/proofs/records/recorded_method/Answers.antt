use Rattle.std.proofs.Common.{◌≡◌, ap, ◌∙◌, ◌+◌, ◌-◌, ◌*◌, arith}
use Rattle.definition.specs.Outside.{Method}
use Rattle.outside.proofs.RecordLaws.{methods_none, methods_here, methods_next}
use Rattle.outside.proofs.records.recorded_method.Goals as goal

pub returns-then-word_at-n : goal.returns-then-word_at-n
returns-then-word_at-n c =
    let found =
    methods_here c.args.outside.now c.args.n (c.args.at + 3 * c.loop-i.i) (c.args.count - c.loop-i.i) (omega (arith, c.loop-i-test.true)) c.word_at.ensures c.if-word_at-n.true
    ∙ c.loop-i.invariant in
    record {
      fun_is = c.word_at-then-word_at-n.ensures ∙ ap (λ (y : Method). y.fun) found;
      params_are = c.word_at-then-word_at-n-2.ensures ∙ ap (λ (y : Method). y.params) found;
    }

pub loop-i-preserved : goal.loop-i-preserved
loop-i-preserved c =
    let p : c.args.at + 3 * (c.loop-i.i + 1) ≡ c.args.at + 3 * c.loop-i.i + 3 = omega arith in
    let n : c.args.count - (c.loop-i.i + 1) ≡ c.args.count - c.loop-i.i - 1 = omega arith in
    rw (p, n)
    (methods_next c.args.outside.now c.args.n (c.args.at + 3 * c.loop-i.i) (c.args.count - c.loop-i.i) (omega (arith, c.loop-i-test.true)) c.word_at.ensures c.if-word_at-n.false
    ∙ c.loop-i.invariant)

pub returns : goal.returns
returns c =
    let found =
    methods_none c.args.outside.now c.args.n (c.args.at + 3 * c.loop-i.i) (c.args.count - c.loop-i.i) (omega (arith, c.loop-i-test.false))
    ∙ c.loop-i.invariant in
    record { fun_is = ap (λ (y : Method). y.fun) found; params_are = ap (λ (y : Method). y.params) found }
