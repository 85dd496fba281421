use Rattle.inherit.proofs.MethodLaws.{method_end, method_here, method_last, method_up}
use Rattle.store.specs.Stored.{store_of}
use Rattle.outside.proofs.RecordLaws.{tells_as, tells_none}
use Rattle.outside.specs.Words.{over}
use native.Mathlib.Omega.{arith}
use mathlib.Core.Path.{refl, ◌∙◌}
use Rattle.inherit.proofs.find_method.Goals as goal

pub loop-left-init : goal.loop-left-init
loop-left-init c = λ o q. refl

pub returns-then-fun-ne0 : goal.returns-then-fun-ne0
returns-then-fun-ne0 c =
    λ o q. tells_as c.args.n c.own_method-own.ensures (method_here (over c.args.outside.now)
    c.args.sheet.now (store_of o c.args.results.now q) c.args.n c.loop-left.left c.loop-left.at
    c.loop-left-test.true c.own_method-own.ensures.fun_is c.if-fun-ne0.true
    ∙ c.loop-left.invariant o q)

pub returns-then-up-eq0 : goal.returns-then-up-eq0
returns-then-up-eq0 c =
    λ o q. tells_as c.args.n c.own_method-own.ensures (method_last (over c.args.outside.now)
    c.args.sheet.now (store_of o c.args.results.now q) c.args.n c.loop-left.left c.loop-left.at
    c.loop-left-test.true c.own_method-own.ensures.fun_is c.if-fun-ne0.false
    (c.parent_of-up.ensures o q) c.if-up-eq0.true
    ∙ c.loop-left.invariant o q)

pub overflow_sub-left : goal.overflow_sub-left
overflow_sub-left c = c.loop-left-test.true

pub loop-left-smaller : goal.loop-left-smaller
loop-left-smaller c = omega (arith, c.loop-left-test.true)

pub loop-left-preserved : goal.loop-left-preserved
loop-left-preserved c =
    λ o q. method_up (over c.args.outside.now) c.args.sheet.now
    (store_of o c.args.results.now q) c.args.n c.loop-left.left c.loop-left.at c.loop-left-test.true
    c.own_method-own.ensures.fun_is c.if-fun-ne0.false (c.parent_of-up.ensures o q)
    c.if-up-eq0.false
    ∙ c.loop-left.invariant o q

pub returns : goal.returns
returns c =
    λ o q. tells_none c.args.n (method_end (over c.args.outside.now) c.args.sheet.now
    (store_of o c.args.results.now q) c.args.n c.loop-left.left c.loop-left.at c.loop-left-test.false
    ∙ c.loop-left.invariant o q)
