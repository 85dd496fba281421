use mathlib.Core.List.{map}
use mathlib.Core.Path.{sym, ap, ◌∙◌}
use Prim.Native.Nat.{ℕ, ◌-◌}
use native.Mathlib.Omega.{arith}
use Rattle.definition.specs.Question.{first_no}
use Rattle.outside.specs.Words.{over}
use Rattle.machine.specs.Machine.{chain_to, node_word}
use Rattle.store.specs.Stored.{store_of}
use Rattle.after.specs.Inherited.{check_call_in}
use Rattle.ast.specs.Refused.{refusal_in}
use Rattle.inherit.proofs.CallLaws.{node_answer, calls_all, calls_end, calls_step}
use Rattle.inherit.proofs.check_ctor_calls.Goals as goal

pub loop-i-init : goal.loop-i-init
loop-i-init c =
    λ o. calls_all c.args.nodes.now (check_call_in (over c.args.outside.now) c.args.sheet.now
    (store_of o c.args.results.now c.args.nodes.now))
    c.args.calls

pub overflow_sub-i : goal.overflow_sub-i
overflow_sub-i c = c.loop-i-test.true

pub loop-i-smaller : goal.loop-i-smaller
loop-i-smaller c =
    omega (arith, c.node_before-i.ensures, c.loop-i-test.true)

pub loop-i-preserved : goal.loop-i-preserved
loop-i-preserved c =
    λ o. let asked = check_call_in (over c.args.outside.now) c.args.sheet.now (store_of o c.args.results.now c.args.nodes.now) in
    calls_step c.args.nodes.now asked c.loop-i.i c.check_call.result c.loop-i.x c.loop-i-test.true
    (node_answer c.args.nodes.now asked (c.loop-i.i - 1) c.node_word-call.ensures c.node_word.ensures (c.check_call.ensures o c.args.nodes.now (node_word c.args.nodes.now (c.loop-i.i - 1) 3)))
    c.and-x.ensures c.node_before-i.ensures
    ∙ c.loop-i.invariant o

pub returns : goal.returns
returns c =
    λ o e. calls_end c.args.nodes.now (check_call_in (over c.args.outside.now) c.args.sheet.now
    (store_of o c.args.results.now c.args.nodes.now))
    c.loop-i.i (refusal_in c.loop-i.x) c.loop-i-test.false
    ∙ c.loop-i.invariant o
    ∙ ap (λ (n : ℕ). first_no (map (check_call_in (over c.args.outside.now) c.args.sheet.now
    (store_of o c.args.results.now c.args.nodes.now))
    (chain_to c.args.nodes.now n)))
    (sym e)
