use mathlib.Core.List.{map}
use mathlib.Core.Path.{◌≡◌}
use Rattle.definition.specs.Question.{first_no}
use Rattle.outside.specs.Words.{over}
use Rattle.machine.specs.Machine.{chain_to}
use Rattle.store.specs.Stored.{store_of}
use Rattle.store.specs.declared.nodes.Store.{Store}
use Rattle.after.specs.Inherited.{check_call_in}
use Rattle.ast.specs.Refused.{refusal_in}
use Rattle.inherit.proofs.CallLaws.{calls_to}
use Rattle.inherit.proofs.check_ctor_calls.Given as goal

abbrev pub invariant-loop-i : goal.invariant-loop-i
invariant-loop-i l =
    (o : Store)
    → calls_to l.nodes (check_call_in (over l.outside) l.sheet (store_of o l.results l.nodes)) l.i (refusal_in l.x)
    ≡ first_no (map (check_call_in (over l.outside) l.sheet (store_of o l.results l.nodes)) (chain_to l.nodes l.calls))

abbrev pub decreases-loop-i : goal.decreases-loop-i
decreases-loop-i l = l.i
