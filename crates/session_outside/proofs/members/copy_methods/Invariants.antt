-- `copy_methods` meets its contract. Invariant: with the methods that are left the words are what they are to be. Assumes nothing.
use mathlib.Core.List.{map}
use mathlib.Core.Path.{◌≡◌}
use Prim.Native.Nat.{◌+◌, ◌-◌, ◌*◌, ◌≤◌}
use lib.Seq.{sets}
use lib.ListN.{length}
use Rattle.definition.specs.Basics.{concat_map, from}
use Rattle.session_outside.specs.Written.{method_words, earlier_method_in}
use Rattle.session_outside.proofs.members.copy_methods.Given as goal

abbrev pub invariant-loop-i : goal.invariant-loop-i
invariant-loop-i l =
    (l.i ≤ l.count) × (length l.out ≡ length l.initial.out)
    × (sets l.out (l.at + 3 * l.i) (concat_map method_words (map (earlier_method_in l.session) (from (l.first + l.i) (l.count - l.i))))
    ≡ sets l.initial.out l.at (concat_map method_words (map (earlier_method_in l.session) (from l.first l.count))))
