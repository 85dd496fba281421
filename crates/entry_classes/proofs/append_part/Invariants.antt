use mathlib.Core.List.{List}
use Prim.Native.Nat.{ℕ}
use Rattle.outside.specs.Words.{over}
use Rattle.store.specs.declared.nodes.Store.{Store}
use Rattle.store.specs.Stored.{store_of}
use Rattle.entry_classes.specs.Told.{part_in, part_words}
use Rattle.entry_classes.proofs.RunLaws.{Writing}
use Rattle.entry_classes.proofs.append_part.Given as goal

abbrev pub invariant-loop-i : goal.invariant-loop-i
invariant-loop-i l =
    Writing
    (λ (x : Store × List ℕ). part_in l.part (over l.source.outside.now) l.source.sheet.now (store_of x.0 l.source.results.now x.1) l.source.base)
    (part_words l.part) l.initial.words l.place l.out l.rows l.words l.i l.p
