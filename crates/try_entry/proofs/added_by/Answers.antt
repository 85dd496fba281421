use mathlib.Core.Path.{refl, ap, ◌∙◌}
use Prim.Native.Nat.{ℕ, ◌-◌}
use lib.ListN.{length}
use Rattle.entry_walk.specs.Laid.{left_from}
use Rattle.try_entry.proofs.added_by.Goals as goal

pub returns : goal.returns
returns c =
    record {
      names = refl;
      sized = refl;
      laid = λ s n. c.count_laid.ensures s n ∙ ap (λ (k : ℕ). length (left_from s n c.args.entries.now k (c.args.count - k))) c.outside_names-first.ensures;
      classes = λ P s n e. (c.count_classes-classes.ensures P s n e).0;
      members = λ P s n e. (c.count_classes-classes.ensures P s n e).1;
    }
