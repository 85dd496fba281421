use mathlib.Core.Path.{ap, ◌∙◌}
use mathlib.Core.List.{List}
use Prim.Native.Nat.{ℕ}
use lib.ListN.{set}
use Rattle.fresh_session.proofs.FreshLaws.{fresh_made}
use Rattle.fresh_session.proofs.fresh.Goals as goal

pub returns : goal.returns
returns c =
    fresh_made (c.put_at.ensures ∙ ap (λ (v : List ℕ). set v 2 9) c.clear.ensures) c.write_fixed.ensures
