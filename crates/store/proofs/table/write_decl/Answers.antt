use mathlib.Core.Path.{ap, ◌∙◌}
use mathlib.Core.List.{List}
use Prim.Native.Nat.{ℕ}
use Rattle.machine.specs.Machine.{write_row_at}
use Rattle.store.specs.Stored.{store_of}
use Rattle.store.proofs.table.write_decl.Goals as goal

pub returns : goal.returns
returns c =
    λ o q. c.write_row.ensures o q
    ∙ ap (λ (ws : List ℕ). write_row_at c.args.row ws (store_of o c.args.results.now q))
    c.words.ensures
