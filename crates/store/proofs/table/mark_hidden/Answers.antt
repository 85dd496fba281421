use Rattle.store.proofs.TableLaws.{hidden_written}
use Rattle.store.specs.Stored.{store_of}
use Rattle.store.proofs.table.mark_hidden.Goals as goal

pub returns : goal.returns
returns c =
    λ o q. hidden_written c.args.row (store_of o c.args.results.now q) c.put.ensures
