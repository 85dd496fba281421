use Rattle.store.proofs.TableLaws.{count_raised, count_kept}
use Rattle.store.specs.Stored.{store_of}
use Rattle.store.proofs.table.raise_locals.Goals as goal

pub returns-then-word-k : goal.returns-then-word-k
returns-then-word-k c =
    λ o q. count_raised c.args.f.0 c.args.k _ (store_of o c.args.results.now q) c.word.ensures
    c.if-word-k.true c.put.ensures

pub returns-else-word-k : goal.returns-else-word-k
returns-else-word-k c =
    λ o q. count_kept c.args.f.0 c.args.k _ (store_of o c.args.results.now q)
    c.word.ensures c.if-word-k.false
