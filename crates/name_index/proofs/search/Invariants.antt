-- `name_index::search` meets its contract. Invariant: the walk has passed the places read. Assumes nothing.
use Rattle.names.specs.Listed.{numbered}
use Rattle.name_index.specs.Index.{turned}
use Rattle.name_index.proofs.WalkLaws.{Passed}
use Rattle.name_index.proofs.search.Given as goal

abbrev pub invariant-loop-read : goal.invariant-loop-read
invariant-loop-read l = Passed (numbered l.listed.names.now) l.name (turned l.first l.index) l.read
