use Rattle.circle_ranks.proofs.Search.give_rank.Given as goal

abbrev pub decreases-loop-self : goal.decreases-loop-self
decreases-loop-self l = l.self.waiting
