use Rattle.measure.specs.Meaning.{read}
use Rattle.search.specs.Frontier.{BestOpen}
use Rattle.search.proofs.frontier.best_in.Given as goal

-- the best of the pits of the block so far
abbrev pub invariant-loop-pit : goal.invariant-loop-pit
invariant-loop-pit g l = BestOpen (read g.M.Measure.means) l.marks l.start l.pit l.best
