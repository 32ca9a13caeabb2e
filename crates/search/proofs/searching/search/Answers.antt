use Rattle.measure.proofs.Lawful.{lawful}
use Rattle.ways.proofs.Whole.{best-costs}
use Rattle.search.proofs.searching.search.Goals as goal

pub returns-then-goal-pit_count-clause-theorems : goal.returns-then-goal-pit_count-clause-theorems
returns-then-goal-pit_count-clause-theorems g c = best-costs _ (lawful g.M.Measure.means g.met.M.Measure.keeps)

pub returns-clause-theorems : goal.returns-clause-theorems
returns-clause-theorems g c = best-costs _ (lawful g.M.Measure.means g.met.M.Measure.keeps)
