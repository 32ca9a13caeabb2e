use Rattle.measure.specs.Meaning.{read}
use Rattle.plan.specs.Fields.{plan_of}
use Rattle.ways.proofs.Walks.{Walking}
use Rattle.ways.proofs.cost_from.Given as goal

abbrev pub invariant-loop-next : goal.invariant-loop-next
invariant-loop-next g l = Walking (read g.M.Measure.means) (plan_of l.plan) l.first l.later l.next-index l.here l.cost
