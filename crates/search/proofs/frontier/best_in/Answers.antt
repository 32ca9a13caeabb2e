use Rattle.std.proofs.Common.{arith}
use Rattle.measure.specs.Meaning.{read}
use Rattle.measure.proofs.Lawful.{lawful}
use Rattle.search.proofs.Picks.{pick_more}
use Rattle.search.proofs.frontier.best_in.Goals as goal

pub loop-pit-preserved : goal.loop-pit-preserved
loop-pit-preserved g c =
    pick_more (read g.M.Measure.means) (lawful g.M.Measure.means g.met.M.Measure.keeps) c.args.marks.now _ c.loop-pit.pit c.loop-pit.best _ (omega arith) c.loop-pit.invariant (rw c.open_at.ensures at c.better-best.ensures)
