use Rattle.std.proofs.Common.{refl}
use Rattle.measure.proofs.Lawful.{lawful}
use Rattle.plan.specs.Ducts.{between, ducts_keep}
use Rattle.ways.specs.Rows.{best_cost}
use Rattle.ways.proofs.Whole.{best-costs}
use Rattle.ways.proofs.best_costs.Goals as goal

pub returns : goal.returns
unfolding best_cost between ducts_keep
returns g c =
    record {
      theorems = best-costs _ (lawful g.M.Measure.means g.met.M.Measure.keeps);
      worked = record { costs = (refl, (refl, (refl, (refl, (refl, (refl, (refl, tt))))))); way = refl; nine_keep = refl; two_keep = refl };
    }
