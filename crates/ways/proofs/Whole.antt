-- What holds of ways and best costs, together.
use Rattle.measure.specs.Meaning.{Meaning}
use Rattle.measure.proofs.Lawful.{Lawful}
use Rattle.plan.proofs.Ruling.{rules-keep}
use Rattle.ways.specs.Theorems.{BestCosts}
use Rattle.ways.proofs.Cut.{cut_down}
use Rattle.ways.proofs.Bests.{row_is_best, one_best, way-written}
use Rattle.ways.proofs.Back.{same_back}

pub best-costs : (m : Meaning) → Lawful m → BestCosts m
best-costs m laws =
    record {
      computed = λ p rules. row_is_best m laws p (rules-keep p rules);
      unique = one_best m laws;
      written = λ p rules. way-written m laws p (rules-keep p rules);
      cut = cut_down m laws;
      symmetric = λ p rules. same_back m laws p (rules-keep p rules);
    }
