-- What holds of ways and best costs on every plan that keeps the rules, for a measure.
use Rattle.std.specs.Prelude.{◌≡◌, ℕ, true, List, Option}
use Rattle.measure.specs.Meaning.{Meaning, NoWorse}
use Rattle.plan.specs.Plans.{PlanSpec}
use Rattle.plan.specs.Rules.{Rules}
use Rattle.ways.specs.Ways.{Way, cost_of, has, Simple}
use Rattle.ways.specs.Best.{Best, WrittenWay}
use Rattle.ways.specs.Rows.{best_cost}

-- the way by the pits ps, cut down: a way between the same pits by some of its pits, none of them twice, that is no worse
pub record CutDown (m : Meaning) (p : PlanSpec) (a b : ℕ) (ps : List ℕ) : Type 0 where
  pub pits : List ℕ
  pub way : Way p a b pits
  pub simple : Simple pits
  pub among : (x : ℕ) → has x pits ≡ true → has x ps ≡ true
  pub no_worse : NoWorse m (cost_of m p pits) (cost_of m p ps)

pub record BestCosts (m : Meaning) : Type 0 where
  -- the cost that is computed is the best
  pub computed : (p : PlanSpec) → Rules p → (a b : ℕ) → Best m p a b (best_cost m p a b)
  -- there is one best cost
  pub unique : (p : PlanSpec) (a b : ℕ) (x y : Option ℕ) → Best m p a b x → Best m p a b y → x ≡ y
  -- where there is a way, there is a written way
  pub written : (p : PlanSpec) → Rules p → (a b : ℕ) (ps : List ℕ) → Way p a b ps → (c : ℕ) × (qs : List ℕ) × WrittenWay m p a b c qs
  -- every way can be cut down to one with no pit twice that is no worse
  pub cut : (p : PlanSpec) (a b : ℕ) (ps : List ℕ) → Way p a b ps → CutDown m p a b ps
  -- the best cost from a to b is the best cost from b to a
  pub symmetric : (p : PlanSpec) → Rules p → (a b : ℕ) → best_cost m p a b ≡ best_cost m p b a
