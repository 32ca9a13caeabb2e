-- What a list of pits costs.
use Rattle.std.specs.Prelude.{◌≡◌, ℕ, Bool, false, cond, ◌&&◌, List, [], ◌∷◌, is_some, Some, None, Option, nat_lt}
use Rattle.measure.specs.Meaning.{Meaning}
use Rattle.plan.specs.Ducts.{between}
use Rattle.plan.specs.Plans.{PlanSpec}
use Rattle.ways.specs.Ways.{Way, cost_of}

-- whether a is on the plan, and each of the pits ps is joined to the one before it, the first of them to a
abbrev pub leads_on : PlanSpec → ℕ → List ℕ → Bool
leads_on p a [] = nat_lt a p.pits
leads_on p a (x ∷ ps) = nat_lt a p.pits && (is_some (between p.ducts a x) && leads_on p x ps)

-- whether the pits are a way from the first to the last of them
abbrev pub is_way : PlanSpec → List ℕ → Bool
is_way p [] = false
is_way p (a ∷ ps) = leads_on p a ps

-- the cost of the way that the pits are; None where they are no way
abbrev pub cost_of_pits : Meaning → PlanSpec → List ℕ → Option ℕ
cost_of_pits m p ps = cond (is_way p ps) (Some (cost_of m p ps)) None

-- the same in terms of ways
abbrev pub CostOfPits : Meaning → PlanSpec → List ℕ → Option ℕ → Type 0
CostOfPits m p ps None = (a b : ℕ) → Way p a b ps → ⊥
CostOfPits m p ps (Some c) = (a : ℕ) × (b : ℕ) × Way p a b ps × (cost_of m p ps ≡ c)
