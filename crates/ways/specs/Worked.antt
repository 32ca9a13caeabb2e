-- Costs in small plans that were worked out by hand, each with what the definition of the best cost must give.
use Rattle.std.specs.Prelude.{◌≡◌, ℕ, true, List, [], ◌∷◌, Some, None, Option}
use Rattle.std.specs.List.{AllByRecursion}
use Rattle.measure.specs.Meaning.{Meaning, read}
use Rattle.measure.specs.Measures.{by_length, by_bore}
use Rattle.plan.specs.declared.ducts.Duct.{Duct}
use Rattle.plan.specs.Plans.{PlanSpec}
use Rattle.plan.specs.Ducts.{ducts_keep}
use Rattle.ways.specs.Pits.{cost_of_pits}
use Rattle.ways.specs.Rows.{best_cost}

abbrev pub duct_of : ℕ → ℕ → ℕ → ℕ → Duct
duct_of a b length bore = record { first = a; second = b; length = length; bore = bore }

-- a ring of eight pits with one pit, 8, joined to it at 3
abbrev pub nine_pits : PlanSpec
nine_pits = record {
  pits = 9;
  ducts =
      duct_of 0 1 500 100 ∷ (duct_of 1 2 700 50 ∷ (duct_of 2 3 400 100 ∷ (duct_of 3 4 900 100 ∷ (duct_of 4 5 300 75
      ∷ (duct_of 5 6 600 100 ∷ (duct_of 6 7 200 100 ∷ (duct_of 0 7 800 40 ∷ (duct_of 3 8 250 60 ∷ []))))))));
}

-- two pits that no duct joins
abbrev pub two_parts : PlanSpec
two_parts = record { pits = 2; ducts = [] }

pub record CostCase : Type 0 where
  pub plan : PlanSpec
  pub measure : Meaning
  pub from : ℕ
  pub to : ℕ
  pub best : Option ℕ

abbrev case : PlanSpec → Meaning → ℕ → ℕ → Option ℕ → CostCase
case p m a b o = record { plan = p; measure = m; from = a; to = b; best = o }

abbrev pub cost_cases : List CostCase
cost_cases =
    case nine_pits by_length 8 0 (Some 1850) ∷ (case nine_pits by_length 5 0 (Some 1600) ∷ (case nine_pits by_bore 5 0 (Some 50)
    ∷ (case nine_pits by_length 8 8 (Some 0) ∷ (case nine_pits by_bore 8 8 (Some 65535)
    ∷ (case two_parts by_length 0 1 None ∷ (case two_parts by_bore 0 1 None ∷ []))))))

pub record Worked : Type 0 where
  -- the definition gives each of them
  pub costs : AllByRecursion (λ k. best_cost (read k.measure) k.plan k.from k.to ≡ k.best) cost_cases
  -- the length of 1,850 from 8 to 0 is that of the way by 8, 3, 2, 1, 0
  pub way : cost_of_pits (read by_length) nine_pits (8 ∷ (3 ∷ (2 ∷ (1 ∷ (0 ∷ []))))) ≡ Some 1850
  -- the plans keep the rules
  pub nine_keep : ducts_keep nine_pits.pits nine_pits.ducts ≡ true
  pub two_keep : ducts_keep two_parts.pits two_parts.ducts ≡ true
