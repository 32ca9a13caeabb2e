-- What a plan means: its pits and its list of ducts.
use Rattle.std.specs.Prelude.{ℕ, List, []}
use Rattle.plan.specs.declared.ducts.Duct.{Duct}

pub record PlanSpec : Type 0 where
  pub pits : ℕ
  pub ducts : List Duct

-- the plan that stands before the first load
abbrev pub blank_plan : PlanSpec
blank_plan = record { pits = 0; ducts = [] }
