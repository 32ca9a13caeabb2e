-- Which bytes are the file of a plan, in terms of plans alone.
use Rattle.std.specs.Prelude.{◌≡◌, ℕ, ◌≤◌, List}
use Rattle.plan.specs.Plans.{PlanSpec}
use Rattle.plan.specs.Rules.{Rules}
use Rattle.planfile.specs.Format.{encode}

-- bs is the file of p, a plan with pits that keeps the rules
pub record FileOf (p : PlanSpec) (bs : List ℕ) : Type 0 where
  pub some : 1 ≤ p.pits
  pub rules : Rules p
  pub bytes : encode p ≡ bs

-- bs is the file of no plan
abbrev pub NoFile : List ℕ → Type 0
NoFile bs = (p : PlanSpec) → FileOf p bs → ⊥
