-- What the best cost between two pits is, in terms of ways alone, and what a written way is.
use Rattle.std.specs.Prelude.{◌≡◌, ℕ, List, Some, None, Option}
use Rattle.measure.specs.Meaning.{Meaning, NoWorse}
use Rattle.plan.specs.Plans.{PlanSpec}
use Rattle.ways.specs.Ways.{Way, cost_of, Simple}

-- c is the cost of some of the ways W, and no worse than the cost of each of them
pub record IsBest (m : Meaning) (p : PlanSpec) (W : List ℕ → Type 0) (c : ℕ) : Type 0 where
  pub some : (ps : List ℕ) × W ps × (cost_of m p ps ≡ c)
  pub every : (ps : List ℕ) → W ps → NoWorse m c (cost_of m p ps)

-- the best cost of the ways W; None says that there are none
abbrev pub BestOf : Meaning → PlanSpec → (List ℕ → Type 0) → Option ℕ → Type 0
BestOf m p W None = (ps : List ℕ) → W ps → ⊥
BestOf m p W (Some c) = IsBest m p W c

-- the best cost from a to b: the cost of some way from a to b that is no worse than the cost of every way from a to b
abbrev pub Best : Meaning → PlanSpec → ℕ → ℕ → Option ℕ → Type 0
Best m p a b o = BestOf m p (Way p a b) o

-- the pits are one of the ways W with no pit twice, and its cost c is the best. Where there are several, which is written is free
pub record Written (m : Meaning) (p : PlanSpec) (W : List ℕ → Type 0) (c : ℕ) (ps : List ℕ) : Type 0 where
  pub way : W ps
  pub simple : Simple ps
  pub costs : cost_of m p ps ≡ c
  pub best : IsBest m p W c

-- a written way from a to b
abbrev pub WrittenWay : Meaning → PlanSpec → ℕ → ℕ → ℕ → List ℕ → Type 0
WrittenWay m p a b c ps = Written m p (Way p a b) c ps
