-- Ways through a plan, what they cost, and ways with no pit twice.
use Rattle.std.specs.Prelude.{◌≡◌, ℕ, ◌<◌, Bool, true, false, ◌||◌, List, [], ◌∷◌, is_some, Some, None, Option, ◌==◌}
use Rattle.measure.specs.Meaning.{Meaning}
use Rattle.plan.specs.declared.ducts.Duct.{Duct}
use Rattle.plan.specs.Ducts.{between}
use Rattle.plan.specs.Plans.{PlanSpec}

-- a duct joins the pits a and b
abbrev pub Adjacent : PlanSpec → ℕ → ℕ → Type 0
Adjacent p a b = is_some (between p.ducts a b) ≡ true

-- from a, by the pits ps in their order, each joined to the one before it by a duct, one comes to b
abbrev pub Leads : PlanSpec → ℕ → ℕ → List ℕ → Type 0
Leads p a b [] = (a ≡ b) × (a < p.pits)
Leads p a b (x ∷ ps) = (a < p.pits) × Adjacent p a x × Leads p x b ps

-- a way from a to b: one or more pits of the plan, the first a, the last b, each joined to the next by a duct. Pits may repeat
abbrev pub Way : PlanSpec → ℕ → ℕ → List ℕ → Type 0
Way p a b [] = ⊥
Way p a b (x ∷ ps) = (x ≡ a) × Leads p x b ps

-- the cost of a duct
abbrev pub cost_of_duct : Meaning → Duct → ℕ
cost_of_duct m d = m.duct d.length d.bore

-- the cost from one pit of a way to the next, by the duct between them; on a way there is one
abbrev pub cost_across : Meaning → Option Duct → ℕ
cost_across m None = m.still
cost_across m (Some d) = cost_of_duct m d

-- the cost from a by the pits ps
abbrev pub cost_from : Meaning → PlanSpec → ℕ → List ℕ → ℕ
cost_from m p a [] = m.still
cost_from m p a (x ∷ ps) = m.join (cost_across m (between p.ducts a x)) (cost_from m p x ps)

-- the cost of a way: standing still joined with the costs of its ducts
abbrev pub cost_of : Meaning → PlanSpec → List ℕ → ℕ
cost_of m p [] = m.still
cost_of m p (a ∷ ps) = cost_from m p a ps

-- whether a pit is among others
abbrev pub has : ℕ → List ℕ → Bool
has a [] = false
has a (x ∷ xs) = a == x || has a xs

-- no pit twice
abbrev pub Simple : List ℕ → Type 0
Simple [] = Unit {0}
Simple (x ∷ xs) = (has x xs ≡ false) × Simple xs
