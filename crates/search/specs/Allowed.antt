-- A plan of which only some pits may be used.
use Rattle.std.specs.Prelude.{◌≡◌, ℕ, ◌<◌, Bool, true, false, cond, ◌&&◌, List, None, filter, Option, slice_index_or}
use Rattle.std.specs.List.{All}
use Rattle.measure.specs.Meaning.{Meaning}
use Rattle.plan.specs.declared.ducts.Duct.{Duct}
use Rattle.plan.specs.Plans.{PlanSpec}
use Rattle.ways.specs.Rows.{best_cost}
use Rattle.ways.specs.Ways.{Way}

-- whether the pit v may be used; past the end of the list none may
abbrev pub is_allowed : List Bool → ℕ → Bool
is_allowed al v = slice_index_or al v false

-- both ends of the duct may be used
abbrev pub may_use : List Bool → Duct → Bool
may_use al d = is_allowed al d.first && is_allowed al d.second

-- the ducts between allowed pits, in their order
abbrev pub inside : List Bool → List Duct → List Duct
inside al ds = filter (may_use al) ds

-- the plan with the ducts between allowed pits alone
abbrev pub restricted : List Bool → PlanSpec → PlanSpec
restricted al p = record { pits = p.pits; ducts = inside al p.ducts }

-- a way from a to b through allowed pits alone
abbrev pub WayThrough : List Bool → PlanSpec → ℕ → ℕ → List ℕ → Type 0
WayThrough al p a b ps = Way p a b ps × All (λ x. is_allowed al x ≡ true) ps

-- the best cost through allowed pits, computed: to an allowed pit it is that of the plan with the ducts between allowed pits alone
abbrev pub best_through : Meaning → List Bool → PlanSpec → ℕ → ℕ → Option ℕ
best_through m al p a b = cond (is_allowed al b) (best_cost m (restricted al p) a b) None

-- every pit of the plan is allowed
abbrev pub AllAllowed : List Bool → PlanSpec → Type 0
AllAllowed al p = (x : ℕ) → x < p.pits → is_allowed al x ≡ true
