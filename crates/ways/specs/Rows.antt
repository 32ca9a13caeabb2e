-- The best costs to one pit, computed by Bellman and Ford's algorithm: a row has a cost for each pit, and every duct is relaxed in as
-- many rounds as the plan has pits.
use Rattle.std.specs.Prelude.{ℕ, zero, suc, cond, List, [], ◌∷◌, Some, None, Option, slice_index_or, slice_set}
use Rattle.measure.specs.Meaning.{Meaning}
use Rattle.plan.specs.declared.ducts.Duct.{Duct}
use Rattle.plan.specs.Plans.{PlanSpec}
use Rattle.ways.specs.Ways.{cost_of_duct}

-- the better of two costs; None, that no way is known, is the worst
abbrev pub better : Meaning → Option ℕ → Option ℕ → Option ℕ
better m None y = y
better m (Some x) None = Some x
better m (Some x) (Some y) = Some (cond (m.no_worse x y) x y)

-- the cost with a duct of cost w in front
abbrev pub along : Meaning → ℕ → Option ℕ → Option ℕ
along m w None = None
along m w (Some c) = Some (m.join w c)

-- the cost at the pit v
abbrev pub entry : List (Option ℕ) → ℕ → Option ℕ
entry row v = slice_index_or row v None

-- the row with the better of its cost at v and another
abbrev pub improve : Meaning → ℕ → Option ℕ → List (Option ℕ) → List (Option ℕ)
improve m v o row = slice_set row v (better m (entry row v) o)

-- the row with the duct d relaxed: each of its ends may be better reached through the other
unfoldable pub relax_row : Meaning → Duct → List (Option ℕ) → List (Option ℕ)
relax_row m d row =
    let one = improve m d.second (along m (cost_of_duct m d) (entry row d.first)) row in
    improve m d.first (along m (cost_of_duct m d) (entry one d.second)) one

-- every duct relaxed, in their order
unfoldable pub sweep : Meaning → List Duct → List (Option ℕ) → List (Option ℕ)
unfolding relax_row
sweep m [] row = row
sweep m (d ∷ ds) row = sweep m ds (relax_row m d row)

-- k rounds
unfoldable pub rounds : Meaning → List Duct → ℕ → List (Option ℕ) → List (Option ℕ)
unfolding sweep
rounds m ds zero row = row
rounds m ds (suc k) row = sweep m ds (rounds m ds k row)

-- no cost is known
unfoldable pub no_costs : ℕ → List (Option ℕ)
no_costs zero = []
no_costs (suc n) = None ∷ no_costs n

-- nothing is known but that standing still leads from b to b
unfoldable pub start : Meaning → ℕ → ℕ → List (Option ℕ)
unfolding no_costs
start m n b = improve m b (Some m.still) (no_costs n)

-- the best costs to b
unfoldable pub best_row : Meaning → PlanSpec → ℕ → List (Option ℕ)
unfolding rounds start
best_row m p b = rounds m p.ducts p.pits (start m p.pits b)

-- the best cost from a to b, or None where there is no way
unfoldable pub best_cost : Meaning → PlanSpec → ℕ → ℕ → Option ℕ
unfolding best_row
best_cost m p a b = entry (best_row m p b) a
