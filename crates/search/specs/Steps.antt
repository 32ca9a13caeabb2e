-- What each step of a search does to the marks.
use Rattle.std.specs.Prelude.{ℕ, zero, suc, ◌+◌, ◌<◌, Bool, true, false, cond, not, List, length, replicate, Some, None, Option, ◌==◌, slice_set}
use Rattle.measure.specs.Meaning.{Meaning}
use Rattle.plan.specs.declared.ducts.Duct.{Duct}
use Rattle.ways.specs.Ways.{cost_of_duct}
use Rattle.search.specs.declared.marks.Mark.{Mark}
use Rattle.search.specs.declared.marks.Mark.TheVariants.{Unseen, Open, Settled}
use Rattle.search.specs.declared.marks.Route.{Route}
use Rattle.search.specs.declared.marks.SeenPit.{SeenPit}
use Rattle.search.specs.Allowed.{may_use}
use Rattle.search.specs.Index.{duct_at}
use Rattle.search.specs.Marks.{at}

-- both ends of the duct are below n
abbrev pub Within : ℕ → Duct → Type 0
Within n d = (d.first < n) × (d.second < n)

-- no pit is seen
abbrev pub none_seen : ℕ → List Mark
none_seen n = replicate n Unseen

-- the way of the goal b: it stands still
abbrev pub goal_route : Meaning → ℕ → Route
goal_route m b = record { cost = m.still; next = b; hops = 0 }

-- whether a way of the cost c is better than the mark of a pit; a settled pit has its best
abbrev pub takes : Meaning → Mark → ℕ → Bool
takes m Unseen c = true
takes m (Open r) c = not (m.no_worse r.cost c)
takes m (Settled r) c = false

-- the marks with a new way from the pit x, if that is better
abbrev pub offered : Meaning → ℕ → Route → List Mark → List Mark
offered m x new ms = cond (takes m (at ms x) new.cost) (slice_set ms x (Open new)) ms

-- the same for the far end of a duct, if there is one
abbrev pub offered_at : Meaning → Option ℕ → Route → List Mark → List Mark
offered_at m None new ms = ms
offered_at m (Some x) new ms = offered m x new ms

-- the other end of d, if u is one of its ends
abbrev pub far_end : Duct → ℕ → Option ℕ
far_end d u = cond (d.first == u) (Some d.second) (cond (d.second == u) (Some d.first) None)

-- the way by the duct d to a pit that was seen, and on from there
abbrev pub route_by : Meaning → SeenPit → Duct → Route
route_by m k d = record { cost = m.join (cost_of_duct m d) k.route.cost; next = k.pit; hops = k.route.hops + 1 }

-- the duct d relaxed, once the pit k is settled: if it may be used, its far end may be better reached through k
unfoldable pub relax : Meaning → List Bool → SeenPit → Duct → List Mark → List Mark
relax m al k d ms = cond (may_use al d) (offered_at m (far_end d k.pit) (route_by m k d) ms) ms

-- the first i ducts relaxed, from the last to the first
unfoldable pub relax_down : Meaning → List Bool → SeenPit → List Duct → ℕ → List Mark → List Mark
unfolding relax
relax_down m al k ds zero ms = ms
relax_down m al k ds (suc i) ms = relax_down m al k ds i (relax m al k (duct_at ds i) ms)

-- the marks with the pit k settled
abbrev pub settled : SeenPit → List Mark → List Mark
settled k ms = slice_set ms k.pit (Settled k.route)

-- one turn of a search: the pit k is settled, and its ducts are relaxed
unfoldable pub turned : Meaning → List Bool → List Duct → SeenPit → List Mark → List Mark
unfolding relax_down
turned m al ds k ms = relax_down m al k ds (length ds) (settled k ms)
