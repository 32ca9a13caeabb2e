-- The marks of a search to one pit, and the ways that they hold.
use Rattle.std.specs.Prelude.{◌≡◌, ℕ, zero, suc, ◌<◌, Bool, true, false, ◌&&◌, List, [], ◌∷◌, length, Some, None, Option, ◌==◌, nat_lt, slice_index_or}
use Rattle.search.specs.declared.marks.Mark.{Mark}
use Rattle.search.specs.declared.marks.Mark.TheVariants.{Unseen, Open, Settled}
use Rattle.search.specs.declared.marks.Route.{Route}

-- the mark of the pit v; past the end of the marks no pit is seen
abbrev pub at : List Mark → ℕ → Mark
at ms v = slice_index_or ms v Unseen

-- whether a pit is open
abbrev pub is_open : Mark → Bool
is_open Unseen = false
is_open (Open r) = true
is_open (Settled r) = false

-- whether a pit is settled: it was reached, and its best way is known
abbrev pub is_settled : Mark → Bool
is_settled Unseen = false
is_settled (Open r) = false
is_settled (Settled r) = true

-- the way that a mark has; for an unseen pit, of which nothing is known, some way
abbrev pub route_of : Mark → Route
route_of Unseen = record { cost = 0; next = 0; hops = 0 }
route_of (Open r) = r
route_of (Settled r) = r

-- the way that the mark of the pit v has
abbrev pub route_at : List Mark → ℕ → Route
route_at ms v = route_of (at ms v)

-- the cost of a pit that was reached
abbrev pub settled_cost : Mark → Option ℕ
settled_cost Unseen = None
settled_cost (Open r) = None
settled_cost (Settled r) = Some r.cost

-- the cost from the pit v to the goal; None where v was not reached
abbrev pub cost_at : List Mark → ℕ → Option ℕ
cost_at ms v = settled_cost (at ms v)

-- the h pits after v, each the next of the one before it
abbrev pub onward : List Mark → ℕ → ℕ → List ℕ
onward ms zero v = []
onward ms (suc h) v = (route_at ms v).next ∷ onward ms h (route_at ms v).next

-- the way from v that the marks hold: v, and then the next pits
abbrev pub route : List Mark → ℕ → List ℕ
route ms v = v ∷ onward ms (route_at ms v).hops v

-- whether v was reached, by a way of at least one duct
abbrev pub goes_on : List Mark → ℕ → Bool
goes_on ms v = is_settled (at ms v) && nat_lt 0 (route_at ms v).hops

-- whether u was reached, and is one duct nearer to the goal than v
abbrev pub nearer : List Mark → ℕ → ℕ → Bool
nearer ms u v = is_settled (at ms u) && suc (route_at ms u).hops == (route_at ms v).hops

-- each next pit was reached, and is one duct nearer
abbrev pub Linked : List Mark → Type 0
Linked ms = (v : ℕ) → goes_on ms v ≡ true → nearer ms (route_at ms v).next v ≡ true

-- a way has fewer ducts than the plan has pits
abbrev pub Brief : List Mark → Type 0
Brief ms = (v : ℕ) → is_settled (at ms v) ≡ true → (route_at ms v).hops < length ms

-- the list has, in the place of each pit that was reached, the next pit of its way
abbrev pub Follows : List Mark → List ℕ → Type 0
Follows ms ns = (v : ℕ) → is_settled (at ms v) ≡ true → slice_index_or ns v 0 ≡ (route_at ms v).next
