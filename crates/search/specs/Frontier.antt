-- The frontier of a search: its open pits. A search goes on from the best of them.
-- Pits are taken in blocks of 16, and of each block the best open pit is held.
use Rattle.std.specs.Prelude.{◌≡◌, ℕ, ◌+◌, ◌*◌, ◌/◌, ◌<◌, ◌≤◌, true, false, cond, List, Some, None, Option, ◌≢◌, slice_index_or}
use Rattle.std.proofs.Props.{props}
use Rattle.measure.specs.Meaning.{Meaning, NoWorse}
use Rattle.search.specs.declared.marks.Mark.{Mark}
use Rattle.search.specs.declared.marks.Mark.TheVariants.{Unseen, Open, Settled}
use Rattle.search.specs.declared.marks.SeenPit.{SeenPit}
use Rattle.search.specs.Marks.{at, is_open, route_at}

-- of the pits from low on and below high, k is open with its way, and no open one is better
pub record BestOpenPit (m : Meaning) (ms : List Mark) (low high : ℕ) (k : SeenPit) : Type 0 where
  pub from : low ≤ k.pit
  pub below : k.pit < high
  pub opened : at ms k.pit ≡ Open k.route
  pub best : (v : ℕ) → low ≤ v → v < high → is_open (at ms v) ≡ true → NoWorse m k.route.cost (route_at ms v).cost

-- the best open pit from low on and below high; None says that none of them is open
abbrev pub BestOpen : Meaning → List Mark → ℕ → ℕ → Option SeenPit → Type 0
BestOpen m ms low high None = (v : ℕ) → low ≤ v → v < high → is_open (at ms v) ≡ false
BestOpen m ms low high (Some k) = BestOpenPit m ms low high k

-- the pit v with the mark that it has, if it is open
abbrev pub as_open : ℕ → Mark → Option SeenPit
as_open v Unseen = None
as_open v (Open r) = Some (record { pit = v; route = r })
as_open v (Settled r) = None

-- the pit v with its way, if it is open
abbrev pub open_at : List Mark → ℕ → Option SeenPit
open_at ms v = as_open v (at ms v)

-- the better of two pits, of which there may be none
abbrev pub better : Meaning → Option SeenPit → Option SeenPit → Option SeenPit
better m None other = other
better m (Some k) None = Some k
better m (Some k) (Some i) = cond (m.no_worse k.route.cost i.route.cost) (Some k) (Some i)

-- what is held of the block b
abbrev pub held_of : List (Option SeenPit) → ℕ → Option SeenPit
held_of ws b = slice_index_or ws b None

-- the best open pit of the block b is held
abbrev pub BlockHeld : Meaning → List Mark → List (Option SeenPit) → ℕ → Type 0
BlockHeld m ms ws b = BestOpen m ms (16 * b) (16 * b + 16) (held_of ws b)

-- of each block the best open pit is held
abbrev pub Tracks : Meaning → List Mark → List (Option SeenPit) → Type 0
Tracks m ms ws = (b : ℕ) → b < 32 → BlockHeld m ms ws b

-- the same of each block but that of the pit x
abbrev pub TracksOthers : Meaning → List Mark → ℕ → List (Option SeenPit) → Type 0
TracksOthers m ms x ws = (b : ℕ) → b < 32 → (b ≢ x / 16) → BlockHeld m ms ws b

-- such a fact has one proof, so a struct may hold it
BestOpen-prop : (m : Meaning) (ms : List Mark) (low high : ℕ) (o : Option SeenPit) → IsProp (BestOpen m ms low high o)
BestOpen-prop m ms low high None = hlevel props
BestOpen-prop m ms low high (Some k) = hlevel props

pub Tracks-prop : (m : Meaning) (ms : List Mark) (ws : List (Option SeenPit)) → IsProp (Tracks m ms ws)
Tracks-prop m ms ws = hlevel (props, BestOpen-prop)
