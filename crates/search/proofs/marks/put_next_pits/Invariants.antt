use Rattle.std.proofs.Common.{◌≡◌, ℕ, ◌<◌, get_or}
use Rattle.search.specs.Marks.{route_at}
use Rattle.search.proofs.marks.put_next_pits.Given as goal

abbrev pub invariant-loop-i : goal.invariant-loop-i
invariant-loop-i l = (v : ℕ) → v < l.i → get_or l.next_pits v 0 ≡ (route_at l.marks v).next
