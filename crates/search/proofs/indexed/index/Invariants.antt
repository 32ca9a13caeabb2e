use Rattle.search.proofs.Chains.{IndexedTo}
use Rattle.search.proofs.indexed.index.Given as goal

-- the index of the ducts so far
abbrev pub invariant-loop-i : goal.invariant-loop-i
invariant-loop-i l = IndexedTo l.duct-items l.i l.index
