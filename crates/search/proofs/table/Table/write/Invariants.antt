use Rattle.search.specs.Searched.{marks_of}
use Rattle.search.proofs.Written.{Writing}
use Rattle.search.proofs.table.Table.write.Given as goal

abbrev pub invariant-loop-place : goal.invariant-loop-place
invariant-loop-place l = Writing (marks_of l.self) l.fn.from l.place-index l.here l.place-items
