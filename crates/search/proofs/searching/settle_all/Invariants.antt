use Rattle.std.proofs.Common.{◌≡◌}
use Rattle.search.proofs.Inv.{left}
use Rattle.search.proofs.Runs.{Turning}
use Rattle.search.proofs.searching.settle_all.Given as goal

abbrev pub invariant-loop-from : goal.invariant-loop-from
invariant-loop-from g l = record {
  turning : Turning g.M.Measure.means g.met.M.Measure.keeps l.plan.allowed.now l.plan.indexed.now.plan l.goal l.running.marks.now;
  same : l.running.marks.ghost_name ≡ l.initial.running.marks.ghost_name;
}

-- each turn settles one pit
abbrev pub decreases-loop-from : goal.decreases-loop-from
decreases-loop-from g l = left l.running.marks.now
