use Rattle.std.proofs.Common.{◌≡◌, length}
use Rattle.measure.specs.Meaning.{read}
use Rattle.search.proofs.Chains.{Walk, ahead}
use Rattle.search.proofs.running.Running.relax_ducts.Given as goal

-- the ducts from `next` on are still to be relaxed
abbrev pub invariant-loop-next : goal.invariant-loop-next
invariant-loop-next g l = record {
  walk : Walk (read g.M.Measure.means) l.turn.plan.now.allowed.now l.turn.from l.ducts l.initial.self.marks.now l.next l.self.marks.now;
  same : l.self.marks.ghost_name ≡ l.initial.self.marks.ghost_name;
  size : length l.self.marks.now ≡ length l.initial.self.marks.now;
}

abbrev pub decreases-loop-next : goal.decreases-loop-next
decreases-loop-next g l = ahead l.next
