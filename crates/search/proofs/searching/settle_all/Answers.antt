use Rattle.std.proofs.Common.{length, refl, ◌∙◌, rules}
use Rattle.search.proofs.Runs.{run_starts, run-below, run_room, run-turn, run_ends}
use Rattle.search.proofs.searching.settle_all.Goals as goal

pub loop-from-init : goal.loop-from-init
loop-from-init g c =
    record {
      turning = run_starts g.M.Measure.means g.met.M.Measure.keeps c.args.plan.now.allowed.now c.args.plan.now.indexed.now.plan c.args.goal (length c.args.marks.now) c.new-running.result.marks.now c.goal_route.result c.put.new.self.marks.now
          c.new-running.ensures.marks c.requires.size c.goal_route.ensures c.requires.below c.put.ensures.marks;
      same = refl;
    }

pub turn-requires : goal.turn-requires
turn-requires g c =
    record {
      size = c.loop-from.invariant.turning.kept.size;
      below = run-below g.M.Measure.means g.met.M.Measure.keeps c.args.plan.now.allowed.now c.args.plan.now.indexed.now.plan c.args.goal c.loop-from.running.marks.now c.loop-from.invariant.turning c.best.result c.best.ensures c.in-Some.from c.in-Some.is;
      room = run_room g.M.Measure.means g.met.M.Measure.keeps c.args.plan.now.allowed.now c.args.plan.now.indexed.now.plan c.args.goal c.loop-from.running.marks.now c.loop-from.invariant.turning c.best.result c.best.ensures c.in-Some.from c.in-Some.is;
    }

pub loop-from-smaller : goal.loop-from-smaller
loop-from-smaller g c =
    (run-turn g.M.Measure.means g.met.M.Measure.keeps c.args.plan.now.allowed.now c.args.plan.now.indexed.now.plan c.args.goal c.loop-from.running.marks.now c.loop-from.invariant.turning c.best.result c.best.ensures c.in-Some.from c.in-Some.is
    c.turn.new.self.marks.now c.turn.ensures.marks).1

pub loop-from-preserved : goal.loop-from-preserved
loop-from-preserved g c =
    record {
      turning = (run-turn g.M.Measure.means g.met.M.Measure.keeps c.args.plan.now.allowed.now c.args.plan.now.indexed.now.plan c.args.goal c.loop-from.running.marks.now c.loop-from.invariant.turning c.best.result c.best.ensures c.in-Some.from c.in-Some.is
          c.turn.new.self.marks.now c.turn.ensures.marks).0;
      same = c.turn.ensures.same_reference ∙ c.loop-from.invariant.same;
    }

pub returns : goal.returns
returns g c =
    let filled = run_ends g.M.Measure.means g.met.M.Measure.keeps c.args.plan.now.allowed.now c.args.plan.now.indexed.now.plan c.args.goal c.loop-from.running.marks.now c.loop-from.invariant.turning c.best.result c.best.ensures c.in_default.is c.requires.allowed in
    let same = c.loop-from.invariant.same ∙ c.put.ensures.same_reference ∙ c.new-running.ensures.same_reference in
    search rules
