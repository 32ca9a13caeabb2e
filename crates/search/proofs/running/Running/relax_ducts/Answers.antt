use Rattle.std.proofs.Common.{length, refl, ap, ◌∙◌, arith}
use Rattle.measure.specs.Meaning.{read}
use Rattle.search.proofs.Offers.{relax_length}
use Rattle.search.proofs.Runs.{ducts-start, ducts-fall, ducts-more}
use Rattle.search.proofs.running.Running.relax_ducts.Goals as goal

pub loop-next-init : goal.loop-next-init
loop-next-init g c =
    let size = c.requires.size in
    let below = c.requires.below in
    record { walk = ducts-start (read g.M.Measure.means) c.args.turn.now.plan.now.indexed.now c.args.turn.now.plan.now.allowed.now c.args.turn.now.from c.ducts-ducts.result.now c.ducts-ducts.ensures.list c.args.self.now.marks.now (omega arith); same = refl; size = refl }

pub loop-next-smaller : goal.loop-next-smaller
loop-next-smaller g c =
    ducts-fall (read g.M.Measure.means) c.args.turn.now.plan.now.indexed.now c.args.turn.now.plan.now.allowed.now c.args.turn.now.from c.ducts-ducts.result.now c.ducts-ducts.ensures.list
    c.args.self.now.marks.now c.loop-next.self.marks.now c.loop-next.next c.in-Some.place c.in-Some.is c.loop-next.invariant.walk c.before-next.result c.before-next.ensures

pub loop-next-preserved : goal.loop-next-preserved
loop-next-preserved g c =
    record {
      walk = ducts-more (read g.M.Measure.means) c.args.turn.now.plan.now.indexed.now c.args.turn.now.plan.now.allowed.now c.args.turn.now.from c.ducts-ducts.result.now c.ducts-ducts.ensures.list
          c.args.self.now.marks.now c.loop-next.self.marks.now c.loop-next.next c.in-Some.place c.in-Some.is c.loop-next.invariant.walk c.before-next.result c.before-next.ensures
          c.relax.new.self.marks.now c.relax.ensures.marks;
      same = c.relax.ensures.same_reference ∙ c.loop-next.invariant.same;
      size = ap length c.relax.ensures.marks ∙ relax_length (read g.M.Measure.means) c.args.turn.now.plan.now.allowed.now c.args.turn.now.from _ c.loop-next.self.marks.now ∙ c.loop-next.invariant.size;
    }
