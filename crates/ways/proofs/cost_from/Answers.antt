use Rattle.std.proofs.Common.{sym, ◌∙◌}
use Rattle.measure.specs.Meaning.{read}
use Rattle.measure.proofs.Lawful.{lawful}
use Rattle.plan.specs.Fields.{plan_of}
use Rattle.plan.proofs.Ruling.{rules-keep}
use Rattle.ways.proofs.Walks.{walk_starts, walk-on, walk-broken, walk_ends}
use Rattle.ways.proofs.cost_from.Goals as goal

pub loop-next-init : goal.loop-next-init
loop-next-init g c =
    rw (c.STILL-cost.ensures ∙ g.met.M.Measure.still_is)
    (walk_starts (read g.M.Measure.means) (lawful g.M.Measure.means g.met.M.Measure.keeps) (plan_of c.args.plan.now) c.args.first c.args.later.now c.requires)

pub returns-in_err-duct : goal.returns-in_err-duct
returns-in_err-duct g c =
    rw c.from_residual.ensures
    (walk-broken (read g.M.Measure.means) (lawful g.M.Measure.means g.met.M.Measure.keeps) (plan_of c.args.plan.now) c.args.first c.args.later.now c.loop-next.next-index c.loop-next.here c.loop-next.cost
    c.loop-next.invariant 0 c.loop-next-test.true (sym c.in_err-duct.ensures))

pub loop-next-preserved : goal.loop-next-preserved
loop-next-preserved g c =
    rw (c.join-cost.ensures, c.duct_cost.ensures)
    (walk-on (read g.M.Measure.means) (lawful g.M.Measure.means g.met.M.Measure.keeps) (plan_of c.args.plan.now) c.args.first c.args.later.now c.loop-next.next-index c.loop-next.here c.loop-next.cost
    c.loop-next.invariant 0 c.loop-next-test.true c.in_ok-duct.duct (rules-keep (plan_of c.args.plan.now) c.args.plan.now.rules) (sym c.in_ok-duct.ensures))

pub returns : goal.returns
returns g c =
    walk_ends (read g.M.Measure.means) (lawful g.M.Measure.means g.met.M.Measure.keeps) (plan_of c.args.plan.now) c.args.first c.args.later.now c.loop-next.next-index c.loop-next.here c.loop-next.cost
    c.loop-next.invariant c.loop-next-test.false
