use Rattle.plan.specs.Fields.{plan_of}
use Rattle.plan.proofs.Editing.{laid-rules}
use Rattle.plan.proofs.plans.Plan.with_last.Goals as goal

pub push-requires-clause-rules : goal.push-requires-clause-rules
push-requires-clause-rules c = laid-rules (plan_of c.args.self.now) c.args.duct c.args.self.now.rules c.requires.room c.requires.own c.requires.new
