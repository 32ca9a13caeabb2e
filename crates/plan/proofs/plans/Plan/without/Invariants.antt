use Rattle.std.proofs.Common.{◌≡◌}
use Rattle.plan.specs.Fields.{plan_of}
use Rattle.plan.proofs.Editing.{lifted}
use Rattle.plan.proofs.plans.Plan.without.Given as goal

-- the ducts so far are laid, but for those that join the two pits
abbrev pub invariant-loop-duct : goal.invariant-loop-duct
invariant-loop-duct l = (plan_of l.plan ≡ lifted (plan_of l.self) l.a l.b l.duct-index) × (l.duct-items ≡ (plan_of l.self).ducts)
