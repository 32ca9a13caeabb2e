-- What the fields of a plan hold.
use Rattle.std.specs.Prelude.{take, Ok, Err, Result}
use Rattle.plan.specs.Plans.{PlanSpec}
use Rattle.plan.specs.Refusals.{Told, told}
use Rattle.plan.specs.declared.plans.Plan.{Plan}
use Rattle.plan.specs.declared.refusals.Refusal.{Refusal}

-- the plan that a value holds: the first `count` of its places
abbrev pub plan_of : Plan → PlanSpec
plan_of p = record { pits = p.pits; ducts = take p.count p.ducts }

-- what a call that gives a plan answers: the plan that the value holds, or the refusal as it is told
abbrev pub heard_plan : Result Plan Refusal → Result PlanSpec Told
heard_plan (Ok p) = Ok (plan_of p)
heard_plan (Err e) = Err (told e)
