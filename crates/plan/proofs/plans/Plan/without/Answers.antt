use Rattle.std.proofs.Common.{◌+◌, ◌<◌, length, get_or, sym, ap, ◌∙◌, subst}
use Rattle.plan.specs.declared.ducts.Duct.{Duct}
use Rattle.plan.specs.Ducts.{others}
use Rattle.plan.specs.Edits.{with_last}
use Rattle.plan.specs.Fields.{plan_of}
use Rattle.plan.specs.Plans.{PlanSpec}
use Rattle.plan.specs.Rules.{Rules}
use Rattle.plan.proofs.Editing.{lifted-all, lift-skip, lift-keep, lifted-rules, lifted-room}
use Rattle.plan.proofs.Lifted.{lifts_one}
use Rattle.plan.proofs.Ruling.{rules-keep}
use Rattle.plan.proofs.plans.Plan.without.Goals as goal
use Rattle.plan.proofs.plans.Plan.without.Goals.{then-not-joins, else-not-joins}

-- what stands for a duct past the end of a list
abbrev no_duct : Duct
no_duct = record { first = 0; second = 0; length = 0; bore = 0 }

pub loop-duct-init : goal.loop-duct-init
unfolding others
loop-duct-init c = (c.without_ducts-plan.ensures, c.ducts-duct-items.ensures.list)

pub push-requires-clause-room : goal.push-requires-clause-room
push-requires-clause-room c =
    let inv = c.loop-duct.invariant in
    subst (λ (q : PlanSpec). length q.ducts < 1024) (sym inv.0)
    (lifted-room (plan_of c.args.self.now) c.args.a c.args.b c.loop-duct.duct-index c.ducts-duct-items.ensures.rules (rw inv.1 at c.loop-duct-test.true))

pub push-requires-clause-rules : goal.push-requires-clause-rules
push-requires-clause-rules c =
    let p = plan_of c.args.self.now in
    let i = c.loop-duct.duct-index in
    let inv = c.loop-duct.invariant in
    let d : Duct = get_or c.ducts-duct-items.result.now i no_duct in
    let within = rw inv.1 at c.loop-duct-test.true in
    let kept = lift-keep p c.args.a c.args.b i no_duct within (ap (λ ds. get_or ds i no_duct) inv.1) (sym c.if-not-joins.ensures) in
    subst (λ q. Rules (with_last q d)) (sym inv.0) (subst Rules (sym kept) (lifted-rules p c.args.a c.args.b (i + 1) c.ducts-duct-items.ensures.rules))

pub loop-duct-preserved : goal.loop-duct-preserved
loop-duct-preserved c =
    let p = plan_of c.args.self.now in
    let i = c.loop-duct.duct-index in
    let inv = c.loop-duct.invariant in
    let d : Duct = get_or c.ducts-duct-items.result.now i no_duct in
    let within = rw inv.1 at c.loop-duct-test.true in
    let same = ap (λ ds. get_or ds i no_duct) inv.1 in
    elim c.if-not-joins.branch [
      | then-not-joins w ↦ (ap plan_of w.plan-is ∙ w.push.ensures ∙ ap (λ q. with_last q d) inv.0 ∙ lift-keep p c.args.a c.args.b i no_duct within same (sym w.if-not-joins.ensures), inv.1)
      | else-not-joins w ↦ (ap plan_of w.plan-is ∙ inv.0 ∙ lift-skip p c.args.a c.args.b i no_duct within same (sym w.if-not-joins.ensures), inv.1)
    ]

pub returns-clause-one : goal.returns-clause-one
returns-clause-one c =
    let inv = c.loop-duct.invariant in
    let all = inv.0 ∙ lifted-all (plan_of c.args.self.now) c.args.a c.args.b c.loop-duct.duct-index (rw inv.1 at c.loop-duct-test.false) in
    lifts_one (plan_of c.args.self.now) _ c.args.a c.args.b (rules-keep (plan_of c.args.self.now) c.ducts-duct-items.ensures.rules) c.requires (ap (λ (p : PlanSpec). p.ducts) all) (ap (λ (p : PlanSpec). p.pits) all)
