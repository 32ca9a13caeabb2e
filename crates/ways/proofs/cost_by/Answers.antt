use Rattle.std.proofs.Common.{ℕ, List, None, sym, subst, arith}
use Rattle.measure.specs.Meaning.{read}
use Rattle.plan.specs.Fields.{plan_of}
use Rattle.ways.specs.Pits.{CostOfPits}
use Rattle.ways.proofs.Walks.{off_plan, cost_is}
use Rattle.ways.proofs.cost_by.Goals as goal

pub returns-then-first-pit_count : goal.returns-then-first-pit_count
returns-then-first-pit_count g c =
    let m = read g.M.Measure.means in
    let p = plan_of c.args.plan.now in
    let P : List ℕ → Type 0 = λ ps. CostOfPits m p ps None in
    let none = off_plan p c.in_ok-first.first.now c.in_ok-first.later.now (omega arith) in
    let cost = subst P (sym c.in_ok-first.ensures.cases.0) none in
    record { answer = cost_is m p c.args.pits.now None cost; cost = cost }

pub returns : goal.returns
returns g c =
    let m = read g.M.Measure.means in
    let p = plan_of c.args.plan.now in
    let P : List ℕ → Type 0 = λ ps. CostOfPits m p ps c.cost_from.result in
    let cost = subst P (sym c.in_ok-first.ensures.cases.0) c.cost_from.ensures in
    record { answer = cost_is m p c.args.pits.now c.cost_from.result cost; cost = cost }
