use Rattle.std.proofs.Common.{sym, refl, ◌∙◌, rules, arith}
use Rattle.plan.proofs.Finding.{between-on}
use Rattle.planfile.proofs.Admitting.{admit-begins, admit-ends, admit-repeats, admit-more, no_repeat, some-repeat}
use Rattle.planfile.proofs.load.parse.Goals as goal

pub loop-place-init : goal.loop-place-init
loop-place-init c =
    let whole = c.into_iter-place-iterator.ensures.into_iter_gives in
    let first = c.zip-place-items.ensures.first in
    let second = c.zip-place-items.ensures.second in
    rw (whole, first, second)
    (record {
      places = refl;
      answer = admit-begins _ _ _ _ c.in_ok-pits.ensures c.open.ensures (search rules);
    })

pub loop-earlier-preserved : goal.loop-earlier-preserved
loop-earlier-preserved c = sym (between-on _ c.in-Some.duct.first c.in-Some.duct.second c.loop-earlier.earlier-index _ c.loop-earlier-test.true (sym c.if-joins.ensures)) ∙ c.loop-earlier.invariant

pub loop-place-preserved : goal.loop-place-preserved
loop-place-preserved c =
    let step = c.in-Some.ensures.steps in
    let now = rw (← step.0.1.1) at c.loop-place.invariant.answer in
    record {
      places = step.0.0 ∙ c.loop-place.invariant.places;
      answer = rw (step.0.1.2, ← step.0.1.1) (admit-more now step.1 c.in_ok-check.ensures (no_repeat _ _ _ _ c.loop-earlier-test.false c.loop-earlier.invariant));
    }

pub invariant_of-result-clause-rules : goal.invariant_of-result-clause-rules
invariant_of-result-clause-rules c = (admit-ends c.loop-place.invariant.answer _ c.loop-place.invariant.places c.in-None.ensures.steps (λ r. omega arith) (λ r. r.1.0)).1

pub returns-in-None : goal.returns-in-None
returns-in-None c = (admit-ends c.loop-place.invariant.answer _ c.loop-place.invariant.places c.in-None.ensures.steps (λ r. omega arith) (λ r. r.1.0)).0

pub returns-then-joins : goal.returns-then-joins
returns-then-joins c =
    let step = c.in-Some.ensures.steps in
    let now = rw (← step.0.1.1) at c.loop-place.invariant.answer in
    admit-repeats now step.1 c.in_ok-check.ensures (some-repeat _ _ _ _ _ c.loop-earlier-test.true (sym c.if-joins.ensures) c.loop-earlier.invariant)
