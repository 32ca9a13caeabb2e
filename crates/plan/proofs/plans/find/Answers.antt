use Rattle.std.proofs.Common.{rules, tests, ◌∙◌}
use Rattle.std.proofs.lemmas.Iterator.{YieldsList-from_slice}
use Rattle.std.proofs.lemmas.Iterator.Search.{find_from_yields_List}
use Rattle.plan.specs.Ducts.{joins, between}
use Rattle.plan.proofs.plans.find.Goals as goal

pub returns : goal.returns
unfolding between
returns c =
    c.copied.ensures
    ∙ find_from_yields_List (λ d. joins d c.args.a c.args.b) _ _ _ c.find.ensures.ran (YieldsList-from_slice c.args.ducts.now cc) (λ x b q k. search (rules, tests))
