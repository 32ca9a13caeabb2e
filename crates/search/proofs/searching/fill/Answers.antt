use Rattle.std.proofs.Common.{length, sym, ◌∙◌, rules}
use Rattle.search.proofs.Runs.{run_off}
use Rattle.search.proofs.Through.{unseen-follows}
use Rattle.search.proofs.searching.fill.Goals as goal

pub returns-then-not-is_allowed-clause-filled : goal.returns-then-not-is_allowed-clause-filled
returns-then-not-is_allowed-clause-filled g c =
    let filled = run_off g.M.Measure.means g.met.M.Measure.keeps c.args.plan.now.allowed.now c.args.plan.now.indexed.now.plan c.args.goal (length c.args.marks.now) c.fill.new.self
    (c.fill.ensures.after (λ y e. e)) c.requires.size c.requires.below (sym c.is_allowed.ensures ∙ c.if-not-is_allowed.true) in
    search rules

pub returns-then-not-is_allowed-clause-follows : goal.returns-then-not-is_allowed-clause-follows
returns-then-not-is_allowed-clause-follows g c = unseen-follows (length c.args.marks.now) c.fill.new.self (c.fill.ensures.after (λ y e. e)) c.args.next_pits.now
