use Rattle.std.proofs.Common.{length, arith}
use Rattle.measure.specs.Meaning.{read}
use Rattle.search.proofs.Picks.{tracks_none}
use Rattle.search.proofs.Through.{unseen-closed}
use Rattle.search.proofs.running.Running.new.Goals as goal

pub invariant_of-result : goal.invariant_of-result
invariant_of-result g c =
    let few = c.requires in
    let len = c.fill.ensures.len in
    record {
      few = omega arith;
      tracks = tracks_none (read g.M.Measure.means) c.fill.new.self c.new.result.held (unseen-closed (length c.args.marks.now) c.fill.new.self (c.fill.ensures.after (λ y e. e))) c.new.ensures;
    }
