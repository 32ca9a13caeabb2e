use Rattle.std.proofs.Common.{◌*◌, length, arith}
use Rattle.measure.specs.Meaning.{read}
use Rattle.measure.proofs.Lawful.{lawful}
use Rattle.search.proofs.Picks.{block_more, pick_to}
use Rattle.search.proofs.frontier.Frontier.best.Goals as goal

pub loop-held-preserved : goal.loop-held-preserved
loop-held-preserved g c =
    λ ms t. block_more (read g.M.Measure.means) (lawful g.M.Measure.means g.met.M.Measure.keeps) ms c.args.self.now.held c.loop-held.held-index c.loop-held.best _ t c.loop-held-test.true (c.loop-held.invariant ms t) c.better-best.ensures

pub returns : goal.returns
returns g c =
    λ ms few t. (let end = c.loop-held-test.false in
    pick_to (read g.M.Measure.means) (lawful g.M.Measure.means g.met.M.Measure.keeps) ms 0 (16 * c.loop-held.held-index) (length ms) c.loop-held.best (omega arith) (omega arith) (c.loop-held.invariant ms t))
