use Rattle.std.proofs.Common.{◌*◌, List}
use Rattle.measure.specs.Meaning.{read}
use Rattle.search.specs.declared.marks.Mark.{Mark}
use Rattle.search.specs.Frontier.{BestOpen, Tracks}
use Rattle.search.proofs.frontier.Frontier.best.Given as goal

-- the best of the blocks so far
abbrev pub invariant-loop-held : goal.invariant-loop-held
invariant-loop-held g l = (ms : List Mark) → Tracks (read g.M.Measure.means) ms l.self.held → BestOpen (read g.M.Measure.means) ms 0 (16 * l.held-index) l.best
