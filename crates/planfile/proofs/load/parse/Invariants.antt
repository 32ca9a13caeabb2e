use Rattle.std.proofs.Common.{◌≡◌, drop}
use Rattle.plan.specs.Ducts.{between}
use Rattle.planfile.specs.Reading.{to_come}
use Rattle.planfile.proofs.Admitting.{Admitting}
use Rattle.planfile.proofs.load.parse.Given as goal

-- none of the earlier ducts so far joins the same two pits
abbrev pub invariant-loop-earlier : goal.invariant-loop-earlier
invariant-loop-earlier l = between (drop l.earlier-index l.earlier-items) l.duct.first l.duct.second ≡ between l.earlier-items l.duct.first l.duct.second

-- the ducts to come give the answer
abbrev pub invariant-loop-place : goal.invariant-loop-place
invariant-loop-place l =
    record {
      places : l.place-iterator.a.end ≡ l.count;
      answer : Admitting l.bytes l.pits l.count l.place-iterator.a.start l.ducts (to_come l.place-iterator.b);
    }
