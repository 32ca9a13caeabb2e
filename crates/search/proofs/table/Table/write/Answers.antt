use Rattle.std.proofs.Common.{◌+◌, ◌++◌, drop, ap, arith}
use Rattle.search.specs.Searched.{marks_of}
use Rattle.search.proofs.Written.{way_room, writing_starts, writing_reached, writing_more, writing_ends, route-length}
use Rattle.search.proofs.table.Table.write.Goals as goal

pub loop-place-init : goal.loop-place-init
loop-place-init c = writing_starts (marks_of c.args.self.now) c.args.from c.requires.reached _

pub next_after-here-requires : goal.next_after-here-requires
next_after-here-requires c =
    let room = way_room (marks_of c.args.self.now) c.args.from c.requires.reached c.args.self.now.brief c.args.list.now c.requires.room in
    writing_reached (marks_of c.args.self.now) c.args.from c.requires.reached c.loop-place.place-index c.loop-place.here _ c.loop-place.invariant (omega arith)

pub loop-place-preserved : goal.loop-place-preserved
loop-place-preserved c =
    let room = way_room (marks_of c.args.self.now) c.args.from c.requires.reached c.args.self.now.brief c.args.list.now c.requires.room in
    rw c.next_after-here.ensures
    (writing_more (marks_of c.args.self.now) c.args.from c.requires.reached c.loop-place.place-index c.loop-place.here _ c.loop-place.invariant c.args.self.now.linked (omega arith) (omega arith))

pub returns-clause-count : goal.returns-clause-count
returns-clause-count c = route-length (marks_of c.args.self.now) c.args.from c.requires.reached

pub returns-clause-list : goal.returns-clause-list
returns-clause-list c =
    let room = way_room (marks_of c.args.self.now) c.args.from c.requires.reached c.args.self.now.brief c.args.list.now c.requires.room in
    ap (λ xs. xs ++ drop (c.args.from.route.hops + 1) c.args.list.now)
    (writing_ends (marks_of c.args.self.now) c.args.from c.requires.reached c.loop-place.place-index c.loop-place.here _ c.loop-place.invariant (omega arith) (omega arith))
