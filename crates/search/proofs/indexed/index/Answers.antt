use Rattle.plan.specs.Fields.{plan_of}
use Rattle.search.proofs.Chains.{index_blank, index_more, in_range}
use Rattle.search.proofs.indexed.index.Goals as goal

pub loop-i-init : goal.loop-i-init
loop-i-init c = index_blank c.ducts-duct-items.result.now c.new-index.result c.new-index.ensures.heads

pub loop-i-preserved : goal.loop-i-preserved
loop-i-preserved c =
    let (l, w) = in_range (plan_of c.args.plan.now) c.ducts-duct-items.ensures.rules c.ducts-duct-items.result.now c.ducts-duct-items.ensures.list c.loop-i.i c.loop-i-test.true in
    index_more c.ducts-duct-items.result.now c.loop-i.i c.loop-i.index c.put.new.self l w c.loop-i.invariant c.put.ensures.heads c.put.ensures.links
