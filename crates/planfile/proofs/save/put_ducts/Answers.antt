use Rattle.std.proofs.Common.{◌∙◌, arith}
use Rattle.planfile.specs.Words.{two_of, four_of}
use Rattle.planfile.proofs.Arrays.{length-ends, length-sizes, array_more}
use Rattle.planfile.proofs.save.put_ducts.Goals as goal

pub loop-duct-preserved : goal.loop-duct-preserved
loop-duct-preserved c =
    let inv = c.loop-duct.invariant in
    record {
      ends = array_more (λ d. two_of d.first) (λ d. two_of d.second) 4 length-ends c.args.ends.now.buffer.now _ _ _ _ _ c.args.ducts.now c.args.ends.now.at c.loop-duct.duct-index _ _ _
          c.loop-duct-test.true c.requires.ends_room inv.ends_at c.put.ensures.after (omega arith) inv.ends
          c.to_le_bytes.ensures c.put.ensures.bytes c.to_le_bytes-in-loop-duct.ensures c.put-in-loop-duct.ensures.bytes;
      ends_at = omega arith;
      ends_reference = c.put-in-loop-duct.ensures.same_reference ∙ c.put.ensures.same_reference ∙ inv.ends_reference;
      sizes = array_more (λ d. four_of d.length) (λ d. two_of d.bore) 6 length-sizes c.args.sizes.now.buffer.now _ _ _ _ _ c.args.ducts.now c.args.sizes.now.at c.loop-duct.duct-index _ _ _
          c.loop-duct-test.true c.requires.sizes_room inv.sizes_at c.put-in-loop-duct-2.ensures.after (omega arith) inv.sizes
          c.to_le_bytes-in-loop-duct-2.ensures c.put-in-loop-duct-2.ensures.bytes c.to_le_bytes-in-loop-duct-3.ensures c.put-in-loop-duct-3.ensures.bytes;
      sizes_at = omega arith;
      sizes_reference = c.put-in-loop-duct-3.ensures.same_reference ∙ c.put-in-loop-duct-2.ensures.same_reference ∙ inv.sizes_reference;
    }
