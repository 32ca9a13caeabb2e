use Rattle.std.proofs.Common.{rules, ◌∙◌}
use Rattle.plan.specs.Fields.{plan_of}
use Rattle.planfile.proofs.Arrays.{file_put}
use Rattle.planfile.proofs.Trip.{save_back}
use Rattle.planfile.proofs.save.put_file.Goals as goal

pub returns-clause-bytes : goal.returns-clause-bytes
returns-clause-bytes c =
    let list = c.ducts-ducts.ensures.list in
    let start = c.new-front.ensures.front in
    let front = c.new-front.ensures.bytes ∙ simp list at c.split_at_mut-front.ensures.front in
    let back = c.new-sizes.ensures.bytes ∙ simp list at c.split_at_mut-front.ensures.back in
    let pits = simp (start, c.to_le_bytes.ensures, c.pit_count.ensures) at c.put.ensures.bytes in
    let count = simp (c.put.ensures.after, start, c.to_le_bytes-2.ensures, list) at c.put-2.ensures.bytes in
    let ends = simp (c.put-2.ensures.after, c.put.ensures.after, start, list) at c.put_ducts.ensures.ends in
    let sizes = simp (c.new-sizes.ensures.front, list) at c.put_ducts.ensures.sizes in
    let bytes = file_put (plan_of c.args.plan.now) c.args.buffer.now _ _ _ _ _ _ c.requires.room front back pits count ends sizes in
    search rules

pub returns-clause-back : goal.returns-clause-back
returns-clause-back c = save_back (plan_of c.args.plan.now) c.requires.some c.ducts-ducts.ensures.rules c.args.buffer.now _ (returns-clause-bytes c)
