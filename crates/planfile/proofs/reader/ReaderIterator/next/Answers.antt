use Rattle.std.proofs.Common.{length, ap, rules}
use Rattle.planfile.proofs.Stepping.{ducts-step}
use Rattle.planfile.proofs.reader.ReaderIterator.next.Goals as goal

pub returns-clause-steps : goal.returns-clause-steps
returns-clause-steps c =
    rw (c.from_le_bytes.ensures, c.from_le_bytes-2.ensures, c.from_le_bytes-3.ensures, c.from_le_bytes-4.ensures)
    (ducts-step c.args.self.now.ends.now c.args.self.now.sizes.now c.in-len4-up.len_at_least)

pub returns-clause-goes : goal.returns-clause-goes
returns-clause-goes c =
    let fewer = ap length (returns-clause-steps c) in
    search rules
