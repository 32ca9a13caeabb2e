use Rattle.planfile.proofs.Exact.{judged}
use Rattle.planfile.proofs.load.read.Goals as goal

pub returns : goal.returns
returns c =
    record { answer = c.parse.ensures; exact = judged c.args.bytes.now c.type_inv.bytes c.parse.result c.parse.ensures }
