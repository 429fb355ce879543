use Rattle.std.proofs.Common.{rules}
use Rattle.trees.proofs.Fronts.{front_short, front_full}
use Rattle.trees.proofs.record.read_record.Goals as goal

pub returns-in_ok-kind-in-7 : goal.returns-in_ok-kind-in-7
returns-in_ok-kind-in-7 c =
    rw c.new.ensures (front_full c.args.bytes.now c.in_ok-kind-in-7.kind (search rules) (search rules) c.in_ok-kind-in-7.ensures)

pub returns-in-6 : goal.returns-in-6
returns-in-6 c = rw c.new-in-6.ensures (front_short c.args.bytes.now (search rules) (search rules))
