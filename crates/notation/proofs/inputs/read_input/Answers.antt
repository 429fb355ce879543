use Rattle.std.proofs.Common.{rules}
use Rattle.notation.proofs.Naming.{one_name, named_letter, named_event, named_gate, named_back}
use Rattle.notation.proofs.inputs.read_input.Goals as goal

pub returns-in-len1 : goal.returns-in-len1
returns-in-len1 c =
    let n = named_letter c.args.word.now (search rules) c.event_of.result c.event_of.ensures in
    record { named = n; one = one_name _; back = named_back _ _ n }

pub returns-in-101 : goal.returns-in-101
returns-in-101 c =
    let n = named_event c.args.word.now (search rules) (search rules) (search rules) c.read_below.result c.read_below.ensures in
    record { named = n; one = one_name _; back = named_back _ _ n }

pub returns-in-103 : goal.returns-in-103
returns-in-103 c =
    let n = named_gate c.args.word.now (search rules) (search rules) (search rules) c.read_gate.result c.read_gate.ensures in
    record { named = n; one = one_name _; back = named_back _ _ n }
