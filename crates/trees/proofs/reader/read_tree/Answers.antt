use Rattle.std.proofs.Common.{arith}
use Rattle.std.proofs.lemmas.Grind.{common_steps}
use Rattle.trees.specs.Reading.{answer, Outcome}
use Rattle.trees.proofs.One.{one_outcome}
use Rattle.trees.proofs.Meant.{meant, sole, sourced}
use Rattle.trees.proofs.reader.read_tree.Goals as goal

pub returns : goal.returns
returns c =
    let bs = c.args.bytes.now in
    let r = c.read_records.result in
    let o : Outcome bs (answer r) = grind (arith, common_steps) in
    record { outcome = o; single = λ a p. one_outcome bs (answer r) a o p; meaning = meant bs r o; sole = sole bs r o; source = sourced bs r o }
