use Rattle.std.proofs.Common.{[]}
use Rattle.derivation.specs.Law.{begun}
use Rattle.derivation.specs.Model.{fresh}
use Rattle.derivation.proofs.Calls.{fresh_stands}
use Rattle.derivation.proofs.Lawfuls.{lawful}
use Rattle.derivation.proofs.bench.Bench.new.Goals as goal

pub invariant_of-result : goal.invariant_of-result
invariant_of-result c = fresh_stands

pub returns-clause-law : goal.returns-clause-law
returns-clause-law c = lawful [] fresh begun
