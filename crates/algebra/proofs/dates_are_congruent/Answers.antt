use Rattle.algebra.proofs.Links.{linked_dates}
use Rattle.algebra.proofs.Steps.{replacing_keeps}
use Rattle.algebra.proofs.dates_are_congruent.Goals as goal

pub returns : goal.returns
returns c = record { replacing = λ K. replacing_keeps K; linked = λ K L. linked_dates K L }
