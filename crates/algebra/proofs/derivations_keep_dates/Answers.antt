use Rattle.algebra.proofs.Steps.{reached_keeps}
use Rattle.algebra.proofs.Derived.{derived_keeps, steps_derive}
use Rattle.algebra.proofs.derivations_keep_dates.Goals as goal

pub returns : goal.returns
returns c = record { reached = λ K. reached_keeps K; derived = λ K. derived_keeps K; steps = steps_derive }
