-- That there is no form, from another.
-- Assumes nothing.
use Rattle.assembly.specs.declared.fault.BytesFault.{BytesFault}
use Rattle.assembly.specs.declared.fault.BytesFault.TheVariants.{NoForm, Memory}
use Rattle.assembly.specs.Faults.{WhereNone}

pub none_from : (e : BytesFault) {P Q : Type 0} → (P → Q) → WhereNone e P → WhereNone e Q
none_from NoForm f p = f p
none_from Memory f p = tt
