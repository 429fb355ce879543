-- What a fault says: that there is no form, or nothing where memory is wanting.
-- Assumes nothing.
use Rattle.assembly.specs.declared.fault.BytesFault.{BytesFault}
use Rattle.assembly.specs.declared.fault.BytesFault.TheVariants.{NoForm, Memory}

-- P, where the fault is that there is no form
abbrev pub WhereNone : BytesFault → Type 0 → Type 0
WhereNone NoForm P = P
WhereNone Memory P = Unit {0}
