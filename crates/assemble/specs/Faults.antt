-- What a fault of bytes is as the fault of a line.
-- Assumes nothing.
use Rattle.assembly.specs.declared.fault.BytesFault.{BytesFault}
use Rattle.assembly.specs.declared.fault.BytesFault.TheVariants as bytes
use Rattle.assemble.specs.declared.job.LineFault.{LineFault}
use Rattle.assemble.specs.declared.job.LineFault.TheVariants.{NoForm, Memory}

abbrev pub fault_of : BytesFault → LineFault
fault_of bytes.NoForm = NoForm
fault_of bytes.Memory = Memory
