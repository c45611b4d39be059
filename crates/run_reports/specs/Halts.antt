-- Why the last steps of a verb end early.
use Rattle.rho_outside.specs.declared.fault.KeepFault.{KeepFault}
use Rattle.rho_outside.specs.declared.fault.KeepFault.TheVariants as fault
use Rattle.run_reports.specs.declared.finish.Halt.{Halt}
use Rattle.run_reports.specs.declared.finish.Halt.TheVariants.{WriteFault, NoMemory}

-- what a failed keep or put comes to
abbrev pub halt_of : KeepFault → Halt
halt_of fault.Failed = WriteFault
halt_of fault.NoMemory = NoMemory
