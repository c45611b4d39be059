-- The names of faults, as reports print them.
use Rattle.std.specs.Prelude.{ℕ, List, codes}
use Rattle.calculus.specs.declared.fault.FaultKind.{FaultKind}
use Rattle.calculus.specs.declared.fault.FaultKind.TheVariants as fault

-- the name of a fault
abbrev pub fault_name : FaultKind → List ℕ
fault_name fault.WrongType = codes "WrongType"
fault_name fault.DivZero = codes "DivZero"
fault_name fault.Overflow = codes "Overflow"
fault_name fault.Index = codes "Index"
fault_name fault.NoMethod = codes "NoMethod"
fault_name fault.NotReadable = codes "NotReadable"
fault_name fault.NotWritable = codes "NotWritable"
fault_name fault.SameChannel = codes "SameChannel"
fault_name fault.TooDeep = codes "TooDeep"
fault_name fault.TooBig = codes "TooBig"
