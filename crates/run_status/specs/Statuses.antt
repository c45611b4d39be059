-- The status of a cause that is handed on: it says the cause, or that memory is wanted.
use Rattle.std.specs.Prelude.{◌≡◌, Option, Some, None, string_bytes}
use Rattle.event_log.specs.declared.fault.LogFault.{LogFault}
use Rattle.event_log.specs.declared.fault.LogFault.TheVariants as logged
use Rattle.input_faults.specs.Refusals.{Refusal as SourceRefusal}
use Rattle.input_faults.specs.declared.source_fault.SourceFault.{SourceFault}
use Rattle.input_faults.specs.declared.state_fault.StateFault.{StateFault}
use Rattle.input_faults.specs.declared.state_fault.StateFault.TheVariants as stated
use Rattle.phlo_meter.specs.PriceTable as meter
use Rattle.phlo_meter.specs.declared.fault.PriceFault.{PriceFault}
use Rattle.phlo_meter.specs.declared.fault.PriceFault.TheVariants as faults
use Rattle.replays.specs.declared.fault.ReplayFault.{ReplayFault}
use Rattle.replays.specs.Replays as replays
use Rattle.run_reports.specs.declared.finish.Halt.{Halt}
use Rattle.run_reports.specs.declared.finish.Halt.TheVariants as halt
use Rattle.run_status.specs.declared.status.Status.{Status}
use Rattle.run_status.specs.declared.status.Status.TheVariants as status

-- the status of a verb whose last steps ended early
abbrev pub status_of_halt : Halt → Status
status_of_halt halt.WriteFault = status.WriteFault
status_of_halt halt.NoMemory = status.NoMemory

-- the status of a fault of a state, which may be want of memory
abbrev pub StateStatusOf : StateFault → Status → Type 0
StateStatusOf stated.NoMemory s = s ≡ status.NoMemory
StateStatusOf f s = s ≡ status.State f

-- the status of a fault of a log, which may be want of memory
abbrev pub LogStatusOf : LogFault → Status → Type 0
LogStatusOf logged.NoMemory s = s ≡ status.NoMemory
LogStatusOf f s = s ≡ status.Log f

-- what a price text is refused for that has this fault; nothing where memory ran out
abbrev pub price_refusal : PriceFault → Option meter.Refusal
price_refusal faults.NotToml = Some meter.not_toml
price_refusal (faults.MissingKey key) = Some (meter.missing (string_bytes key))
price_refusal (faults.NotInteger key) = Some (meter.not_integer (string_bytes key))
price_refusal (faults.OutOfRange key value) = Some (meter.out_of_range (string_bytes key) value)
price_refusal (faults.UnknownKey key) = Some (meter.unknown (string_bytes key))
price_refusal faults.NoMemory = None

-- the status of a fault of a price text: want of memory where it says no refusal
abbrev pub PriceStatusOf : PriceFault → Option meter.Refusal → Status → Type 0
PriceStatusOf f None s = s ≡ status.NoMemory
PriceStatusOf f (Some r) s = s ≡ status.Prices f

-- the status of a fault of a source: want of memory where it says no refusal
abbrev pub SourceStatusOf : SourceFault → Option SourceRefusal → Status → Type 0
SourceStatusOf f None s = s ≡ status.NoMemory
SourceStatusOf f (Some r) s = s ≡ status.Source f

-- the status of a fault of a replay: want of memory where it says no refusal
abbrev pub ReplayStatusOf : ReplayFault → Option replays.Refusal → Status → Type 0
ReplayStatusOf f None s = s ≡ status.NoMemory
ReplayStatusOf f (Some r) s = s ≡ status.Replay f
