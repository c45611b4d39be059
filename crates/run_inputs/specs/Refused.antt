-- When a deploy ends before it runs.
use Rattle.std.specs.Prelude.{◌≡◌, ℕ, ◌<◌, ◌⊎◌, List, IsOk, IsOkAnd, Err, Option, Some, ⊤}
use Rattle.input_faults.specs.Refusals.{Refusal as SourceRefusal, refusal_of}
use Rattle.input_faults.specs.declared.source_fault.SourceFault.{SourceFault}
use Rattle.input_faults.specs.declared.state_fault.StateFault.{StateFault}
use Rattle.run_inputs.specs.Bases.{IsNoState}
use Rattle.phlo_meter.specs.declared.fault.PriceFault.{PriceFault}
use Rattle.sources.specs.Sources as sources
use Rattle.rho_outside.specs.FileMap.{FileMap, Lacks, GivesAtLeast}
use Rattle.rho_outside.specs.Causes.{Rose}
use Rattle.rho_outside.specs.Told.{Told}
use Rattle.command_words.specs.Commands.{RunRequest}
use Rattle.run_inputs.specs.Inputs.{Refusal, missing, too_large, bad_prices, bad_limit, priced, name_of, size_limit, accepted_state, accepted_prices, accepted_limit, accepted}
use Rattle.run_inputs.specs.Runnable.{HasState, MayHaveState}
use Rattle.run_status.specs.Statuses.{price_refusal}
use Rattle.run_status.specs.declared.status.Input.{Input}
use Rattle.run_status.specs.declared.status.Input.TheVariants.{State, Prices, Source}
use Rattle.run_status.specs.declared.status.Status.{Status}
use Rattle.run_status.specs.declared.status.Status.TheVariants as status

-- why one input gave no bytes, from the counts of failed fetches before and after
abbrev pub InputCause : Option FileMap → List ℕ → ℕ → Input → ℕ → ℕ → Status → Type 0
InputCause told name max input before now (status.ReadFault i) = (i ≡ input) × (Rose before now ⊎ Lacks told name)
InputCause told name max input before now (status.TooLarge i seen most) = (i ≡ input) × ((most ≡ max) × ((max < seen) × GivesAtLeast told name seen))
InputCause told name max input before now status.NoMemory = ⊤
InputCause told name max input before now _ = ⊥

-- a refusal of files is that of a price text with this fault
abbrev pub IsPriceFault : PriceFault → Refusal → Type 0
IsPriceFault f (bad_prices r) = price_refusal f ≡ Some r
IsPriceFault f _ = ⊥

-- why a text gives no prices
abbrev pub PriceCause : List ℕ → Status → Type 0
PriceCause text (status.Prices f) = (r : Refusal) × (IsPriceFault f r × (priced text ≡ Err r))
PriceCause text status.NoMemory = ⊤
PriceCause text _ = ⊥

-- why bytes are no state
abbrev pub StateCause : List ℕ → Status → Type 0
StateCause bytes (status.State f) = IsNoState bytes f
StateCause bytes status.NoMemory = ⊤
StateCause bytes _ = ⊥

-- a fault is what a source is refused for
abbrev pub IsFaultOf : SourceFault → List ℕ → Type 0
IsFaultOf f source = (r : SourceRefusal) × ((refusal_of f ≡ Some r) × sources.IsRefused source r)

-- why a source is refused
abbrev pub SourceCause : List ℕ → Status → Type 0
SourceCause source (status.Source f) = IsFaultOf f source
SourceCause source status.NoMemory = ⊤
SourceCause source _ = ⊥

-- the first refusal of the state and the prices, whose told state may be read
abbrev pub IsPricesRefusal : RunRequest → FileMap → Refusal → Type 0
IsPricesRefusal names files r = MayHaveState names files × (accepted_prices names files ≡ Err r)

-- the first refusal of all that a deploy with this limit needs
abbrev pub IsRefusal : RunRequest → ℕ → FileMap → Refusal → Type 0
IsRefusal names limit files r = MayHaveState names files × (accepted names limit files ≡ Err r)

-- each told input before this one of the two was accepted
abbrev pub PricesReach : Option FileMap → RunRequest → Input → Type 0
PricesReach told names State = ⊤
PricesReach told names Prices = Told told (HasState names)
PricesReach told names _ = ⊥

-- each told input before this one was accepted; a deploy reads no log
abbrev pub Reaches : Option FileMap → RunRequest → ℕ → Input → Type 0
Reaches told names limit Source = Told told (λ files. HasState names files × IsOk (accepted_limit names limit files))
Reaches told names limit input = PricesReach told names input

-- the told state is within its size and is none, with this fault
abbrev pub LacksState : Option FileMap → RunRequest → StateFault → Type 0
LacksState told names f = Told told (λ files. IsOkAnd (accepted_state names files) (λ state. IsNoState state f))

-- why the state or the prices are refused, from the counts of failed fetches before and after
abbrev pub PricesRefusedFor : Option FileMap → RunRequest → ℕ → ℕ → Status → Type 0
PricesRefusedFor told names before now (status.ReadFault input) = (Rose before now ⊎ Lacks told (name_of names input)) × PricesReach told names input
PricesRefusedFor told names before now (status.TooLarge input seen max) = (max ≡ size_limit input) × ((max < seen) × (GivesAtLeast told (name_of names input) seen × Told told (λ files. IsPricesRefusal names files (too_large input))))
PricesRefusedFor told names before now (status.State f) = LacksState told names f
PricesRefusedFor told names before now (status.Prices f) = Told told (λ files. (r : Refusal) × (IsPriceFault f r × IsPricesRefusal names files r))
PricesRefusedFor told names before now status.NoMemory = ⊤
PricesRefusedFor told names before now _ = ⊥

-- why a deploy with this limit refuses its files, from the counts of failed fetches before and after
abbrev pub RefusedFor : Option FileMap → RunRequest → ℕ → ℕ → ℕ → Status → Type 0
RefusedFor told names limit before now (status.ReadFault input) = (Rose before now ⊎ Lacks told (name_of names input)) × Reaches told names limit input
RefusedFor told names limit before now (status.TooLarge input seen max) = (max ≡ size_limit input) × ((max < seen) × (GivesAtLeast told (name_of names input) seen × Told told (λ files. IsRefusal names limit files (too_large input))))
RefusedFor told names limit before now (status.State f) = LacksState told names f
RefusedFor told names limit before now (status.Prices f) = Told told (λ files. (r : Refusal) × (IsPriceFault f r × IsRefusal names limit files r))
RefusedFor told names limit before now (status.Limit n most) = (n ≡ limit) × Told told (λ files. IsRefusal names limit files (bad_limit most))
RefusedFor told names limit before now (status.Source f) = Told told (λ files. HasState names files × IsOkAnd (accepted names limit files) (λ task. IsFaultOf f task.source))
RefusedFor told names limit before now status.NoMemory = ⊤
RefusedFor told names limit before now _ = ⊥

-- a status says this refusal; want of memory may stand in its place
abbrev pub Says : Refusal → Status → Type 0
Says refusal status.NoMemory = ⊤
Says (missing input) (status.ReadFault i) = i ≡ input
Says (too_large input) (status.TooLarge i seen max) = i ≡ input
Says (bad_prices r) (status.Prices f) = price_refusal f ≡ Some r
Says (bad_limit most) (status.Limit limit m) = m ≡ most
Says _ _ = ⊥

-- a status says that a state is none; want of memory may stand in its place
abbrev pub SaysNoState : Status → Type 0
SaysNoState (status.State f) = ⊤
SaysNoState status.NoMemory = ⊤
SaysNoState _ = ⊥

-- a status says this refusal of a source; want of memory may stand in its place
abbrev pub SaysSource : SourceRefusal → Status → Type 0
SaysSource r status.NoMemory = ⊤
SaysSource r (status.Source f) = refusal_of f ≡ Some r
SaysSource r _ = ⊥

-- a status says what a source is refused for, if it is refused
abbrev pub SaysOf : List ℕ → Status → Type 0
SaysOf source s = (r : SourceRefusal) → sources.IsRefused source r → SaysSource r s

-- a source is refused for nothing
abbrev pub IsFree : List ℕ → Type 0
IsFree source = (r : SourceRefusal) → sources.IsRefused source r → ⊥
