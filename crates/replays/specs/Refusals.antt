-- What a fault of a replay stands for.
use Rattle.std.specs.Prelude.{Bool, true, false, map as each, Option, Some, None}
use Rattle.calculus.specs.declared.ids.Digest.{Digest}
use Rattle.replays.specs.Replays.{Refusal, wrong_base, wrong_source, wrong_prices, wrong_limit, no_run, reducible}
use Rattle.replays.specs.declared.fault.ReplayFault.{ReplayFault}
use Rattle.replays.specs.declared.fault.ReplayFault.TheVariants.{WrongBase, WrongSource, WrongPrices, WrongLimit, NoRun, Reducible, NoMemory}

-- the refusal that a fault stands for; none where memory ran out
abbrev pub refusal_of : ReplayFault → Option Refusal
refusal_of (WrongBase log state) = Some (wrong_base log.0 state.0)
refusal_of (WrongSource log given) = Some (wrong_source log.0 given.0)
refusal_of (WrongPrices log given) = Some (wrong_prices log.0 given.0)
refusal_of (WrongLimit log most) = Some (wrong_limit log most)
refusal_of (NoRun step) = Some (no_run step)
refusal_of (Reducible cont taken) = Some (reducible cont.0 (each (λ (id : Digest). id.0) taken.items))
refusal_of NoMemory = None

-- whether a fault is one of the log's header
abbrev pub is_of_header : ReplayFault → Bool
is_of_header (WrongBase log state) = true
is_of_header (WrongSource log given) = true
is_of_header (WrongPrices log given) = true
is_of_header (WrongLimit log most) = true
is_of_header (NoRun step) = false
is_of_header (Reducible cont taken) = false
is_of_header NoMemory = false
