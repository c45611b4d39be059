-- Why a seat ended.
use Rattle.std.specs.Prelude.{◌<◌, ◌⊎◌}
use Rattle.group_locks.specs.declared.state.SeatState.{SeatState}
use Rattle.group_locks.specs.Seats.{empty_of, over_of, stops_of}

-- the seat found that nothing is pending, that more is charged than the limit, or that the hub stops
abbrev pub FoundAnEnd : {E X W : Type 0} → SeatState E X W → Type 0
FoundAnEnd s = (0 < empty_of s) ⊎ ((0 < over_of s) ⊎ (0 < stops_of s))
