-- A law of made inputs. It stands in the contract of a public function that does nothing.
use Rattle.std.specs.Prelude.{ℕ, ◌<◌, ◌≤◌, ◌^◌, length}
use Rattle.made_input.specs.MadeInput.{made_text}

-- a made input is no longer than a source may be
abbrev pub MadeInputsAreShort : Type 0
MadeInputsAreShort = (steps : ℕ) → steps < 2 ^ 32 → length (made_text steps) ≤ 1048576
