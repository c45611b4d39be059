use Rattle.std.proofs.Common.{◌≡◌, ◌-◌, ◌≤◌, ◌<◌, ℕ, true, length, get_or}
use Rattle.rho_lexer.specs.Meaning.{is_plain}
use Rattle.rho_lexer.proofs.quoted.plain_run.Given as goal

abbrev pub invariant-loop-len : goal.invariant-loop-len
invariant-loop-len l = record {
  within : l.len ≤ length l.bytes;
  each : (k : ℕ) → k < l.len → is_plain (get_or l.bytes k 0) ≡ true;
}

abbrev pub decreases-loop-len : goal.decreases-loop-len
decreases-loop-len l = length l.bytes - l.len
