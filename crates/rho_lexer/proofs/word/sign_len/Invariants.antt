use Rattle.std.proofs.Common.{◌≡◌, ◌<◌, ◌≤◌, ℕ, false, length, take}
use Rattle.tokens.specs.Tables.{signs, is_among}
use Rattle.rho_lexer.proofs.word.sign_len.Given as goal

abbrev pub invariant-loop-len : goal.invariant-loop-len
invariant-loop-len l = record {
  within : l.len ≤ length l.text;
  longer : (k : ℕ) → l.len < k → k ≤ length l.text → is_among signs (take k l.text) ≡ false;
}

abbrev pub decreases-loop-len : goal.decreases-loop-len
decreases-loop-len l = l.len
