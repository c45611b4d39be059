use Rattle.std.proofs.Common.{◌≤◌, ◌-◌, length, drop}
use Rattle.tokens.specs.Reading.{Outcome, Reads, after_tokens}
use Rattle.tokens.specs.Token.{source}
use Rattle.rho_lexer.specs.Meaning.{spanned_tokens}
use Rattle.rho_lexer.proofs.lex.Given as goal

-- whatever the rest of the text comes to, the text comes to it after the tokens so far
abbrev pub invariant-loop-at : goal.invariant-loop-at
invariant-loop-at l = record {
  within : l.at ≤ length l.text;
  so_far : (o : Outcome) → Reads source l.at (drop l.at l.text) o → Reads source 0 l.text (after_tokens (spanned_tokens l.tokens.items) o);
}

abbrev pub decreases-loop-at : goal.decreases-loop-at
decreases-loop-at l = length l.text - l.at
