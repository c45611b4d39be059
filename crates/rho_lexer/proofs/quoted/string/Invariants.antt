use Rattle.std.proofs.Common.{◌≡◌, ◌≤◌, ◌-◌, length, take, string_bytes}
use Rattle.std.specs.Prelude.{Some}
use Rattle.tokens.specs.Quoted.{string_contents}
use Rattle.rho_lexer.proofs.quoted.string.Given as goal

abbrev pub invariant-loop-contents : goal.invariant-loop-contents
invariant-loop-contents l = record {
  within : l.len ≤ length l.rest;
  good : string_contents (take l.len l.rest) ≡ Some (string_bytes l.contents);
}

abbrev pub decreases-loop-contents : goal.decreases-loop-contents
decreases-loop-contents l = length l.rest - l.len
