use Rattle.std.proofs.Common.{◌≡◌, map}
use Rattle.next_states.proofs.known.codes_of.Given as goal

abbrev pub invariant-loop-row : goal.invariant-loop-row
invariant-loop-row l = map (λ c. c.items) l.codes.items ≡ map (λ k. k.code.items) l.yielded
