use Rattle.std.proofs.Common.{map, take}
use Rattle.term_encoder.specs.Writing.{Writes}
use Rattle.term_encoder.proofs.Writing.{all_codes}
use Rattle.term_encoder.proofs.ops.put_bind_channels.Given as goal

abbrev pub invariant-loop-bind : goal.invariant-loop-bind
invariant-loop-bind l = Writes l.initial.out l.out (all_codes (map (λ b. b.channel) (take l.bind-index l.binds.items)))
