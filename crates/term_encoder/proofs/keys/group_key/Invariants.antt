use Rattle.std.proofs.Common.{map, take}
use Rattle.term_encoder.specs.Writing.{Writes}
use Rattle.term_encoder.proofs.Writing.{all_codes}
use Rattle.term_encoder.proofs.keys.group_key.Given as goal

abbrev pub invariant-loop-channel : goal.invariant-loop-channel
invariant-loop-channel l = Writes l.initial.out l.out (all_codes (map (λ t. t) (take l.channel-index l.channels)))
