use Rattle.std.proofs.Common.{map, take}
use Rattle.calculus.specs.Kinds.{origin_number}
use Rattle.term_encoder.specs.Writing.{Writes}
use Rattle.term_encoder.proofs.encoder.Encoder.origins.Given as goal

abbrev pub invariant-loop-name : goal.invariant-loop-name
invariant-loop-name l = Writes l.initial.self l.self (map origin_number (take l.name-index l.names.items))
