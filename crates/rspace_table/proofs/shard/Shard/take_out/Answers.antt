use Rattle.std.proofs.Common.{map}
use Rattle.calculus.specs.declared.ids.Digest.{Digest}
use Rattle.rspace_table.proofs.Changes.{fewer-stand}
use Rattle.rspace_table.proofs.shard.Shard.take_out.Goals as goal

pub invariant_of-self : goal.invariant_of-self
invariant_of-self c = λ lt. fewer-stand c.self.inside.number (map (λ (d : Digest). d.0) c.args.ids.now) c.self.inside.table c.take_out.new.self c.take_out.ensures (c.self.invariant lt)
