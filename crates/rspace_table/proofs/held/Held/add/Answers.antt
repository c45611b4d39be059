use Rattle.std.proofs.Common.{◌∙◌, length-set}
use Rattle.std.specs.Prelude.{Some}
use Rattle.rspace_table.proofs.held.Held.add.Goals as goal

pub invariant_of-self : goal.invariant_of-self
invariant_of-self c = (length-set c.self.inside.shards.items c.args.number (Some c.args.shard) ∙ c.self.invariant.0, c.self.invariant.1)
