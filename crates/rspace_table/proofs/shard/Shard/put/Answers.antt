use Rattle.std.proofs.Common.{◌<◌, ℕ, ap, sym, subst, ◌∙◌}
use Rattle.events.specs.Shards.{stands_in}
use Rattle.rspace_table.specs.Hands.{StandIn}
use Rattle.rspace_table.proofs.Changes.{stand-after}
use Rattle.rspace_table.proofs.shard.Shard.put.Goals as goal

pub invariant_of-self : goal.invariant_of-self
invariant_of-self c =
    λ lt. let e = c.common_number-self-inside.ensures lt in
    stand-after c.common_number-self-inside.result c.args.row c.self.inside.table c.put.new.self c.put.result
    (ap (λ (k : ℕ). stands_in k c.args.row) e.1 ∙ c.requires)
    (subst (λ (k : ℕ). StandIn k c.self.inside.table) (sym e.0) (c.self.invariant (subst (λ (k : ℕ). k < 64) e.0 lt)))
    c.put.ensures.same c.put.ensures.added c.put.ensures.failed
