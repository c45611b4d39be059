use Rattle.std.proofs.Common.{◌≡◌, ℕ, eqb, take, map as each}
use Rattle.std.specs.List.{list_any}
use Rattle.calculus.specs.Storing.{shard}
use Rattle.rho_term.specs.declared.term.TermBind.{TermBind}
use Rattle.replay_rows.specs.Bits.{has_bit}
use Rattle.replay_rows.proofs.bits.bind_shards.Given as goal

abbrev pub invariant-loop-bind : goal.invariant-loop-bind
invariant-loop-bind l = (k : ℕ) → has_bit l.shards k ≡ list_any (eqb k) (each (λ (b : TermBind). shard b.channel) (take l.bind-index l.bind-items))
