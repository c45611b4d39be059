use Rattle.std.proofs.Common.{◌≡◌, map, take}
use Rattle.calculus.specs.Code.{code}
use Rattle.row_table.proofs.keys.bind_keys.Given as goal

abbrev pub invariant-loop-bind : goal.invariant-loop-bind
invariant-loop-bind l = map (λ k. k.items) l.keys.items ≡ map (λ b. code b.channel) (take l.bind-index l.binds.items)
