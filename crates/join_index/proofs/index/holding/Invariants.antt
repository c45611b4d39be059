use Rattle.std.proofs.Common.{◌≡◌, ◌++◌, drop, filter, map}
use Rattle.join_index.specs.Groups.{holds}
use Rattle.join_index.proofs.index.holding.Given as goal

abbrev pub invariant-loop-counted : goal.invariant-loop-counted
invariant-loop-counted l = map (λ g. g.items) l.found.items ++ filter (holds l.channel) (map (λ e. e.group) (drop l.counted-index l.groups)) ≡ filter (holds l.channel) (map (λ e. e.group) l.groups)
