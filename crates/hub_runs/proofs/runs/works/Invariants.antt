use Rattle.std.proofs.Common.{◌≡◌, length}
use Rattle.hub_runs.proofs.runs.works.Given as goal

abbrev pub invariant-loop-chain : goal.invariant-loop-chain
invariant-loop-chain l = length l.works.items ≡ l.chain
