use Rattle.std.proofs.Common.{length}
use Rattle.replay_slots.proofs.finding.+find_built.Given as goal

abbrev pub decreases-find_built : goal.decreases-find_built
decreases-find_built l = length l.built.now
