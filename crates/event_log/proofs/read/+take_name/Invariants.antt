use Rattle.std.proofs.Common.{length}
use Rattle.event_log.proofs.read.+take_name.Given as goal

abbrev pub decreases-take_name : goal.decreases-take_name
decreases-take_name l = length l.wanted.now
