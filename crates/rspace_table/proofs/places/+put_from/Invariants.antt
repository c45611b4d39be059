use Rattle.std.proofs.Common.{◌-◌}
use Rattle.rspace_table.proofs.places.+put_from.Given as goal

abbrev pub decreases-put_from : goal.decreases-put_from
decreases-put_from l = 64 - l.number
