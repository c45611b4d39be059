use Rattle.std.proofs.Common.{ap}
use Rattle.std.specs.Prelude.{eqb}
use Rattle.replay_space.proofs.rig.Rig.is_repeat.Goals as goal

pub returns : goal.returns
returns c ss before s after r log place = ap (eqb c.args.repeat) (c.repeat_of.ensures ss before s after r log place)
