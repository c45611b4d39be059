use Rattle.replayed_log.proofs.SetBits.{one-bit}
use Rattle.replayed_log.proofs.bits.bit_of.Goals as goal

pub returns : goal.returns
returns c = one-bit c.args.number c.requires
