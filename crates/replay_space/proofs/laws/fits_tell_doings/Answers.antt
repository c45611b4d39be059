use Rattle.replay_space.proofs.Fitting.{fits_tell_doings}
use Rattle.replay_space.proofs.laws.fits_tell_doings.Goals as goal

pub returns : goal.returns
returns c = record { law = fits_tell_doings }
