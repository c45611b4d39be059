use Rattle.std.proofs.Common.{Some}
use Rattle.hub_steps.proofs.works.draw_and_tell.Given as goal

-- the entry that is drawn
abbrev pub ghosts-draw_as : goal.ghosts-draw_as
ghosts-draw_as g a = record { entry = Some a.entry.now }
