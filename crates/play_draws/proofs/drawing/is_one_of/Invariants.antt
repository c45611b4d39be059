use Rattle.std.proofs.Common.{◌≡◌, drop, map}
use Rattle.calculus.specs.Steps.{is_one_of}
use Rattle.play_draws.proofs.drawing.is_one_of.Given as goal

abbrev pub invariant-loop-other : goal.invariant-loop-other
invariant-loop-other l = is_one_of l.id.0 (map (λ d. d.0) l.ids) ≡ is_one_of l.id.0 (map (λ d. d.0) (drop l.other-index l.ids))
