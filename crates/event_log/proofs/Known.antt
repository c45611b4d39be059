-- What is known of the steps of a log.
use Rattle.std.proofs.Common.{List, [], ◌∷◌, map}
use Rattle.std.specs.Prelude.{All}
use Rattle.std.proofs.lemmas.List.Elements.{All-head, All-tail}
use Rattle.calculus.specs.declared.ids.Digest.{Digest}
use Rattle.event_log.specs.declared.log.LogStep.{LogStep}
use Rattle.event_log.specs.View.{step_of}
use Rattle.event_log.specs.Laws.{AreIds, IsStep, AreSteps}
use Rattle.event_log.specs.Known.{HasIdBytes}

pub are-ids : (ds : List Digest) → All HasIdBytes ds → AreIds (map (λ (d : Digest). d.0) ds)
are-ids [] h = tt
are-ids (d ∷ ds) h = (All-head HasIdBytes d ds h, are-ids ds (All-tail HasIdBytes d ds h))

pub are-steps : (ss : List LogStep) → All (λ s. IsStep (step_of s)) ss → AreSteps (map step_of ss)
are-steps [] h = tt
are-steps (s ∷ ss) h = (All-head (λ s. IsStep (step_of s)) s ss h, are-steps ss (All-tail (λ s. IsStep (step_of s)) s ss h))
