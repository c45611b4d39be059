-- What the done steps of a replay, drawn in any order, come to in the order of the log.
use Rattle.std.specs.Prelude.{◌≡◌, ◌<◌, ⊤, ℕ, ◌+◌, ◌-◌, ◌^◌, min, true, List, [], ◌∷◌, map as each, sum_by, Option, Some, None}
use Rattle.calculus.specs.Runs.{Deploy, Work}
use Rattle.events.specs.Entries.{first_fault}
use Rattle.calculus.specs.declared.fault.FaultKind.{FaultKind}
use Rattle.replays.specs.Replays.{output_of}
use Rattle.replays.specs.View.{verdict_of}
use Rattle.hub_scenes.specs.Spaces.{DidStep}
use Rattle.hub_scenes.specs.Closing.{is_did, IsFirstUndone, did_at, in_log_order, did_verdict, did_cost, did_lines}
use Rattle.replay_outcome.specs.declared.places.Came.{Came}
use Rattle.replay_outcome.specs.declared.sum.Sum.{Sum}
use Rattle.replay_outcome.specs.declared.sum.Summed.{Summed}
use Rattle.replay_outcome.specs.declared.sum.Summed.TheVariants.{Undone, Whole}
use Rattle.replay_outcome.specs.declared.settling.Ending.{Ending}
use Rattle.replay_outcome.specs.declared.settling.Settled.{Settled}
use Rattle.replay_outcome.specs.declared.settling.Settled.TheVariants.{NoRun, Ended}
use Rattle.replay_hub.specs.Values.{line_items}

-- what is kept of a step, where it is done
abbrev pub Keeps : Option Came → List DidStep → Type 0
Keeps None [] = ⊤
Keeps None (d ∷ ds) = ⊥
Keeps (Some c) [] = ⊥
Keeps (Some c) (d ∷ []) = (c.price ≡ d.price) × (c.fault ≡ d.fault) × (line_items c.line ≡ d.line)
Keeps (Some c) (d ∷ (e ∷ ds)) = ⊥

-- at each index what is kept of the step with this index
abbrev pub KeptFrom : ℕ → List DidStep → List (Option Came) → Type 0
KeptFrom i ds [] = ⊤
KeptFrom i ds (o ∷ os) = Keeps o (did_at i ds) × KeptFrom (i + 1) ds os

-- each step with an index below this one is done
abbrev pub AreDidBelow : ℕ → List DidStep → Type 0
AreDidBelow n ds = (i : ℕ) → i < n → is_did i ds ≡ true

-- these steps, in the order of the log, cost so much beside the source, with at most the greatest number that is counted; this is the verdict of the first fault; and these are their lines
pub record IsSum (price : ℕ) (fault : Option FaultKind) (ds : List DidStep) (s : Sum) : Type 0 where
  pub total : s.total ≡ min (price + sum_by (λ d. d.price) ds) (2 ^ 64 - 1)
  pub verdict : verdict_of s.verdict ≡ first_fault 0 (fault ∷ each (λ d. d.fault) ds)
  pub lines : s.lines.items ≡ did_lines ds

-- the first step that is not done, or the sum of all
abbrev pub SumsUp : ℕ → ℕ → Option FaultKind → List DidStep → Summed → Type 0
SumsUp n price fault ds (Undone i) = (i < n) × IsFirstUndone i ds
SumsUp n price fault ds (Whole s) = AreDidBelow n ds × IsSum price fault (in_log_order n ds) s

-- what these done steps, in the order of the log, come to
pub record EndsSo (deploy : Deploy) (w : Work) (ds : List DidStep) (e : Ending) : Type 0 where
  pub verdict : verdict_of e.verdict ≡ did_verdict deploy w ds
  pub cost : e.cost ≡ did_cost deploy w ds
  pub output : e.output.items ≡ output_of (did_verdict deploy w ds) (did_lines ds)

-- the first step of a log of this length that is not done, or what all come to
abbrev pub Settles : Deploy → Work → ℕ → List DidStep → Settled → Type 0
Settles deploy w n ds (NoRun i) = (i < n) × IsFirstUndone i ds
Settles deploy w n ds (Ended e) = AreDidBelow n ds × EndsSo deploy w (in_log_order n ds) e
