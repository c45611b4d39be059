-- What a replay came to.
use Rattle.std.specs.Prelude.{◌≡◌, ◌≢◌, List, [], Result, Ok, Err, IfSome, IsPermutation}
use Rattle.calculus.specs.Log.{Step, Header}
use Rattle.calculus.specs.Runs.{Deploy, Work, source_seed, done}
use Rattle.calculus.specs.Unfolding.{Unfolds}
use Rattle.racing_replays.specs.Answering.{SomeClash}
use Rattle.replays.specs.Replays.{Given, Outcome, refused, replayed, Answers}
use Rattle.replays.specs.View.{verdict_of}
use Rattle.replays.specs.Refusals.{refusal_of}
use Rattle.replays.specs.declared.fault.ReplayFault.{ReplayFault}
use Rattle.replay_answers.specs.declared.replayed.Replayed.{Replayed}

-- the digests of a replay of a log clash: the source comes to this work, and from there some of the log's steps may be done, in an order that each row's uses allow, so that a row of the checkpoint has the id of a built-in receiver or one that is made there, or two of the texts that are hashed there have one digest
pub record Clashes (deploy : Deploy) (ss : List Step) : Type 0 where
  pub source : Work
  pub unfolds : Unfolds deploy.prices deploy.limit deploy.process (source_seed deploy) source
  pub clash : SomeClash deploy source ss

-- a replay came to the answer of its log: an outcome with this verdict, cost and output, whose rows are these, in any order, where it is done, and else the checkpoint's
pub record IsReplayed (g : Given) (h : Header) (ss : List Step) (r : Replayed) : Type 0 where
  pub outcome : Outcome
  pub answer : Answers g h ss (replayed outcome)
  pub verdict_is : outcome.verdict ≡ verdict_of r.verdict
  pub cost_is : outcome.cost ≡ r.cost
  pub output_is : outcome.output ≡ r.output.items
  pub left : outcome.verdict ≡ done → IsPermutation r.rows.items outcome.rows
  pub lost : outcome.verdict ≢ done → (outcome.rows ≡ g.rows) × (r.rows.items ≡ [])

-- what a replay answers is the answer to its log, or the refusal that its fault stands for is; where memory ran out nothing is said
abbrev pub IsAnswered : Given → Header → List Step → Result Replayed ReplayFault → Type 0
IsAnswered g h ss (Ok r) = IsReplayed g h ss r
IsAnswered g h ss (Err e) = IfSome (refusal_of e) (λ x. Answers g h ss (refused x))
