-- What the answers of replays mean together. The law stands in the contract of a public function that does nothing.
use Rattle.std.specs.Prelude.{◌≡◌, ⊤, List, Result, Ok, Err, IsPermutation}
use Rattle.calculus.specs.Form.{IsClosed}
use Rattle.calculus.specs.Log.{Header, Step}
use Rattle.process_laws.specs.ClosedRowLaws.{AreClosedRows}
use Rattle.replays.specs.Replays.{Given}
use Rattle.replays.specs.View.{verdict_of}
use Rattle.replay_answers.specs.Answers.{IsAnswered}
use Rattle.replays.specs.Refusals.{refusal_of}
use Rattle.replays.specs.declared.fault.ReplayFault.{ReplayFault}
use Rattle.replays.specs.declared.fault.ReplayFault.TheVariants.{NoMemory}
use Rattle.replay_answers.specs.declared.replayed.Replayed.{Replayed}

-- memory did not run out
abbrev pub IsTold : Result Replayed ReplayFault → Type 0
IsTold (Err NoMemory) = ⊥
IsTold _ = ⊤

-- two results say the same: the same refusal, or the same verdict, cost and output and the same rows in any order
abbrev pub SaySame : Result Replayed ReplayFault → Result Replayed ReplayFault → Type 0
SaySame (Ok r) (Ok q) = (verdict_of r.verdict ≡ verdict_of q.verdict) × (r.cost ≡ q.cost) × (r.output.items ≡ q.output.items) × IsPermutation r.rows.items q.rows.items
SaySame (Err e) (Err f) = refusal_of e ≡ refusal_of f
SaySame _ _ = ⊥

-- all results that are the answer to one log say the same, where the checkpoint's rows and the process are closed
abbrev pub AnswersSaySame : Type 0
AnswersSaySame = (g : Given) (h : Header) (ss : List Step) → AreClosedRows g.rows → IsClosed g.process
    → (r q : Result Replayed ReplayFault) → IsTold r → IsTold q → IsAnswered g h ss r → IsAnswered g h ss q → SaySame r q
