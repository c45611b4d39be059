-- How a replay by many workers ends.
use Rattle.std.specs.Prelude.{◌≡◌, ◌⊎◌, ⊤, ℕ, true, List, map, Result, Ok, Err, None, IsPermutation}
use Rattle.calculus.specs.Form.{IsClosed}
use Rattle.calculus.specs.Log.{Step, Header}
use Rattle.calculus.specs.Rows.{Row}
use Rattle.calculus.specs.Runs.{Work, work_price, work_fault}
use Rattle.calculus.specs.Steps.{Bag, differ}
use Rattle.events.specs.Premises.{FitsInTexts}
use Rattle.least_step.specs.Least.{AllowsNone, IsLeast}
use Rattle.process_laws.specs.StorableLaws.{AreStorable}
use Rattle.replays.specs.Replays.{Given, header_refusal, deploy_under}
use Rattle.replays.specs.declared.verdict.Verdict.TheVariants.{Done}
use Rattle.replays.specs.declared.fault.ReplayFault.{ReplayFault}
use Rattle.replays.specs.declared.fault.ReplayFault.TheVariants.{Reducible, NoMemory}
use Rattle.hub_scenes.specs.Entries.{did_by}
use Rattle.hub_scenes.specs.Closing.{DecideLog}
use Rattle.replay_hub.specs.Values.{entry_of}
use Rattle.replay_answers.specs.Answers.{Clashes}
use Rattle.replay_answers.specs.Bases.{ids_of}
use Rattle.replay_answers.specs.declared.replayed.Replayed.{Replayed}
use Rattle.replay_runs.specs.declared.ending.Raced.{Raced}

-- a log's header is right, and all is known of its deploy that keeps digests apart: its rows may be stored and their ids differ, its process is closed, and what is hashed has room
pub record IsSound (g : Given) (h : Header) (ss : List Step) : Type 0 where
  pub right : header_refusal g h ≡ None
  pub storable : AreStorable g.rows
  pub ids : differ (ids_of g.rows) ≡ true
  pub closed : IsClosed g.process
  pub fits : FitsInTexts (deploy_under h.limit g) ss

-- what workers left decides a log, where its source came to a work with this price and this fault, or digests clash
pub record HasRaced (g : Given) (h : Header) (ss : List Step) (r : Raced) : Type 0 where
  pub work : Work
  pub price : work_price h.limit work ≡ r.price
  pub fault : work_fault work ≡ r.fault
  pub decides : DecideLog (deploy_under h.limit g) work ss (did_by (map (entry_of (λ q. q) (λ t. t)) r.entries.items)) r.shards.items ⊎ Clashes (deploy_under h.limit g) ss

-- how a run ends whose price and verdict let it be done, in this bag after these steps: with these rows, in any order, and this output where no step is allowed, and else the least such step is named
abbrev pub EndsDone : Bag → List Step → List Row → ℕ → List ℕ → Result Replayed ReplayFault → Type 0
EndsDone b made store cost out (Ok r) = AllowsNone b made × (r.verdict ≡ Done) × (r.cost ≡ cost) × IsPermutation r.rows.items store × (r.output.items ≡ out)
EndsDone b made store cost out (Err (Reducible cont taken)) = IsLeast b made (record { cont = cont; taken = taken })
EndsDone b made store cost out (Err NoMemory) = ⊤
EndsDone b made store cost out (Err _) = ⊥
