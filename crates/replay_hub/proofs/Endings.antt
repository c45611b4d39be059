-- What ran over Rust values decides the log.
use Rattle.std.proofs.Common.{◌≡◌, ℕ, true, List, [], map, ap}
use Rattle.std.specs.Prelude.{◌⊎◌}
use Rattle.calculus.specs.Tree.{Tree}
use Rattle.calculus.specs.Log.{Step}
use Rattle.calculus.specs.Rows.{Row}
use Rattle.calculus.specs.Unfolding.{Unfolds}
use Rattle.calculus.specs.Steps.{differ}
use Rattle.calculus.specs.Runs.{Deploy, source_seed, Work}
use Rattle.events.specs.Premises.{FitsInTexts}
use Rattle.hub_rule.specs.Meaning.{Ran}
use Rattle.racing_replays.specs.Answering.{SomeClash}
use Rattle.hub_scenes.specs.Spaces.{Part}
use Rattle.hub_scenes.specs.Entries.{did_by}
use Rattle.hub_scenes.specs.ReplayScene.{replay}
use Rattle.hub_scenes.specs.Closing.{DecideLog}
use Rattle.hub_scenes.specs.ReplayPulled.{seen_at}
use Rattle.hub_scenes.proofs.Deciding.{hubs_decide_or_clash}
use Rattle.hub_scenes.proofs.ReplayPulled.{ran-seen}
use Rattle.replay_hub.specs.declared.deed.Entry.{Entry}
use Rattle.replay_hub.specs.declared.deed.Task.{Task}
use Rattle.replay_hub.specs.Values.{job_of, takes_of, offers_of, entry_of, values, agrees}

pub decides : {R C S : Type 0} (deploy : Deploy) (ss : List Step) (row : R → Row) (channel : C → Tree) (part : S → Part) (opened : List S) (works : List (Task R C)) (entries : List (Entry R C)) (closed : List S) (left : List (Task R C)) (hands : List (ℕ × Task R C))
    → Ran (values deploy ss row channel part) opened works entries closed left hands
    → (w : Work) → Unfolds deploy.prices deploy.limit deploy.process (source_seed deploy) w → FitsInTexts deploy ss → differ (map (λ q. q.id) deploy.rows) ≡ true → left ≡ [] → hands ≡ []
    → DecideLog deploy w ss (did_by (map (entry_of row channel) entries)) (map part closed) ⊎ SomeClash deploy w ss
decides deploy ss row channel part opened works entries closed left hands ran w u fits differs a b =
    hubs_decide_or_clash deploy ss w (map part opened) (map (job_of row channel) works) (map (entry_of row channel) entries) (map part closed) (map (job_of row channel) left) (map (seen_at (job_of row channel)) hands) u fits differs
    (ran-seen (replay deploy ss) (entry_of row channel) part (job_of row channel) (λ e. takes_of e.did) (λ e. offers_of e.did) (agrees deploy ss row channel part) opened works entries closed left hands ran)
    (ap (map (job_of row channel)) a) (ap (map (seen_at (job_of row channel))) b)
