-- A hub opens with a checkpoint's shards and what the source offers.
use Rattle.std.proofs.Common.{◌≡◌, List, [], ◌∷◌, map, refl, ap, ◌∙◌}
use Rattle.std.specs.Prelude.{None}
use Rattle.calculus.specs.Log.{Step}
use Rattle.calculus.specs.Rows.{Row}
use Rattle.calculus.specs.Runs.{Deploy, Work, work_products}
use Rattle.calculus.specs.Tree.{Tree}
use Rattle.calculus.specs.Unfolding.{rows_of}
use Rattle.events.specs.EventLaws.{Begins}
use Rattle.hub_rule.specs.Counts.{Projected}
use Rattle.hub_scenes.specs.Spaces.{arrive, Part, Space, first_space, new_row}
use Rattle.replay_hub.specs.declared.deed.Task.{Task}
use Rattle.replay_hub.specs.Values.{job_of, values}
use Rattle.replay_store.specs.Stores.{AreOpenedShards}
use Rattle.replay_runs.specs.Racing.{arrivals}

-- jobs as they are seen
first-jobs : (offers : List Row) → map (job_of (λ (q : Row). q) (λ (t : Tree). t)) (arrivals offers) ≡ map (λ r. arrive (new_row None r)) offers
first-jobs [] = refl
first-jobs (r ∷ offers) = ap (λ l. arrive (new_row None r) ∷ l) (first-jobs offers)

pub opens : (deploy : Deploy) (ss : List Step) (w : Work) → Begins deploy w → (shards : List Part) (offers : List Row) (tasks : List (Task Row Tree)) → AreOpenedShards deploy.rows shards → offers ≡ rows_of (work_products w) → tasks ≡ arrivals offers
    → (store : Space) × Projected (values deploy ss (λ (q : Row). q) (λ (t : Tree). t) (λ (x : Part). x)).projects store shards × (values deploy ss (λ (q : Row). q) (λ (t : Tree). t) (λ (x : Part). x)).opens store tasks
opens deploy ss w begins shards offers tasks opened of are = (
  first_space deploy w,
  (λ k x e fresh. let o = opened k x e in record { number = o.number; rows = o.rows; built = o.built }),
  record { work = w; begins = begins; is = refl; are = ap (map (job_of (λ (q : Row). q) (λ (t : Tree). t))) are ∙ first-jobs offers ∙ ap (map (λ r. arrive (new_row None r))) of },
)
