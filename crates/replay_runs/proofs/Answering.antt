-- The answer to a log from what its steps settle to.
use Rattle.std.proofs.Common.{◌≡◌, ℕ, List, length, map, sym, subst, inl, inr}
use Rattle.std.specs.Prelude.{◌⊎◌, Result, Err}
use Rattle.calculus.specs.Log.{Step, Header}
use Rattle.calculus.specs.Rows.{Row}
use Rattle.calculus.specs.Runs.{Deploy, Work, work_price, work_fault}
use Rattle.calculus.specs.Tree.{Tree}
use Rattle.replays.specs.Replays.{Given, by_step, deploy_under}
use Rattle.replays.specs.declared.fault.ReplayFault.{ReplayFault}
use Rattle.replays.specs.declared.fault.ReplayFault.TheVariants as fault
use Rattle.replay_hub.specs.Values.{entry_of}
use Rattle.replay_outcome.specs.declared.settling.Ending.{Ending}
use Rattle.replay_outcome.specs.declared.settling.Settled.{Settled}
use Rattle.replay_outcome.specs.declared.settling.Settled.TheVariants.{NoRun, Ended}
use Rattle.replay_outcome.specs.Settling.{EndsSo, Settles}
use Rattle.hub_scenes.specs.Entries.{did_by}
use Rattle.hub_scenes.specs.Spaces.{DidStep}
use Rattle.hub_scenes.specs.Closing.{DecideLog, in_log_order, IsLegalLog}
use Rattle.replay_answers.specs.Answers.{Clashes, IsAnswered}
use Rattle.replay_answers.specs.declared.replayed.Replayed.{Replayed}
use Rattle.replay_store.specs.Stores.{AreShardsOf}
use Rattle.replay_runs.specs.Endings.{HasRaced, IsSound}
use Rattle.replay_runs.specs.declared.ending.Raced.{Raced}

module _ (g : Given) (h : Header) (ss : List Step) (s : IsSound g h ss) (raced : Raced) (r : HasRaced g h ss raced) (count limit : ℕ) (e : h.limit ≡ limit) (n : length ss ≡ count) (x : Settled)
    (so : (deploy : Deploy) (w : Work) (row : Row → Row) (channel : Tree → Tree) → deploy.limit ≡ limit → work_price deploy.limit w ≡ raced.price → work_fault w ≡ raced.fault
    → Settles deploy w count (did_by (map (entry_of row channel) raced.entries.items)) x) where
  abbrev deploy : Deploy
  deploy = deploy_under h.limit g

  abbrev did : List DidStep
  did = did_by (map (entry_of (λ (q : Row). q) (λ (t : Tree). t)) raced.entries.items)

  settled : Settles (deploy_under h.limit g) r.work (length ss) did x
  settled = subst (λ k. Settles (deploy_under h.limit g) r.work k did x) (sym n) (so (deploy_under h.limit g) r.work (λ q. q) (λ t. t) e r.price r.fault)

  -- the first step that is not done
  pub undone-answered : (i : ℕ) → x ≡ NoRun i → IsAnswered g h ss (Err (fault.NoRun i)) ⊎ Clashes (deploy_under h.limit g) ss
  undone-answered i is = go r.decides
    where
      first : Settles (deploy_under h.limit g) r.work (length ss) did (NoRun i)
      first = subst (Settles (deploy_under h.limit g) r.work (length ss) did) is settled

      go : DecideLog (deploy_under h.limit g) r.work ss did raced.shards.items ⊎ Clashes (deploy_under h.limit g) ss → IsAnswered g h ss (Err (fault.NoRun i)) ⊎ Clashes (deploy_under h.limit g) ss
      go (inl d) = inl (by_step s.right (d.stops i first.0 first.1))
      go (inr c) = inr c

  -- all steps are done
  pub ended-answered : (ending : Ending) → x ≡ Ended ending → (y : Result Replayed ReplayFault)
      → ((g : Given) (h : Header) (ss : List Step) (w : Work) (ds : List DidStep) (store : List Row) → IsSound g h ss → AreShardsOf store raced.shards.items → IsLegalLog (deploy_under h.limit g) w ss ds store
      → EndsSo (deploy_under h.limit g) w ds ending → IsAnswered g h ss y ⊎ Clashes (deploy_under h.limit g) ss)
      → IsAnswered g h ss y ⊎ Clashes (deploy_under h.limit g) ss
  ended-answered ending is y answered = go r.decides
    where
      whole : Settles (deploy_under h.limit g) r.work (length ss) did (Ended ending)
      whole = subst (Settles (deploy_under h.limit g) r.work (length ss) did) is settled

      go : DecideLog (deploy_under h.limit g) r.work ss did raced.shards.items ⊎ Clashes (deploy_under h.limit g) ss → IsAnswered g h ss y ⊎ Clashes (deploy_under h.limit g) ss
      go (inl d) = answered g h ss r.work (in_log_order (length ss) did) d.store s d.shards (d.legal whole.0) whole.1
      go (inr c) = inr c
