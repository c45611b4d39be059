-- With what the hub of a play opens.
use Rattle.std.proofs.Common.{◌≡◌, List, [], ◌∷◌, ◌++◌, refl, sym, subst, arith}
use Rattle.std.specs.Prelude.{Result, Ok, Err, IfOk}
use Rattle.calculus.specs.Rows.{Row, stdout, stdout_ack}
use Rattle.calculus.specs.Unfolding.{rows_of, Unfolds}
use Rattle.calculus.specs.Runs.{Deploy, Work, work_products, source_seed, begun, made_digests}
use Rattle.events.specs.Events.{AreFresh, first_ids}
use Rattle.events.proofs.Counts.{ids, AreDistinct, differ-distinct, distinct-differ, times-append}
use Rattle.events.proofs.Legal.{leads-none}
use Rattle.events.proofs.EventStanding.{ids-times}
use Rattle.hub_rule.specs.Counts.{Projected}
use Rattle.shard_tables.specs.Hands.{AreShardsOf, IdsDiffer}
use Rattle.hub_scenes.specs.Plays.{TouchingEntry}
use Rattle.play_hub.specs.Values.{hub_meaning}

module _ (deploy : Deploy) (source : Work) where
  -- where digests are fresh before the first step, no two rows of the base have one id
  rows-differ : Unfolds deploy.prices deploy.limit deploy.process (source_seed deploy) source → AreFresh deploy [] → IdsDiffer deploy.rows
  rows-differ u f = distinct-differ (ids deploy.rows) (λ y. omega (arith, all y, times-append y (first_ids deploy.rows) (made_digests (begun deploy.rows source)), ids-times y deploy.rows (stdout ∷ stdout_ack ∷ [])))
    where
      all : AreDistinct (first_ids deploy.rows ++ made_digests (begun deploy.rows source))
      all = differ-distinct (first_ids deploy.rows ++ made_digests (begun deploy.rows source)) (f [] [] refl (begun deploy.rows source) (leads-none deploy source u))

  -- the shards of the base, with what the source offers
  pub opens : {X : Type 0} (rows : X → List Row) (base : List Row) (shards : List X) (works : List Row) → deploy.rows ≡ base → (IdsDiffer base → AreShardsOf rows base shards) → works ≡ rows_of (work_products source)
      → (store : List TouchingEntry) × Projected (hub_meaning deploy source rows).projects store shards × (hub_meaning deploy source rows).opens store works
  opens rows base shards works b are w = (
    [],
    (λ k x g begins played fresh. subst (λ l. IdsDiffer l → AreShardsOf rows l shards) (sym b) are (rows-differ begins.unfolds fresh) k x g),
    (λ begins. (refl, begins, w)),
  )

-- two facts of a result at once
pub both-ok : {A E : Type 0} (r : Result A E) (P Q : A → Type 0) → IfOk r P → IfOk r Q → IfOk r (λ x. P x × Q x)
both-ok (Ok x) P Q h k = (h, k)
both-ok (Err e) P Q h k = tt
