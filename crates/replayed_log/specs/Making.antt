-- What a step is made of.
use Rattle.std.specs.Prelude.{◌≡◌, ◌<◌, ◌^◌, ℕ, ◌+◌, List, length, map as each}
use Rattle.calculus.specs.declared.ids.Digest.{Digest}
use Rattle.calculus.specs.Outcome.{Prices}
use Rattle.calculus.specs.Rows.{Row}
use Rattle.calculus.specs.Runs.{Work, work_products, work_price, work_fault}
use Rattle.calculus.specs.Seeds.{digest_of, Comm}
use Rattle.calculus.specs.Tree.{Tree}
use Rattle.calculus.specs.Unfolding.{rows_of, UnfoldsUnder}
use Rattle.event_log.specs.declared.log.LogStep.{LogStep}
use Rattle.found_rows.specs.Making.{printed_line}
use Rattle.hub_scenes.specs.Spaces.{IndexTry}
use Rattle.replay_hub.specs.declared.deed.Did.TheVariants.{Done}
use Rattle.replay_hub.specs.declared.deed.Try.{Try}
use Rattle.replay_hub.specs.Values.{line_items, offers_of}
use Rattle.replay_worker.specs.declared.tables.Doing.{Doing}
use Rattle.replay_shards.specs.declared.ready.Ready.{Ready}
use Rattle.replay_shards.specs.Ready.{index_tries}

-- a try of a hub
abbrev pub seen_try : Try Tree → IndexTry
seen_try t = record { index = t.step; channel = t.channel }

-- tries of a hub
abbrev pub seen_tries : List (Try Tree) → List IndexTry
seen_tries ts = each seen_try ts

-- The step of a log that a try names, done with what was found: the body came to a work under these prices and this cap, which tells its offers, its price and its fault. What leaves, what is
-- printed and the tries that follow are those of what was found.
pub record IsMade (p : Prices) (cap : ℕ) (u : LogStep) (t : Try Tree) (r : Ready) (d : Doing Row Tree) : Type 0 where
  pub work : Work
  pub said : UnfoldsUnder p cap r.found.bound.items r.found.body (digest_of (Comm u.cont.0 (each (λ (x : Digest). x.0) u.taken.items) u.repeat)) work
  pub same_step : d.made.step ≡ t.step
  pub same_channel : d.made.channel.value ≡ t.channel
  pub step : d.made.made.value ≡ u
  pub gone : d.gone.items ≡ r.found.gone.items
  pub seen : d.made.gone.value.items ≡ r.found.gone.items
  pub offers : d.made.offers.value.items ≡ rows_of (work_products work)
  pub next : seen_tries d.made.next.value.items ≡ index_tries r.next.items
  pub price : d.made.price ≡ p.comm + work_price cap work
  pub fault : d.made.fault ≡ work_fault work
  pub line : line_items d.made.line ≡ printed_line r.found
  pub tasks : d.tasks.items ≡ offers_of (Done d.made)
  pub few : length d.tasks.items < 2 ^ 57
