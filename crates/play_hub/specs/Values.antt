-- Values of a play, as entries and shards of its scene.
use Rattle.std.specs.Prelude.{ℕ, Bool, ◌&&◌, eqb, nat_lt, List, [], map as each, option_map}
use Rattle.std.specs.Int.{bit_at}
use Rattle.calculus.specs.declared.ids.Digest.{Digest}
use Rattle.calculus.specs.Tree.{par}
use Rattle.calculus.specs.Shape.{leaf}
use Rattle.calculus.specs.Rows.{Row}
use Rattle.calculus.specs.Outcome.{over}
use Rattle.calculus.specs.Runs.{Deploy, Work, deploy_of}
use Rattle.hub_rule.specs.Meaning.{Meaning, Lawful}
use Rattle.events.specs.Entries.{Making}
use Rattle.event_log.specs.View.{step_of}
use Rattle.events.specs.EventLaws.{Begins}
use Rattle.hub_scenes.specs.Plays.{TouchingEntry, IsPriced}
use Rattle.hub_scenes.specs.PlayScene.{play_meaning}
use Rattle.hub_scenes.specs.PlayPulled.{pulled}
use Rattle.hub_scenes.proofs.PlayTelling.{play_is_lawful}
use Rattle.hub_scenes.proofs.PlayPulled.{lawful-seen}
use Rattle.play_hub.specs.declared.entry.MadeStep.{MadeStep}
use Rattle.play_hub.specs.declared.entry.PlayEntry.{PlayEntry}

-- a deploy of nothing
abbrev pub no_deploy : Deploy
no_deploy = deploy_of (record { comm = 0; send = 0; receive = 0; name = 0; case = 0; op = 0; byte = 0 }) 0 [] (leaf par) []

-- a work that passes the limit
abbrev pub no_work : Work
no_work = over

-- whether the bit k is set, of the low 64
abbrev pub has_bit : ℕ → ℕ → Bool
has_bit n k = nat_lt k 64 && eqb (bit_at n k) 1

-- what a step that was made stands for
abbrev pub making_of : MadeStep → Making
making_of m = record {
  step = step_of m.step;
  gone = each (λ (id : Digest). id.0) m.gone.value.items;
  offers = m.offers.value.items;
  price = m.price;
  fault = m.fault;
  line = m.line.items;
}

-- what an entry stands for
abbrev pub entry_of : PlayEntry → TouchingEntry
entry_of e = record { entry = record { operation = e.operation.value; making = option_map making_of e.made }; touched = has_bit e.touched }

module _ (deploy : Deploy) (source : Work) {X : Type 0} (rows : X → List Row) where
  -- the scene of a play over these values, where the deploy begins so; that each entry is priced is known in any case
  abbrev pub hub_meaning : Meaning (List TouchingEntry) PlayEntry X Row
  hub_meaning = pulled (play_meaning deploy source) entry_of rows (Begins deploy source) (λ e. IsPriced deploy (entry_of e))

  -- it is lawful
  pub hub_lawful : Lawful hub_meaning
  hub_lawful = lawful-seen (play_meaning deploy source) entry_of rows (Begins deploy source) (λ e. IsPriced deploy (entry_of e)) (play_is_lawful deploy source)
