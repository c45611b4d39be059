-- The step that an operation makes with rows that were found, and how often it was made before.
use Rattle.std.specs.Prelude.{◌≡◌, ◌≤◌, ◌<◌, ◌^◌, ℕ, ◌+◌, Bool, true, false, List, [], ◌∷◌, ◌++◌, length, map as each, Option, Some, None, ⊤}
use Rattle.calculus.specs.Limits.{most_limit}
use Rattle.calculus.specs.Log.{Step}
use Rattle.calculus.specs.Outcome.{Prices}
use Rattle.calculus.specs.Runs.{Deploy, Work, work_products, work_price, work_fault}
use Rattle.calculus.specs.Seeds.{digest_of, Comm}
use Rattle.calculus.specs.Steps.{same_meeting}
use Rattle.calculus.specs.Unfolding.{rows_of, UnfoldsUnder}
use Rattle.event_log.specs.View.{step_of}
use Rattle.hub_rule.specs.Counts.{things_of}
use Rattle.found_rows.specs.declared.found.Found.{Found}
use Rattle.found_rows.specs.Making.{step_with, times_made, printed_line}
use Rattle.events.specs.Entries.{Making, steps_of}
use Rattle.hub_scenes.specs.Plays.{entries_of, most_price}
use Rattle.play_hub.specs.declared.entry.PlayEntry.{PlayEntry}
use Rattle.play_hub.specs.Values.{entry_of}
use Rattle.play_hub.specs.Endings.{play_of}
use Rattle.play_draws.specs.declared.making.Ready.{Ready}

-- these are the prices and the limit of the deploy, and the limit is in range
abbrev pub Serves : Prices → ℕ → Deploy → Type 0
Serves p cap d = (d.prices ≡ p) × (d.limit ≡ cap) × (cap ≤ most_limit p)

-- the steps of numbered entries
abbrev pub steps_drawn : List (ℕ × PlayEntry) → List Step
steps_drawn ps = steps_of (entries_of (play_of (things_of ps)))

-- whether what was found makes a step like this one
abbrev pub like_in : Found → Option Making → Bool
like_in f None = false
like_in f (Some a) = same_meeting (step_with f 0) a.step

-- whether what was found makes a step like that of an entry
abbrev pub is_like : Found → PlayEntry → Bool
is_like f e = like_in f (entry_of e).entry.making

-- so often a step like that of the last entry was made, where it is told
abbrev pub IsAgain : List (ℕ × PlayEntry) → Option ℕ → Type 0
IsAgain took None = ⊤
IsAgain took (Some k) =
    (before : List (ℕ × PlayEntry)) × (last : ℕ × PlayEntry) × (took ≡ before ++ last ∷ []) × ((f : Found) → is_like f last.1 ≡ true → k ≡ times_made f (steps_drawn took))

-- the repeat number as far as a worker has to know it: counted where nothing leaves, and 0 where something does, since such a step was not made before
pub record IsRightNumber (made : List Step) (f : Found) (n : ℕ) : Type 0 where
  pub counted : f.lasting ≡ true → n ≡ times_made f made
  pub none : f.lasting ≡ false → n ≡ 0

-- a step of what was found, after these steps of its operation: its body came to a work under these prices and this cap, which tells the rest
pub record IsReady (p : Prices) (cap : ℕ) (f : Found) (took : List (ℕ × PlayEntry)) (r : Ready) : Type 0 where
  pub work : Work
  pub right : IsRightNumber (steps_drawn took) f r.made.step.repeat
  pub said : UnfoldsUnder p cap f.bound.items f.body (digest_of (Comm f.cont.0 (each (λ d. d.0) f.taken.items) r.made.step.repeat)) work
  pub step : step_of r.made.step ≡ step_with f r.made.step.repeat
  pub gone : r.gone ≡ f.gone
  pub seen : r.made.gone.value ≡ f.gone
  pub offers : r.offers.items ≡ rows_of (work_products work)
  pub offered : r.made.offers.value ≡ r.offers
  pub few : length r.offers.items < 2 ^ 57
  pub price : r.made.price ≡ p.comm + work_price cap work
  pub cheap : r.made.price ≤ most_price
  pub fault : r.made.fault ≡ work_fault work
  pub line : r.made.line.items ≡ printed_line f
  -- after an entry with this step, this is how often a step like it was made
  pub again : (n : ℕ) (e : PlayEntry) → e.made ≡ Some r.made → IsAgain (took ++ (n, e) ∷ []) r.again
