-- What a hub of a play that was closed came to.
use Rattle.std.proofs.Common.{◌≡◌, ◌≤◌, ◌<◌, ℕ, ◌+◌, ◌*◌, ◌/◌, true, List, [], ◌∷◌, ◌++◌, length, map as each, refl, arith, inl, inr, max, length-append}
use Rattle.std.specs.Prelude.{◌⊎◌, slice_get, Option, Some, None, IsSome, min}
use Rattle.std.specs.List.{All}
use Rattle.std.proofs.lemmas.List.Elements.{All-weaker}
use Rattle.std.proofs.lemmas.Nat.{le-div}
use Rattle.calculus.specs.Rows.{Row}
use Rattle.calculus.specs.Steps.{differ}
use Rattle.calculus.specs.Runs.{Deploy, Work, work_price}
use Rattle.events.specs.EventLaws.{Begins}
use Rattle.events.specs.Premises.{FitsInTexts, Collides}
use Rattle.group_locks.specs.declared.state.SeatState.{SeatState}
use Rattle.hub_rule.specs.declared.terms.StopCause.{StopCause}
use Rattle.hub_rule.specs.declared.terms.StopCause.TheVariants.{Fault, NoMemory}
use Rattle.hub_rule.specs.Counts.{count, once_below, total, all_of, Each}
use Rattle.hub_rule.specs.Meaning.{Ran}
use Rattle.hub_rule.specs.Rule.{cost}
use Rattle.group_locks.specs.Seats.{drawn_by, settled_by, fresh_by, charged_by, due_of, hand_of, empty_of, over_of, stops_of}
use Rattle.hub_rule.specs.Stops.{FaultOf}
use Rattle.events.specs.Entries.{Making, steps_in, steps_of, price_in, total_of}
use Rattle.events.specs.Allowed.{ShowsAnId}
use Rattle.hub_scenes.specs.Plays.{entries_of, most_price, IsPriced, IsPlay}
use Rattle.hub_scenes.specs.PlayLaws.{HasEnded, all_done, PlaysRun}
use Rattle.play_hub.specs.declared.entry.PlayEntry.{PlayEntry}
use Rattle.play_hub.specs.Values.{entry_of, hub_meaning}
use Rattle.play_hub.specs.Endings.{play_of, ArePriced}
use Rattle.play_hub.proofs.Ending.{hubs_come_to_plays, causes_end_hubs}
use Rattle.play_draws.specs.Turns.{HasCause}
use Rattle.play_outcome.specs.Runs.{EndedPlay}
use Rattle.play_pool.specs.Closing.{ClosesPlay}
use Rattle.play_pool.proofs.Sums.{settled-steps, settled-costs, all-charged}
use Rattle.play_pool.proofs.Causes.{caused}

-- how many steps an entry makes: one at most
abbrev steps_made : PlayEntry → ℕ
steps_made e = length (steps_in (entry_of e).entry.making)

one-step : (x : Option Making) → length (steps_in x) ≤ 1
one-step None = omega arith
one-step (Some a) = omega arith

steps-long : (es : List PlayEntry) → total steps_made es ≡ length (steps_of (entries_of (play_of es)))
steps-long [] = refl
steps-long (e ∷ es) = omega (arith, length-append (steps_in (entry_of e).entry.making) (steps_of (entries_of (play_of es))), steps-long es)

module _ (deploy : Deploy) (source : Work) {X S : Type 0} (rows : X → List Row) (state : S → SeatState PlayEntry X Row) (opened : List X) (works : List Row) (es : List PlayEntry) (closed : List X) (left : List Row) (ss : List S)
    (ran : Ran (hub_meaning deploy source rows) opened works es closed left (all_of (λ s. hand_of (state s)) ss)) where
  abbrev price : PlayEntry → ℕ
  price = (hub_meaning deploy source rows).price

  abbrev hands : List (ℕ × Row)
  hands = all_of (λ s. hand_of (state s)) ss

  priced : ArePriced deploy source rows es closed left hands
  priced = (hubs_come_to_plays rows deploy source opened works es closed left hands ran).0

  dear : All (λ e. deploy.prices.comm * steps_made e ≤ price e) es
  dear = All-weaker (λ e. IsPriced deploy (entry_of e)) (λ e. deploy.prices.comm * steps_made e ≤ price e) (λ e k. least (deploy.prices.comm * steps_made e) (price_in (entry_of e).entry.making) k.dear k.cheap) es priced.0
    where
      least : (n p : ℕ) → n ≤ p → p ≤ most_price → n ≤ min p most_price
      least n p h k = omega (arith, h, k)

  module _ (once : (n : ℕ) → count n (all_of (λ s. drawn_by (state s)) ss) ≡ once_below n (length es)) (drawn : All (λ s. Each (λ n e. slice_get es n ≡ Some e) (drawn_by (state s))) ss)
      (last : All (λ s. (drawn_by (state s) ≡ (settled_by (state s) ++ fresh_by (state s)) ++ due_of (state s)) × (length (fresh_by (state s)) + length (due_of (state s)) ≤ 1)) ss)
      (charged spent limit : ℕ) (is-spent : spent ≡ work_price deploy.limit source) (is-limit : limit ≡ deploy.limit) (due : All (λ s. due_of (state s) ≡ []) ss) (paid : charged ≡ spent + total (λ s. cost price (charged_by (state s))) ss)
      (bounded : spent + total (λ s. cost price (settled_by (state s))) ss ≤ max spent limit) (workers : ℕ) (some : 1 ≤ workers) (many : length ss ≡ workers) (comm : 1 ≤ deploy.prices.comm) where
    one : (e : PlayEntry) → steps_made e ≤ 1
    one e = one-step (entry_of e).entry.making

    costs : total (λ s. cost price (charged_by (state s))) ss ≡ total price es
    costs = all-charged es price steps_made deploy.prices.comm dear one (λ s. drawn_by (state s)) (λ s. settled_by (state s)) (λ s. fresh_by (state s)) (λ s. due_of (state s)) ss once drawn last due

    total-is : total_of deploy source (entries_of (play_of es)) ≡ charged
    total-is = omega (arith, paid, is-spent, costs, priced.1)

    settled : ℕ
    settled = total (λ s. cost steps_made (settled_by (state s))) ss

    steps-few : length (steps_of (entries_of (play_of es))) ≤ total (λ s. cost steps_made (settled_by (state s))) ss + length ss
    steps-few = omega (
      arith,
      steps-long es,
      settled-steps es price steps_made deploy.prices.comm dear one (λ s. drawn_by (state s)) (λ s. settled_by (state s)) (λ s. fresh_by (state s)) (λ s. due_of (state s)) ss once drawn last,
    )

    settled-within : total (λ s. cost steps_made (settled_by (state s))) ss * deploy.prices.comm ≤ deploy.limit
    settled-within = turned deploy.prices.comm (total (λ s. cost steps_made (settled_by (state s))) ss) (total (λ s. cost price (settled_by (state s))) ss)
        (settled-costs es price steps_made deploy.prices.comm dear one (λ s. drawn_by (state s)) (λ s. settled_by (state s)) (λ s. fresh_by (state s)) (λ s. due_of (state s)) ss once drawn last) (omega (arith, bounded, is-limit))
      where
        turned : (c n p : ℕ) → c * n ≤ p → p ≤ deploy.limit → n * c ≤ deploy.limit
        turned c n p h k = grind (arith, h, k)

    few : length (steps_of (entries_of (play_of es))) ≤ deploy.limit / deploy.prices.comm + workers
    few = omega (arith, steps-few, many, le-div (total (λ s. cost steps_made (settled_by (state s))) ss) deploy.limit deploy.prices.comm comm settled-within)

    module _ (stop : Option StopCause) (other : stop ≡ Some NoMemory → ⊥) (found : All (λ s. HasCause (state s)) ss) (empty : All (λ s. 0 < empty_of (state s) → (left ≡ []) × (all_of (λ s. hand_of (state s)) ss ≡ [])) ss)
        (over : All (λ s. 0 < over_of (state s) → limit < charged) ss) (stops : All (λ s. 0 < stops_of (state s) → IsSome stop) ss) (fault : stop ≡ Some Fault → FaultOf (hub_meaning deploy source rows).faults es) where
      ended : HasEnded deploy source (play_of es) left hands
      ended = go (caused state ((left ≡ []) × (all_of (λ s. hand_of (state s)) ss ≡ [])) (limit < charged) (FaultOf (hub_meaning deploy source rows).faults es) stop other fault ss (omega (arith, some, many)) found empty over stops)
        where
          go : ((left ≡ []) × (all_of (λ s. hand_of (state s)) ss ≡ [])) ⊎ ((limit < charged) ⊎ FaultOf (hub_meaning deploy source rows).faults es) → HasEnded deploy source (play_of es) left hands
          go (inl n) = all_done n.0 n.1
          go (inr (inl o)) = (causes_end_hubs rows deploy source es left hands).1 (omega (arith, o, is-limit, paid, is-spent, costs))
          go (inr (inr f)) = (causes_end_hubs rows deploy source es left hands).0 f

      comes : Begins deploy source → FitsInTexts deploy (steps_of (entries_of (play_of es))) → differ (each (λ r. r.id) deploy.rows) ≡ true
          → EndedPlay deploy source (play_of es) (each rows closed) ⊎ (ShowsAnId deploy (steps_of (entries_of (play_of es))) ⊎ Collides deploy (steps_of (entries_of (play_of es))))
      comes b fits differs =
          let h = (hubs_come_to_plays rows deploy source opened works es closed left hands ran).1 b in
          go h.0 (h.1 fits differs)
        where
          go : IsPlay deploy source (play_of es) → PlaysRun deploy source (play_of es) (each rows closed) left hands ⊎ (ShowsAnId deploy (steps_of (entries_of (play_of es))) ⊎ Collides deploy (steps_of (entries_of (play_of es))))
              → EndedPlay deploy source (play_of es) (each rows closed) ⊎ (ShowsAnId deploy (steps_of (entries_of (play_of es))) ⊎ Collides deploy (steps_of (entries_of (play_of es))))
          go d (inl p) = inl (record { drawn = d; left = left; hands = hands; plays = p; ended = ended })
          go d (inr x) = inr x

      pub closes : ClosesPlay deploy source workers es (each rows closed) charged
      closes = record { total = total-is; few = few; comes = comes }
