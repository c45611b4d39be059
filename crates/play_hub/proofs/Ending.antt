-- What the entries of a hub over these values come to.
use Rattle.std.proofs.Common.{◌≡◌, ℕ, true, List, [], ◌∷◌, map as each, refl, sym, ap, ◌∙◌, arith, inl, inr}
use Rattle.std.specs.Prelude.{◌⊎◌, All}
use Rattle.std.proofs.lemmas.List.Elements.{All-head, All-tail}
use Rattle.std.proofs.Math.Nat.{min-eq_left}
use Rattle.calculus.specs.Rows.{Row}
use Rattle.calculus.specs.Steps.{is_one_of, differ}
use Rattle.calculus.specs.Runs.{Deploy, Work}
use Rattle.events.specs.Premises.{Collides}
use Rattle.events.specs.EventLaws.{Begins}
use Rattle.hub_rule.specs.Counts.{total}
use Rattle.hub_rule.specs.Meaning.{Ran}
use Rattle.events.specs.Entries.{price_in, prices_of, steps_of}
use Rattle.events.specs.Allowed.{ShowsAnId}
use Rattle.hub_scenes.specs.Plays.{entries_of, most_price, IsPriced, IsPlay}
use Rattle.hub_scenes.specs.PlayScene.{play_meaning}
use Rattle.hub_scenes.specs.PlayLaws.{RanPlay, by_fault, by_limit, PlaysRun}
use Rattle.hub_scenes.proofs.Ending.{hubs_draw_plays, hubs_play_or_show_an_id}
use Rattle.hub_scenes.proofs.PlayPulled.{ran-known, ran-seen, fault-seen, total-seen}
use Rattle.play_hub.specs.declared.entry.PlayEntry.{PlayEntry}
use Rattle.play_hub.specs.Values.{entry_of, hub_meaning}
use Rattle.play_hub.specs.Endings.{play_of, ComesToAPlay, ComesToAPlayFromNothing, ArePriced, HubsComeToPlays, CausesEndHubs}

module _ (deploy : Deploy) (source : Work) {X : Type 0} (rows : X → List Row) (opened : List X) (works : List Row) (es : List PlayEntry) (closed : List X) (left : List Row) (hands : List (ℕ × Row)) (ran : Ran (hub_meaning deploy source rows) opened works es closed left hands) where
  known : All (λ e. IsPriced deploy (entry_of e)) es
  known = ran-known (play_meaning deploy source) entry_of rows (Begins deploy source) (λ e. IsPriced deploy (entry_of e)) opened works es closed left hands ran

  -- prices within the greatest are those of the steps
  prices : (fs : List PlayEntry) → All (λ e. IsPriced deploy (entry_of e)) fs → total (hub_meaning deploy source rows).price fs ≡ prices_of (entries_of (play_of fs))
  prices [] h = refl
  prices (f ∷ fs) h =
      let first = min-eq_left {n = price_in (entry_of f).entry.making} {m = most_price} (All-head (λ e. IsPriced deploy (entry_of e)) f fs h).cheap in
      let rest = prices fs (All-tail (λ e. IsPriced deploy (entry_of e)) f fs h) in
      omega (arith, first, rest)

  pub priced : ArePriced deploy source rows es closed left hands
  priced = (known, prices es known)

  module _ (begins : Begins deploy source) where
    seen : RanPlay deploy source (each rows opened) works (play_of es) (each rows closed) left hands
    seen = ran-seen (play_meaning deploy source) entry_of rows (Begins deploy source) (λ e. IsPriced deploy (entry_of e)) begins opened works es closed left hands ran

    pub plays : IsPlay deploy source (play_of es)
    plays = (hubs_draw_plays deploy source (each rows opened) works (play_of es) (each rows closed) left hands seen).0

    pub comes : ComesToAPlay deploy source rows es closed left hands
    comes fits differs = hubs_play_or_show_an_id deploy source (each rows opened) works (play_of es) (each rows closed) left hands seen fits differs

    pub comes-from-nothing : ComesToAPlayFromNothing deploy source rows es closed left hands
    comes-from-nothing none fits = go (comes fits (ap (λ (l : List Row). differ (each (λ r. r.id) l)) none))
      where
        go : PlaysRun deploy source (play_of es) (each rows closed) left hands ⊎ (ShowsAnId deploy (steps_of (entries_of (play_of es))) ⊎ Collides deploy (steps_of (entries_of (play_of es))))
            → PlaysRun deploy source (play_of es) (each rows closed) left hands ⊎ Collides deploy (steps_of (entries_of (play_of es)))
        go (inl p) = inl p
        go (inr (inl s)) = absurd (no-id (ap (λ (l : List Row). is_one_of s.shares.digest (each (λ r. r.id) l)) (sym none) ∙ s.shares.among))
          where
            no-id : is_one_of s.shares.digest [] ≡ true → ⊥
            no-id e = cc e
        go (inr (inr c)) = inr c

pub hubs_come_to_plays : {X : Type 0} (rows : X → List Row) → HubsComeToPlays rows
hubs_come_to_plays rows deploy source opened works es closed left hands ran = (
  priced deploy source rows opened works es closed left hands ran,
  λ b. (
    plays deploy source rows opened works es closed left hands ran b,
    comes deploy source rows opened works es closed left hands ran b,
    comes-from-nothing deploy source rows opened works es closed left hands ran b,
  ),
)

pub causes_end_hubs : {X : Type 0} (rows : X → List Row) → CausesEndHubs rows
causes_end_hubs rows deploy source es left hands = (
  λ f. by_fault (fault-seen (play_meaning deploy source) entry_of rows (Begins deploy source) (λ e. IsPriced deploy (entry_of e)) es f),
  λ over. by_limit (omega (arith, over, total-seen (play_meaning deploy source) entry_of rows (Begins deploy source) (λ e. IsPriced deploy (entry_of e)) es)),
)
