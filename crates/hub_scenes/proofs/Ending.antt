-- What the entries of a hub over the scene of a play come to.
use Rattle.std.proofs.Common.{◌≡◌, ℕ, zero, suc, ◌+◌, ◌≤◌, ◌<◌, Bool, true, false, cond, List, [], ◌∷◌, ◌++◌, length, refl, sym, ap, subst, ◌∙◌, arith, inl, inr, nat_lt, Some, None}
use Rattle.std.specs.Prelude.{◌⊎◌, ◌≢◌, Option, slice_get, is_some, ltb}
use Rattle.std.proofs.lemmas.Bool.Decides.{nat_tests}
use Rattle.std.proofs.Math.Nat.{min-eq_left}
use Rattle.calculus.specs.declared.fault.FaultKind.{FaultKind}
use Rattle.calculus.specs.Rows.{Row}
use Rattle.calculus.specs.Runs.{deploy_of, Deploy, Work, work_price, work_fault, done, exhausted, IsRun}
use Rattle.events.specs.Events.{AreFresh}
use Rattle.events.specs.Premises.{Collides}
use Rattle.hub_rule.specs.Counts.{one_if, count, things_of}
use Rattle.hub_rule.specs.Meaning.{Meaning, store_after, offered, ended, Allowed, ArePending}
use Rattle.hub_rule.specs.Stops.{FaultOf}
use Rattle.events.specs.Entries.{Space, Making, after, steps_of, price_in, prices_of, faults_in, faults_of, first_fault, total_of, verdict_of}
use Rattle.events.specs.Allowed.{ComesTo, ShowsAnId}
use Rattle.events.proofs.EntryEnding.{allowed_entries_are_a_run_or_collide, allowed_entries_are_a_run_or_show_an_id}
use Rattle.hub_scenes.specs.Plays.{TouchingEntry, entries_of, most_price, capped_price, has_fault, AreDrawnFrom, space_after_all, IsPlay}
use Rattle.hub_scenes.specs.PlayScene.{Projects, Opens, play_meaning}
use Rattle.hub_scenes.specs.PlayLaws.{RanPlay, charges_of, HasEnded, all_done, by_fault, by_limit, PlaysRun, HubsDrawPlays, HubsPlayOrCollide, HubsPlayOrShowAnId}
use Rattle.hub_scenes.proofs.Drawing.{plays_are_allowed}
use Rattle.hub_scenes.proofs.Reaching.{drawn-from, log-plays}
use Rattle.hub_scenes.proofs.Emptied.{below-length, nothing-waits}

no-rests : {A : Type 0} (ps : List (ℕ × A)) → things_of ps ≡ [] → ps ≡ []
no-rests [] e = refl
no-rests (q ∷ ps) e = cc

-- where nothing is pending each work is ended
each-over : (m : Meaning (List TouchingEntry) TouchingEntry (List Row) Row) (works : List Row) (log : List (ℕ × TouchingEntry)) (ps : List (ℕ × Row)) → ps ≡ [] → ArePending m works log ps
    → (i : ℕ) (w : Row) → slice_get (offered m works log) i ≡ Some w → 1 ≤ ended m i log
each-over m works log ps e k i w g =
    let low : i < length (offered m works log) = below-length (offered m works log) i w g in
    let yes : nat_lt i (length (offered m works log)) ≡ true = grind (arith, nat_tests) in
    omega (arith, k.1 i, ap (count i) e, ap one_if yes)

-- before the first fault, no step's body faults
fault-split : (x : Option Making) (i : ℕ) (fs : List (Option FaultKind)) → first_fault i (faults_in x ++ fs) ≡ done → (has_fault x ≡ false) × ((j : ℕ) × (first_fault j fs ≡ done))
fault-split None i fs e = (refl, (i, e))
fault-split (Some a) i fs e = go a.fault e
  where
    go : (f : Option FaultKind) → first_fault i (f ∷ fs) ≡ done → (is_some f ≡ false) × ((j : ℕ) × (first_fault j fs ≡ done))
    go None d = (refl, (suc i, d))
    go (Some f) d = cc d

no-faults : (es : List TouchingEntry) (i : ℕ) → first_fault i (faults_of (entries_of es)) ≡ done → (k : ℕ) (e : TouchingEntry) → slice_get es k ≡ Some e → has_fault e.entry.making ≡ false
no-faults [] i d k e g = cc
no-faults (x ∷ es) i d zero e g =
    let q : x ≡ e = cc g in
    ap (λ (y : TouchingEntry). has_fault y.entry.making) (sym q) ∙ (fault-split x.entry.making i (faults_of (entries_of es)) d).0
no-faults (x ∷ es) i d (suc k) e g = let r = (fault-split x.entry.making i (faults_of (entries_of es)) d).1 in no-faults es r.0 r.1 k e g

module _ (deploy : Deploy) (source : Work) where
  -- what entries cost that might be drawn
  same-price : (x : Option Making) → price_in x ≤ most_price → capped_price x ≡ price_in x
  same-price x h = min-eq_left h

  charges-are : (es : List TouchingEntry) (s : Space) → AreDrawnFrom deploy s es → charges_of deploy source es ≡ prices_of (entries_of es)
  charges-are [] s h = refl
  charges-are (e ∷ es) s h = omega (arith, same-price e.entry.making h.0.cheap, charges-are es (after s e.entry) h.1)

  -- a fault among the entries is not done
  faulty : (es : List TouchingEntry) → FaultOf (play_meaning deploy source).faults es → verdict_of deploy source (entries_of es) ≢ done
  faulty es x d = go (ltb deploy.limit (total_of deploy source (entries_of es))) d
    where
      inner : (f : Option FaultKind) → first_fault 0 (f ∷ faults_of (entries_of es)) ≡ done → ⊥
      inner None k = cc (x.3, no-faults es 1 k x.0 x.1 x.2)
      inner (Some f) k = cc k

      go : (b : Bool) → cond b exhausted (first_fault 0 (work_fault source ∷ faults_of (entries_of es))) ≡ done → ⊥
      go true k = cc k
      go false k = inner (work_fault source) k

  -- nor are entries that cost more than the limit
  costly : (es : List TouchingEntry) → charges_of deploy source es ≡ prices_of (entries_of es) → deploy.limit < work_price deploy.limit source + charges_of deploy source es → verdict_of deploy source (entries_of es) ≢ done
  costly es same over d = go (ltb deploy.limit (total_of deploy source (entries_of es))) refl d
    where
      more : deploy.limit < total_of deploy source (entries_of es)
      more = omega (arith, over, same)

      go : (b : Bool) → ltb deploy.limit (total_of deploy source (entries_of es)) ≡ b → cond b exhausted (first_fault 0 (work_fault source ∷ faults_of (entries_of es))) ≡ done → ⊥
      go true e k = cc k
      go false e k = grind (arith, nat_tests)

  module _ (opened : List (List Row)) (works : List Row) (es : List TouchingEntry) (closed : List (List Row)) (left : List Row) (hands : List (ℕ × Row)) (ran : RanPlay deploy source opened works es closed left hands) where
    opens : Opens deploy source [] works
    opens = (refl, ran.starts.1.1, ran.starts.1.2)

    allowed : Allowed (play_meaning deploy source) [] works ran.log
    allowed = subst (λ s. Allowed (play_meaning deploy source) s works ran.log) ran.starts.1.0 ran.allowed

    pub ran-play : IsPlay deploy source es
    ran-play = subst (IsPlay deploy source) ran.same (log-plays deploy source works opens ran.log allowed)

    pub charged : charges_of deploy source es ≡ prices_of (entries_of es)
    charged = charges-are es _ ran-play.drawn

    stored : store_after (play_meaning deploy source) ran.store es ≡ es
    stored = drawn-from deploy source es ran.store ∙ ap (λ s. s ++ es) ran.starts.1.0

    module _ (c : ComesTo deploy source (entries_of es) (space_after_all deploy source es)) where
      emptied : left ≡ [] → hands ≡ [] → (space_after_all deploy source es).pending ≡ []
      emptied a b = subst (λ l. (space_after_all deploy source l).pending ≡ []) ran.same
          (nothing-waits deploy source works opens ran.log allowed (subst (λ l. AreFresh deploy (space_after_all deploy source l).made) (sym ran.same) c.fresh)
          (each-over (play_meaning deploy source) works ran.log (ran.rests ++ hands) (ap (λ l. l ++ hands) (no-rests ran.rests (ran.lies ∙ a)) ∙ b) ran.pending))

      ended-run : HasEnded deploy source es left hands → IsRun deploy (steps_of (entries_of es)) c.state
      ended-run (all_done a b) = c.ends (inl (emptied a b))
      ended-run (by_fault x) = c.ends (inr (faulty es x))
      ended-run (by_limit over) = c.ends (inr (costly es charged over))

      pub plays-run : PlaysRun deploy source es closed left hands
      plays-run = record {
        comes = c;
        shards = λ k rows g. subst (λ s. Projects deploy source s k rows) stored (ran.closes k rows g) ran-play c.fresh;
        pending = emptied;
        ends = ended-run;
      }

pub hubs_draw_plays : HubsDrawPlays
hubs_draw_plays deploy source opened works es closed left hands ran = (ran-play deploy source opened works es closed left hands ran, charged deploy source opened works es closed left hands ran)

pub hubs_play_or_collide : HubsPlayOrCollide
hubs_play_or_collide p cap t digest source opened works es closed left hands ran fits =
    go (allowed_entries_are_a_run_or_collide p cap t digest source (entries_of es) (space_after_all deploy source es) (plays_are_allowed deploy source es (ran-play deploy source opened works es closed left hands ran)) fits)
  where
    deploy : Deploy
    deploy = deploy_of p cap [] t digest

    go : ComesTo deploy source (entries_of es) (space_after_all deploy source es) ⊎ Collides deploy (steps_of (entries_of es)) → PlaysRun deploy source es closed left hands ⊎ Collides deploy (steps_of (entries_of es))
    go (inl c) = inl (plays-run deploy source opened works es closed left hands ran c)
    go (inr x) = inr x

pub hubs_play_or_show_an_id : HubsPlayOrShowAnId
hubs_play_or_show_an_id deploy source opened works es closed left hands ran fits differs =
    go (allowed_entries_are_a_run_or_show_an_id deploy source (entries_of es) (space_after_all deploy source es) (plays_are_allowed deploy source es (ran-play deploy source opened works es closed left hands ran)) fits differs)
  where
    go : ComesTo deploy source (entries_of es) (space_after_all deploy source es) ⊎ (ShowsAnId deploy (steps_of (entries_of es)) ⊎ Collides deploy (steps_of (entries_of es)))
        → PlaysRun deploy source es closed left hands ⊎ (ShowsAnId deploy (steps_of (entries_of es)) ⊎ Collides deploy (steps_of (entries_of es)))
    go (inl c) = inl (plays-run deploy source opened works es closed left hands ran c)
    go (inr x) = inr x
