-- From a quiet base to a run, an id that is shown, or texts that collide.
use Rattle.std.proofs.Common.{◌≡◌, ◌≤◌, ◌<◌, ℕ, ◌+◌, ◌*◌, ◌/◌, ◌^◌, true, List, [], ◌++◌, length, map as each, refl, sym, subst, arith, inl, inr}
use Rattle.std.specs.Prelude.{◌⊎◌, Result, Ok, Err, IfOk}
use Rattle.std.specs.declared.alloc.AllocError.{AllocError}
use Rattle.std.proofs.lemmas.Nat.{div_below}
use Rattle.calculus.specs.Tree.{Tree}
use Rattle.calculus.specs.Outcome.{Prices}
use Rattle.calculus.specs.Form.{IsBytes}
use Rattle.calculus.specs.Log.{Step}
use Rattle.calculus.specs.Rows.{Row}
use Rattle.calculus.specs.Seeds.{digest_of, Start}
use Rattle.calculus.specs.Steps.{differ}
use Rattle.calculus.specs.Unfolding.{Unfolds}
use Rattle.calculus.specs.Runs.{Deploy, deploy_of, Work, Leads, begun, made_digests, source_seed}
use Rattle.event_log.specs.View.{step_of}
use Rattle.events.specs.Events.{AreFresh, first_ids, built_in_ids}
use Rattle.events.proofs.Counts.{ids, AreDistinct, differ-distinct, distinct-differ, times-append}
use Rattle.events.proofs.Legal.{leads-none}
use Rattle.events.specs.Numbers.{IsNumberable}
use Rattle.events.specs.Premises.{FitsInTexts, Shares, Collides}
use Rattle.events.proofs.Concluding.{legal_lists_are_fresh_or_show_an_id}
use Rattle.events.proofs.Happening.{more-collides}
use Rattle.events.specs.Entries.{steps_of}
use Rattle.events.specs.Allowed.{ShowsAnId}
use Rattle.replays.specs.View.{verdict_of}
use Rattle.hub_scenes.specs.Plays.{entries_of}
use Rattle.play_hub.specs.declared.entry.PlayEntry.{PlayEntry}
use Rattle.play_hub.specs.Endings.{play_of}
use Rattle.play_outcome.specs.declared.played.Played.{Played}
use Rattle.play_outcome.specs.Bases.{IsQuietBase}
use Rattle.play_outcome.specs.Runs.{EndedPlay, IsRunOf}
use Rattle.play_pool.specs.Closing.{ClosesPlay}

-- the ids of a base and of the built-in receivers differ, or an id of the base is shown, or texts collide
module _ (deploy : Deploy) (ss : List Step) (fits : FitsInTexts deploy ss) (differs : differ (ids deploy.rows) ≡ true) (w : Work)
    (u : Unfolds deploy.prices deploy.limit deploy.process (source_seed deploy) w) where
  leads : Leads deploy [] (begun deploy.rows w)
  leads = leads-none deploy w u

  none-fit : FitsInTexts deploy []
  none-fit = record { numberable = fits.numberable; steps_fit = omega arith; ids_fit = fits.ids_fit; source_fits = fits.source_fits }

  first-differ : AreFresh deploy [] → differ (first_ids deploy.rows) ≡ true
  first-differ f = distinct-differ (first_ids deploy.rows) (λ y. omega (arith, all y, times-append y (first_ids deploy.rows) (made_digests (begun deploy.rows w))))
    where
      all : AreDistinct (first_ids deploy.rows ++ made_digests (begun deploy.rows w))
      all = differ-distinct (first_ids deploy.rows ++ made_digests (begun deploy.rows w)) (f [] [] refl (begun deploy.rows w) leads)

  ids-differ : (differ (first_ids deploy.rows) ≡ true) ⊎ (ShowsAnId deploy ss ⊎ Collides deploy ss)
  ids-differ = go (legal_lists_are_fresh_or_show_an_id deploy [] none-fit differs (begun deploy.rows w, leads))
    where
      go : AreFresh deploy [] ⊎ (Shares (ids deploy.rows) (built_in_ids ++ made_digests (begun deploy.rows w)) ⊎ Collides deploy [])
          → (differ (first_ids deploy.rows) ≡ true) ⊎ (ShowsAnId deploy ss ⊎ Collides deploy ss)
      go (inl f) = inl (first-differ f)
      go (inr (inl s)) = inr (inl (record { first = []; rest = ss; is = refl; state = begun deploy.rows w; leads = leads; shares = s }))
      go (inr (inr c)) = inr (inr (more-collides deploy [] ss ss refl c))

-- so a closed hub comes to a run, or an id is shown, or texts collide
pub ends-or-clashes : (p : Prices) (cap : ℕ) (base : List Row) (t : Tree) (source digest : List ℕ) (w : Work) (workers : ℕ) (es : List PlayEntry) (closed : List (List Row)) (charged : ℕ)
    → IsNumberable t → IsBytes source → IsQuietBase base digest → Unfolds p cap t (digest_of (Start digest source)) w → ClosesPlay (deploy_of p cap base t source) w workers es closed charged
    → length (steps_of (entries_of (play_of es))) ≤ 2 ^ 32
    → EndedPlay (deploy_of p cap base t source) w (play_of es) closed ⊎ (ShowsAnId (deploy_of p cap base t source) (steps_of (entries_of (play_of es))) ⊎ Collides (deploy_of p cap base t source) (steps_of (entries_of (play_of es))))
ends-or-clashes p cap base t source digest w workers es closed charged numberable bytes b u c few = go (ids-differ deploy ss fits b.ids w unfolds)
  where
    deploy : Deploy
    deploy = deploy_of p cap base t source

    ss : List Step
    ss = steps_of (entries_of (play_of es))

    fits : FitsInTexts (deploy_of p cap base t source) (steps_of (entries_of (play_of es)))
    fits = record { numberable = numberable; steps_fit = few; ids_fit = b.digests; source_fits = bytes }

    unfolds : Unfolds p cap t (source_seed (deploy_of p cap base t source)) w
    unfolds = subst (λ r. Unfolds p cap t (digest_of (Start r source)) w) b.root_is u

    go : (differ (first_ids base) ≡ true) ⊎ (ShowsAnId (deploy_of p cap base t source) (steps_of (entries_of (play_of es))) ⊎ Collides (deploy_of p cap base t source) (steps_of (entries_of (play_of es))))
        → EndedPlay (deploy_of p cap base t source) w (play_of es) closed ⊎ (ShowsAnId (deploy_of p cap base t source) (steps_of (entries_of (play_of es))) ⊎ Collides (deploy_of p cap base t source) (steps_of (entries_of (play_of es))))
    go (inl d) = c.comes (record { unfolds = unfolds; quiet = b.quiet d }) fits b.ids
    go (inr x) = inr x

-- what is said of what it came to
module _ (deploy : Deploy) (source : Work) (es : List PlayEntry) (closed : List (List Row)) where
  abbrev pub RunOrClash : Played → Type 0
  RunOrClash played =
      IsRunOf deploy (each step_of played.steps.items) (verdict_of played.verdict) played.cost played.rows.items played.output.items
      ⊎ (ShowsAnId deploy (each step_of played.steps.items) ⊎ Collides deploy (each step_of played.steps.items))

  pub concluded : (r : Result Played AllocError) → EndedPlay deploy source (play_of es) closed ⊎ (ShowsAnId deploy (steps_of (entries_of (play_of es))) ⊎ Collides deploy (steps_of (entries_of (play_of es))))
      → IfOk r (λ played. each step_of played.steps.items ≡ steps_of (entries_of (play_of es)))
      → (EndedPlay deploy source (play_of es) closed → IfOk r (λ played. IsRunOf deploy (each step_of played.steps.items) (verdict_of played.verdict) played.cost played.rows.items played.output.items))
      → IfOk r RunOrClash
  concluded (Ok played) (inl e) s h = inl (h e)
  concluded (Ok played) (inr x) s h = inr (subst (λ ss. ShowsAnId deploy ss ⊎ Collides deploy ss) (sym s) x)
  concluded (Err x) e s h = tt

-- a limit pays for no more steps than the greatest does
pub paid-steps : (limit comm workers : ℕ) → 1 ≤ comm → limit ≤ comm * 1048576 → workers ≤ 32 → limit / comm + workers ≤ 1048608
paid-steps limit comm workers some within few = let k : limit / comm < 1048577 = div_below limit comm 1048577 (omega (arith, some)) (omega (arith, within, some)) in omega (arith, k, few)

-- what is said of few steps of a deploy that is told in parts
pub few-steps : (deploy : Deploy) (p : Prices) (cap : ℕ) (base : List Row) (t : Tree) (source : List ℕ) → deploy ≡ deploy_of p cap base t source → (n workers : ℕ) → n ≤ deploy.limit / deploy.prices.comm + workers → n ≤ cap / p.comm + workers
few-steps deploy p cap base t source e n workers h = subst (λ (d : Deploy). n ≤ d.limit / d.prices.comm + workers) e h
