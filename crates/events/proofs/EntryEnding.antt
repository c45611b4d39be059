-- What allowed entries come to.
use Rattle.std.proofs.Common.{◌≡◌, ◌≢◌, ℕ, suc, ◌*◌, true, List, [], ◌∷◌, ◌++◌, cond, length, map as each, refl, sym, ap, subst, ◌∙◌, arith, inl, inr, append_assoc, append-nil, length-append}
use Rattle.std.specs.Prelude.{◌⊎◌, ltb, sum_by, IsPermutation}
use Rattle.std.proofs.lemmas.List.Sums.{sum_by-cons}
use Rattle.calculus.specs.Log.{Step}
use Rattle.calculus.specs.Steps.{differ, stored_rows}
use Rattle.calculus.specs.Runs.{deploy_of, Deploy, Work, work_price, work_fault, Leads, total, Verdict, exhausted, done, faulted, fault_verdict, at_fault, verdict, next_rows, IsRun, made_digests}
use Rattle.events.specs.Events.{AreFresh, built_in_ids}
use Rattle.events.specs.EventLaws.{Follows}
use Rattle.events.proofs.Counts.{ids}
use Rattle.events.proofs.EventEnding.{ended_events_are_a_run}
use Rattle.events.specs.Premises.{FitsInTexts, Shares, Collides}
use Rattle.events.proofs.Concluding.{legal_lists_are_fresh_or_show_an_id}
use Rattle.events.proofs.Happening.{more-collides}
use Rattle.events.specs.Entries.{Space, first_space, Entry, after, after_all, steps_of, first_fault, left_rows, total_of, verdict_of}
use Rattle.events.specs.Allowed.{core_of, AreAllowedFrom, AreAllowed, ComesTo, ShowsAnId}
use Rattle.events.specs.EntryLaws.{AllowedEntriesAreARunOrCollide, AllowedEntriesAreARunOrShowAnId}
use Rattle.events.proofs.Growing.{steps-both, entries_tell_their_steps, one_more_is_allowed}
use Rattle.events.proofs.EntryHolding.{Held, held-first, held-more}
use Rattle.calculus.proofs.Permutations.{unmoved}

first-fault-of : (i : ℕ) (ws : List Work) → fault_verdict i ws ≡ first_fault i (each work_fault ws)
first-fault-of i [] = refl
first-fault-of i (w ∷ ws) = ap (at_fault i (work_fault w)) (first-fault-of (suc i) ws)

module _ (deploy : Deploy) (source : Work) where
  -- what entries come to whose digests are fresh
  pub comes : (es : List Entry) (space : Space) → AreAllowed deploy source es space → Held deploy source es space → AreFresh deploy space.made → ComesTo deploy source es space
  comes es space a h f = record {
    made = h.made;
    fresh = f;
    state = h.kept.state;
    leads = leads;
    output = h.kept.output ∙ (entries_tell_their_steps deploy source es space a).1;
    rows = h.kept.rows_moved;
    total = whole;
    verdict = verdict-is;
    cost = ap (λ n. cond (ltb deploy.limit n) deploy.limit n) whole;
    ends = ends;
    leaves = leaves (verdict_of deploy source es);
  }
    where
      leads : Leads deploy (steps_of es) h.kept.state
      leads = subst (λ ss. Leads deploy ss h.kept.state) h.made h.kept.leads

      whole : total deploy.prices deploy.limit h.kept.state ≡ total_of deploy source es
      whole = omega (
        arith,
        ap (λ ss. deploy.prices.comm * length ss) (h.kept.made ∙ h.made),
        ap (sum_by (work_price deploy.limit)) h.kept.works,
        sum_by-cons (work_price deploy.limit) source h.bodies,
        h.prices,
      )

      verdict-is : verdict deploy.prices deploy.limit h.kept.state ≡ verdict_of deploy source es
      verdict-is =
          ap (λ n. cond (ltb deploy.limit n) exhausted (fault_verdict 0 h.kept.state.works)) whole
          ∙ ap (λ v. cond (ltb deploy.limit (total_of deploy source es)) exhausted v)
          (ap (fault_verdict 0) h.kept.works ∙ first-fault-of 0 (source ∷ h.bodies) ∙ ap (λ fs. first_fault 0 (work_fault source ∷ fs)) (sym h.faults))

      follows : Follows deploy (core_of space (source ∷ h.bodies))
      follows = record { state = h.kept.state; leads = h.kept.leads; works = h.kept.works; output = h.kept.output; same_rows = h.kept.rows_moved; quiet = h.kept.quiet }

      ends : (space.pending ≡ []) ⊎ (verdict_of deploy source es ≢ done) → IsRun deploy (steps_of es) h.kept.state
      ends (inl e) = subst (λ ss. IsRun deploy ss h.kept.state) h.made (ended_events_are_a_run deploy source (core_of space (source ∷ h.bodies)) a.begins h.events f follows (inl e))
      ends (inr n) = subst (λ ss. IsRun deploy ss h.kept.state) h.made (ended_events_are_a_run deploy source (core_of space (source ∷ h.bodies)) a.begins h.events f follows (inr (λ e. n (sym verdict-is ∙ e))))

      stored : space.pending ≡ [] → IsPermutation (stored_rows h.kept.state.bag) space.store
      stored e = subst (λ l. IsPermutation (stored_rows h.kept.state.bag) l) (ap (λ l. space.store ++ l) e ∙ append-nil space.store) h.kept.rows_moved

      leaves : (v : Verdict) → (space.pending ≡ []) ⊎ (v ≢ done) → IsPermutation (next_rows deploy.rows v h.kept.state.bag) (left_rows deploy v space)
      leaves done (inl e) = stored e
      leaves done (inr n) = absurd (n refl)
      leaves exhausted h = unmoved deploy.rows
      leaves (faulted i g) h = unmoved deploy.rows

  -- an id of the checkpoint is shown among the digests that these steps make, or a collision
  abbrev Fails : List Step → Type 0
  Fails ss = ShowsAnId deploy ss ⊎ Collides deploy ss

  -- what fails for first steps fails for more
  fails-more : (ss us : List Step) → Fails ss → Fails (ss ++ us)
  fails-more ss us (inl s) = inl (record { first = s.first; rest = s.rest ++ us; is = ap (λ l. l ++ us) s.is ∙ append_assoc s.first s.rest us; state = s.state; leads = s.leads; shares = s.shares })
  fails-more ss us (inr c) = inr (more-collides deploy ss us (ss ++ us) refl c)

  fewer-fit : (ss us : List Step) → FitsInTexts deploy (ss ++ us) → FitsInTexts deploy ss
  fewer-fit ss us h = record { numberable = h.numberable; steps_fit = omega (arith, h.steps_fit, length-append ss us); ids_fit = h.ids_fit; source_fits = h.source_fits }

  module _ (differs : differ (ids deploy.rows) ≡ true) where
    -- the digests of what is held are fresh
    checked : (es : List Entry) (space : Space) → Held deploy source es space → FitsInTexts deploy (steps_of es) → AreFresh deploy space.made ⊎ Fails (steps_of es)
    checked es space h fits = go (legal_lists_are_fresh_or_show_an_id deploy (steps_of es) fits differs (h.kept.state, leads))
      where
        leads : Leads deploy (steps_of es) h.kept.state
        leads = subst (λ ss. Leads deploy ss h.kept.state) h.made h.kept.leads

        go : AreFresh deploy (steps_of es) ⊎ (Shares (ids deploy.rows) (built_in_ids ++ made_digests h.kept.state) ⊎ Collides deploy (steps_of es)) → AreFresh deploy space.made ⊎ Fails (steps_of es)
        go (inl f) = inl (subst (AreFresh deploy) (sym h.made) f)
        go (inr (inl s)) = inr (inl (record { first = steps_of es; rest = []; is = sym (append-nil (steps_of es)); state = h.kept.state; leads = leads; shares = s }))
        go (inr (inr c)) = inr (inr c)

    comes-from : (before es : List Entry) (space : Space) → AreAllowed deploy source before space → Held deploy source before space → AreAllowedFrom deploy space es → FitsInTexts deploy (steps_of (before ++ es))
        → ComesTo deploy source (before ++ es) (after_all space es) ⊎ Fails (steps_of (before ++ es))
    comes-from before [] space b h a fits = subst (λ l. ComesTo deploy source l space ⊎ Fails (steps_of l)) (sym (append-nil before)) (go (checked before space h (subst (λ l. FitsInTexts deploy (steps_of l)) (append-nil before) fits)))
      where
        go : AreFresh deploy space.made ⊎ Fails (steps_of before) → ComesTo deploy source before space ⊎ Fails (steps_of before)
        go (inl f) = inl (comes before space b h f)
        go (inr x) = inr x
    comes-from before (e ∷ es) space b h a fits = go (λ k. comes-from (before ++ e ∷ []) es (after space e) (one_more_is_allowed deploy source before space e b a.0) k a.1 (subst (λ l. FitsInTexts deploy (steps_of l)) (sym (append_assoc before (e ∷ []) es)) fits)) (checked before space h (fewer-fit (steps_of before) (steps_of (e ∷ es)) (subst (FitsInTexts deploy) (steps-both before (e ∷ es)) fits)))
      where
        go : (Held deploy source (before ++ e ∷ []) (after space e) → ComesTo deploy source ((before ++ e ∷ []) ++ es) (after_all (after space e) es) ⊎ Fails (steps_of ((before ++ e ∷ []) ++ es)))
            → AreFresh deploy space.made ⊎ Fails (steps_of before) → ComesTo deploy source (before ++ e ∷ es) (after_all (after space e) es) ⊎ Fails (steps_of (before ++ e ∷ es))
        go next (inl f) = subst (λ l. ComesTo deploy source l (after_all (after space e) es) ⊎ Fails (steps_of l)) (append_assoc before (e ∷ []) es) (next (held-more deploy source before space e h f (a.0 f)))
        go next (inr x) = inr (subst Fails (sym (steps-both before (e ∷ es))) (fails-more (steps_of before) (steps_of (e ∷ es)) x))

    pub comes-or-fails : (es : List Entry) (space : Space) → AreAllowed deploy source es space → FitsInTexts deploy (steps_of es) → ComesTo deploy source es space ⊎ Fails (steps_of es)
    comes-or-fails es space a fits = subst (λ x. ComesTo deploy source es x ⊎ Fails (steps_of es)) (sym a.is) (comes-from [] es (first_space deploy source) (record { begins = a.begins; allowed = tt; is = refl }) (held-first deploy source a.begins) a.allowed fits)

pub allowed_entries_are_a_run_or_show_an_id : AllowedEntriesAreARunOrShowAnId
allowed_entries_are_a_run_or_show_an_id deploy source es space a fits differs = comes-or-fails deploy source differs es space a fits

pub allowed_entries_are_a_run_or_collide : AllowedEntriesAreARunOrCollide
allowed_entries_are_a_run_or_collide p cap t digest source es space a fits = go (comes-or-fails (deploy_of p cap [] t digest) source refl es space a fits)
  where
    go : ComesTo (deploy_of p cap [] t digest) source es space ⊎ (ShowsAnId (deploy_of p cap [] t digest) (steps_of es) ⊎ Collides (deploy_of p cap [] t digest) (steps_of es))
        → ComesTo (deploy_of p cap [] t digest) source es space ⊎ Collides (deploy_of p cap [] t digest) (steps_of es)
    go (inl c) = inl c
    go (inr (inl s)) = cc s.shares.among
    go (inr (inr c)) = inr c
