-- The digests of whatever events lead to are fresh, or texts collide.
use Rattle.std.proofs.Common.{◌≢◌, ◌≡◌, ◌≤◌, ℕ, true, List, [], ◌∷◌, ◌++◌, map as each, refl, sym, ap, ◌∙◌, subst, arith, inl, inr, append_assoc, length-append}
use Rattle.std.specs.Prelude.{◌⊎◌, Option, Some, None}
use Rattle.calculus.specs.Outcome.{Prices}
use Rattle.calculus.specs.Log.{Step}
use Rattle.calculus.specs.Rows.{Row}
use Rattle.calculus.specs.Root.{root}
use Rattle.calculus.specs.Seeds.{Start, message}
use Rattle.calculus.specs.Unfolding.{digest}
use Rattle.calculus.specs.Steps.{is_one_of, differ, meeting}
use Rattle.calculus.specs.Runs.{source_seed, deploy_of, Deploy, Work, work_products, State, step_from, first_state, done, verdict, IsRun, made_digests}
use Rattle.events.specs.Events.{Core, started, Events, no_event, one_more, AreFresh, digests, built_in_ids, FreshDigests}
use Rattle.events.specs.EventLaws.{Begins, Follows}
use Rattle.events.proofs.Counts.{ids, times, one_of-times, times-one_of, times-append}
use Rattle.events.proofs.EventFollowing.{Kept}
use Rattle.events.proofs.EventEnding.{ended_events_are_a_run}
use Rattle.events.proofs.Keeping.{events_are_legal, kept-started, kept-put, kept-step}
use Rattle.events.proofs.Fresh.{fresh_digests_are_fresh}
use Rattle.events.specs.HashedTexts.{source_texts, body_texts, steps_texts, built_in_texts, hashed_texts}
use Rattle.events.specs.Premises.{FitsInTexts, Shares, Collides}
use Rattle.events.specs.FreshLaws.{EventsAreFresh, EventsAreFreshOrShowAnId, EventsAreARunOrCollide, EventsAreARunOrShowAnId}
use Rattle.events.proofs.Told.{digests-more}
use Rattle.events.proofs.Concluding.{legal_lists_are_fresh_or_show_an_id, legal_lists_are_fresh}

-- what is among these is among more
among-more : (x : List ℕ) (ys zs : List (List ℕ)) → times x ys ≤ times x zs → is_one_of x ys ≡ true → is_one_of x zs ≡ true
among-more x ys zs h e = times-one_of x zs (omega (arith, h, one_of-times x ys e))

-- more steps hash more
more-texts : (p : Prices) (cap room : ℕ) (x : List ℕ) (o : Option State) (ss us : List Step) → times x (steps_texts p cap room o ss) ≤ times x (steps_texts p cap room o (ss ++ us))
more-texts p cap room x None [] us = omega arith
more-texts p cap room x (Some a) [] us = omega arith
more-texts p cap room x None (s ∷ ss) us = omega arith
more-texts p cap room x (Some a) (s ∷ ss) us =
    let own : List (List ℕ) = body_texts p cap room s (meeting a.bag a.made s) in
    let next : Option State = step_from p cap room a s in
    omega (arith, more-texts p cap room x next ss us, times-append x own (steps_texts p cap room next ss), times-append x own (steps_texts p cap room next (ss ++ us)))

more-hashed : (deploy : Deploy) (room : ℕ) (ss us : List Step) (x : List ℕ) → times x (hashed_texts deploy room ss) ≤ times x (hashed_texts deploy room (ss ++ us))
more-hashed deploy room ss us x =
    let start : Option State = first_state deploy room in
    let own : List (List ℕ) = source_texts deploy.prices deploy.limit room deploy.process (source_seed deploy) in
    let seed : List ℕ = message (Start (root deploy.rows) deploy.source) in
    omega (
      arith,
      times-append x built_in_texts (seed ∷ (own ++ steps_texts deploy.prices deploy.limit room start ss)),
      times-append x built_in_texts (seed ∷ (own ++ steps_texts deploy.prices deploy.limit room start (ss ++ us))),
      times-append x own (steps_texts deploy.prices deploy.limit room start ss),
      times-append x own (steps_texts deploy.prices deploy.limit room start (ss ++ us)),
      more-texts deploy.prices deploy.limit room x start ss us,
    )

pub more-collides : (deploy : Deploy) (ss us all : List Step) → all ≡ ss ++ us → Collides deploy ss → Collides deploy all
more-collides deploy ss us all e c = subst (Collides deploy) (sym e) (
  c.0,
  record {
    one = c.1.one;
    other = c.1.other;
    one_among = there c.1.one c.1.one_among;
    other_among = there c.1.other c.1.other_among;
    one_bytes = c.1.one_bytes;
    other_bytes = c.1.other_bytes;
    differ = c.1.differ;
    same_digest = c.1.same_digest;
  },
)
  where
    there : (x : List ℕ) → is_one_of x (hashed_texts deploy c.0 ss) ≡ true → is_one_of x (hashed_texts deploy c.0 (ss ++ us)) ≡ true
    there x h = among-more x (hashed_texts deploy c.0 ss) (hashed_texts deploy c.0 (ss ++ us)) (more-hashed deploy c.0 ss us x) h

-- fewer steps fit too
fewer-fit : (deploy : Deploy) (ss : List Step) (s : Step) → FitsInTexts deploy (ss ++ s ∷ []) → FitsInTexts deploy ss
fewer-fit deploy ss s h = record { numberable = h.numberable; steps_fit = omega (arith, h.steps_fit, length-append ss (s ∷ [])); ids_fit = h.ids_fit; source_fits = h.source_fits }

-- a checkpoint's id is a built-in receiver's or made, or texts collide
abbrev Fails : Deploy → List Step → List Work → Type 0
Fails deploy ss ws = Shares (ids deploy.rows) (built_in_ids ++ digests ws) ⊎ Collides deploy ss

longer : (vs ws : List Work) (w : Work) → ws ≡ vs ++ w ∷ [] → built_in_ids ++ digests ws ≡ (built_in_ids ++ digests vs) ++ each digest (work_products w)
longer vs ws w e = ap (λ z. built_in_ids ++ digests z) e ∙ ap (λ l. built_in_ids ++ l) (digests-more vs w) ∙ sym (append_assoc built_in_ids (digests vs) (each digest (work_products w)))

more-shares : (rows : List Row) (vs ws : List Work) (w : Work) → ws ≡ vs ++ w ∷ [] → Shares (ids rows) (built_in_ids ++ digests vs) → Shares (ids rows) (built_in_ids ++ digests ws)
more-shares rows vs ws w e s = record {
  digest = s.digest;
  among = s.among;
  too = among-more s.digest (built_in_ids ++ digests vs) (built_in_ids ++ digests ws) (omega (arith, ap (times s.digest) (longer vs ws w e), times-append s.digest (built_in_ids ++ digests vs) (each digest (work_products w)))) s.too;
}

module _ (deploy : Deploy) (differs : differ (ids deploy.rows) ≡ true) where
  -- what events keep, and that its digests are fresh
  pub record Fresh (c : Core) : Type 0 where
    pub kept : Kept deploy c
    pub fresh : AreFresh deploy c.made

  -- of a core whose steps are legal
  checked : (c : Core) → FitsInTexts deploy c.made → Kept deploy c → Fresh c ⊎ Fails deploy c.made c.works
  checked c h k = go (legal_lists_are_fresh_or_show_an_id deploy c.made h differs (k.state, k.leads))
    where
      go : AreFresh deploy c.made ⊎ (Shares (ids deploy.rows) (built_in_ids ++ made_digests k.state) ⊎ Collides deploy c.made) → Fresh c ⊎ Fails deploy c.made c.works
      go (inl f) = inl (record { kept = k; fresh = f })
      go (inr (inl s)) = inr (inl (subst (λ ws. Shares (ids deploy.rows) (built_in_ids ++ digests ws)) k.works s))
      go (inr (inr x)) = inr (inr x)

  pub all-fresh : (w : Work) (c : Core) → Begins deploy w → Events deploy.prices deploy.limit (started deploy.rows w) c → FitsInTexts deploy c.made → Fresh c ⊎ Fails deploy c.made c.works
  all-fresh w c b no_event h = checked (started deploy.rows w) h (kept-started deploy w b)
  all-fresh w e b (one_more {d} es (inl put)) h = go (all-fresh w d b es (subst (FitsInTexts deploy) (ap (λ x. x.made) put.is) h))
    where
      go : Fresh d ⊎ Fails deploy d.made d.works → Fresh e ⊎ Fails deploy e.made e.works
      go (inl f) = inl (record { kept = kept-put deploy d e f.fresh f.kept put; fresh = subst (AreFresh deploy) (sym (ap (λ x. x.made) put.is)) f.fresh })
      go (inr x) = inr (subst (λ (z : Core). Fails deploy z.made z.works) (sym put.is) x)
  all-fresh w e b (one_more {d} es (inr step)) h = go (all-fresh w d b es (fewer-fit deploy d.made step.step (subst (FitsInTexts deploy) (ap (λ x. x.made) step.is) h)))
    where
      go : Fresh d ⊎ Fails deploy d.made d.works → Fresh e ⊎ Fails deploy e.made e.works
      go (inl f) = checked e h (kept-step deploy d e f.fresh f.kept step)
      go (inr (inl s)) = inr (inl (more-shares deploy.rows d.works e.works step.work (ap (λ x. x.works) step.is) s))
      go (inr (inr x)) = inr (inr (more-collides deploy d.made (step.step ∷ []) e.made (ap (λ x. x.made) step.is) x))

pub events_are_fresh_or_show_an_id : EventsAreFreshOrShowAnId
events_are_fresh_or_show_an_id deploy w c b es h d = go (all-fresh deploy d w c b es h)
  where
    go : Fresh deploy d c ⊎ Fails deploy c.made c.works → AreFresh deploy c.made ⊎ Fails deploy c.made c.works
    go (inl f) = inl f.fresh
    go (inr x) = inr x

pub events_are_fresh : EventsAreFresh
events_are_fresh p cap t source w c b es h = go (all-fresh (deploy_of p cap [] t source) refl w c b es h)
  where
    go : Fresh (deploy_of p cap [] t source) refl c ⊎ Fails (deploy_of p cap [] t source) c.made c.works → FreshDigests p cap t source c.made ⊎ Collides (deploy_of p cap [] t source) c.made
    go (inl f) = legal_lists_are_fresh p cap t source c.made h (f.kept.state, f.kept.leads)
    go (inr (inl s)) = cc s.among
    go (inr (inr x)) = inr x

-- what a core with fresh digests comes to
abbrev RunsFrom : Deploy → Core → Type 0
RunsFrom deploy c = (f : Follows deploy c) × ((c.pending ≡ []) ⊎ (verdict deploy.prices deploy.limit f.state ≢ done) → IsRun deploy c.made f.state)

fresh-runs : (deploy : Deploy) (w : Work) (c : Core) → Begins deploy w → Events deploy.prices deploy.limit (started deploy.rows w) c → AreFresh deploy c.made → RunsFrom deploy c
fresh-runs deploy w c b es k = let f = events_are_legal deploy w c b es k in (f, λ ends. ended_events_are_a_run deploy w c b es k f ends)

pub events_are_a_run_or_collide : EventsAreARunOrCollide
events_are_a_run_or_collide p cap t source w c b es h = go (events_are_fresh p cap t source w c b es h)
  where
    go : FreshDigests p cap t source c.made ⊎ Collides (deploy_of p cap [] t source) c.made → RunsFrom (deploy_of p cap [] t source) c ⊎ Collides (deploy_of p cap [] t source) c.made
    go (inl k) = inl (fresh-runs (deploy_of p cap [] t source) w c b es (fresh_digests_are_fresh p cap t source c.made k))
    go (inr x) = inr x

pub events_are_a_run_or_show_an_id : EventsAreARunOrShowAnId
events_are_a_run_or_show_an_id deploy w c b es h d = go (events_are_fresh_or_show_an_id deploy w c b es h d)
  where
    go : AreFresh deploy c.made ⊎ Fails deploy c.made c.works → RunsFrom deploy c ⊎ Fails deploy c.made c.works
    go (inl k) = inl (fresh-runs deploy w c b es k)
    go (inr x) = inr x
