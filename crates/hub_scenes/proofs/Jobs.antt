-- The rows that are to arrive and the indices that are to be tried are those of the pending jobs.
use Rattle.std.proofs.Common.{◌≡◌, ℕ, ◌≤◌, Bool, List, [], ◌∷◌, ◌++◌, map as each, IsPermutation, refl, sym, ap, subst, ◌∙◌, append-nil}
use Rattle.std.specs.Prelude.{flat_map, Some}
use Rattle.calculus.specs.Log.{Step}
use Rattle.calculus.specs.Runs.{Deploy}
use Rattle.calculus.proofs.Permutations.{join, moved_before}
use Rattle.events.proofs.Counts.{ids, times}
use Rattle.racing_replays.specs.Laws.{first_bag, IsFresh}
use Rattle.hub_scenes.specs.Spaces.{NewRow, IndexTry, Job, arrive, try_index, Space, new_row}
use Rattle.hub_scenes.specs.Entries.{Deed, arrives, does, idles, but_row, but_index, indices, space_after, job_of, offers_of}
use Rattle.hub_scenes.specs.ReplayScene.{IsReached}
use Rattle.hub_scenes.proofs.Good.{Good}
use Rattle.hub_scenes.proofs.Told.{rows-in, new-once}
use Rattle.hub_scenes.proofs.Outs.{Out, out-of, try-at, arrival-at}
use Rattle.hub_scenes.proofs.Steps.{arrivals_of, tries_of, arrivals-tried, tries-tried, arrivals-arrive, tries-arrive, flat-both}

module _ (deploy : Deploy) (ss : List Step) (st : Space) (r : IsReached deploy ss st) (f : IsFresh deploy.rows st.work r.racing.done) (g : Good (first_bag deploy.rows st.work) st) (touched : ℕ → Bool) (us vs : List Job) where
  abbrev A : List Job → List NewRow
  A l = flat_map arrivals_of l

  abbrev T : List Job → List ℕ
  T l = flat_map tries_of l

  -- what is left of the arrivals, and what comes
  split-arrivals : (new : List Job) → A ((us ++ vs) ++ new) ≡ (A us ++ A vs) ++ A new
  split-arrivals new = flat-both arrivals_of (us ++ vs) new ∙ ap (λ l. l ++ A new) (flat-both arrivals_of us vs)

  split-tries : (new : List Job) → T ((us ++ vs) ++ new) ≡ (T us ++ T vs) ++ T new
  split-tries new = flat-both tries_of (us ++ vs) new ∙ ap (λ l. l ++ T new) (flat-both tries_of us vs)

  pub arrivals-after : (d : Deed) → IsPermutation (A (us ++ job_of d ∷ vs)) st.arriving → IsPermutation (A ((us ++ vs) ++ offers_of d)) (space_after st touched d).arriving
  arrivals-after (arrives a next) h =
      let o : Out st.arriving a (A us ++ A vs) = out-of (subst (λ l. IsPermutation l st.arriving) (flat-both arrivals_of us (arrive a ∷ vs)) h) (A us) a (A vs) refl in
      let d : (x : List ℕ) → times x (ids (rows-in (o.pre ++ a ∷ o.post))) ≤ 1 = subst (λ l. (x : List ℕ) → times x (ids (rows-in l)) ≤ 1) o.is (new-once deploy ss st r f g) in
      let e : but_row a.row.id st.arriving ≡ o.pre ++ o.post = ap (but_row a.row.id) o.is ∙ arrival-at o.pre a o.post d in
      subst (λ l. IsPermutation l (but_row a.row.id st.arriving)) (sym (split-arrivals (each try_index next) ∙ ap (λ l. (A us ++ A vs) ++ l) (arrivals-tried next) ∙ append-nil (A us ++ A vs)))
      (subst (λ l. IsPermutation (A us ++ A vs) l) (sym e) o.moved)
  arrivals-after (does x m next) h =
      let new : List Job = each (λ z. arrive (new_row (Some x.index) z)) m.offers in
      let e : A (new ++ each try_index next) ≡ each (new_row (Some x.index)) m.offers = flat-both arrivals_of new (each try_index next) ∙ ap (λ l. A new ++ l) (arrivals-tried next) ∙ append-nil (A new) ∙ arrivals-arrive (new_row (Some x.index)) m.offers in
      subst (λ l. IsPermutation l (st.arriving ++ each (new_row (Some x.index)) m.offers)) (sym (split-arrivals (new ++ each try_index next) ∙ ap (λ l. (A us ++ A vs) ++ l) e))
      (moved_before (each (new_row (Some x.index)) m.offers) (subst (λ l. IsPermutation l st.arriving) (flat-both arrivals_of us (try_index x ∷ vs)) h))
  arrivals-after (idles x) h = subst (λ l. IsPermutation l st.arriving) (sym (split-arrivals [] ∙ append-nil (A us ++ A vs))) (subst (λ l. IsPermutation l st.arriving) (flat-both arrivals_of us (try_index x ∷ vs)) h)

  tried : (x : IndexTry) → IsPermutation (T (us ++ try_index x ∷ vs)) st.tries → IsPermutation (T us ++ T vs) (but_index x.index st.tries)
  tried x h =
      let o : Out st.tries x.index (T us ++ T vs) = out-of (subst (λ l. IsPermutation l st.tries) (flat-both tries_of us (try_index x ∷ vs)) h) (T us) x.index (T vs) refl in
      join o.moved (subst (λ l. IsPermutation (o.pre ++ o.post) (but_index x.index l)) (sym o.is) (try-at o.pre x.index o.post))

  pub tries-after : (d : Deed) → IsPermutation (T (us ++ job_of d ∷ vs)) st.tries → IsPermutation (T ((us ++ vs) ++ offers_of d)) (space_after st touched d).tries
  tries-after (arrives a next) h =
      subst (λ l. IsPermutation l (st.tries ++ indices next)) (sym (split-tries (each try_index next) ∙ ap (λ l. (T us ++ T vs) ++ l) (tries-tried next)))
      (moved_before (indices next) (subst (λ l. IsPermutation l st.tries) (flat-both tries_of us (arrive a ∷ vs)) h))
  tries-after (does x m next) h =
      let new : List Job = each (λ z. arrive (new_row (Some x.index) z)) m.offers in
      let e : T (new ++ each try_index next) ≡ indices next = flat-both tries_of new (each try_index next) ∙ ap (λ l. l ++ T (each try_index next)) (tries-arrive (new_row (Some x.index)) m.offers) ∙ tries-tried next in
      subst (λ l. IsPermutation l (but_index x.index st.tries ++ indices next)) (sym (split-tries (new ++ each try_index next) ∙ ap (λ l. (T us ++ T vs) ++ l) e)) (moved_before (indices next) (tried x h))
  tries-after (idles x) h = subst (λ l. IsPermutation l (but_index x.index st.tries)) (sym (split-tries [] ∙ append-nil (T us ++ T vs))) (tried x h)
