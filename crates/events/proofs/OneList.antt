-- The texts that a legal list hashes depend on no room.
use Rattle.std.proofs.Common.{◌≡◌, ◌≤◌, ℕ, ◌+◌, List, [], ◌∷◌, ◌++◌, refl, ap, sym, ◌∙◌, subst, arith}
use Rattle.std.specs.Prelude.{Option, Some, None, option_map, option_and_then}
use Rattle.calculus.specs.Tree.{Tree}
use Rattle.calculus.specs.Outcome.{Prices, capped}
use Rattle.calculus.specs.Log.{Step}
use Rattle.calculus.specs.Rows.{Row}
use Rattle.calculus.specs.Root.{root}
use Rattle.calculus.specs.Seeds.{Start, message, digest_of}
use Rattle.calculus.specs.Unfolding.{unfold_in, unfold_under}
use Rattle.calculus.specs.Steps.{Meeting, meeting}
use Rattle.calculus.specs.Runs.{deploy_of, Deploy, Work, State, body_work, moved, step_from, steps_from, begun, first_state}
use Rattle.calculus.proofs.Candidates.{and_then-inv, map-inv}
use Rattle.calculus.proofs.Room.{unfold_more, under_more}
use Rattle.calculus.proofs.States.{step_keeps, first_keeps}
use Rattle.events.proofs.Counts.{times, one_of-times, times-one_of, times-append}
use Rattle.events.specs.HashedTexts.{texts_in, under_texts, work_texts, source_texts, step_seed, body_texts, steps_texts, built_in_texts, hashed_texts}
use Rattle.events.specs.FreshLaws.{RoomAddsNoTexts}
use Rattle.events.proofs.Rooms.{under-same, texts-same, work-same}

module _ (p : Prices) (cap : ℕ) (n m : ℕ) (more : n ≤ m) where
  source-known : (t : Tree) (s : List ℕ) (w : Work) → capped cap (unfold_in p n t s) ≡ Some w → source_texts p cap n t s ≡ source_texts p cap m t s
  source-known t s w e = work-same cap (unfold_in p n t s) (unfold_in p m t s) (texts_in p n t s) (texts_in p m t s) w (unfold_more p n m more t s) (λ zs f. texts-same p n m more t s zs f) e

  body-known : (s : Step) (f : Meeting) (w : Work) → body_work p cap n s f ≡ Some w → body_texts p cap n s (Some f) ≡ body_texts p cap m s (Some f)
  body-known s f w e =
      let d : List ℕ = digest_of (step_seed s) in
      work-same cap (unfold_under (unfold_in p n) d f.bindings f.receiver.body) (unfold_under (unfold_in p m) d f.bindings f.receiver.body) (under_texts (texts_in p n) d f.bindings f.receiver.body) (under_texts (texts_in p m) d f.bindings f.receiver.body) w
      (under_more (unfold_in p n) (unfold_in p m) (unfold_more p n m more) d f.bindings f.receiver.body)
      (λ zs g. under-same p (unfold_in p n) (texts_in p n) (texts_in p m) (texts-same p n m more) d f.bindings f.receiver.body zs g) e

  -- the texts of steps that are known to be legal are the same with more room
  steps-known : (a b : State) (ss : List Step) → steps_from p cap n a ss ≡ Some b → steps_texts p cap n (Some a) ss ≡ steps_texts p cap m (Some a) ss
  steps-known a b [] e = refl
  steps-known a b (s ∷ ss) e =
      let i = and_then-inv (step_from p cap n a s) (λ c. steps_from p cap n c ss) b e in
      let j = and_then-inv (meeting a.bag a.made s) (λ f. option_map (moved a s f) (body_work p cap n s f)) i.0 i.1 in
      let k = map-inv (body_work p cap n s j.0) (moved a s j.0) i.0 j.2 in
      let own : body_texts p cap n s (meeting a.bag a.made s) ≡ body_texts p cap m s (meeting a.bag a.made s) =
      subst (λ o. body_texts p cap n s o ≡ body_texts p cap m s o) (sym j.1) (body-known s j.0 k.0 k.1) in
      let later : steps_texts p cap n (step_from p cap n a s) ss ≡ steps_texts p cap m (step_from p cap m a s) ss =
      ap (λ o. steps_texts p cap n o ss) i.1 ∙ steps-known i.0 b ss i.2 ∙ sym (ap (λ o. steps_texts p cap m o ss) (step_keeps p cap n m more a s i.0 i.1)) in
      ap (λ l. message (step_seed s) ∷ (l ++ steps_texts p cap n (step_from p cap n a s) ss)) own
      ∙ ap (λ l. message (step_seed s) ∷ (body_texts p cap m s (meeting a.bag a.made s) ++ l)) later

  -- what is hashed with some room is hashed with more
  source-grows : (t : Tree) (s : List ℕ) (x : List ℕ) → times x (source_texts p cap n t s) ≤ times x (source_texts p cap m t s)
  source-grows t s x = go (capped cap (unfold_in p n t s)) refl
    where
      go : (o : Option Work) → capped cap (unfold_in p n t s) ≡ o → times x (source_texts p cap n t s) ≤ times x (source_texts p cap m t s)
      go None e = omega (arith, ap (λ c. times x (work_texts c (texts_in p n t s))) e)
      go (Some w) e = omega (arith, ap (times x) (source-known t s w e))

  body-grows : (s : Step) (o : Option Meeting) (x : List ℕ) → times x (body_texts p cap n s o) ≤ times x (body_texts p cap m s o)
  body-grows s None x = omega arith
  body-grows s (Some f) x = go (body_work p cap n s f) refl
    where
      go : (o : Option Work) → body_work p cap n s f ≡ o → times x (body_texts p cap n s (Some f)) ≤ times x (body_texts p cap m s (Some f))
      go None e = omega (arith, ap (λ c. times x (work_texts c (under_texts (texts_in p n) (digest_of (step_seed s)) f.bindings f.receiver.body))) e)
      go (Some w) e = omega (arith, ap (times x) (body-known s f w e))

  steps-grow : (o q : Option State) (ss : List Step) (x : List ℕ) → ((a : State) → o ≡ Some a → q ≡ Some a) → times x (steps_texts p cap n o ss) ≤ times x (steps_texts p cap m q ss)
  steps-grow None q [] x h = omega arith
  steps-grow (Some a) q [] x h = subst (λ z. times x (steps_texts p cap n (Some a) []) ≤ times x (steps_texts p cap m z [])) (sym (h a refl)) (omega arith)
  steps-grow None q (s ∷ ss) x h = omega arith
  steps-grow (Some a) q (s ∷ ss) x h =
      subst (λ z. times x (steps_texts p cap n (Some a) (s ∷ ss)) ≤ times x (steps_texts p cap m z (s ∷ ss))) (sym (h a refl)) (omega (
        arith,
        body-grows s (meeting a.bag a.made s) x,
        times-append x (body_texts p cap n s (meeting a.bag a.made s)) (steps_texts p cap n (step_from p cap n a s) ss),
        times-append x (body_texts p cap m s (meeting a.bag a.made s)) (steps_texts p cap m (step_from p cap m a s) ss),
        steps-grow (step_from p cap n a s) (step_from p cap m a s) ss x (λ b e. step_keeps p cap n m more a s b e),
      ))

  hashed-grow : (rows : List Row) (t : Tree) (source : List ℕ) (ss : List Step) (x : List ℕ) → times x (hashed_texts (deploy_of p cap rows t source) n ss) ≤ times x (hashed_texts (deploy_of p cap rows t source) m ss)
  hashed-grow rows t source ss x =
      let deploy : Deploy = deploy_of p cap rows t source in
      let d : List ℕ = digest_of (Start (root rows) source) in
      let seed : List ℕ = message (Start (root rows) source) in
      omega (
        arith,
        times-append x built_in_texts (seed ∷ (source_texts p cap n t d ++ steps_texts p cap n (first_state deploy n) ss)),
        times-append x built_in_texts (seed ∷ (source_texts p cap m t d ++ steps_texts p cap m (first_state deploy m) ss)),
        times-append x (source_texts p cap n t d) (steps_texts p cap n (first_state deploy n) ss),
        times-append x (source_texts p cap m t d) (steps_texts p cap m (first_state deploy m) ss),
        source-grows t d x,
        steps-grow (first_state deploy n) (first_state deploy m) ss x (λ a e. first_keeps deploy n m more a e),
      )

  -- where the room is enough, more adds nothing
  hashed-known : (rows : List Row) (t : Tree) (source : List ℕ) (ss : List Step) (b : State) → option_and_then (λ a. steps_from p cap n a ss) (first_state (deploy_of p cap rows t source) n) ≡ Some b
      → hashed_texts (deploy_of p cap rows t source) n ss ≡ hashed_texts (deploy_of p cap rows t source) m ss
  hashed-known rows t source ss b e =
      let deploy : Deploy = deploy_of p cap rows t source in
      let d : List ℕ = digest_of (Start (root rows) source) in
      let seed : List ℕ = message (Start (root rows) source) in
      let i = and_then-inv (first_state deploy n) (λ a. steps_from p cap n a ss) b e in
      let j = map-inv (capped cap (unfold_in p n t d)) (begun rows) i.0 i.1 in
      let later : steps_texts p cap n (first_state deploy n) ss ≡ steps_texts p cap m (first_state deploy m) ss =
      ap (λ o. steps_texts p cap n o ss) i.1 ∙ steps-known i.0 b ss i.2 ∙ sym (ap (λ o. steps_texts p cap m o ss) (first_keeps deploy n m more i.0 i.1)) in
      ap (λ l. built_in_texts ++ (seed ∷ (l ++ steps_texts p cap n (first_state deploy n) ss))) (source-known t d j.0 j.1)
      ∙ ap (λ l. built_in_texts ++ (seed ∷ (source_texts p cap m t d ++ l))) later

pub room_adds_no_texts : RoomAddsNoTexts
room_adds_no_texts deploy ss a l room text e =
    let m : ℕ = room + l.0 in
    let grown = hashed-grow deploy.prices deploy.limit room m (omega arith) deploy.rows deploy.process deploy.source ss text in
    let same : hashed_texts deploy l.0 ss ≡ hashed_texts deploy m ss = hashed-known deploy.prices deploy.limit l.0 m (omega arith) deploy.rows deploy.process deploy.source ss a l.1 in
    times-one_of text (hashed_texts deploy l.0 ss) (omega (arith, one_of-times text (hashed_texts deploy room ss) e, grown, ap (times text) same))
