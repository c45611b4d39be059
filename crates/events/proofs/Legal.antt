-- Lists of steps with one more at their end, or cut in two.
use Rattle.std.proofs.Common.{◌≡◌, ℕ, ◌+◌, List, [], ◌∷◌, ◌++◌, refl, ap, sym, ◌∙◌, subst, arith}
use Rattle.std.specs.Prelude.{Option, Some, None, option_map, option_and_then}
use Rattle.calculus.specs.Outcome.{Prices}
use Rattle.calculus.specs.Log.{Step}
use Rattle.calculus.specs.Unfolding.{Unfolds}
use Rattle.calculus.specs.Steps.{Meeting, meeting}
use Rattle.calculus.specs.Runs.{source_seed, Deploy, Work, State, body_work, moved, step_from, steps_from, begun, first_state, state_after, Leads}
use Rattle.calculus.proofs.Candidates.{and_then-inv}
use Rattle.calculus.proofs.States.{body_keeps, room_keeps_state}

steps-append : (p : Prices) (cap room : ℕ) (a b : State) (ss : List Step) (s : Step) → steps_from p cap room a ss ≡ Some b → steps_from p cap room a (ss ++ s ∷ []) ≡ steps_from p cap room b (s ∷ [])
steps-append p cap room a b [] s e =
    let same : a ≡ b = cc e in
    ap (λ x. steps_from p cap room x (s ∷ [])) same
steps-append p cap room a b (u ∷ ss) s e = go (λ x f. steps-append p cap room x b ss s f) (step_from p cap room a u) e
  where
    go : ((x : State) → steps_from p cap room x ss ≡ Some b → steps_from p cap room x (ss ++ s ∷ []) ≡ steps_from p cap room b (s ∷ []))
        → (o : Option State) → option_and_then (λ x. steps_from p cap room x ss) o ≡ Some b → option_and_then (λ x. steps_from p cap room x (ss ++ s ∷ [])) o ≡ steps_from p cap room b (s ∷ [])
    go next None f = cc
    go next (Some x) f = next x f

-- the source alone leads to its own state
pub leads-none : (deploy : Deploy) (w : Work) → Unfolds deploy.prices deploy.limit deploy.process (source_seed deploy) w → Leads deploy [] (begun deploy.rows w)
leads-none deploy w u = (u.0, rw u.1 refl)

-- one more step that is allowed leads to the state after it
pub leads-more : (deploy : Deploy) (ss : List Step) (a : State) (s : Step) (f : Meeting) (room : ℕ) (w : Work)
    → Leads deploy ss a → meeting a.bag a.made s ≡ Some f → body_work deploy.prices deploy.limit room s f ≡ Some w → Leads deploy (ss ++ s ∷ []) (moved a s f w)
leads-more deploy ss a s f room w h e k = (h.0 + room, go (first_state deploy (h.0 + room)) refl)
  where
    before : state_after deploy (h.0 + room) ss ≡ Some a
    before = room_keeps_state deploy h.0 (h.0 + room) ss a (omega arith) h.1

    work : body_work deploy.prices deploy.limit (h.0 + room) s f ≡ Some w
    work = body_keeps deploy.prices deploy.limit room (h.0 + room) (omega arith) s f w k

    last : steps_from deploy.prices deploy.limit (h.0 + room) a (s ∷ []) ≡ Some (moved a s f w)
    last = ap (λ o. option_and_then (λ b. Some b) (option_and_then (λ m. option_map (moved a s m) (body_work deploy.prices deploy.limit (h.0 + room) s m)) o)) e ∙ ap (λ o. option_and_then (λ b. Some b) (option_map (moved a s f) o)) work

    go : (o : Option State) → first_state deploy (h.0 + room) ≡ o → option_and_then (λ b. steps_from deploy.prices deploy.limit (h.0 + room) b (ss ++ s ∷ [])) o ≡ Some (moved a s f w)
    go None d = cc (before, ap (λ o. option_and_then (λ b. steps_from deploy.prices deploy.limit (h.0 + room) b ss) o) d)
    go (Some b) d = steps-append deploy.prices deploy.limit (h.0 + room) b a ss s (sym (ap (λ o. option_and_then (λ x. steps_from deploy.prices deploy.limit (h.0 + room) x ss) o) d) ∙ before) ∙ last

steps-split : (p : Prices) (cap room : ℕ) (xs ys : List Step) (a b c : State) → steps_from p cap room a xs ≡ Some b → steps_from p cap room a (xs ++ ys) ≡ Some c → steps_from p cap room b ys ≡ Some c
steps-split p cap room [] ys a b c e f = let same : a ≡ b = cc e in subst (λ z. steps_from p cap room z ys ≡ Some c) same f
steps-split p cap room (x ∷ xs) ys a b c e f =
    let i = and_then-inv (step_from p cap room a x) (λ d. steps_from p cap room d xs) b e in
    let j = and_then-inv (step_from p cap room a x) (λ d. steps_from p cap room d (xs ++ ys)) c f in
    let same : j.0 ≡ i.0 = cc (i.1, j.1) in
    steps-split p cap room xs ys i.0 b c i.2 (subst (λ z. steps_from p cap room z (xs ++ ys) ≡ Some c) same j.2)

-- from where the first steps lead, the others lead to where all do
pub leads-rest : (deploy : Deploy) (xs ys : List Step) (b c : State) → Leads deploy xs b → Leads deploy (xs ++ ys) c
    → (room : ℕ) × (steps_from deploy.prices deploy.limit room b ys ≡ Some c)
leads-rest deploy xs ys b c k l =
    let room : ℕ = l.0 + k.0 in
    let whole : state_after deploy room (xs ++ ys) ≡ Some c = room_keeps_state deploy l.0 room (xs ++ ys) c (omega arith) l.1 in
    let part : state_after deploy room xs ≡ Some b = room_keeps_state deploy k.0 room xs b (omega arith) k.1 in
    let i = and_then-inv (first_state deploy room) (λ d. steps_from deploy.prices deploy.limit room d (xs ++ ys)) c whole in
    let j = and_then-inv (first_state deploy room) (λ d. steps_from deploy.prices deploy.limit room d xs) b part in
    let same : i.0 ≡ j.0 = cc (i.1, j.1) in
    (room, steps-split deploy.prices deploy.limit room xs ys j.0 b c j.2 (subst (λ d. steps_from deploy.prices deploy.limit room d (xs ++ ys) ≡ Some c) same i.2))
