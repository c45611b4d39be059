-- The beginning of a legal list of steps.
use Rattle.std.proofs.Common.{◌≡◌, ℕ, List, [], ◌∷◌, ◌++◌, refl, ap, ◌∙◌}
use Rattle.std.specs.Prelude.{Option, Some, None, option_map, option_and_then, IsSome}
use Rattle.calculus.specs.Outcome.{Prices}
use Rattle.calculus.specs.Log.{Step}
use Rattle.calculus.specs.Steps.{Meeting, meeting}
use Rattle.calculus.specs.Runs.{Deploy, State, body_work, moved, step_from, steps_from, first_state, Leads}

-- a step that leads somewhere is allowed
step-allowed : (p : Prices) (cap room : ℕ) (a b : State) (s : Step) → step_from p cap room a s ≡ Some b → IsSome (meeting a.bag a.made s)
step-allowed p cap room a b s e = go (meeting a.bag a.made s) e
  where
    go : (o : Option Meeting) → option_and_then (λ m. option_map (moved a s m) (body_work p cap room s m)) o ≡ Some b → IsSome o
    go None e = cc
    go (Some m) e = refl

-- where a step stands among others, what they lead to before it
pub record Midway (p : Prices) (cap room : ℕ) (a : State) (before : List Step) (s : Step) : Type 0 where
  pub state : State
  pub leads : steps_from p cap room a before ≡ Some state
  pub allowed : IsSome (meeting state.bag state.made s)

midway : (p : Prices) (cap room : ℕ) (a b : State) (before : List Step) (s : Step) (after : List Step) → steps_from p cap room a (before ++ s ∷ after) ≡ Some b → Midway p cap room a before s
midway p cap room a b [] s after e = go (step_from p cap room a s) refl e
  where
    go : (o : Option State) → step_from p cap room a s ≡ o → option_and_then (λ x. steps_from p cap room x after) o ≡ Some b → Midway p cap room a [] s
    go None d e = cc
    go (Some x) d e = record { state = a; leads = refl; allowed = step-allowed p cap room a x s d }
midway p cap room a b (u ∷ before) s after e = go (λ x f. midway p cap room x b before s after f) (step_from p cap room a u) refl e
  where
    go : ((x : State) → steps_from p cap room x (before ++ s ∷ after) ≡ Some b → Midway p cap room x before s)
        → (o : Option State) → step_from p cap room a u ≡ o → option_and_then (λ x. steps_from p cap room x (before ++ s ∷ after)) o ≡ Some b → Midway p cap room a (u ∷ before) s
    go next None d e = cc
    go next (Some x) d e =
        let k = next x e in
        record { state = k.state; leads = ap (λ o. option_and_then (λ y. steps_from p cap room y before) o) d ∙ k.leads; allowed = k.allowed }

-- a legal list is legal up to each step, and that step is allowed
pub record Passed (deploy : Deploy) (before : List Step) (s : Step) : Type 0 where
  pub state : State
  pub leads : Leads deploy before state
  pub allowed : IsSome (meeting state.bag state.made s)

pub passed : (deploy : Deploy) (before : List Step) (s : Step) (after : List Step) (b : State)
    → Leads deploy (before ++ s ∷ after) b → Passed deploy before s
passed deploy before s after b h = go (first_state deploy h.0) refl h.1
  where
    go : (o : Option State) → first_state deploy h.0 ≡ o → option_and_then (λ a. steps_from deploy.prices deploy.limit h.0 a (before ++ s ∷ after)) o ≡ Some b → Passed deploy before s
    go None d e = cc
    go (Some a) d e =
        let k = midway deploy.prices deploy.limit h.0 a b before s after e in
        record { state = k.state; leads = (h.0, ap (λ o. option_and_then (λ x. steps_from deploy.prices deploy.limit h.0 x before) o) d ∙ k.leads); allowed = k.allowed }
