-- Allowed steps lead to states.
use Rattle.std.proofs.Common.{◌≡◌, ℕ, ◌+◌, ◌≤◌, Bool, true, false, cond, ltb, List, [], ◌∷◌, ◌++◌, length, refl, ap, ◌∙◌, subst, sym, arith}
use Rattle.std.specs.Prelude.{Option, Some, None, option_map, option_and_then}
use Rattle.calculus.specs.declared.fault.FaultKind.{FaultKind}
use Rattle.calculus.specs.declared.fault.FaultKind.TheVariants as fault
use Rattle.calculus.specs.Tree.{Tree}
use Rattle.calculus.specs.Size.{height}
use Rattle.calculus.specs.Code.{code}
use Rattle.calculus.specs.Form.{IsClosed}
use Rattle.calculus.specs.Outcome.{Prices, gives, fails, free, within_limits, over, within, capped}
use Rattle.calculus.specs.Substitution.{put}
use Rattle.calculus.specs.Seeds.{digest_of, Comm}
use Rattle.calculus.specs.Log.{Step}
use Rattle.calculus.specs.Unfolding.{unfold_within, unfold_in}
use Rattle.calculus.specs.Steps.{Meeting, meeting}
use Rattle.calculus.specs.Runs.{source_seed, Deploy, Work, State, Allowed, body_work, moved, step_from, steps_from, begun, first_state, Leads}
use Rattle.calculus.proofs.States.{room_keeps_work, room_keeps_state, one_state}
use Rattle.replays.proofs.Answering.{is-none}
use Rattle.process_laws.proofs.Closed.{each_process_unfolds}
use Rattle.process_laws.specs.ClosedRowLaws.{AreClosedRows}
use Rattle.process_laws.proofs.ClosedRowStaying.{bodies_are_closed, closed_rows_stay}
use Rattle.replays.specs.RunLaws.{EachProcessLeads, AllowedStepsLead}

module _ (p : Prices) (most : ℕ) where
  -- a fault without a price is known
  fault-known : (f : FaultKind) → (w : Work) × (capped most (free (fails f)) ≡ Some w)
  fault-known f = go (ltb most 0)
    where
      go : (b : Bool) → (w : Work) × (cond b (Some over) (Some (within (record { price = 0; answer = fails f }))) ≡ Some w)
      go true = (over, refl)
      go false = (within (record { price = 0; answer = fails f }), refl)

  -- with some room, no less than n, the work of a closed process that is tested for the limits is known
  closed-known : (n : ℕ) (u : Tree) (seed : List ℕ) → IsClosed u → (r : ℕ) × (n ≤ r) × (w : Work) × (capped most (unfold_within (unfold_in p r) seed (within_limits u)) ≡ Some w)
  closed-known n u seed c = go (ltb 400 (height u)) (ltb 1048576 (length (code u)))
    where
      go : (a b : Bool) → (r : ℕ) × (n ≤ r) × (w : Work) × (capped most (unfold_within (unfold_in p r) seed (cond a (fails fault.TooDeep) (cond b (fails fault.TooBig) (gives u)))) ≡ Some w)
      go true b = let w = fault-known fault.TooDeep in (n, omega arith, w.0, w.1)
      go false true = let w = fault-known fault.TooBig in (n, omega arith, w.0, w.1)
      go false false = let w = each_process_unfolds p most u seed c in (n + w.1.0, omega arith, w.0, room_keeps_work p most w.1.0 (n + w.1.0) u seed w.0 (omega arith) w.1.1)

  -- where an allowed step's body is closed, the step leads on
  step-leads : (n : ℕ) (a : State) (s : Step) → ((m : Meeting) → meeting a.bag a.made s ≡ Some m → IsClosed (put m.bindings m.receiver.body)) → Allowed a s → (r : ℕ) × (n ≤ r) × (b : State) × (step_from p most r a s ≡ Some b)
  step-leads n a s c i = go (meeting a.bag a.made s) refl
    where
      go : (o : Option Meeting) → meeting a.bag a.made s ≡ o → (r : ℕ) × (n ≤ r) × (b : State) × (step_from p most r a s ≡ Some b)
      go None e = absurd (is-none (meeting a.bag a.made s) i e)
      go (Some m) e =
          let w = closed-known n (put m.bindings m.receiver.body) (digest_of (Comm s.receiver s.data_ids s.repeat)) (c m e) in
          (w.0, w.1, moved a s m w.2, ap (λ o. option_and_then (λ k. option_map (moved a s k) (body_work p most w.0 s k)) o) e ∙ ap (λ o. option_map (moved a s m) o) w.3)

  -- one step more
  steps-append : (room : ℕ) (x a b : State) (ss : List Step) (s : Step) → steps_from p most room x ss ≡ Some a → step_from p most room a s ≡ Some b → steps_from p most room x (ss ++ s ∷ []) ≡ Some b
  steps-append room x a b [] s e f =
      let q : x ≡ a = cc (e) in
      let g : step_from p most room x s ≡ Some b = subst (λ (y : State). step_from p most room y s ≡ Some b) (sym q) f in
      ap (λ o. option_and_then (λ y. steps_from p most room y []) o) g
  steps-append room x a b (u ∷ ss) s e f = go (λ y k. steps-append room y a b ss s k f) (step_from p most room x u) e
    where
      go : ((y : State) → steps_from p most room y ss ≡ Some a → steps_from p most room y (ss ++ s ∷ []) ≡ Some b) → (o : Option State) → option_and_then (λ y. steps_from p most room y ss) o ≡ Some a → option_and_then (λ y. steps_from p most room y (ss ++ s ∷ [])) o ≡ Some b
      go next None e = cc
      go next (Some y) e = next y e

-- the source leads to a state
pub source-leads : (deploy : Deploy) → IsClosed deploy.process → (a : State) × Leads deploy [] a
source-leads deploy is =
    let w = each_process_unfolds deploy.prices deploy.limit deploy.process (source_seed deploy) is in
    (begun deploy.rows w.0, (w.1.0, ap (λ o. option_and_then (λ x. steps_from deploy.prices deploy.limit w.1.0 x []) (option_map (begun deploy.rows) o)) w.1.1))

module _ (deploy : Deploy) (closed : AreClosedRows deploy.rows) (is : IsClosed deploy.process) where
  -- an allowed step leads on
  pub allowed-leads : (ss : List Step) (a : State) (s : Step) → Leads deploy ss a → Allowed a s → (b : State) × Leads deploy (ss ++ s ∷ []) b
  allowed-leads ss a s h i =
      let k = step-leads deploy.prices deploy.limit h.0 a s (λ m d. bodies_are_closed a.bag a.made s m (closed_rows_stay deploy closed is ss a h) d) i in
      let e = room_keeps_state deploy h.0 k.0 ss a k.1 h.1 in
      (k.2, (k.0, go k.0 k.2 k.3 (first_state deploy k.0) e))
    where
      go : (r : ℕ) (b : State) → step_from deploy.prices deploy.limit r a s ≡ Some b → (o : Option State) → option_and_then (λ x. steps_from deploy.prices deploy.limit r x ss) o ≡ Some a → option_and_then (λ x. steps_from deploy.prices deploy.limit r x (ss ++ s ∷ [])) o ≡ Some b
      go r b f None e = cc
      go r b f (Some x) e = steps-append deploy.prices deploy.limit r x a b ss s e f

pub each_process_leads : EachProcessLeads
each_process_leads deploy is =
    let k = source-leads deploy is in
    (k.0, k.1, λ b h. one_state deploy [] k.0 b k.1 h)

pub allowed_steps_lead : AllowedStepsLead
allowed_steps_lead deploy closed is ss a s h i =
    let k = allowed-leads deploy closed is ss a s h i in
    (k.0, k.1, λ b l. one_state deploy (ss ++ s ∷ []) k.0 b k.1 l)
