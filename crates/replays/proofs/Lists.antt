-- Each list of steps leads to a state or stops.
use Rattle.std.proofs.Common.{◌≡◌, ℕ, List, [], ◌∷◌, ◌++◌, length, refl, sym, subst, inl, inr, append-nil, append_assoc}
use Rattle.std.specs.Prelude.{◌⊎◌, Option, Some, None, IsSome}
use Rattle.calculus.specs.Form.{IsClosed}
use Rattle.calculus.specs.Log.{Step}
use Rattle.calculus.specs.Steps.{Meeting, meeting}
use Rattle.calculus.specs.Runs.{Deploy, State, Allowed, Leads}
use Rattle.calculus.proofs.States.{room_keeps_state, one_state}
use Rattle.replays.specs.Replays.{StopsAt}
use Rattle.replays.proofs.Prefixes.{Passed, passed}
use Rattle.replays.proofs.Answering.{is-none, one-stop, no-stop}
use Rattle.process_laws.specs.UnfoldingLaws.{ExactlyOne}
use Rattle.process_laws.specs.ClosedRowLaws.{AreClosedRows}
use Rattle.replays.specs.RunLaws.{EachListLeadsOrStops, NoListDoesBoth, LegalListsLead, LegalStepsAreAllowed, LargeRoomsAgree}
use Rattle.replays.proofs.Leading.{source-leads, allowed-leads}

module _ (deploy : Deploy) (closed : AreClosedRows deploy.rows) (is : IsClosed deploy.process) where
  -- a list that leads to a state, or stops at a step
  abbrev pub LeadsOrStops : List Step → Type 0
  LeadsOrStops ss = ((a : State) × Leads deploy ss a) ⊎ ((i : ℕ) × StopsAt deploy ss i)

  goes-on : (rest before : List Step) (a : State) → Leads deploy before a → LeadsOrStops (before ++ rest)
  goes-on [] before a h = inl (a, subst (λ us. Leads deploy us a) (sym (append-nil before)) h)
  goes-on (s ∷ rest) before a h = go (λ b k. goes-on rest (before ++ s ∷ []) b k) (meeting a.bag a.made s) refl
    where
      go : ((b : State) → Leads deploy (before ++ s ∷ []) b → LeadsOrStops ((before ++ s ∷ []) ++ rest)) → (o : Option Meeting) → meeting a.bag a.made s ≡ o → LeadsOrStops (before ++ s ∷ rest)
      go next None e = inr (length before, record { before = before; step = s; after = rest; is = refl; place = refl; state = a; leads = h; stops = e })
      go next (Some m) e =
          let k = allowed-leads deploy closed is before a s h (subst (λ o. IsSome o) (sym e) refl) in
          subst (λ us. LeadsOrStops us) (append_assoc before (s ∷ []) rest) (next k.0 k.1)

  pub ends : (ss : List Step) → LeadsOrStops ss
  ends ss = let k = source-leads deploy is in goes-on ss [] k.0 k.1

pub each_list_leads_or_stops : EachListLeadsOrStops
each_list_leads_or_stops deploy closed is ss = go (ends deploy closed is ss)
  where
    go : LeadsOrStops deploy closed is ss → ExactlyOne (Leads deploy ss) ⊎ ExactlyOne (StopsAt deploy ss)
    go (inl k) = inl (k.0, k.1, λ b h. one_state deploy ss k.0 b k.1 h)
    go (inr k) = inr (k.0, k.1, λ j h. one-stop deploy ss k.0 j k.1 h)

pub no_list_does_both : NoListDoesBoth
no_list_does_both deploy ss a i h k = no-stop deploy ss i k a h

pub legal_lists_lead : LegalListsLead
legal_lists_lead deploy closed is ss allowed = go (ends deploy closed is ss)
  where
    go : LeadsOrStops deploy closed is ss → ExactlyOne (Leads deploy ss)
    go (inl k) = (k.0, k.1, λ b h. one_state deploy ss k.0 b k.1 h)
    go (inr k) = absurd (is-none (meeting k.1.state.bag k.1.state.made k.1.step) (allowed k.1.before k.1.step k.1.after k.1.state k.1.is k.1.leads) k.1.stops)

pub legal_steps_are_allowed : LegalStepsAreAllowed
legal_steps_are_allowed deploy ss b h before s after a e l =
    let k : Passed deploy before s = passed deploy before s after b (subst (λ us. Leads deploy us b) e h) in
    subst (λ x. Allowed x s) (one_state deploy before k.state a k.leads l) k.allowed

pub large_rooms_agree : LargeRoomsAgree
large_rooms_agree deploy ss a h = (h.0, λ m e. room_keeps_state deploy h.0 m ss a e h.1)
