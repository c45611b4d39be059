-- Where nothing is pending the steps are a run.
use Rattle.std.proofs.Common.{◌≡◌, true, [], ◌++◌, refl, sym, subst, inl, inr}
use Rattle.std.specs.Prelude.{Option, Some, None}
use Rattle.calculus.proofs.Members.{Member, each-there}
use Rattle.calculus.specs.Log.{Step}
use Rattle.calculus.specs.Rows.{Row}
use Rattle.calculus.specs.Steps.{Meeting, standing, stored_rows, meeting, right_repeat}
use Rattle.calculus.proofs.States.{one_state}
use Rattle.events.specs.Events.{Core, stored, AreFresh}
use Rattle.events.specs.EventLaws.{EndedEventsAreARun}
use Rattle.events.proofs.Meetings.{MadeBy, made_by, makes}
use Rattle.events.proofs.Orders.{member-moved}
use Rattle.events.proofs.EventStanding.{no-more}
use Rattle.events.proofs.EventFollowing.{Kept, state-distinct, store-distinct}
use Rattle.events.proofs.Keeping.{kept-all}
use Rattle.calculus.specs.Runs.{Deploy}

-- no step is allowed in the state's bag where all its rows are stored
quiet-all : (deploy : Deploy) (c : Core) (k : Kept deploy c) → AreFresh deploy c.made
    → c.pending ≡ [] → (s : Step) → meeting k.state.bag k.state.made s ≡ None
quiet-all deploy c k f e s = subst (λ ms. meeting k.state.bag ms s ≡ None) (sym k.made) (go (meeting k.state.bag c.made s) refl)
  where
    there : (z : Row) → Member z (stored_rows k.state.bag) → Member z (stored_rows (stored c.store))
    there z m = subst (λ l. Member z (c.store ++ l)) e (member-moved z k.rows_moved m)

    clash : (m : Meeting) → MadeBy (standing k.state.bag) c.made s m → ⊥
    clash m h = cc (
      k.quiet s,
      makes (stored c.store) c.made s h.taken h.joined (store-distinct deploy c k f) h.differs h.ids
          (each-there _ _ h.taken (λ z i. no-more k.state.bag (stored c.store) z (there z)) h.there)
          h.joins (subst (λ x. right_repeat c.made s x ≡ true) h.is h.repeats),
    )

    go : (o : Option Meeting) → meeting k.state.bag c.made s ≡ o → meeting k.state.bag c.made s ≡ None
    go None g = g
    go (Some m) g = absurd (clash m (made_by k.state.bag c.made s m (state-distinct deploy c k f) g))

-- once nothing is pending, or the verdict is not done, the steps are a run
pub ended_events_are_a_run : EndedEventsAreARun
ended_events_are_a_run deploy w c b es f g (inl e) =
    let k = kept-all deploy w c b es f in
    let same : k.state ≡ g.state = one_state deploy c.made k.state g.state k.leads g.leads in
    let quiet : (s : Step) → meeting k.state.bag k.state.made s ≡ None = quiet-all deploy c k f e in
    record { leads = g.leads; ends = λ h s. subst (λ a. meeting a.bag a.made s ≡ None) same (quiet s) }
ended_events_are_a_run deploy w c b es f g (inr n) = record { leads = g.leads; ends = λ h s. absurd (n h) }
