-- What a seat knows from one call of a job to the next.
use Rattle.std.proofs.Common.{◌≡◌, ◌+◌, ℕ, true, false, List, [], ◌∷◌, ◌++◌, sym, ap, subst, ◌∙◌, arith, Option, Some, None}
use Rattle.std.specs.Prelude.{IfSome}
use Rattle.std.specs.Int.{bit_at}
use Rattle.atomic_table.specs.Seated.{TableId}
use Rattle.group_locks.specs.declared.state.SeatState.{SeatState}
use Rattle.group_locks.specs.Seats.{home_of, held_by, since_of, taken_by, offered_by, pile_of, tally_of, due_of, stops_of, AtRest, HasLeave, HasRoom, SameRoom}
use Rattle.hub_rule.specs.Counts.{count}
use Rattle.hub_rule.specs.Meaning.{Meaning}
use Rattle.hub_rule.specs.Rule.{Carries}
use Rattle.replay_worker.specs.Seats.{CanDraw, HasDrawn, HasEnded, HasInHand, HasJob, IsReady}

-- nothing is in hand where nothing is kept, taken or offered
none-of : {A : Type 0} (kept taken offered : List A) → kept ≡ [] → taken ≡ [] → offered ≡ [] → kept ++ (taken ++ offered) ≡ []
none-of kept taken offered k t o = ap (λ l. l ++ (taken ++ offered)) k ∙ (ap (λ l. l ++ offered) t ∙ o)

-- what is known of the jobs that were drawn
pub drawn-of : {A E X W : Type 0} (items : A → List W) (o : Option A) (a : A) → o ≡ Some a → (s : SeatState E X W) → IfSome o (λ v. HasDrawn (items v) s) → HasDrawn (items a) s
drawn-of {A = A} items o a e s d = subst (λ (x : Option A). IfSome x (λ v. HasDrawn (items v) s)) e d

module _ {E X W : Type 0} (home : TableId) (s t : SeatState E X W) (same : home_of t ≡ home_of s) where
  -- a seat that took a job
  pub readied : (job : W) (f : ℕ → Option X) → AtRest home s → held_by t ≡ held_by s → due_of t ≡ []
      → (index : ℕ) × (taken_by t ≡ (index, job) ∷ []) → offered_by t ≡ [] → HasLeave t × HasRoom t → ((k : ℕ) → f k ≡ None) → IsReady home job t f
  readied job f rest held due taken offered leave empty = record {
    rest = (same ∙ rest.0, held ∙ rest.1);
    charged = due;
    leave = leave;
    work = (taken.0, taken.1, offered);
    empty = empty;
  }

  -- a seat that takes turns for its job, or gives them back
  module _ (job : W) (f g : ℕ → Option X) (tally : tally_of t ≡ tally_of s) (works : pile_of t ≡ pile_of s) (room : SameRoom s t) where
    -- it may draw as before
    leaves : HasLeave s × HasRoom s → HasLeave t × HasRoom t
    leaves l = (ap (λ y. y.leave) tally ∙ l.0, (omega (arith, l.1.0, room.0, room.1), omega (arith, l.1.1, room.0)))

    -- it has its job as before
    works-on : HasJob job s → HasJob job t
    works-on w = (w.0, ap (λ p. p.taken) works ∙ w.1, ap (λ p. p.offered) works ∙ w.2)

    -- it has the shards of these turns in hand
    pub taken : {Store : Type 0} (m : Meaning Store E X W) (shards : ℕ) → IsReady home job s f → since_of t ≡ [] → ((k : ℕ) → count k (held_by t) ≡ bit_at shards k) → Carries m [] (held_by t) g
        → CanDraw m home job shards t g
    taken m shards r since turns carries = record {
      holds = record {
        hub = same ∙ r.rest.0;
        charged = ap (λ y. y.due) tally ∙ r.charged;
        carries = subst (λ (es : List E). Carries m es (held_by t) g) (sym since) carries;
      };
      leave = leaves r.leave;
      work = works-on r.work;
      turns = turns;
    }

    -- it has none in hand
    pub returned : {Store : Type 0} (m : Meaning Store E X W) (shards : ℕ) → CanDraw m home job shards s f → held_by t ≡ [] → ((k : ℕ) → g k ≡ None) → IsReady home job t g
    returned m shards d held empty = record {
      rest = (same ∙ d.holds.hub, held);
      charged = ap (λ y. y.due) tally ∙ d.holds.charged;
      leave = leaves d.leave;
      work = works-on d.work;
      empty = empty;
    }

  -- a seat that drew an entry
  pub holds-on : {Store : Type 0} (m : Meaning Store E X W) (f g : ℕ → Option X) → HasInHand m home s f → due_of t ≡ [] → Carries m (since_of t) (held_by t) g → HasInHand m home t g
  holds-on m f g h due carries = record { hub = same ∙ h.hub; charged = due; carries = carries }

  -- a seat that stopped the hub
  pub halted : AtRest home s → due_of s ≡ [] → held_by t ≡ held_by s → due_of t ≡ due_of s → stops_of t ≡ stops_of s + 1 → HasEnded home false t
  halted rest due held same_due stops = record {
    rest = (same ∙ rest.0, held ∙ rest.1);
    charged = same_due ∙ due;
    left = λ e. cc e;
    stopped = λ e. omega (arith, stops);
  }

  -- a seat that left what its last entry offered
  pub emptied : AtRest home s → due_of s ≡ [] → taken_by s ≡ [] → held_by t ≡ held_by s → due_of t ≡ due_of s → taken_by t ≡ taken_by s → offered_by t ≡ [] → HasEnded home true t
  emptied rest due ended held same_due taken offered = record {
    rest = (same ∙ rest.0, held ∙ rest.1);
    charged = same_due ∙ due;
    left = λ e. none-of (pile_of t).kept (taken_by t) (offered_by t) t.calm.2 (taken ∙ ended) offered;
    stopped = λ e. cc e;
  }

  -- a seat that gives its turns back after an entry that offered nothing
  pub idled : home_of s ≡ home → due_of s ≡ [] → taken_by s ≡ [] → offered_by s ≡ [] → held_by t ≡ [] → tally_of t ≡ tally_of s → pile_of t ≡ pile_of s → HasEnded home true t
  idled at due ended offered held tally works = record {
    rest = (same ∙ at, held);
    charged = ap (λ y. y.due) tally ∙ due;
    left = λ e. none-of (pile_of t).kept (taken_by t) (offered_by t) t.calm.2 (ap (λ p. p.taken) works ∙ ended) (ap (λ p. p.offered) works ∙ offered);
    stopped = λ e. cc e;
  }
