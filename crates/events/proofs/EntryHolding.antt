-- What an allowed list of entries leads to, where the digests of its steps are fresh.
use Rattle.std.proofs.Common.{◌≡◌, ℕ, ◌+◌, ◌*◌, List, [], ◌∷◌, ◌++◌, length, map as each, refl, sym, ap, subst, ◌∙◌, arith, inl, inr, append_assoc, append-nil, length-append}
use Rattle.std.specs.Prelude.{Option, Some, None, sum_by}
use Rattle.std.proofs.lemmas.List.Sums.{sum_by-append, sum_by-cons}
use Rattle.calculus.specs.Unfolding.{rows_of}
use Rattle.calculus.specs.Rows.{Row}
use Rattle.calculus.specs.Runs.{Deploy, Work, work_products, work_price, work_fault}
use Rattle.calculus.proofs.States.{one_state}
use Rattle.events.specs.Events.{Core, started, Event, Events, no_event, one_more, AreFresh}
use Rattle.events.specs.EventLaws.{Begins}
use Rattle.events.proofs.EventFollowing.{Kept}
use Rattle.events.proofs.Keeping.{kept-started, kept-put, kept-step, fresh-first, events_are_legal}
use Rattle.events.specs.Entries.{Space, first_space, Making, Entry, space_after, after, after_all, steps_in, steps_of, price_in, prices_of, faults_in, faults_of}
use Rattle.events.specs.Allowed.{core_of, offered_rows, IsReached, IsRight, IsEvent, AreAllowedFrom, AreAllowed}
use Rattle.events.proofs.Growing.{steps-both, steps-more, prices-more, faults-more, made-after}

offered-both : (ws vs : List Work) → offered_rows (ws ++ vs) ≡ offered_rows ws ++ offered_rows vs
offered-both [] vs = refl
offered-both (w ∷ ws) vs = ap (λ l. rows_of (work_products w) ++ l) (offered-both ws vs) ∙ sym (append_assoc (rows_of (work_products w)) (offered_rows ws) (offered_rows vs))

each-both : {A B : Type 0} (f : A → B) (xs ys : List A) → each f (xs ++ ys) ≡ each f xs ++ each f ys
each-both f [] ys = refl
each-both f (x ∷ xs) ys = ap (λ l. f x ∷ l) (each-both f xs ys)

module _ (deploy : Deploy) (source : Work) where
  -- where entries lead, with the works of their steps' bodies
  pub record Held (es : List Entry) (space : Space) : Type 0 where
    pub bodies : List Work
    pub events : Events deploy.prices deploy.limit (started deploy.rows source) (core_of space (source ∷ bodies))
    pub kept : Kept deploy (core_of space (source ∷ bodies))
    pub offered : space.offered ≡ offered_rows (source ∷ bodies)
    pub made : space.made ≡ steps_of es
    pub prices : prices_of es ≡ deploy.prices.comm * length (steps_of es) + sum_by (work_price deploy.limit) bodies
    pub faults : faults_of es ≡ each work_fault bodies

  pub held-first : Begins deploy source → Held [] (first_space deploy source)
  held-first b = record {
    bodies = [];
    events = no_event;
    kept = kept-started deploy source b;
    offered = sym (append-nil (rows_of (work_products source)));
    made = refl;
    prices = omega arith;
    faults = refl;
  }

  -- the works with which a space is reached are those
  same-works : (es : List Entry) (space : Space) (h : Held es space) → AreFresh deploy space.made → (r : IsReached deploy space) → r.works ≡ source ∷ h.bodies
  same-works es space h f r =
      let l = events_are_legal deploy r.source (core_of space r.works) r.begins r.events f in
      let same : l.state ≡ h.kept.state = one_state deploy space.made l.state h.kept.state l.leads h.kept.leads in
      sym l.works ∙ ap (λ a. a.works) same ∙ h.kept.works

  -- what an event keeps
  kept-event : (c d : Core) → AreFresh deploy c.made → Kept deploy c → Event deploy.prices deploy.limit c d → Kept deploy d
  kept-event c d f k (inl put) = kept-put deploy c d f k put
  kept-event c d f k (inr step) = kept-step deploy c d f k step

  -- the works that an entry adds, and what it tells of them
  record Added (space : Space) (o : Row) (x : Option Making) (before later : List Work) : Type 0 where
    new : List Work
    works : later ≡ before ++ new
    offered : (space_after space o x).offered ≡ space.offered ++ offered_rows new
    prices : price_in x ≡ deploy.prices.comm * length (steps_in x) + sum_by (work_price deploy.limit) new
    faults : faults_in x ≡ each work_fault new

  added : (space : Space) (o : Row) (x : Option Making) (before later : List Work) → IsRight deploy space o x before later → Added space o x before later
  added space o None before later e = record { new = []; works = e ∙ sym (append-nil before); offered = sym (append-nil space.offered); prices = omega arith; faults = refl }
  added space o (Some a) before later e = record {
    new = e.0 ∷ [];
    works = e.2;
    offered = ap (λ l. space.offered ++ l) (e.1.offers ∙ sym (append-nil (rows_of (work_products e.0))));
    prices = omega (arith, e.1.price, sum_by-cons (work_price deploy.limit) e.0 []);
    faults = ap (λ f. f ∷ []) e.1.fault;
  }

  more-price : (c n m : ℕ) → c * (n + m) ≡ c * n + c * m
  more-price c n m = grind arith

  -- after one more entry
  pub held-more : (es : List Entry) (space : Space) (e : Entry) (h : Held es space) → AreFresh deploy space.made → IsEvent deploy space e → Held (es ++ e ∷ []) (after space e)
  held-more es space e h f i = record {
    bodies = h.bodies ++ a.new;
    events = one_more h.events event;
    kept = kept-event (core_of space (source ∷ h.bodies)) (core_of (after space e) (source ∷ (h.bodies ++ a.new))) f h.kept event;
    offered = a.offered ∙ ap (λ l. l ++ offered_rows a.new) h.offered ∙ sym (offered-both (source ∷ h.bodies) a.new);
    made = made-after (e ∷ []) space ∙ ap (λ l. l ++ steps_of (e ∷ [])) h.made ∙ sym (steps-both es (e ∷ []));
    prices = omega (
      arith,
      prices-more es e,
      h.prices,
      a.prices,
      more-price deploy.prices.comm (length (steps_of es)) (length (steps_in e.making)),
      ap (λ l. deploy.prices.comm * length l) (steps-more es e),
      ap (λ n. deploy.prices.comm * n) (length-append (steps_of es) (steps_in e.making)),
      sum_by-append (work_price deploy.limit) h.bodies a.new,
    );
    faults = faults-more es e ∙ ap (λ l. l ++ faults_in e.making) h.faults ∙ ap (λ l. each work_fault h.bodies ++ l) a.faults ∙ sym (each-both work_fault h.bodies a.new);
  }
    where
      a : Added space e.operation e.making i.reached.works i.works
      a = added space e.operation e.making i.reached.works i.works i.right

      works : i.works ≡ source ∷ (h.bodies ++ a.new)
      works = a.works ∙ ap (λ l. l ++ a.new) (same-works es space h f i.reached)

      event : Event deploy.prices deploy.limit (core_of space (source ∷ h.bodies)) (core_of (after space e) (source ∷ (h.bodies ++ a.new)))
      event = subst (λ ws. Event deploy.prices deploy.limit (core_of space ws) (core_of (after space e) (source ∷ (h.bodies ++ a.new)))) (same-works es space h f i.reached)
          (subst (λ ws. Event deploy.prices deploy.limit (core_of space i.reached.works) (core_of (after space e) ws)) works i.event)

  -- a put adds no work
  pub bodies-put : (es : List Entry) (space : Space) (o : Row) (h : Held es space) (f : AreFresh deploy space.made) (i : IsEvent deploy space (record { operation = o; making = None }))
      → (held-more es space (record { operation = o; making = None }) h f i).bodies ≡ h.bodies
  unfolding held-more added
  bodies-put es space o h f i = append-nil h.bodies

  -- a step adds the work of its body
  pub bodies-step : (es : List Entry) (space : Space) (o : Row) (a : Making) (h : Held es space) (f : AreFresh deploy space.made) (i : IsEvent deploy space (record { operation = o; making = Some a }))
      → (held-more es space (record { operation = o; making = Some a }) h f i).bodies ≡ h.bodies ++ i.right.0 ∷ []
  unfolding held-more added
  bodies-step es space o a h f i = refl

  -- after entries that are allowed, under fresh digests
  held-from : (before es : List Entry) (space : Space) → Held before space → AreAllowedFrom deploy space es → AreFresh deploy (after_all space es).made → Held (before ++ es) (after_all space es)
  held-from before [] space h a f = subst (λ l. Held l space) (sym (append-nil before)) h
  held-from before (e ∷ es) space h a f =
      let g : AreFresh deploy space.made = fresh-first deploy space.made (steps_of (e ∷ es)) (subst (AreFresh deploy) (made-after (e ∷ es) space) f) in
      subst (λ l. Held l (after_all (after space e) es)) (append_assoc before (e ∷ []) es) (held-from (before ++ e ∷ []) es (after space e) (held-more before space e h g (a.0 g)) a.1 f)

  pub held : (es : List Entry) (space : Space) → AreAllowed deploy source es space → AreFresh deploy space.made → Held es space
  held es space a f = subst (Held es) (sym a.is) (held-from [] es (first_space deploy source) (held-first a.begins) a.allowed (subst (λ x. AreFresh deploy x.made) a.is f))
