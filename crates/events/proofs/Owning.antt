-- Steps that name a pending operation were made by that operation alone.
use Rattle.std.proofs.Common.{◌≡◌, ◌≤◌, ℕ, ◌+◌, Bool, true, false, cond, List, [], ◌∷◌, ◌++◌, map as each, refl, sym, ap, subst, ◌∙◌, arith, inl, inr, append_assoc, append-nil}
use Rattle.std.specs.Prelude.{◌⊎◌, Option, Some, None, count_by}
use Rattle.std.specs.Str.{bytes_eq}
use Rattle.std.proofs.lemmas.List.Sums.{sum_by-append}
use Rattle.calculus.proofs.Members.{Member, member-split}
use Rattle.calculus.specs.Log.{Step}
use Rattle.calculus.specs.Rows.{Row, stdout, stdout_ack}
use Rattle.calculus.specs.Unfolding.{rows_of, digest}
use Rattle.calculus.specs.Steps.{is_one_of, same_meeting}
use Rattle.calculus.specs.Runs.{Deploy, Work, work_products}
use Rattle.events.specs.Events.{takes_part, AreFresh, first_ids, digests}
use Rattle.events.specs.Found.{AreAtHand, without}
use Rattle.events.proofs.Counts.{ids, times, AreDistinct, bytes_same, same_bytes, member-times, times-append}
use Rattle.events.proofs.EventStanding.{built_ins, ids-times, left-there, rows-times, digests-more}
use Rattle.events.proofs.EventFollowing.{all-distinct}
use Rattle.events.proofs.Keeping.{fresh-first}
use Rattle.events.proofs.Making.{member}
use Rattle.events.proofs.Spent.{row-of-id, same-names, count-none}
use Rattle.events.specs.Entries.{Space, first_space, Making, Entry, rows_before, rows_after, space_after, after, after_all, steps_of, entries_on}
use Rattle.events.specs.Allowed.{core_of, rows_at_hand, MakesStep, IsEvent, AreAllowedFrom, AreAllowed}
use Rattle.events.proofs.Growing.{steps-both, made-after, on-both}
use Rattle.events.proofs.EntryHolding.{Held, held-first, held-more, bodies-put, bodies-step}

-- the ids that a step names
abbrev names : Step → List (List ℕ)
names s = s.receiver ∷ s.data_ids

-- how often a step like this was made
abbrev count : Step → List Step → ℕ
count s made = count_by (same_meeting s) made

count-both : (s : Step) (us vs : List Step) → count s (us ++ vs) ≡ count s us + count s vs
count-both s us vs = sum_by-append (λ x. cond (same_meeting s x) 1 0) us vs

-- there are no entries on an id that no operation has
pub on-none : (x : List ℕ) (es : List Entry) → ((e : Entry) → Member e es → x ≡ e.operation.id → ⊥) → entries_on x es ≡ []
on-none x [] h = refl
on-none x (e ∷ es) h = go (bytes_eq x e.operation.id) refl (on-none x es (λ d m. h d (inr m)))
  where
    go : (b : Bool) → bytes_eq x e.operation.id ≡ b → entries_on x es ≡ [] → cond b (e ∷ entries_on x es) (entries_on x es) ≡ []
    go true k r = absurd (h e (inl refl) (bytes_same x e.operation.id k))
    go false k r = r

on-more : (s : Step) (x : List ℕ) (es : List Entry) (e : Entry) → count s (steps_of (entries_on x (es ++ e ∷ []))) ≡ count s (steps_of (entries_on x es)) + count s (steps_of (entries_on x (e ∷ [])))
on-more s x es e =
    ap (λ l. count s (steps_of l)) (on-both x es (e ∷ []))
    ∙ ap (λ l. count s l) (steps-both (entries_on x es) (entries_on x (e ∷ [])))
    ∙ count-both s (steps_of (entries_on x es)) (steps_of (entries_on x (e ∷ [])))

before-there : (x : List ℕ) (rs : List Row) (z : Row) → Member z (rows_before x rs) → Member z rs
before-there x [] z m = m
before-there x (r ∷ rs) z m = go (bytes_eq x r.id) (before-there x rs z) m
  where
    go : (b : Bool) → (Member z (rows_before x rs) → Member z rs) → Member z (cond b [] (r ∷ rows_before x rs)) → Member z (r ∷ rs)
    go true next m = absurd m
    go false next (inl e) = inl e
    go false next (inr m) = inr (next m)

after-there : (x : List ℕ) (rs : List Row) (z : Row) → Member z (rows_after x rs) → Member z rs
after-there x [] z m = m
after-there x (r ∷ rs) z m = go (bytes_eq x r.id) (after-there x rs z) m
  where
    go : (b : Bool) → (Member z (rows_after x rs) → Member z rs) → Member z (cond b rs (rows_after x rs)) → Member z (r ∷ rs)
    go true next m = inr m
    go false next m = inr (next m)

-- what is pending after a step was pending, or is offered by its body
pending-after : (space : Space) (o : Row) (a : Making) (z : Row) → Member o space.pending → Member z (space_after space o (Some a)).pending → Member z space.pending ⊎ Member z a.offers
pending-after space o a z there m = go (member-split z (rows_before o.id space.pending) ((without a.gone (o ∷ []) ++ a.offers) ++ rows_after o.id space.pending) m)
  where
    middle : Member z (without a.gone (o ∷ [])) ⊎ Member z a.offers → Member z space.pending ⊎ Member z a.offers
    middle (inl i) = inl (own (left-there a.gone (o ∷ []) z i))
      where
        own : Member z (o ∷ []) → Member z space.pending
        own (inl e) = subst (λ y. Member y space.pending) (sym e) there
        own (inr i) = absurd i
    middle (inr i) = inr i

    later : Member z (without a.gone (o ∷ []) ++ a.offers) ⊎ Member z (rows_after o.id space.pending) → Member z space.pending ⊎ Member z a.offers
    later (inl i) = middle (member-split z (without a.gone (o ∷ [])) a.offers i)
    later (inr i) = inl (after-there o.id space.pending z i)

    go : Member z (rows_before o.id space.pending) ⊎ Member z ((without a.gone (o ∷ []) ++ a.offers) ++ rows_after o.id space.pending) → Member z space.pending ⊎ Member z a.offers
    go (inl i) = inl (before-there o.id space.pending z i)
    go (inr i) = later (member-split z (without a.gone (o ∷ []) ++ a.offers) (rows_after o.id space.pending) i)

pending-left : (space : Space) (o z : Row) → Member z (space_after space o None).pending → Member z space.pending
pending-left space o z m = go (member-split z (rows_before o.id space.pending) (rows_after o.id space.pending) m)
  where
    go : Member z (rows_before o.id space.pending) ⊎ Member z (rows_after o.id space.pending) → Member z space.pending
    go (inl i) = before-there o.id space.pending z i
    go (inr i) = after-there o.id space.pending z i

-- rows at hand are each among them
hand-each : (store : List Row) (o : Row) (rs : List Row) (r : Row) → AreAtHand store o rs → Member r rs → Member r (rows_at_hand store o)
hand-each store o [] r h m = absurd m
hand-each store o (q ∷ rs) r h (inl e) = subst (λ y. Member y (rows_at_hand store o)) (sym e) (member q (rows_at_hand store o) h.0)
hand-each store o (q ∷ rs) r h (inr m) = hand-each store o rs r h.1 m

-- a row at hand is stored, built in or the operation
hand-split : (store : List Row) (o r : Row) → Member r (rows_at_hand store o) → Member r store ⊎ (Member r built_ins ⊎ (r ≡ o))
hand-split store o r m = go (member-split r store (stdout ∷ stdout_ack ∷ o ∷ []) m)
  where
    go : Member r store ⊎ Member r (stdout ∷ stdout_ack ∷ o ∷ []) → Member r store ⊎ (Member r built_ins ⊎ (r ≡ o))
    go (inl i) = inl i
    go (inr (inl e)) = inr (inl (inl e))
    go (inr (inr (inl e))) = inr (inl (inr (inl e)))
    go (inr (inr (inr (inl e)))) = inr (inr e)
    go (inr (inr (inr (inr i)))) = absurd i

module _ (deploy : Deploy) (source : Work) where
  -- all digests, with these works of steps' bodies
  abbrev all : List Work → List (List ℕ)
  all bodies = first_ids deploy.rows ++ digests (source ∷ bodies)

  all-more : (bodies : List Work) (w : Work) (x : List ℕ) → times x (all (bodies ++ w ∷ [])) ≡ times x (all bodies) + times x (each digest (work_products w))
  all-more bodies w x = omega (arith, times-append x (first_ids deploy.rows) (digests (source ∷ bodies)), times-append x (first_ids deploy.rows) (digests (source ∷ (bodies ++ w ∷ []))), digests-more x (source ∷ bodies) w)

  -- what entries lead to; the ids of their operations, and those that their steps name, were there at first or made; and of steps that name a pending operation all are its own
  pub record Owned (es : List Entry) (space : Space) : Type 0 where
    pub held : Held deploy source es space
    pub operations : (e : Entry) → Member e es → 1 ≤ times e.operation.id (all held.bodies)
    pub used : (u : Step) → Member u space.made → (x : List ℕ) → is_one_of x (names u) ≡ true → 1 ≤ times x (all held.bodies)
    pub own : (z : Row) → Member z space.pending → (s : Step) → takes_part z s ≡ true → count s space.made ≡ count s (steps_of (entries_on z.id es))

  module _ (es : List Entry) (space : Space) (k : Owned es space) (f : AreFresh deploy space.made) where
    counts : (x : List ℕ) → times x (ids space.store) + times x (ids space.pending) + times x (ids built_ins) ≤ times x (all k.held.bodies)
    counts x = omega (arith, k.held.kept.counts x, ids-times x space.store space.pending)

    once : (x : List ℕ) → times x (all k.held.bodies) ≤ 1
    once x = all-distinct deploy (core_of space (source ∷ k.held.bodies)) k.held.kept f x

    -- no two operations that are pending have one id
    pub pending-once : AreDistinct (ids space.pending)
    pending-once x = omega (arith, counts x, once x)

    -- after a put
    owned-put : (o : Row) (i : IsEvent deploy space (record { operation = o; making = None })) → Owned (es ++ record { operation = o; making = None } ∷ []) (space_after space o None)
    owned-put o i = record {
      held = held-more deploy source es space (record { operation = o; making = None }) k.held f i;
      operations = λ e m. subst (λ ws. 1 ≤ times e.operation.id (all ws)) (sym same) (go e (member-split e es (record { operation = o; making = None } ∷ []) m));
      used = λ u m x n. subst (λ ws. 1 ≤ times x (all ws)) (sym same) (k.used u m x n);
      own = λ z m s n. k.own z (pending-left space o z m) s n ∙ sym (on-more s z.id es (record { operation = o; making = None }) ∙ nothing s z (bytes_eq z.id o.id));
    }
      where
        same : (held-more deploy source es space (record { operation = o; making = None }) k.held f i).bodies ≡ k.held.bodies
        same = bodies-put deploy source es space o k.held f i

        go : (e : Entry) → Member e es ⊎ Member e (record { operation = o; making = None } ∷ []) → 1 ≤ times e.operation.id (all k.held.bodies)
        go e (inl m) = k.operations e m
        go e (inr (inl m)) = subst (λ (d : Entry). 1 ≤ times d.operation.id (all k.held.bodies)) (sym m) (omega (arith, counts o.id, member-times o space.pending (member o space.pending i.pending)))
        go e (inr (inr m)) = absurd m

        nothing : (s : Step) (z : Row) (b : Bool) → count s (steps_of (entries_on z.id es)) + count s (steps_of (cond b (record { operation = o; making = None } ∷ []) [])) ≡ count s (steps_of (entries_on z.id es))
        nothing s z true = omega arith
        nothing s z false = omega arith

    -- after a step
    module _ (o : Row) (a : Making) (i : IsEvent deploy space (record { operation = o; making = Some a })) (g : AreFresh deploy (space.made ++ a.step ∷ [])) where
      abbrev next : Entry
      next = record { operation = o; making = Some a }

      abbrev w : Work
      w = i.right.0

      new : Held deploy source (es ++ record { operation = o; making = Some a } ∷ []) (space_after space o (Some a))
      new = held-more deploy source es space (record { operation = o; making = Some a }) k.held f i

      same : new.bodies ≡ k.held.bodies ++ w ∷ []
      unfolding new
      same = bodies-step deploy source es space o a k.held f i

      once-now : (x : List ℕ) → times x (all (k.held.bodies ++ w ∷ [])) ≤ 1
      once-now x = subst (λ ws. times x (all ws) ≤ 1) same (all-distinct deploy (core_of (space_after space o (Some a)) (source ∷ new.bodies)) new.kept g x)

      how : MakesStep deploy space.store space.made o a w
      how = i.right.1

      here : Member o space.pending
      here = member o space.pending i.pending

      -- an id that the step names is that of a row at hand
      named : (x : List ℕ) → is_one_of x (names a.step) ≡ true → (r : Row) × Member r (rows_at_hand space.store o) × (x ≡ r.id)
      named x n =
          let r = row-of-id x (how.receiver ∷ how.sends) (sym (ap (λ s. is_one_of x (names s)) how.step) ∙ n) in
          (r.0, hand-each space.store o (how.receiver ∷ how.sends) r.0 how.at_hand r.1, r.2)

      used-now : (x : List ℕ) → is_one_of x (names a.step) ≡ true → 1 ≤ times x (all k.held.bodies)
      used-now x n = go (named x n)
        where
          row : (r : Row) → Member r space.store ⊎ (Member r built_ins ⊎ (r ≡ o)) → 1 ≤ times r.id (all k.held.bodies)
          row r (inl m) = omega (arith, counts r.id, member-times r space.store m)
          row r (inr (inl m)) = omega (arith, counts r.id, member-times r built_ins m)
          row r (inr (inr e)) = subst (λ (q : Row). 1 ≤ times q.id (all k.held.bodies)) (sym e) (omega (arith, counts o.id, member-times o space.pending here))

          go : (r : Row) × Member r (rows_at_hand space.store o) × (x ≡ r.id) → 1 ≤ times x (all k.held.bodies)
          go r = subst (λ y. 1 ≤ times y (all k.held.bodies)) (sym r.2) (row r.0 (hand-split space.store o r.0 r.1))

      -- a pending operation that the step names is the one that made it
      its-own : (z : Row) → Member z space.pending → is_one_of z.id (names a.step) ≡ true → z.id ≡ o.id
      its-own z m n = go (named z.id n)
        where
          row : (r : Row) → z.id ≡ r.id → Member r space.store ⊎ (Member r built_ins ⊎ (r ≡ o)) → z.id ≡ o.id
          row r e (inl j) = absurd (omega (arith, counts z.id, once z.id, member-times z space.pending m, subst (λ x. 1 ≤ times x (ids space.store)) (sym e) (member-times r space.store j)))
          row r e (inr (inl j)) = absurd (omega (arith, counts z.id, once z.id, member-times z space.pending m, subst (λ x. 1 ≤ times x (ids built_ins)) (sym e) (member-times r built_ins j)))
          row r e (inr (inr j)) = e ∙ ap (λ (q : Row). q.id) j

          go : (r : Row) × Member r (rows_at_hand space.store o) × (z.id ≡ r.id) → z.id ≡ o.id
          go r = row r.0 r.2 (hand-split space.store o r.0 r.1)

      used-later : (x : List ℕ) → 1 ≤ times x (all k.held.bodies) → 1 ≤ times x (all new.bodies)
      used-later x h = subst (λ ws. 1 ≤ times x (all ws)) (sym same) (omega (arith, h, all-more k.held.bodies w x))

      -- a row that is offered now has an id that was not there
      is-new : (z : Row) → Member z a.offers → 1 ≤ times z.id (all k.held.bodies) → ⊥
      is-new z m h = omega (
        arith,
        h,
        once-now z.id,
        all-more k.held.bodies w z.id,
        rows-times z.id (work_products w),
        member-times z (rows_of (work_products w)) (subst (Member z) how.offers m),
      )

      operations-now : (e : Entry) → Member e (es ++ next ∷ []) → 1 ≤ times e.operation.id (all k.held.bodies)
      operations-now e m = go (member-split e es (next ∷ []) m)
        where
          go : Member e es ⊎ Member e (next ∷ []) → 1 ≤ times e.operation.id (all k.held.bodies)
          go (inl j) = k.operations e j
          go (inr (inl j)) = subst (λ (d : Entry). 1 ≤ times d.operation.id (all k.held.bodies)) (sym j) (omega (arith, counts o.id, member-times o space.pending here))
          go (inr (inr j)) = absurd j

      used-all : (u : Step) → Member u (space.made ++ a.step ∷ []) → (x : List ℕ) → is_one_of x (names u) ≡ true → 1 ≤ times x (all k.held.bodies)
      used-all u m x n = go (member-split u space.made (a.step ∷ []) m)
        where
          go : Member u space.made ⊎ Member u (a.step ∷ []) → 1 ≤ times x (all k.held.bodies)
          go (inl j) = k.used u j x n
          go (inr (inl j)) = used-now x (sym (ap (λ (v : Step). is_one_of x (names v)) j) ∙ n)
          go (inr (inr j)) = absurd j

      -- no entry is on a row that is offered now
      pub none-on : (z : Row) → Member z a.offers → entries_on z.id (es ++ next ∷ []) ≡ []
      none-on z m = on-none z.id (es ++ next ∷ []) (λ e j d. is-new z m (subst (λ x. 1 ≤ times x (all k.held.bodies)) (sym d) (operations-now e j)))

      offered-own : (z : Row) → Member z a.offers → (s : Step) → takes_part z s ≡ true → count s (space.made ++ a.step ∷ []) ≡ count s (steps_of (entries_on z.id (es ++ next ∷ [])))
      offered-own z m s n = count-none deploy s (space.made ++ a.step ∷ []) (λ u j. go u j (same_meeting s u) refl) ∙ sym (ap (λ l. count s (steps_of l)) (none-on z m))
        where
          go : (u : Step) → Member u (space.made ++ a.step ∷ []) → (b : Bool) → same_meeting s u ≡ b → b ≡ false
          go u j true q = absurd (is-new z m (used-all u j z.id (sym (ap (is_one_of z.id) (same-names s u q)) ∙ n)))
          go u j false q = refl

      pending-own : (z : Row) → Member z space.pending → (s : Step) → takes_part z s ≡ true → count s (space.made ++ a.step ∷ []) ≡ count s (steps_of (entries_on z.id (es ++ next ∷ [])))
      pending-own z m s n = count-both s space.made (a.step ∷ []) ∙ ap (λ c. c + count s (a.step ∷ [])) (k.own z m s n) ∙ ap (λ c. count s (steps_of (entries_on z.id es)) + c) (last (bytes_eq z.id o.id) refl (same_meeting s a.step) refl) ∙ sym (on-more s z.id es next)
        where
          last : (b : Bool) → bytes_eq z.id o.id ≡ b → (c : Bool) → same_meeting s a.step ≡ c → count s (a.step ∷ []) ≡ count s (steps_of (cond b (next ∷ []) []))
          last true e c q = refl
          last false e true q = cc (e, same_bytes z.id o.id (its-own z m (sym (ap (is_one_of z.id) (same-names s a.step q)) ∙ n)))
          last false e false q = count-none deploy s (a.step ∷ []) (λ u j. go u j)
            where
              go : (u : Step) → Member u (a.step ∷ []) → same_meeting s u ≡ false
              go u (inl j) = ap (same_meeting s) j ∙ q
              go u (inr j) = absurd j

      owned-step : Owned (es ++ record { operation = o; making = Some a } ∷ []) (space_after space o (Some a))
      owned-step = record {
        held = new;
        operations = λ e m. used-later e.operation.id (operations-now e m);
        used = λ u m x n. used-later x (used-all u m x n);
        own = λ z m s n. go z s n (pending-after space o a z here m);
      }
        where
          go : (z : Row) (s : Step) → takes_part z s ≡ true → Member z space.pending ⊎ Member z a.offers → count s (space.made ++ a.step ∷ []) ≡ count s (steps_of (entries_on z.id (es ++ next ∷ [])))
          go z s n (inl m) = pending-own z m s n
          go z s n (inr m) = offered-own z m s n

    owned-by : (o : Row) (x : Option Making) → IsEvent deploy space (record { operation = o; making = x }) → AreFresh deploy (space_after space o x).made → Owned (es ++ record { operation = o; making = x } ∷ []) (space_after space o x)
    owned-by o None i g = owned-put o i
    owned-by o (Some a) i g = owned-step o a i g

  owned-from : (before es : List Entry) (space : Space) → Owned before space → AreAllowedFrom deploy space es → AreFresh deploy (after_all space es).made → Owned (before ++ es) (after_all space es)
  owned-from before [] space h a f = subst (λ l. Owned l space) (sym (append-nil before)) h
  owned-from before (e ∷ es) space h a f =
      let g : AreFresh deploy space.made = fresh-first deploy space.made (steps_of (e ∷ es)) (subst (AreFresh deploy) (made-after (e ∷ es) space) f) in
      let n : AreFresh deploy (after space e).made = fresh-first deploy (after space e).made (steps_of es) (subst (AreFresh deploy) (made-after es (after space e)) f) in
      subst (λ l. Owned l (after_all (after space e) es)) (append_assoc before (e ∷ []) es) (owned-from (before ++ e ∷ []) es (after space e) (owned-by before space h g e.operation e.making (a.0 g) n) a.1 f)

  pub owned : (es : List Entry) (space : Space) → AreAllowed deploy source es space → AreFresh deploy space.made → Owned es space
  owned es space a f = subst (Owned es) (sym a.is) (owned-from [] es (first_space deploy source) first a.allowed (subst (λ x. AreFresh deploy x.made) a.is f))
    where
      first : Owned [] (first_space deploy source)
      first = record { held = held-first deploy source a.begins; operations = λ e m. absurd m; used = λ u m. absurd m; own = λ z m s n. refl }
