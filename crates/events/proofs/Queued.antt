-- Operations that wait in a queue.
use Rattle.std.proofs.Common.{◌≡◌, ◌≤◌, ℕ, Bool, true, false, cond, List, [], ◌∷◌, ◌++◌, refl, sym, ap, subst, ◌∙◌, arith, inl, inr}
use Rattle.std.specs.Prelude.{◌⊎◌, Option, Some, None, IsPermutation}
use Rattle.std.specs.Str.{bytes_eq}
use Rattle.calculus.proofs.Members.{Member, member-split}
use Rattle.calculus.specs.Rows.{Row}
use Rattle.calculus.specs.Steps.{differ}
use Rattle.calculus.specs.Runs.{Deploy, Work}
use Rattle.events.specs.Events.{AreFresh, first_ids}
use Rattle.events.proofs.Counts.{ids, times, one_if, AreDistinct, bytes_same, same_bytes, member-times}
use Rattle.events.proofs.Orders.{times-moved}
use Rattle.events.proofs.Making.{among, member}
use Rattle.events.proofs.Keeping.{events_are_legal}
use Rattle.events.proofs.Fresh.{ids_are_offered_once}
use Rattle.events.specs.Entries.{Space, Making, Entry, rows_before, rows_after, offers_in, left_in, space_after, entries_on}
use Rattle.events.specs.Allowed.{core_of, offered_rows, IsEvent}
use Rattle.events.specs.EntryLaws.{QueuesArePending, QueuesHaveNoEntries, AllowedEntriesReach, OfferedIdsDiffer}
use Rattle.events.proofs.Growing.{on-both, fresh_digests_were_fresh}
use Rattle.events.proofs.EntryHolding.{Held, held}
use Rattle.events.proofs.Owning.{Owned, owned, pending-once, none-on}
use Rattle.calculus.specs.Exchanges.{Exchanges, nothing, under, neighbours, then}
use Rattle.calculus.proofs.Permutations.{exchange, exchanges, join, keep, moved_after, over, permuted, unmoved}

-- rows but the first one with this id
abbrev but_first : List ℕ → List Row → List Row
but_first x rs = rows_before x rs ++ rows_after x rs

-- by one row more
but-more : (x : List ℕ) (r : Row) (rs : List Row) → but_first x (r ∷ rs) ≡ cond (bytes_eq x r.id) rs (r ∷ but_first x rs)
but-more x r rs = go (bytes_eq x r.id)
  where
    go : (b : Bool) → cond b [] (r ∷ rows_before x rs) ++ cond b rs (rows_after x rs) ≡ cond b rs (r ∷ but_first x rs)
    go true = refl
    go false = refl

-- in another order the same row is taken out, where no two have one id
but-exchanged : (x : List ℕ) {rs qs : List Row} → Exchanges rs qs → AreDistinct (ids rs) → IsPermutation (but_first x rs) (but_first x qs)
but-exchanged x nothing d = unmoved []
but-exchanged x (under {xs} {ys} r h) d = subst (λ l. IsPermutation l (but_first x (r ∷ ys))) (sym (but-more x r xs)) (subst (λ l. IsPermutation (cond (bytes_eq x r.id) xs (r ∷ but_first x xs)) l) (sym (but-more x r ys)) (go (bytes_eq x r.id) (but-exchanged x h (λ y. omega (arith, d y)))))
  where
    go : (b : Bool) → IsPermutation (but_first x xs) (but_first x ys) → IsPermutation (cond b xs (r ∷ but_first x xs)) (cond b ys (r ∷ but_first x ys))
    go true k = permuted h
    go false k = keep r k
but-exchanged x (neighbours r q zs) d =
    subst (λ l. IsPermutation l (but_first x (q ∷ r ∷ zs))) (sym (but-more x r (q ∷ zs) ∙ ap (λ l. cond (bytes_eq x r.id) (q ∷ zs) (r ∷ l)) (but-more x q zs)))
    (subst (λ l. IsPermutation (cond (bytes_eq x r.id) (q ∷ zs) (r ∷ cond (bytes_eq x q.id) zs (q ∷ but_first x zs))) l) (sym (but-more x q (r ∷ zs) ∙ ap (λ l. cond (bytes_eq x q.id) (r ∷ zs) (q ∷ l)) (but-more x r zs))) (go (bytes_eq x r.id) refl (bytes_eq x q.id) refl))
  where
    go : (b : Bool) → bytes_eq x r.id ≡ b → (c : Bool) → bytes_eq x q.id ≡ c
        → IsPermutation (cond b (q ∷ zs) (r ∷ cond c zs (q ∷ but_first x zs))) (cond c (r ∷ zs) (q ∷ cond b zs (r ∷ but_first x zs)))
    go true e true f = absurd (omega (arith, d x, ap one_if e, ap one_if f))
    go true e false f = unmoved (q ∷ zs)
    go false e true f = unmoved (r ∷ zs)
    go false e false f = exchange r q (but_first x zs)
but-exchanged x (then h k) d = join (but-exchanged x h d) (but-exchanged x k (λ y. omega (arith, d y, times-moved y (permuted h))))

but-moved : (x : List ℕ) {rs qs : List Row} → IsPermutation rs qs → AreDistinct (ids rs) → IsPermutation (but_first x rs) (but_first x qs)
but-moved x p d = but-exchanged x (exchanges p) d

module _ (deploy : Deploy) (source : Work) (es : List Entry) (space : Space) (k : Owned deploy source es space) (f : AreFresh deploy space.made) where
  once : AreDistinct (ids space.pending)
  once = pending-once deploy source es space k f

  -- the rest of what is pending
  rest-moved : (o : Row) (queue : List Row) → IsPermutation space.pending (o ∷ queue) → IsPermutation (but_first o.id space.pending) queue
  rest-moved o queue m = subst (IsPermutation (but_first o.id space.pending)) (but-more o.id o queue ∙ ap (λ b. cond b queue (o ∷ but_first o.id queue)) (same_bytes o.id o.id refl)) (but-moved o.id m once)

  queue-moved : (o : Row) (queue : List Row) → IsPermutation space.pending (o ∷ queue) → (new : List Row) → IsPermutation (rows_before o.id space.pending ++ (new ++ rows_after o.id space.pending)) (new ++ queue)
  queue-moved o queue m new = join (moves (rows_before o.id space.pending) new (rows_after o.id space.pending)) (moved_after new (rest-moved o queue m))
    where
      moves : (xs ys zs : List Row) → IsPermutation (xs ++ (ys ++ zs)) (ys ++ (xs ++ zs))
      moves xs [] zs = unmoved (xs ++ zs)
      moves xs (y ∷ ys) zs = join (over y xs (ys ++ zs)) (keep y (moves xs ys zs))

  -- an operation of the queue is another one
  other-id : (o : Row) (queue : List Row) → IsPermutation space.pending (o ∷ queue) → (z : Row) → Member z queue → z.id ≡ o.id → ⊥
  other-id o queue m z i e = omega (arith, once o.id, times-moved o.id m, ap one_if (same_bytes o.id o.id refl), subst (λ x. 1 ≤ times x (ids queue)) e (member-times z queue i))

pub queues_are_pending : QueuesArePending
queues_are_pending deploy source es space a f o queue m None = queue-moved deploy source es space (owned deploy source es space a f) f o queue m []
queues_are_pending deploy source es space a f o queue m (Some making) = queue-moved deploy source es space (owned deploy source es space a f) f o queue m (left_in o (Some making) ++ making.offers)

pub queues_have_no_entries : QueuesHaveNoEntries
queues_have_no_entries deploy source es space a e i g queue m none z there = go (member-split z (offers_in e.making) queue (member z (offers_in e.making ++ queue) there))
  where
    f : AreFresh deploy space.made
    f = fresh_digests_were_fresh deploy space e g

    k : Owned deploy source es space
    k = owned deploy source es space a f

    waits : Member z queue → entries_on z.id (es ++ e ∷ []) ≡ []
    waits j = on-both z.id es (e ∷ []) ∙ ap (λ l. l ++ entries_on z.id (e ∷ [])) (none z (among z queue j)) ∙ last (bytes_eq z.id e.operation.id) refl
      where
        last : (b : Bool) → bytes_eq z.id e.operation.id ≡ b → cond b (e ∷ []) [] ≡ []
        last true d = absurd (other-id deploy source es space k f e.operation queue m z j (bytes_same z.id e.operation.id d))
        last false d = refl

    -- what the body of its step offers
    new : (o : Row) (x : Option Making) → IsEvent deploy space (record { operation = o; making = x }) → AreFresh deploy (space_after space o x).made → Member z (offers_in x) → entries_on z.id (es ++ record { operation = o; making = x } ∷ []) ≡ []
    new o None i g j = absurd j
    new o (Some making) i g j = none-on deploy source es space k f o making i g z j

    go : Member z (offers_in e.making) ⊎ Member z queue → entries_on z.id (es ++ e ∷ []) ≡ []
    go (inl j) = new e.operation e.making (i f) g j
    go (inr j) = waits j

pub allowed_entries_reach : AllowedEntriesReach
allowed_entries_reach deploy source es space a f =
    let h : Held deploy source es space = held deploy source es space a f in
    record { source = source; begins = a.begins; works = source ∷ h.bodies; events = h.events; offered = h.offered }

pub offered_ids_differ : OfferedIdsDiffer
offered_ids_differ deploy space r f =
    let l = events_are_legal deploy r.source (core_of space r.works) r.begins r.events f in
    let d : differ (first_ids deploy.rows ++ ids (offered_rows l.state.works)) ≡ true = ids_are_offered_once deploy space.made l.state l.leads f in
    subst (λ rs. differ (first_ids deploy.rows ++ ids rs) ≡ true) (ap offered_rows l.works ∙ sym r.offered) d
