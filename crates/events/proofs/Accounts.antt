-- What holds wherever a legal list of steps leads, under fresh digests: each id at hand was made once, and what a step's receiver was is gone or lasts.
use Rattle.std.proofs.Common.{◌≡◌, ◌≤◌, ℕ, suc, ◌+◌, Bool, true, false, ◌||◌, cond, List, [], ◌∷◌, ◌++◌, length, refl, ap, sym, ◌∙◌, subst, arith, inl, inr, append_assoc}
use Rattle.std.specs.Prelude.{◌⊎◌, Option, Some, None, map as each, flat_map, option_map, option_and_then}
use Rattle.std.specs.Str.{bytes_eq}
use Rattle.calculus.proofs.Members.{Member, Every, member-split, member-left, member-right}
use Rattle.calculus.specs.Outcome.{capped}
use Rattle.calculus.specs.Log.{Step}
use Rattle.calculus.specs.Rows.{Row}
use Rattle.calculus.specs.Unfolding.{rows_of, digest, unfold_in}
use Rattle.calculus.specs.Steps.{Bag, Meeting, is_one_of, standing, stored_rows, as_receiver, stays, meeting, bag_after, but_places, has_place}
use Rattle.calculus.specs.Runs.{source_seed, Deploy, Work, work_products, State, body_work, moved, steps_from, begun, Leads}
use Rattle.events.specs.Events.{first_ids, AreFresh, digests}
use Rattle.events.specs.Found.{without, leaving_rows, leaving_sends}
use Rattle.events.proofs.Counts.{ids, times, one_if, same_bytes, AreDistinct, differ-distinct, member-times, times-append}
use Rattle.events.proofs.Lookups.{row_with, row_with-there}
use Rattle.events.proofs.Meetings.{MadeBy, made_by}
use Rattle.events.proofs.Lasting.{stays_if, Joins, joins-of}
use Rattle.events.proofs.EventStanding.{built_ins, ids-times, standing-times, in-standing, rows-times, digests-more}
use Rattle.events.proofs.EventFollowing.{append_nothing, bag-left}
use Rattle.events.proofs.Legal.{leads-none, leads-more}

-- what is left once places are emptied was there
places-times : (x : List ℕ) (ps : List ℕ) (i : ℕ) (rs : List Row) → times x (ids (but_places ps i rs)) ≤ times x (ids rs)
places-times x ps i [] = omega arith
places-times x ps i (r ∷ rs) = go (has_place ps i) (places-times x ps (suc i) rs)
  where
    go : (b : Bool) → times x (ids (but_places ps (suc i) rs)) ≤ times x (ids rs)
        → times x (ids (cond b (but_places ps (suc i) rs) (r ∷ but_places ps (suc i) rs))) ≤ one_if (bytes_eq x r.id) + times x (ids rs)
    go true h = omega (arith, h)
    go false h = omega (arith, h)

-- after a meeting no more is stored than was and is new
pub stored-next : (b : Bag) (m : Meeting) (new : List Row) (x : List ℕ) → times x (ids (stored_rows (bag_after b m new))) ≤ times x (ids (stored_rows b)) + times x (ids new)
stored-next b m new x = omega (
  arith,
  ids-times x (but_places m.leaving 0 b.kept) (but_places m.leaving (suc (suc (length b.kept))) b.offered ++ new),
  ids-times x (but_places m.leaving (suc (suc (length b.kept))) b.offered) new,
  ids-times x b.kept b.offered,
  places-times x m.leaving 0 b.kept,
  places-times x m.leaving (suc (suc (length b.kept))) b.offered,
)

-- what is left was there, and has none of these ids
pub left-member : (ns : List (List ℕ)) (rs : List Row) (z : Row) → Member z (without ns rs) → Member z rs × (is_one_of z.id ns ≡ false)
left-member ns [] z m = absurd m
left-member ns (r ∷ rs) z m = go (left-member ns rs z) (is_one_of r.id ns) refl m
  where
    go : (Member z (without ns rs) → Member z rs × (is_one_of z.id ns ≡ false)) → (b : Bool) → is_one_of r.id ns ≡ b
        → Member z (cond b (without ns rs) (r ∷ without ns rs)) → Member z (r ∷ rs) × (is_one_of z.id ns ≡ false)
    go next true d m = let k = next m in (inr k.0, k.1)
    go next false d (inl e) = (inl e, ap (λ (q : Row). is_one_of q.id ns) e ∙ d)
    go next false d (inr m) = let k = next m in (inr k.0, k.1)

-- the rows that these works offer
abbrev pub offered_by : List Work → List Row
offered_by ws = flat_map (λ w. rows_of (work_products w)) ws

offered-more : (ws : List Work) (w : Work) → offered_by (ws ++ w ∷ []) ≡ offered_by ws ++ rows_of (work_products w)
offered-more [] w = append_nothing (rows_of (work_products w))
offered-more (v ∷ ws) w = ap (λ l. rows_of (work_products v) ++ l) (offered-more ws w) ∙ sym (append_assoc (rows_of (work_products v)) (offered_by ws) (rows_of (work_products w)))

-- what was offered before is offered with one more work
pub offered-still : (ws : List Work) (w : Work) (z : Row) → Member z (offered_by ws) → Member z (offered_by (ws ++ w ∷ []))
offered-still ws w z m = subst (Member z) (sym (offered-more ws w)) (member-left z (offered_by ws) (rows_of (work_products w)) m)

offered-last : (ws : List Work) (w : Work) (z : Row) → Member z (rows_of (work_products w)) → Member z (offered_by (ws ++ w ∷ []))
offered-last ws w z m = subst (Member z) (sym (offered-more ws w)) (member-right z (offered_by ws) (rows_of (work_products w)) m)

-- a row is no receiver that leaves when it acts
abbrev pub remains : Row → Bool
remains z = stays_if (as_receiver z.part)

module _ (deploy : Deploy) where
  -- this id was made, and what has it now is no receiver that leaves when it acts
  pub record Spent (a : State) (x : List ℕ) : Type 0 where
    pub used : 1 ≤ times x (first_ids deploy.rows ++ digests a.works)
    pub remain : (z : Row) → Member z (stored_rows a.bag) → x ≡ z.id → remains z ≡ true

  -- no id is at hand more often than it was made, what is stored was there at first or offered, and the receivers of the steps made are spent
  pub record Accounted (a : State) : Type 0 where
    pub counts : (x : List ℕ) → times x (ids (stored_rows a.bag)) + times x (ids built_ins) ≤ times x (first_ids deploy.rows ++ digests a.works)
    pub arrived : (z : Row) → Member z (stored_rows a.bag) → Member z deploy.rows ⊎ Member z (offered_by a.works)
    pub spent : (u : Step) → Member u a.made → Spent a u.receiver

  pub distinct-at : (a : State) → AreDistinct (first_ids deploy.rows ++ digests a.works) → Accounted a → AreDistinct (ids (standing a.bag))
  distinct-at a d k x = omega (arith, standing-times x a.bag, k.counts x, d x)

  -- what is made with one more work
  pub all-next : (a : State) (w : Work) (x : List ℕ) → times x (first_ids deploy.rows ++ digests (a.works ++ w ∷ [])) ≡ times x (first_ids deploy.rows ++ digests a.works) + times x (each digest (work_products w))
  all-next a w x = omega (arith, times-append x (first_ids deploy.rows) (digests a.works), times-append x (first_ids deploy.rows) (digests (a.works ++ w ∷ [])), digests-more x a.works w)

  -- one more step
  module _ (a : State) (s : Step) (m : Meeting) (w : Work) (meets : meeting a.bag a.made s ≡ Some m) (d : AreDistinct (first_ids deploy.rows ++ digests a.works)) (e : AreDistinct (first_ids deploy.rows ++ digests (a.works ++ w ∷ []))) (k : Accounted a) where
    how : MadeBy (standing a.bag) a.made s m
    how = made_by a.bag a.made s m (distinct-at a d k) meets

    abbrev new : List Row
    new = rows_of (work_products w)

    abbrev gone : List (List ℕ)
    gone = ids (leaving_rows how.joined.receiver.kind how.joined.sends how.taken)

    left : bag_after a.bag m new ≡ record { kept = without gone a.bag.kept; offered = without gone a.bag.offered ++ new }
    left = ap (λ z. bag_after a.bag z new) how.is ∙ bag-left a.bag how.taken how.joined new (distinct-at a d k)

    -- a row after the step was there and does not leave, or is new
    next-member : (z : Row) → Member z (stored_rows (bag_after a.bag m new)) → (Member z (stored_rows a.bag) × (is_one_of z.id gone ≡ false)) ⊎ Member z new
    next-member z i = kept (member-split z (without gone a.bag.kept) (without gone a.bag.offered ++ new) (subst (λ b. Member z (stored_rows b)) left i))
      where
        offered : Member z (without gone a.bag.offered) ⊎ Member z new → (Member z (stored_rows a.bag) × (is_one_of z.id gone ≡ false)) ⊎ Member z new
        offered (inl j) = let q = left-member gone a.bag.offered z j in inl (member-right z a.bag.kept a.bag.offered q.0, q.1)
        offered (inr j) = inr j

        kept : Member z (without gone a.bag.kept) ⊎ Member z (without gone a.bag.offered ++ new) → (Member z (stored_rows a.bag) × (is_one_of z.id gone ≡ false)) ⊎ Member z new
        kept (inl j) = let q = left-member gone a.bag.kept z j in inl (member-left z a.bag.kept a.bag.offered q.0, q.1)
        kept (inr j) = offered (member-split z (without gone a.bag.offered) new j)

    -- a new row has none of the ids made before
    new-apart : (x : List ℕ) → 1 ≤ times x (first_ids deploy.rows ++ digests a.works) → (z : Row) → Member z new → x ≡ z.id → ⊥
    new-apart x u z i f = omega (arith, u, e x, all-next a w x, rows-times x (work_products w), subst (λ y. 1 ≤ times y (ids new)) (sym f) (member-times z new i))

    spent-still : (x : List ℕ) → Spent a x → Spent (moved a s m w) x
    spent-still x h = record { used = omega (arith, h.used, all-next a w x); remain = λ z i f. go z f (next-member z i) }
      where
        go : (z : Row) → x ≡ z.id → (Member z (stored_rows a.bag) × (is_one_of z.id gone ≡ false)) ⊎ Member z new → remains z ≡ true
        go z f (inl j) = h.remain z j.0 f
        go z f (inr j) = absurd (new-apart x h.used z j f)

    joined : Joins how.taken how.joined
    joined = joins-of how.taken how.joined how.joins

    first-there : Member joined.first (standing a.bag)
    first-there = (subst (λ l. Every (λ r. Member r (standing a.bag)) l) joined.is how.there).0

    first-id : s.receiver ≡ joined.first.id
    first-id = let e : s.receiver ∷ s.data_ids ≡ ids (joined.first ∷ joined.others) = how.ids ∙ ap ids joined.is in cc e

    -- a receiver that does not stay leaves
    first-gone : stays how.joined.receiver.kind ≡ false → is_one_of joined.first.id gone ≡ true
    first-gone h =
        ap (λ l. is_one_of joined.first.id (ids (leaving_rows how.joined.receiver.kind how.joined.sends l))) joined.is
        ∙ ap (λ b. is_one_of joined.first.id (ids (cond b [] (joined.first ∷ []) ++ leaving_sends how.joined.receiver.kind joined.others how.joined.sends))) h
        ∙ ap (λ b. b || is_one_of joined.first.id (ids (leaving_sends how.joined.receiver.kind joined.others how.joined.sends))) (same_bytes joined.first.id joined.first.id refl)

    -- the receiver of the step is spent
    spent-now : Spent (moved a s m w) s.receiver
    spent-now = record { used = omega (arith, used, all-next a w s.receiver); remain = λ z i f. go z f (next-member z i) }
      where
        used : 1 ≤ times s.receiver (first_ids deploy.rows ++ digests a.works)
        used = omega (arith, subst (λ y. 1 ≤ times y (ids (standing a.bag))) (sym first-id) (member-times joined.first (standing a.bag) first-there), standing-times s.receiver a.bag, k.counts s.receiver)

        same : (z : Row) → s.receiver ≡ z.id → Member z (stored_rows a.bag) → z ≡ joined.first
        same z f i =
            let one : Some z ≡ Some joined.first = sym (row_with-there z (standing a.bag) (distinct-at a d k) (in-standing a.bag z (inl i)))
            ∙ ap (λ x. row_with x (standing a.bag)) (sym f ∙ first-id) ∙ row_with-there joined.first (standing a.bag) (distinct-at a d k) first-there in
            cc one

        kind : (z : Row) → z ≡ joined.first → is_one_of z.id gone ≡ false → (b : Bool) → stays how.joined.receiver.kind ≡ b → remains z ≡ true
        kind z e n true h = ap remains e ∙ ap stays_if joined.receiver ∙ h
        kind z e n false h = cc (n, ap (λ (q : Row). is_one_of q.id gone) e, first-gone h)

        go : (z : Row) → s.receiver ≡ z.id → (Member z (stored_rows a.bag) × (is_one_of z.id gone ≡ false)) ⊎ Member z new → remains z ≡ true
        go z f (inl j) = kind z (same z f j.0) j.1 (stays how.joined.receiver.kind) refl
        go z f (inr j) = absurd (new-apart s.receiver used z j f)

    pub accounted-step : Accounted (moved a s m w)
    accounted-step = record {
      counts = λ x. omega (arith, k.counts x, all-next a w x, rows-times x (work_products w), stored-next a.bag m new x);
      arrived = λ z i. come z (next-member z i);
      spent = λ u i. go u (member-split u a.made (s ∷ []) i);
    }
      where
        before : (z : Row) → Member z deploy.rows ⊎ Member z (offered_by a.works) → Member z deploy.rows ⊎ Member z (offered_by (a.works ++ w ∷ []))
        before z (inl i) = inl i
        before z (inr i) = inr (offered-still a.works w z i)

        come : (z : Row) → (Member z (stored_rows a.bag) × (is_one_of z.id gone ≡ false)) ⊎ Member z new → Member z deploy.rows ⊎ Member z (offered_by (a.works ++ w ∷ []))
        come z (inl j) = before z (k.arrived z j.0)
        come z (inr j) = inr (offered-last a.works w z j)

        go : (u : Step) → Member u a.made ⊎ Member u (s ∷ []) → Spent (moved a s m w) u.receiver
        go u (inl i) = spent-still u.receiver (k.spent u i)
        go u (inr (inl f)) = subst (λ (x : Step). Spent (moved a s m w) x.receiver) (sym f) spent-now
        go u (inr (inr i)) = absurd i

  -- where the first steps lead, the digests made so far are fresh
  pub fresh-at : (first rest : List Step) (a : State) → AreFresh deploy (first ++ rest) → Leads deploy first a → AreDistinct (first_ids deploy.rows ++ digests a.works)
  fresh-at first rest a f l = differ-distinct _ (f first rest refl a l)

  accounted-begun : (w : Work) → Accounted (begun deploy.rows w)
  accounted-begun w = record {
    counts = λ x. omega (
      arith,
      ids-times x deploy.rows (rows_of (work_products w)),
      rows-times x (work_products w),
      ids-times x deploy.rows built_ins,
      times-append x (first_ids deploy.rows) (digests (w ∷ [])),
      times-append x (each digest (work_products w)) [],
    );
    arrived = λ z i. come z (member-split z deploy.rows (rows_of (work_products w)) i);
    spent = λ u i. absurd i;
  }
    where
      come : (z : Row) → Member z deploy.rows ⊎ Member z (rows_of (work_products w)) → Member z deploy.rows ⊎ Member z (offered_by (w ∷ []))
      come z (inl i) = inl i
      come z (inr i) = inr (offered-last [] w z i)

  -- from wherever these steps lead, those steps lead to such a state
  abbrev Continues : ℕ → List Step → List Step → State → Type 0
  Continues room first ss b = (x : State) → AreFresh deploy (first ++ ss) → Leads deploy first x → Accounted x → steps_from deploy.prices deploy.limit room x ss ≡ Some b → Accounted b

  accounted-steps : (room : ℕ) (before ss : List Step) (a b : State) → AreFresh deploy (before ++ ss) → Leads deploy before a → Accounted a
      → steps_from deploy.prices deploy.limit room a ss ≡ Some b → Accounted b
  accounted-steps room before [] a b f l k e = let same : a ≡ b = cc e in subst Accounted same k
  accounted-steps room before (s ∷ ss) a b f l k e = allowed (λ x g i j h. accounted-steps room (before ++ s ∷ []) ss x b g i j h) (meeting a.bag a.made s) refl e
    where
      fresh : AreFresh deploy ((before ++ s ∷ []) ++ ss)
      fresh = subst (AreFresh deploy) (sym (append_assoc before (s ∷ []) ss)) f

      works : Continues room (before ++ s ∷ []) ss b → (m : Meeting) → meeting a.bag a.made s ≡ Some m → (o : Option Work) → body_work deploy.prices deploy.limit room s m ≡ o
          → option_and_then (λ x. steps_from deploy.prices deploy.limit room x ss) (option_map (moved a s m) o) ≡ Some b → Accounted b
      works next m d None g e = cc
      works next m d (Some w) g e =
          let there : Leads deploy (before ++ s ∷ []) (moved a s m w) = leads-more deploy before a s m room w l d g in
          next (moved a s m w) fresh there (accounted-step a s m w d (fresh-at before (s ∷ ss) a f l) (fresh-at (before ++ s ∷ []) ss (moved a s m w) fresh there) k) e

      allowed : Continues room (before ++ s ∷ []) ss b → (o : Option Meeting) → meeting a.bag a.made s ≡ o
          → option_and_then (λ x. steps_from deploy.prices deploy.limit room x ss) (option_and_then (λ m. option_map (moved a s m) (body_work deploy.prices deploy.limit room s m)) o) ≡ Some b → Accounted b
      allowed next None d e = cc
      allowed next (Some m) d e = works next m d (body_work deploy.prices deploy.limit room s m) refl e

  -- wherever a legal list leads
  pub accounted : (ss : List Step) (a : State) → AreFresh deploy ss → Leads deploy ss a → Accounted a
  accounted ss a f l = go (capped deploy.limit (unfold_in deploy.prices l.0 deploy.process (source_seed deploy))) refl l.1
    where
      go : (o : Option Work) → capped deploy.limit (unfold_in deploy.prices l.0 deploy.process (source_seed deploy)) ≡ o → option_and_then (λ x. steps_from deploy.prices deploy.limit l.0 x ss) (option_map (begun deploy.rows) o) ≡ Some a → Accounted a
      go None d e = cc
      go (Some w) d e = accounted-steps l.0 [] ss (begun deploy.rows w) a f (leads-none deploy w (l.0, d)) (accounted-begun w) e

  -- no id stands twice at hand
  pub distinct : (ss : List Step) (a : State) → AreFresh deploy ss → Leads deploy ss a → AreDistinct (ids (standing a.bag))
  distinct ss a f l = distinct-at a (fresh-at ss [] a (subst (AreFresh deploy) (sym (append_nothing ss)) f) l) (accounted ss a f l)
