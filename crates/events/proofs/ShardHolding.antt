-- What the rows of held shards tell of a store.
use Rattle.std.proofs.Common.{◌≡◌, ℕ, Bool, true, false, ◌&&◌, ◌||◌, List, [], ◌∷◌, ◌++◌, refl, sym, ap, subst, ◌∙◌, inl, inr, eqb, eqb-true}
use Rattle.std.specs.Prelude.{◌⊎◌, Option, Some, None}
use Rattle.std.specs.List.{list_any}
use Rattle.calculus.proofs.Members.{Member, member-split, member-left, member-right}
use Rattle.calculus.proofs.Permutations.{moved_so}
use Rattle.calculus.specs.Rows.{Row, stdout, stdout_ack}
use Rattle.calculus.specs.Log.{Step}
use Rattle.calculus.specs.Steps.{Meeting}
use Rattle.calculus.specs.Runs.{Deploy, Work}
use Rattle.events.specs.Found.{met, Among, AreAtHand}
use Rattle.events.proofs.Orders.{member-moved}
use Rattle.events.proofs.Making.{among, member}
use Rattle.events.specs.Entries.{Making}
use Rattle.events.specs.Allowed.{AreAmong, IdsTell, rows_at_hand, MeetsNothing, MakesStep}
use Rattle.events.specs.Shards.{shards_of, stands_in}
use Rattle.events.specs.Hands.{hears, shows, HoldShards, HoldShown, rows_of_all, is_in_hand, AreProjections}
use Rattle.events.specs.ShardLaws.{ProjectionsAreHeld, MetRowsAreInHand, NothingInHandIsNothingStored, StepsInHandAreSteps}
use Rattle.events.proofs.ShardStanding.{any-true, stands}
use Rattle.events.proofs.ShardFollowing.{kept-in, kept-was}
use Rattle.events.proofs.Meeting.{met-on, its-shard, heard}

-- rows in hand are stored
in-store : (store : List Row) (shards : List (ℕ × List Row)) → AreProjections store shards → (z : Row) → Member z (rows_of_all shards) → Member z store
in-store store [] e z m = absurd m
in-store store (s ∷ ss) e z m = go (in-store store ss e.1 z) (member-split z s.1 (rows_of_all ss) m)
  where
    go : (Member z (rows_of_all ss) → Member z store) → Member z s.1 ⊎ Member z (rows_of_all ss) → Member z store
    go next (inl k) = (kept-was (stands_in s.0) store z (member-moved z (moved_so e.0) k)).0
    go next (inr k) = next k

-- each stored row of a shard in hand is in hand
in-hand : (store : List Row) (shards : List (ℕ × List Row)) → AreProjections store shards → (k : ℕ) (z : Row) → is_in_hand shards k ≡ true → Member z store → stands_in k z ≡ true → Member z (rows_of_all shards)
in-hand store [] e k z h m s = cc
in-hand store (x ∷ ss) e k z h m s = go (λ f. in-hand store ss e.1 k z f m s) (eqb k x.0) refl h
  where
    go : (is_in_hand ss k ≡ true → Member z (rows_of_all ss)) → (b : Bool) → eqb k x.0 ≡ b → b || is_in_hand ss k ≡ true → Member z (x.1 ++ rows_of_all ss)
    go next true d f = member-left z x.1 (rows_of_all ss) (member-moved z e.0 (kept-in (stands_in x.0) store z m (ap (λ n. stands_in n z) (sym (eqb-true k x.0 d)) ∙ s)))
    go next false d f = member-right z x.1 (rows_of_all ss) (next f)

pub projections_are_held : ProjectionsAreHeld
projections_are_held store shards e = record {
  stored = λ r a. among r store (in-store store shards e r (member r (rows_of_all shards) a));
  whole = λ r k a h s. among r (rows_of_all shards) (in-hand store shards e k r h (member r store a) s);
}

-- what is at hand beside the stored rows
abbrev pub beside : Row → List Row
beside o = stdout ∷ stdout_ack ∷ o ∷ []

pub at-hand : (rows : List Row) (o : Row) (qs : List Row) → ((z : Row) → Member z qs → Member z (rows ++ beside o)) → AreAtHand rows o qs
at-hand rows o [] f = tt
at-hand rows o (q ∷ qs) f = (among q (rows ++ beside o) (f q (inl refl)), at-hand rows o qs (λ z m. f z (inr m)))

pub of-hand : (rows : List Row) (o : Row) (qs : List Row) → AreAtHand rows o qs → (z : Row) → Member z qs → Member z rows ⊎ Member z (beside o)
of-hand rows o [] h z m = absurd m
of-hand rows o (q ∷ qs) h z (inl e) = member-split z rows (beside o) (subst (λ y. Member y (rows ++ beside o)) (sym e) (member q (rows ++ beside o) h.0))
of-hand rows o (q ∷ qs) h z (inr m) = of-hand rows o qs h.1 z m

-- rows at hand among some are at hand among more
hand-more : (rows more : List Row) (o : Row) → AreAmong rows more → (qs : List Row) → AreAtHand rows o qs → AreAtHand more o qs
hand-more rows more o a qs h = at-hand more o qs (λ z m. go z (of-hand rows o qs h z m))
  where
    go : (z : Row) → Member z rows ⊎ Member z (beside o) → Member z (more ++ beside o)
    go z (inl k) = member-left z more (beside o) (member z more (a z (among z rows k)))
    go z (inr k) = member-right z more (beside o) k

or-right : (a b : Bool) → b ≡ true → a || b ≡ true
or-right true b e = refl
or-right false b e = e

module _ (store : List Row) (held : ℕ → Bool) (rows : List Row) (o : Row) (h : HoldShards store held rows) (s : HoldShown held rows o) where
  -- the operation's own shards are held
  pub own : (k : ℕ) → Member k (shards_of o) → held k ≡ true
  own k m = s k (ap (λ b. b || list_any (λ r. hears r o && stands_in k r) rows) (stands k o m))

  -- the shards of a receiver in hand that hears it are shown
  pub shown : (r : Row) → Member r rows → hears r o ≡ true → (k : ℕ) → Member k (shards_of r) → shows rows o k ≡ true
  shown r m e k i = or-right (stands_in k o) (list_any (λ q. hears q o && stands_in k q) rows) (any-true (λ q. hears q o && stands_in k q) rows r m (ap (λ b. b && stands_in k r) e ∙ stands k r i))

  pub own-shown : (k : ℕ) → Member k (shards_of o) → shows rows o k ≡ true
  own-shown k m = ap (λ b. b || list_any (λ r. hears r o && stands_in k r) rows) (stands k o m)

  -- rows that meet, the operation among them
  module _ (r : Row) (sends : List Row) (m : Meeting) (hand : AreAtHand store o (r ∷ sends)) (part : Among o (r ∷ sends)) (meets : met (r ∷ sends) ≡ Some m) where
    place : (z : Row) → Member z (r ∷ sends) → Member z store ⊎ Member z (beside o)
    place z i = of-hand store o (r ∷ sends) hand z i

    -- where the operation is a send, it shares a shard with the receiver
    common : Member o sends → (k : ℕ) × (held k ≡ true) × Member k (shards_of r)
    common i =
        let t = its-shard r o ((met-on r sends m meets).on o i) in
        (t.0, own t.0 (subst (λ l. Member t.0 l) (sym t.1) (inl refl)), t.2)

    receiver-in : Member o sends → Member r store → Member r rows
    receiver-in i k = let c = common i in member r rows (h.whole r c.0 (among r store k) c.1 (stands c.0 r c.2))

    -- a built-in receiver stands in the operation's shard alone
    single : Member o sends → (x : ℕ) → shards_of r ≡ x ∷ [] → (k : ℕ) → Member k (shards_of r) → shows rows o k ≡ true
    single i x e k j =
        let t = its-shard r o ((met-on r sends m meets).on o i) in
        own-shown k (subst (λ l. Member k l) (sym t.1) (go (subst (λ l. Member k l) e j) (subst (λ l. Member t.0 l) e t.2)))
      where
        go : {y : ℕ} → Member k (x ∷ []) → Member y (x ∷ []) → Member k (y ∷ [])
        go (inl a) (inl b) = inl (a ∙ sym b)
        go (inl a) (inr b) = absurd b
        go (inr a) b = absurd a

    -- the shards of all channels of the receiver are shown
    pub receiver-shown : (k : ℕ) → Member k (shards_of r) → shows rows o k ≡ true
    receiver-shown k i = go (member o (r ∷ sends) part) (place r (inl refl))
      where
        go : Member o (r ∷ sends) → Member r store ⊎ Member r (beside o) → shows rows o k ≡ true
        go (inl e) p = own-shown k (subst (λ y. Member k (shards_of y)) (sym e) i)
        go (inr j) (inl p) = shown r (receiver-in j p) (heard r o (met-on r sends m meets).receiver ((met-on r sends m meets).on o j)) k i
        go (inr j) (inr (inl e)) = single j _ (ap shards_of e) k i
        go (inr j) (inr (inr (inl e))) = single j _ (ap shards_of e) k i
        go (inr j) (inr (inr (inr (inl e)))) = own-shown k (subst (λ y. Member k (shards_of y)) e i)
        go (inr j) (inr (inr (inr (inr e)))) = absurd e

    all-in : (z : Row) → Member z (r ∷ sends) → Member z (rows ++ beside o)
    all-in z (inl e) = subst (λ y. Member y (rows ++ beside o)) (sym e) (go (member o (r ∷ sends) part) (place r (inl refl)))
      where
        go : Member o (r ∷ sends) → Member r store ⊎ Member r (beside o) → Member r (rows ++ beside o)
        go (inl e) p = member-right r rows (beside o) (inr (inr (inl (sym e))))
        go (inr j) (inl p) = member-left r rows (beside o) (receiver-in j p)
        go (inr j) (inr p) = member-right r rows (beside o) p
    all-in z (inr i) = go (place z (inr i))
      where
        go : Member z store ⊎ Member z (beside o) → Member z (rows ++ beside o)
        go (inr p) = member-right z rows (beside o) p
        go (inl p) =
            let t = its-shard r z ((met-on r sends m meets).on z i) in
            member-left z rows (beside o) (member z rows (h.whole z t.0 (among z store p) (s t.0 (receiver-shown t.0 t.2)) (stands t.0 z (subst (λ l. Member t.0 l) (sym t.1) (inl refl)))))

    pub in-reach : AreAtHand rows o (r ∷ sends)
    in-reach = at-hand rows o (r ∷ sends) all-in

pub met_rows_are_in_hand : MetRowsAreInHand
met_rows_are_in_hand store held rows o h s r sends m hand part meets = in-reach store held rows o h s r sends m hand part meets

pub nothing_in_hand_is_nothing_stored : NothingInHandIsNothingStored
nothing_in_hand_is_nothing_stored store held rows o h s = (to, λ n r sends hand part d. n r sends (hand-more rows store o h.stored (r ∷ sends) hand) part d)
  where
    to : MeetsNothing rows o → MeetsNothing store o
    to n r sends hand part d = go (met (r ∷ sends)) refl
      where
        go : (x : Option Meeting) → met (r ∷ sends) ≡ x → met (r ∷ sends) ≡ None
        go None f = f
        go (Some m) f = n r sends (in-reach store held rows o h s r sends m hand part f) part d

-- a step with rows at hand is one wherever they are at hand
step-with : (rows others : List Row) (o : Row) (deploy : Deploy) (made : List Step) (a : Making) (w : Work) → (k : MakesStep deploy rows made o a w) → AreAtHand others o (k.receiver ∷ k.sends)
    → (IdsTell (rows_at_hand others o) → IdsTell (rows_at_hand rows o)) → MakesStep deploy others made o a w
step-with rows others o deploy made a w k hand tell = record {
  receiver = k.receiver;
  sends = k.sends;
  at_hand = hand;
  part = k.part;
  differs = λ t. k.differs (tell t);
  found = k.found;
  meets = k.meets;
  step = k.step;
  gone = k.gone;
  line = k.line;
  room = k.room;
  work = k.work;
  offers = k.offers;
  price = k.price;
  fault = k.fault;
}

tell-fewer : (rows more : List Row) (o : Row) → AreAmong rows more → IdsTell (rows_at_hand more o) → IdsTell (rows_at_hand rows o)
tell-fewer rows more o a t q r b c e = t q r (go q b) (go r c) e
  where
    go : (z : Row) → Among z (rows_at_hand rows o) → Among z (rows_at_hand more o)
    go z i = (hand-more rows more o a (z ∷ []) (i, tt)).0

pub steps_in_hand_are_steps : StepsInHandAreSteps
steps_in_hand_are_steps store held rows o h s t deploy made a w = (
  λ k. step-with rows store o deploy made a w k (hand-more rows store o h.stored (k.receiver ∷ k.sends) k.at_hand) (tell-fewer rows store o h.stored),
  λ k. step-with store rows o deploy made a w k (in-reach store held rows o h s k.receiver k.sends k.found k.at_hand k.part k.meets) (λ _. t),
)
