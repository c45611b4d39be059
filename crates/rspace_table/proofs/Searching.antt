-- What a search among the shards in hand tells.
use Rattle.std.proofs.Common.{◌≡◌, ℕ, zero, suc, Bool, true, false, ◌||◌, cond, List, [], ◌∷◌, ◌++◌, filter, map as each, refl, sym, ap, subst, ◌∙◌, inl, inr}
use Rattle.std.specs.Prelude.{◌⊎◌, Option, Some, None, is_some}
use Rattle.calculus.proofs.Members.{Member, member-split, member-left, member-right}
use Rattle.calculus.specs.Tree.{Tree, node, send, receive}
use Rattle.calculus.specs.Shape.{at, listed}
use Rattle.calculus.specs.Congruence.{congruent}
use Rattle.calculus.specs.Rows.{Row, channels}
use Rattle.calculus.specs.Steps.{as_datum, as_receiver, is_one_of}
use Rattle.calculus.specs.Storing.{shard}
use Rattle.events.specs.Found.{Among, AreAtHand}
use Rattle.std.specs.Str.{bytes_eq}
use Rattle.events.proofs.Counts.{same_bytes, bytes_same}
use Rattle.events.proofs.Making.{among, member}
use Rattle.found_rows.specs.declared.found.Found.{Found}
use Rattle.row_search.specs.Rows.{is_one_channel, row_with, with_row, looked_up, HasSends, HasReceivers}
use Rattle.row_search.specs.Meetings.{rows_with, AllAmong, IsFound}
use Rattle.found_rows.specs.AtHand.{MeetsAtHand}
use Rattle.row_search.proofs.Complete.{whose}
use Rattle.row_search.proofs.Sound.{among-left}
use Rattle.events.specs.Allowed.{IdsTell, rows_at_hand}
use Rattle.events.proofs.Alike.{congruent_channels_share_a_shard}
use Rattle.events.proofs.ShardStanding.{its-one}
use Rattle.events.proofs.ShardFollowing.{kept-in, kept-was}
use Rattle.events.proofs.ShardHolding.{beside}
use Rattle.shard_tables.specs.Hands.{AreInHand}
use Rattle.rspace_table.specs.Hands.{InHand, shard_at, is_send, is_receive, firsts, sends_of, all_sends, receives_of, rows_for, AreInPlace, FindsSends}
use Rattle.rspace_table.proofs.Firsts.{first-was, found-first, stays-first}
use Rattle.rspace_table.proofs.Shown.{and-left, and-right}
use Rattle.row_table.proofs.Filing.{looked-up-found}

-- what is a send is no receive
pub not-both : (t : Tree) → is_some (as_datum t) ≡ true → is_some (as_receiver t) ≡ true → ⊥
not-both (node (send q) ts) e f = cc f
not-both (node (receive k) ts) e f = cc e
not-both (node _ ts) e f = cc e

-- a shard in hand, among whose rows a row is
pub record StandsIn (hand : InHand) (z : Row) : Type 0 where
  pub number : ℕ
  pub rows : List Row
  pub at : shard_at hand number ≡ Some rows
  pub there : Member z rows

no-shard : {A : Type 0} (s : A) → None ≡ Some s → ⊥
no-shard s e = cc e

-- the sends of a shard are sends of it
pub send-was : (rows : List Row) (z : Row) → Member z (filter is_send (firsts rows)) → Member z rows × (is_send z ≡ true)
send-was rows z m = let k = kept-was is_send (firsts rows) z m in (first-was rows z k.0, k.1)

pub sends-was : (hand : InHand) (z : Row) → Member z (all_sends hand) → StandsIn hand z × (is_send z ≡ true)
sends-was [] z m = absurd m
sends-was (x ∷ xs) z m = go x (sends-was xs z) (member-split z (sends_of x) (all_sends xs) m)
  where
    go : (y : Option (List Row)) → (Member z (all_sends xs) → StandsIn xs z × (is_send z ≡ true)) → Member z (sends_of y) ⊎ Member z (all_sends xs) → StandsIn (y ∷ xs) z × (is_send z ≡ true)
    go None next (inl k) = absurd k
    go (Some rows) next (inl k) = let w = send-was rows z k in (record { number = 0; rows = rows; at = refl; there = w.0 }, w.1)
    go y next (inr k) = let n = next k in (record { number = suc n.0.number; rows = n.0.rows; at = n.0.at; there = n.0.there }, n.1)

-- a send in a shard in hand is among its sends, and among all
pub sends-in : (hand : InHand) (k : ℕ) (rows : List Row) → shard_at hand k ≡ Some rows → (z : Row) → Member z (filter is_send (firsts rows)) → Member z (all_sends hand)
sends-in [] k rows e z m = absurd (no-shard rows e)
sends-in (None ∷ xs) zero rows e z m = absurd (no-shard rows e)
sends-in (Some t ∷ xs) zero rows e z m = let same : t ≡ rows = cc e in member-left z (sends_of (Some t)) (all_sends xs) (subst (λ (y : List Row). Member z (filter is_send (firsts y))) (sym same) m)
sends-in (x ∷ xs) (suc k) rows e z m = member-right z (sends_of x) (all_sends xs) (sends-in xs k rows e z m)

-- the channel of a send
send-channel : (t : Tree) → is_some (as_datum t) ≡ true → (c : Tree) × (channels t ≡ c ∷ [])
send-channel (node (send q) ts) e = (at 0 (listed ts), refl)
send-channel (node (receive k) ts) e = absurd (cc e)
send-channel (node _ ts) e = absurd (cc e)

one-channel : (c d : Tree) → is_one_channel c (d ∷ []) ≡ true → congruent c d ≡ true
one-channel c d e = go (congruent c d) refl e
  where
    go : (b : Bool) → congruent c d ≡ b → b || false ≡ true → congruent c d ≡ true
    go true f g = f
    go false f g = absurd (cc g)

-- a row that is found by an id has it
has-id : (x : List ℕ) (rows : List Row) (q : Row) → row_with x rows ≡ Some q → x ≡ q.id
has-id x [] q e = cc e
has-id x (r ∷ rows) q e = go (has-id x rows q) (bytes_eq x r.id) refl e
  where
    go : (row_with x rows ≡ Some q → x ≡ q.id) → (b : Bool) → bytes_eq x r.id ≡ b → cond b (Some r) (row_with x rows) ≡ Some q → x ≡ q.id
    go next true d f = let same : r ≡ q = cc f in bytes_same x r.id d ∙ ap (λ (z : Row). z.id) same
    go next false d f = next f

-- a row that is looked up has one of the ids
looked-id : (rows : List Row) (xs : List (List ℕ)) (r : Row) → Among r (looked_up rows xs) → is_one_of r.id xs ≡ true
looked-id rows [] r a = absurd a
looked-id rows (x ∷ xs) r a = go (looked-id rows xs r) (row_with x rows) refl a
  where
    or-right : (a b : Bool) → b ≡ true → a || b ≡ true
    or-right true b e = refl
    or-right false b e = e

    go : (Among r (looked_up rows xs) → is_one_of r.id xs ≡ true) → (o : Option Row) → row_with x rows ≡ o → Among r (with_row o (looked_up rows xs)) → bytes_eq r.id x || is_one_of r.id xs ≡ true
    go next None e b = or-right (bytes_eq r.id x) (is_one_of r.id xs) (next b)
    go next (Some q) e (inl s) = ap (λ c. c || is_one_of r.id xs) (same_bytes r.id x (ap (λ z. z.id) s ∙ sym (has-id x rows q e)))
    go next (Some q) e (inr b) = or-right (bytes_eq r.id x) (is_one_of r.id xs) (next b)

module _ (heard : List Row) (hand : InHand) where
  abbrev shown : List Row
  shown = receives_of heard ++ all_sends hand

  -- what is shown is found by its id
  tells : (r : Row) → Among r (rows_for heard hand) → row_with r.id (rows_for heard hand) ≡ Some r
  tells r a = found-first shown r (member r (rows_for heard hand) a)

  -- it is a receive of those that are looked at, or a send in hand
  pub shown-was : (r : Row) → Member r (rows_for heard hand) → (Member r heard × (is_receive r ≡ true)) ⊎ (StandsIn hand r × (is_send r ≡ true))
  shown-was r m = go (member-split r (receives_of heard) (all_sends hand) (first-was shown r m))
    where
      go : Member r (receives_of heard) ⊎ Member r (all_sends hand) → (Member r heard × (is_receive r ≡ true)) ⊎ (StandsIn hand r × (is_send r ≡ true))
      go (inl k) = let w = kept-was is_receive (firsts heard) r k in inl (first-was heard r w.0, w.1)
      go (inr k) = inr (sends-was hand r k)

  -- the ids of the sends on a channel in its shard find all that are shown
  pub sends-on : AreInPlace hand → (c : Tree) (ids : List (List ℕ)) → FindsSends (shard_at hand (shard c)) c ids → HasSends (rows_for heard hand) c ids
  sends-on p c ids f r a e = go (shown-was r (member r (rows_for heard hand) a))
    where
      sent : is_some (as_datum r.part) ≡ true
      sent = and-left (is_some (as_datum r.part)) (is_one_channel c (channels r.part)) e

      first : {i j : ℕ} → Member i (j ∷ []) → i ≡ j
      first (inl x) = x
      first (inr x) = absurd x

      go : (Member r heard × (is_receive r ≡ true)) ⊎ (StandsIn hand r × (is_send r ≡ true)) → Among r (looked_up (rows_for heard hand) ids)
      go (inl w) = absurd (not-both r.part sent w.1)
      go (inr w) =
          let i = w.0 in
          let d = send-channel r.part sent in
          let on : congruent c d.0 ≡ true = one-channel c d.0 (sym (ap (is_one_channel c) d.1) ∙ and-right (is_some (as_datum r.part)) (is_one_channel c (channels r.part)) e) in
          let stand : Member i.number (shard d.0 ∷ []) = subst (λ l. Member i.number l) (ap (each shard) d.1) (its-one i.number r (p i.number i.rows i.at r (among r i.rows i.there))) in
          let same : shard c ≡ i.number = congruent_channels_share_a_shard c d.0 on ∙ sym (first stand) in
          let g : HasSends i.rows c ids = subst (λ s. FindsSends s c ids) (ap (shard_at hand) same ∙ i.at) f in
          looked-up-found (rows_for heard hand) r ids (tells r a) (looked-id i.rows ids r (g r (among r i.rows i.there) e))

  -- the ids of the receives on a channel find all that are shown
  pub receivers-on : (c : Tree) (ids : List (List ℕ)) → HasReceivers heard c ids → HasReceivers (rows_for heard hand) c ids
  receivers-on c ids g r a e = go (shown-was r (member r (rows_for heard hand) a))
    where
      go : (Member r heard × (is_receive r ≡ true)) ⊎ (StandsIn hand r × (is_send r ≡ true)) → Among r (looked_up (rows_for heard hand) ids)
      go (inl w) = looked-up-found (rows_for heard hand) r ids (tells r a) (looked-id heard ids r (g r (among r heard w.0) e))
      go (inr w) = absurd (not-both r.part w.1 (and-left (is_some (as_receiver r.part)) (is_one_channel c (channels r.part)) e))

  module _ (all : List Row) (o : Row) (are : AreInHand (λ rows. rows) (shard_at hand) all) (known : (r : Row) → Member r heard → Member r (all ++ beside o)) where
    -- what is shown is in hand, or built in
    shown-there : (z : Row) → Member z (rows_for heard hand) → Member z (all ++ beside o)
    shown-there z m = go (shown-was z m)
      where
        go : (Member z heard × (is_receive z ≡ true)) ⊎ (StandsIn hand z × (is_send z ≡ true)) → Member z (all ++ beside o)
        go (inl w) = known z w.0
        go (inr w) = let i = w.0 in member-left z all (beside o) (member z all ((are z).1 (i.number, i.rows, i.at, among z i.rows i.there)))

    with-shown : (z : Row) → Among z (rows_with (rows_for heard hand) o) → Among z (all ++ beside o)
    with-shown z a = go (whose z (rows_for heard hand) o a)
      where
        go : Among z (rows_for heard hand) ⊎ (z ≡ o) → Among z (all ++ beside o)
        go (inl k) = among z (all ++ beside o) (shown-there z (member z (rows_for heard hand) k))
        go (inr e) = among z (all ++ beside o) (member-right z all (beside o) (inr (inr (inl e))))

    all-shown : (qs : List Row) → AllAmong qs (rows_with (rows_for heard hand) o) → AreAtHand all o qs
    all-shown [] a = tt
    all-shown (q ∷ qs) a = (with-shown q a.0, all-shown qs a.1)

    -- what is found is in hand, or built in
    pub found-in : (f : Found) → IsFound (rows_for heard hand) o f → MeetsAtHand all o f
    found-in f i = record {
      receiver = i.receiver;
      sends = i.sends;
      at_hand = all-shown (i.receiver ∷ i.sends) i.at_hand;
      part = i.part;
      storable = i.storable;
      differs = λ t. i.differs (λ a b x y e. t a b (with-shown a x) (with-shown b y) e);
      meeting = i.meeting;
      meets = i.meets;
      cont = i.cont;
      taken = i.taken;
      bound = i.bound;
      body = i.body;
      gone = i.gone;
      lasting = i.lasting;
    }

    module _ (t : IdsTell (rows_at_hand all o)) where
      -- a row at hand with an id is the one
      one : (z q : Row) → Member z (all ++ beside o) → Member q (all ++ beside o) → q.id ≡ z.id → q ≡ z
      one z q m n e = t q z (among q (all ++ beside o) n) (among z (all ++ beside o) m) e

      stays : (z : Row) → Member z (all ++ beside o) → Member z (receives_of heard) ⊎ Member z (all_sends hand) → Member z (rows_for heard hand)
      stays z m k = stays-first shown z (joined k) (λ q n e. one z q m (was q (member-split q (receives_of heard) (all_sends hand) n)) e)
        where
          joined : Member z (receives_of heard) ⊎ Member z (all_sends hand) → Member z shown
          joined (inl i) = member-left z (receives_of heard) (all_sends hand) i
          joined (inr i) = member-right z (receives_of heard) (all_sends hand) i

          was : (q : Row) → Member q (receives_of heard) ⊎ Member q (all_sends hand) → Member q (all ++ beside o)
          was q (inl i) = known q (first-was heard q (kept-was is_receive (firsts heard) q i).0)
          was q (inr i) = let w = sends-was hand q i in member-left q all (beside o) (member q all ((are q).1 (w.0.number, w.0.rows, w.0.at, among q w.0.rows w.0.there)))

      -- a receive that is looked at is shown
      pub receive-shown : (r : Row) → Member r heard → is_receive r ≡ true → Among r (rows_with (rows_for heard hand) o)
      receive-shown r m e = among-left o r (rows_for heard hand) (among r (rows_for heard hand) (stays r (known r m)
          (inl (kept-in is_receive (firsts heard) r (stays-first heard r m (λ q n d. one r q (known r m) (known q n) d)) e))))

      -- a send in hand is shown
      pub send-shown : (z : Row) → Among z all → is_send z ≡ true → Among z (rows_with (rows_for heard hand) o)
      send-shown z a e =
          let i = (are z).0 a in
          let here : (q : Row) → Member q i.1 → Member q (all ++ beside o) = λ q n. member-left q all (beside o) (member q all ((are q).1 (i.0, i.1, i.2, among q i.1 n))) in
          let m = member z i.1 i.3 in
          let first = stays-first i.1 z m (λ q n d. one z q (here z m) (here q n) d) in
          among-left o z (rows_for heard hand) (among z (rows_for heard hand) (stays z (here z m) (inr (sends-in hand i.0 i.1 i.2 z (kept-in is_send (firsts i.1) z first e)))))
