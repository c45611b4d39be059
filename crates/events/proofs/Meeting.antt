-- Rows that meet have congruent channels: each send stands in a shard of its receiver.
use Rattle.std.proofs.Common.{◌≡◌, ℕ, Bool, true, false, cond, List, [], ◌∷◌, ◌++◌, map as each, refl, sym, ap, subst, ◌∙◌, inl, inr}
use Rattle.std.specs.Prelude.{◌&&◌, Option, Some, None, option_and_then, is_some}
use Rattle.std.specs.List.{list_any}
use Rattle.calculus.proofs.Members.{Member}
use Rattle.calculus.specs.Tree.{Tree, node, send, receive}
use Rattle.calculus.specs.Shape.{held, at}
use Rattle.calculus.specs.Congruence.{congruent}
use Rattle.calculus.specs.Matching.{Bindings, first_of_all, bind_matches}
use Rattle.calculus.specs.Rows.{Row, channels}
use Rattle.calculus.specs.Storing.{shard}
use Rattle.calculus.specs.Steps.{Receiver, Datum, Meeting, as_receiver, as_datum, bindings_of, all_bindings}
use Rattle.calculus.proofs.Equivalence.{symmetric}
use Rattle.events.specs.Found.{met}
use Rattle.events.proofs.Meetings.{as_facts}
use Rattle.events.proofs.Making.{met-joins}
use Rattle.events.specs.Shards.{shards_of}
use Rattle.events.specs.Hands.{is_one_channel, hears}
use Rattle.events.proofs.Alike.{congruent_channels_share_a_shard}
use Rattle.events.proofs.ShardStanding.{any-true, channel-shard}

-- what was made of a value that is there
and_then : {A B : Type 0} (f : A → Option B) (o : Option A) (y : B) → option_and_then f o ≡ Some y → (x : A) × (o ≡ Some x) × (f x ≡ Some y)
and_then f None y e = absurd (cc e)
and_then f (Some x) y e = (x, refl, e)

receiver-channels : (t : Tree) (c : Receiver) → as_receiver t ≡ Some c → channels t ≡ each (λ b. at 0 (held b)) c.binds
receiver-channels (node (receive k) ts) c e = cc e
receiver-channels (node _ ts) c e = cc

send-channels : (t : Tree) (d : Datum) → as_datum t ≡ Some d → channels t ≡ d.channel ∷ []
send-channels (node (send q) ts) d e = cc e
send-channels (node _ ts) d e = cc

-- a send on one channel, to which one of these is congruent
pub record IsOn (cs : List Tree) (z : Row) : Type 0 where
  pub channel : Tree
  pub its : channels z.part ≡ channel ∷ []
  pub other : Tree
  pub among : Member other cs
  pub same : congruent other channel ≡ true
  pub datum : is_some (as_datum z.part) ≡ true

more-on : (c : Tree) (cs : List Tree) (z : Row) → IsOn cs z → IsOn (c ∷ cs) z
more-on c cs z i = record { channel = i.channel; its = i.its; other = i.other; among = inr i.among; same = i.same; datum = i.datum }

on-channel : (b : Tree) (d : Datum) (xs : Bindings) → bindings_of b d ≡ Some xs → congruent (at 0 (held b)) d.channel ≡ true
on-channel b d xs e = go (congruent (at 0 (held b)) d.channel) refl e
  where
    go : (v : Bool) → congruent (at 0 (held b)) d.channel ≡ v → cond v (first_of_all (bind_matches b d.args)) None ≡ Some xs → congruent (at 0 (held b)) d.channel ≡ true
    go true f g = f
    go false f g = absurd (cc g)

each-on : (bs : List Tree) (ds : List Row) (fs : List Datum) (xs : Bindings) → as_facts ds ≡ Some fs → all_bindings bs fs ≡ Some xs → (z : Row) → Member z ds → IsOn (each (λ b. at 0 (held b)) bs) z
each-on bs [] fs xs e f z m = absurd m
each-on [] (d ∷ ds) fs xs e f z m =
    let a = and_then (λ (y : Datum). option_and_then (λ (ys : List Datum). Some (y ∷ ys)) (as_facts ds)) (as_datum d.part) fs e in
    let b = and_then (λ (ys : List Datum). Some (a.0 ∷ ys)) (as_facts ds) fs a.2 in
    let is : a.0 ∷ b.0 ≡ fs = cc b.2 in
    let g : all_bindings [] (a.0 ∷ b.0) ≡ Some xs = ap (all_bindings []) is ∙ f in
    absurd (cc g)
each-on (b ∷ bs) (d ∷ ds) fs xs e f z m =
    let a = and_then (λ (y : Datum). option_and_then (λ (ys : List Datum). Some (y ∷ ys)) (as_facts ds)) (as_datum d.part) fs e in
    let c = and_then (λ (ys : List Datum). Some (a.0 ∷ ys)) (as_facts ds) fs a.2 in
    let is : a.0 ∷ c.0 ≡ fs = cc c.2 in
    let g : all_bindings (b ∷ bs) (a.0 ∷ c.0) ≡ Some xs = ap (all_bindings (b ∷ bs)) is ∙ f in
    let t = and_then (λ (us : Bindings). option_and_then (λ (vs : Bindings). Some (us ++ vs)) (all_bindings bs c.0)) (bindings_of b a.0) xs g in
    let u = and_then (λ (vs : Bindings). Some (t.0 ++ vs)) (all_bindings bs c.0) xs t.2 in
    go b a.0 t.0 a.1 t.1 (each-on bs ds c.0 u.0 c.1 u.1 z) m
  where
    go : (b : Tree) (a : Datum) (us : Bindings) → as_datum d.part ≡ Some a → bindings_of b a ≡ Some us → (Member z ds → IsOn (each (λ c. at 0 (held c)) bs) z) → Member z (d ∷ ds) → IsOn (at 0 (held b) ∷ each (λ c. at 0 (held c)) bs) z
    go b a us k t next (inl s) = record { channel = a.channel; its = ap (λ (y : Row). channels y.part) s ∙ send-channels d.part a k; other = at 0 (held b); among = inl refl; same = on-channel b a us t; datum = ap (λ (y : Row). is_some (as_datum y.part)) s ∙ ap is_some k }
    go b a us k t next (inr i) = more-on (at 0 (held b)) (each (λ c. at 0 (held c)) bs) z (next i)

-- rows that meet: a receiver, and sends each of which is on one of its channels
pub record IsMet (r : Row) (ds : List Row) : Type 0 where
  pub receiver : is_some (as_receiver r.part) ≡ true
  pub on : (z : Row) → Member z ds → IsOn (channels r.part) z

pub met-on : (r : Row) (ds : List Row) (m : Meeting) → met (r ∷ ds) ≡ Some m → IsMet r ds
met-on r ds m e =
    let j = met-joins (r ∷ ds) m e in
    let c = and_then (λ (c : Receiver). option_and_then (λ (fs : List Datum). option_and_then (λ (xs : Bindings). Some (record { receiver = c; sends = fs; bindings = xs })) (all_bindings c.binds fs)) (as_facts ds)) (as_receiver r.part) j.joined j.joins in
    let a = and_then (λ (fs : List Datum). option_and_then (λ (xs : Bindings). Some (record { receiver = c.0; sends = fs; bindings = xs })) (all_bindings c.0.binds fs)) (as_facts ds) j.joined c.2 in
    let b = and_then (λ (xs : Bindings). Some (record { receiver = c.0; sends = a.0; bindings = xs })) (all_bindings c.0.binds a.0) j.joined a.2 in
    record {
      receiver = ap is_some c.1;
      on = λ z i. subst (λ cs. IsOn cs z) (sym (receiver-channels r.part c.0 c.1)) (each-on c.0.binds ds a.0 b.0 a.1 b.1 z i);
    }

-- the one shard of a row that is on one of these channels, which a receiver on them stands in
pub its-shard : (r z : Row) → IsOn (channels r.part) z → (k : ℕ) × (shards_of z ≡ k ∷ []) × Member k (shards_of r)
its-shard r z i = (shard i.channel, ap (each shard) i.its, subst (λ k. Member k (shards_of r)) (congruent_channels_share_a_shard i.other i.channel i.same) (channel-shard i.other r i.among))

-- a receiver hears a send that it meets
pub heard : (r z : Row) → is_some (as_receiver r.part) ≡ true → IsOn (channels r.part) z → hears r z ≡ true
heard r z e i =
    let any : list_any (λ c. is_one_channel c (channels r.part)) (channels z.part) ≡ true =
    any-true (λ c. is_one_channel c (channels r.part)) (channels z.part) i.channel (subst (λ l. Member i.channel l) (sym i.its) (inl refl))
    (any-true (congruent i.channel) (channels r.part) i.other i.among (symmetric i.other i.channel i.same)) in
    ap (λ b. b && list_any (λ c. is_one_channel c (channels r.part)) (channels z.part)) e ∙ any
