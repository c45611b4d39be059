-- Which rows a receiver hears, and which rows are receivers.
use Rattle.std.proofs.Common.{◌≡◌, Bool, true, false, List, [], ◌∷◌, map as each, refl, sym, ap, ◌∙◌, inl, inr}
use Rattle.std.specs.Prelude.{◌&&◌, ◌||◌, Option, Some, None, is_some}
use Rattle.calculus.specs.Tree.{Tree, node, receive, send}
use Rattle.calculus.specs.Shape.{at, held}
use Rattle.calculus.specs.Congruence.{congruent}
use Rattle.calculus.specs.Rows.{Row, channels}
use Rattle.calculus.specs.Steps.{Datum, Receiver, Meeting, as_datum, as_receiver, bindings_of}
use Rattle.calculus.proofs.Equivalence.{symmetric}
use Rattle.events.specs.Found.{met, Among}
use Rattle.row_search.specs.Rows.{is_one_channel, is_heard_on, IsIn}
use Rattle.row_search.specs.Meetings.{IsDatumOn, IsSendOn, MeetsNone}
use Rattle.row_search.proofs.Taking.{and_then, tree-channel}
use Rattle.row_search.proofs.Complete.{met-takes, tree-of}

-- what has no value is none
pub none-if : {A : Type 0} (x : Option A) → ((y : A) → x ≡ Some y → ⊥) → x ≡ None
none-if None f = refl
none-if (Some y) f = absurd (f y refl)

-- the datum of a send
pub datum-of : (c : Tree) (o : Row) → IsSendOn c o → (d : Datum) × (as_datum o.part ≡ Some d) × (d.channel ≡ c)
datum-of c o h = go (as_datum o.part) refl h
  where
    go : (x : Option Datum) → as_datum o.part ≡ x → IsDatumOn c x → (d : Datum) × (as_datum o.part ≡ Some d) × (d.channel ≡ c)
    go None e k = absurd k
    go (Some d) e k = (d, e, k)

-- a datum is no receiver
pub no-receiver : (t : Tree) (d : Datum) → as_datum t ≡ Some d → as_receiver t ≡ None
no-receiver (node (send q) ts) d e = refl
no-receiver (node _ ts) d e = cc

-- the channels of a receiver are those of its binds
receiver-channels : (t : Tree) (c : Receiver) → as_receiver t ≡ Some c → channels t ≡ each (λ b. at 0 (held b)) c.binds
receiver-channels (node (receive k) ts) c e = cc
receiver-channels (node _ ts) c e = cc

one-of : (c : Tree) (b : Tree) (bs : List Tree) → IsIn b bs → congruent c (at 0 (held b)) ≡ true → is_one_channel c (each (λ u. at 0 (held u)) bs) ≡ true
one-of c b [] k e = absurd k
one-of c b (u ∷ bs) (inl i) e = ap (λ v. v || is_one_channel c (each (λ w. at 0 (held w)) bs)) (ap (λ (w : Tree). congruent c (at 0 (held w))) (sym i) ∙ e)
one-of c b (u ∷ bs) (inr k) e = ap (λ v. congruent c (at 0 (held u)) || v) (one-of c b bs k e) ∙ or-true (congruent c (at 0 (held u)))
  where
    or-true : (v : Bool) → v || true ≡ true
    or-true true = refl
    or-true false = refl

-- a row that meets others, a send on this channel among them, hears that channel
pub meets-heard : (c : Tree) (o r : Row) (ds : List Row) (m : Meeting) → IsSendOn c o → Among o ds → met (r ∷ ds) ≡ Some m → is_heard_on c r ≡ true
meets-heard c o r ds m s p e =
    let t = met-takes r ds m e in
    let b = tree-of o t.0.binds ds p t.2 in
    let d = datum-of c o s in
    let a = and_then (bindings_of b.0) (as_datum o.part) b.2.0 b.2.1 in
    let same : a.0 ≡ d.0 = cc (a.1, d.1) in
    let on : congruent c (at 0 (held b.0)) ≡ true =
    symmetric (at 0 (held b.0)) c (ap (congruent (at 0 (held b.0))) (sym (ap (λ (x : Datum). x.channel) same ∙ d.2)) ∙ tree-channel b.0 a.0 b.2.0 a.2) in
    ap (λ (x : Option Receiver). is_some x && is_one_channel c (channels r.part)) t.1 ∙ ap (is_one_channel c) (receiver-channels r.part t.0 t.1) ∙ one-of c b.0 t.0.binds b.1 on

-- a receiver that doesn't hear a send meets nothing with it
pub not-heard-none : (rs : List Row) (c : Tree) (o r : Row) → IsSendOn c o → is_heard_on c r ≡ false → MeetsNone rs o r
not-heard-none rs c o r s e ds h p = none-if (met (r ∷ ds)) (λ m f. go m f p)
  where
    go : (m : Meeting) → met (r ∷ ds) ≡ Some m → Among o (r ∷ ds) → ⊥
    go m f (inl g) =
        let d = datum-of c o s in
        let none = no-receiver r.part d.0 (ap (λ (q : Row). as_datum q.part) (sym g) ∙ d.1) in
        cc (none, (met-takes r ds m f).1)
    go m f (inr g) = cc (meets-heard c o r ds m s g f)

-- a send is no receiver
pub send-none : (c : Tree) (o : Row) (ds : List Row) → IsSendOn c o → met (o ∷ ds) ≡ None
send-none c o ds s = let d = datum-of c o s in none-if (met (o ∷ ds)) (λ m f. cc (no-receiver o.part d.0 d.1, (met-takes o ds m f).1))

-- what is no datum is met by no receiver
pub no-datum : (o r : Row) (ds : List Row) → as_datum o.part ≡ None → Among o ds → met (r ∷ ds) ≡ None
no-datum o r ds e p =
    none-if (met (r ∷ ds))
    (λ m f. let t = met-takes r ds m f in
    let b = tree-of o t.0.binds ds p t.2 in
    let a = and_then (bindings_of b.0) (as_datum o.part) b.2.0 b.2.1 in
    cc (a.1, e))
