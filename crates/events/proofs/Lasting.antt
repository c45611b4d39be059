-- Rows that last, and which rows a meeting takes away.
use Rattle.std.proofs.Common.{◌≡◌, Bool, true, false, ◌&&◌, ◌||◌, cond, List, [], ◌∷◌, ◌++◌, refl, ap, sym, ◌∙◌, subst, inl, inr}
use Rattle.std.specs.Prelude.{Option, Some, None, option_and_then}
use Rattle.calculus.proofs.Members.{Member, Every}
use Rattle.calculus.specs.declared.plain.Kind.{Kind}
use Rattle.calculus.specs.declared.plain.Kind.TheVariants.{Linear, Persistent, Peek}
use Rattle.calculus.specs.Tree.{Tree, node, send, receive}
use Rattle.calculus.specs.Rows.{Row}
use Rattle.calculus.specs.Matching.{Bindings}
use Rattle.calculus.specs.Steps.{Receiver, Datum, as_receiver, as_datum, all_bindings, stays, peeks, all_persistent}
use Rattle.events.specs.Found.{leaving_rows, leaving_sends}
use Rattle.events.proofs.EventStanding.{built_ins}
use Rattle.events.proofs.Meetings.{Joined, as_facts, join}

-- whether a part is a receiver that stays, or none
abbrev pub stays_if : Option Receiver → Bool
stays_if None = true
stays_if (Some c) = stays c.kind

-- whether a part is a persistent datum, or none
abbrev pub persistent_if : Option Datum → Bool
persistent_if None = true
persistent_if (Some d) = d.persistent

-- a row lasts that no meeting takes away
abbrev pub lasts : Row → Bool
lasts r = stays_if (as_receiver r.part) && persistent_if (as_datum r.part)

-- the built-in receivers last
pub built-lasts : (z : Row) → Member z built_ins → lasts z ≡ true
built-lasts z (inl g) = ap lasts g
built-lasts z (inr (inl g)) = ap lasts g
built-lasts z (inr (inr m)) = absurd m

-- a meeting takes nothing away
abbrev pub takes_none : Joined → Bool
takes_none q = stays q.receiver.kind && all_persistent q.sends

receiver-no-datum : (t : Tree) (c : Receiver) → as_receiver t ≡ Some c → as_datum t ≡ None
receiver-no-datum (node (receive k) ts) c e = refl
receiver-no-datum (node _ ts) c e = cc

datum-no-receiver : (t : Tree) (d : Datum) → as_datum t ≡ Some d → as_receiver t ≡ None
datum-no-receiver (node (send q) ts) d e = refl
datum-no-receiver (node _ ts) d e = cc

receiver-lasts : (r : Row) (c : Receiver) → as_receiver r.part ≡ Some c → lasts r ≡ stays c.kind
receiver-lasts r c e = ap (λ o. stays_if o && persistent_if (as_datum r.part)) e ∙ ap (λ o. stays c.kind && persistent_if o) (receiver-no-datum r.part c e) ∙ right (stays c.kind)
  where
    right : (b : Bool) → b && true ≡ b
    right true = refl
    right false = refl

datum-lasts : (r : Row) (d : Datum) → as_datum r.part ≡ Some d → lasts r ≡ d.persistent
datum-lasts r d e = ap (λ o. stays_if o && persistent_if (as_datum r.part)) (datum-no-receiver r.part d e) ∙ ap persistent_if e

-- the data of rows, one by one
pub facts-cons : (r : Row) (rs : List Row) (ds : List Datum) → as_facts (r ∷ rs) ≡ Some ds → (d : Datum) × (es : List Datum) × (as_datum r.part ≡ Some d) × (as_facts rs ≡ Some es) × (ds ≡ d ∷ es)
facts-cons r rs ds e = go (as_datum r.part) refl (as_facts rs) refl e
  where
    go : (o : Option Datum) → as_datum r.part ≡ o → (os : Option (List Datum)) → as_facts rs ≡ os
        → option_and_then (λ d. option_and_then (λ es. Some (d ∷ es)) os) o ≡ Some ds → (d : Datum) × (es : List Datum) × (as_datum r.part ≡ Some d) × (as_facts rs ≡ Some es) × (ds ≡ d ∷ es)
    go None f os g e = cc
    go (Some d) f None g e = cc
    go (Some d) f (Some es) g e = (d, es, f, g, cc e)

-- what a join is made of
pub record Joins (rs : List Row) (q : Joined) : Type 0 where
  pub first : Row
  pub others : List Row
  pub is : rs ≡ first ∷ others
  pub receiver : as_receiver first.part ≡ Some q.receiver
  pub sends : as_facts others ≡ Some q.sends

pub joins-of : (rs : List Row) (q : Joined) → join rs ≡ Some q → Joins rs q
joins-of [] q e = cc
joins-of (r ∷ rs) q e = go (as_receiver r.part) refl (as_facts rs) refl e
  where
    bound : (c : Receiver) (ds : List Datum) → as_receiver r.part ≡ Some c → as_facts rs ≡ Some ds → (o : Option Bindings)
        → option_and_then (λ xs. Some (record { receiver = c; sends = ds; bindings = xs })) o ≡ Some q → Joins (r ∷ rs) q
    bound c ds f g None e = cc
    bound c ds f g (Some xs) e =
        let same : record { receiver = c; sends = ds; bindings = xs } ≡ q = cc e in
        record { first = r; others = rs; is = refl; receiver = f ∙ ap (λ x. Some x) (ap (λ j. j.receiver) same); sends = g ∙ ap (λ x. Some x) (ap (λ j. j.sends) same) }

    go : (o : Option Receiver) → as_receiver r.part ≡ o → (os : Option (List Datum)) → as_facts rs ≡ os
        → option_and_then (λ c. option_and_then (λ ds. option_and_then (λ xs. Some (record { receiver = c; sends = ds; bindings = xs })) (all_bindings c.binds ds)) os) o ≡ Some q → Joins (r ∷ rs) q
    go None f os g e = cc
    go (Some c) f None g e = cc
    go (Some c) f (Some ds) g e = bound c ds f g (all_bindings c.binds ds) e

facts-last : (rs : List Row) (ds : List Datum) → as_facts rs ≡ Some ds → all_persistent ds ≡ true → Every (λ r. lasts r ≡ true) rs
facts-last [] ds e h = tt
facts-last (r ∷ rs) ds e h =
    let k = facts-cons r rs ds e in
    let two : k.0.persistent && all_persistent k.1 ≡ true = sym (ap all_persistent k.4) ∙ h in
    (datum-lasts r k.0 k.2 ∙ left k.0.persistent (all_persistent k.1) two, facts-last rs k.1 k.3 (right k.0.persistent (all_persistent k.1) two))
  where
    left : (a b : Bool) → a && b ≡ true → a ≡ true
    left true b h = refl
    left false b h = cc

    right : (a b : Bool) → a && b ≡ true → b ≡ true
    right true b h = h
    right false b h = cc

-- the rows of a meeting that takes nothing away last
pub all-last : (rs : List Row) (q : Joined) → join rs ≡ Some q → takes_none q ≡ true → Every (λ r. lasts r ≡ true) rs
all-last rs q e h =
    let j = joins-of rs q e in
    subst (λ l. Every (λ r. lasts r ≡ true) l) (sym j.is)
    (receiver-lasts j.first q.receiver j.receiver ∙ first (stays q.receiver.kind) (all_persistent q.sends) h, facts-last j.others q.sends j.sends (second (stays q.receiver.kind) (all_persistent q.sends) h))
  where
    first : (a b : Bool) → a && b ≡ true → a ≡ true
    first true b h = refl
    first false b h = cc

    second : (a b : Bool) → a && b ≡ true → b ≡ true
    second true b h = h
    second false b h = cc

leaving-facts-fade : (k : Kind) (rs : List Row) (ds : List Datum) → as_facts rs ≡ Some ds → Every (λ r. lasts r ≡ false) (leaving_sends k rs ds)
leaving-facts-fade k [] ds e = tt
leaving-facts-fade k (r ∷ rs) [] e = tt
leaving-facts-fade k (r ∷ rs) (d ∷ ds) e =
    let h = facts-cons r rs (d ∷ ds) e in
    let rest : as_facts rs ≡ Some ds = h.3 ∙ ap (λ x. Some x) (sym (tails h.4)) in
    let here : as_datum r.part ≡ Some d = h.2 ∙ ap (λ x. Some x) (sym (heads h.4)) in
    go (peeks k) d.persistent refl (datum-lasts r d here) (leaving-facts-fade k rs ds rest)
  where
    tails : {a b : Datum} {us vs : List Datum} → a ∷ us ≡ b ∷ vs → us ≡ vs
    tails e = cc e

    heads : {a b : Datum} {us vs : List Datum} → a ∷ us ≡ b ∷ vs → a ≡ b
    heads e = cc e

    go : (b c : Bool) → d.persistent ≡ c → lasts r ≡ d.persistent → Every (λ r. lasts r ≡ false) (leaving_sends k rs ds) → Every (λ r. lasts r ≡ false) (cond (b || c) (leaving_sends k rs ds) (r ∷ leaving_sends k rs ds))
    go true c p l h = h
    go false true p l h = h
    go false false p l h = (l ∙ p, h)

-- the rows that a meeting takes away do not last
pub leaving-fade : (rs : List Row) (q : Joined) → join rs ≡ Some q → Every (λ r. lasts r ≡ false) (leaving_rows q.receiver.kind q.sends rs)
leaving-fade rs q e =
    let j = joins-of rs q e in
    subst (λ l. Every (λ r. lasts r ≡ false) (leaving_rows q.receiver.kind q.sends l)) (sym j.is)
    (go j.first j.others (stays q.receiver.kind) refl (receiver-lasts j.first q.receiver j.receiver) (leaving-facts-fade q.receiver.kind j.others q.sends j.sends))
  where
    go : (r : Row) (rs : List Row) (b : Bool) → stays q.receiver.kind ≡ b → lasts r ≡ stays q.receiver.kind → Every (λ r. lasts r ≡ false) (leaving_sends q.receiver.kind rs q.sends)
        → Every (λ r. lasts r ≡ false) (cond b [] (r ∷ []) ++ leaving_sends q.receiver.kind rs q.sends)
    go r rs true p l h = h
    go r rs false p l h = (l ∙ p, h)

stays-no-peek : (k : Kind) → stays k ≡ true → peeks k ≡ false
stays-no-peek Persistent e = refl
stays-no-peek Linear e = cc
stays-no-peek Peek e = cc

some-fact-leaves : (k : Kind) (rs : List Row) (ds : List Datum) → peeks k ≡ false → as_facts rs ≡ Some ds → all_persistent ds ≡ false → (r : Row) × Member r (leaving_sends k rs ds)
some-fact-leaves k [] ds n e h = absurd (none ds e h)
  where
    none : (ds : List Datum) → Some [] ≡ Some ds → all_persistent ds ≡ false → ⊥
    none [] e h = cc
    none (d ∷ ds) e h = cc
some-fact-leaves k (r ∷ rs) [] n e h = cc
some-fact-leaves k (r ∷ rs) (d ∷ ds) n e h =
    let f = facts-cons r rs (d ∷ ds) e in
    let rest : as_facts rs ≡ Some ds = f.3 ∙ ap (λ x. Some x) (sym (tails f.4)) in
    go (some-fact-leaves k rs ds n rest) (peeks k) n d.persistent h
  where
    tails : {a b : Datum} {us vs : List Datum} → a ∷ us ≡ b ∷ vs → us ≡ vs
    tails e = cc e

    go : (all_persistent ds ≡ false → (z : Row) × Member z (leaving_sends k rs ds)) → (b : Bool) → b ≡ false → (c : Bool) → c && all_persistent ds ≡ false
        → (z : Row) × Member z (cond (b || c) (leaving_sends k rs ds) (r ∷ leaving_sends k rs ds))
    go next true p c h = cc
    go next false p true h = next h
    go next false p false h = (r, inl refl)

-- a meeting that takes something away takes a row away
pub one-leaves : (rs : List Row) (q : Joined) → join rs ≡ Some q → takes_none q ≡ false → (r : Row) × Member r (leaving_rows q.receiver.kind q.sends rs)
one-leaves rs q e h =
    let j = joins-of rs q e in
    subst (λ l. (r : Row) × Member r (leaving_rows q.receiver.kind q.sends l)) (sym j.is) (go j.first j.others j.sends (stays q.receiver.kind) refl h)
  where
    go : (f : Row) (rs : List Row) → as_facts rs ≡ Some q.sends → (b : Bool) → stays q.receiver.kind ≡ b → b && all_persistent q.sends ≡ false
        → (r : Row) × Member r (cond b [] (f ∷ []) ++ leaving_sends q.receiver.kind rs q.sends)
    go f rs g true p h = some-fact-leaves q.receiver.kind rs q.sends (stays-no-peek q.receiver.kind p) g h
    go f rs g false p h = (f, inl refl)
