-- Which rows a step spends.
use Rattle.std.proofs.Common.{◌≡◌, ℕ, Bool, true, false, ◌||◌, cond, List, [], ◌∷◌, ◌++◌, refl, ap, sym, ◌∙◌, subst, inl, inr}
use Rattle.std.specs.Prelude.{◌⊎◌, Some}
use Rattle.std.specs.Str.{bytes_eq}
use Rattle.calculus.proofs.Members.{Member, Every, every-at}
use Rattle.calculus.specs.declared.plain.Kind.{Kind}
use Rattle.calculus.specs.Rows.{Row}
use Rattle.calculus.specs.Steps.{Receiver, Datum, Meeting, is_one_of, standing, as_receiver, as_datum, stays, peeks}
use Rattle.events.specs.Spending.{spent_data, spent_ids}
use Rattle.events.specs.EventLaws.{TakenRowsAreSpent}
use Rattle.events.proofs.Counts.{ids, same_bytes, AreDistinct}
use Rattle.events.proofs.Lookups.{row_with, row_with-there}
use Rattle.events.proofs.Meetings.{as_facts, MadeBy, made_by}
use Rattle.events.proofs.Lasting.{Joins, facts-cons}
use Rattle.events.proofs.Spent.{row-of-id}
use Rattle.events.proofs.Making.{member}
use Rattle.events.proofs.Accounts.{distinct}
use Rattle.events.proofs.Spending.{joins, receiver-id, data-ids}

-- of two rows at hand with one id the one is the other
one-row : (rs : List Row) (r q : Row) → AreDistinct (ids rs) → Member r rs → Member q rs → r.id ≡ q.id → r ≡ q
one-row rs r q d m n e =
    let one : Some r ≡ Some q = sym (row_with-there r rs d m) ∙ ap (λ x. row_with x rs) e ∙ row_with-there q rs d n in
    cc one

-- a linear datum that is taken without a peek is spent
datum-spent : (k : Kind) → peeks k ≡ false → (rs : List Row) (ds : List Datum) → as_facts rs ≡ Some ds → (q : Row) (d : Datum) → Member q rs → as_datum q.part ≡ Some d → d.persistent ≡ false → is_one_of q.id (spent_data k (ids rs) ds) ≡ true
datum-spent k n [] ds e q d m f l = absurd m
datum-spent k n (r ∷ rs) ds e q d m f l = go (λ es h i. datum-spent k n rs es h q d i f l) (facts-cons r rs ds e)
  where
    here : (c : Datum) (es : List Datum) → as_datum r.part ≡ Some c → q ≡ r → (b : Bool) → b ≡ false → (x : Bool) → c.persistent ≡ x → is_one_of q.id (cond (b || x) (spent_data k (ids rs) es) (r.id ∷ spent_data k (ids rs) es)) ≡ true
    here c es g i true j x y = cc j
    here c es g i false j true y =
        let one : Some c ≡ Some d = sym g ∙ ap (λ (z : Row). as_datum z.part) (sym i) ∙ f in
        let same : c ≡ d = cc one in
        cc (y, l, ap (λ (z : Datum). z.persistent) same)
    here c es g i false j false y = ap (λ b. b || is_one_of q.id (spent_data k (ids rs) es)) (same_bytes q.id r.id (ap (λ (z : Row). z.id) i))

    later : (es : List Datum) (b : Bool) → is_one_of q.id (spent_data k (ids rs) es) ≡ true → is_one_of q.id (cond b (spent_data k (ids rs) es) (r.id ∷ spent_data k (ids rs) es)) ≡ true
    later es true h = h
    later es false h = more (bytes_eq q.id r.id) h
      where
        more : (b : Bool) → is_one_of q.id (spent_data k (ids rs) es) ≡ true → b || is_one_of q.id (spent_data k (ids rs) es) ≡ true
        more true h = refl
        more false h = h

    -- what is so of the other rows
    Others : Type 0
    Others = (es : List Datum) → as_facts rs ≡ Some es → Member q rs → is_one_of q.id (spent_data k (ids rs) es) ≡ true

    at : Others → (c : Datum) (es : List Datum) → as_datum r.part ≡ Some c → as_facts rs ≡ Some es → (q ≡ r) ⊎ Member q rs → is_one_of q.id (spent_data k (ids (r ∷ rs)) (c ∷ es)) ≡ true
    at next c es g h (inl i) = here c es g i (peeks k) n c.persistent refl
    at next c es g h (inr i) = later es (peeks k || c.persistent) (next es h i)

    go : Others → (c : Datum) × (es : List Datum) × (as_datum r.part ≡ Some c) × (as_facts rs ≡ Some es) × (ds ≡ c ∷ es) → is_one_of q.id (spent_data k (ids (r ∷ rs)) ds) ≡ true
    go next h = subst (λ l. is_one_of q.id (spent_data k (ids (r ∷ rs)) l) ≡ true) (sym h.4) (at next h.0 h.1 h.2 h.3 m)

pub taken_rows_are_spent : TakenRowsAreSpent
taken_rows_are_spent deploy ss a l f s m e r i = (receivers, data_rows)
  where
    d : AreDistinct (ids (standing a.bag))
    d = distinct deploy ss a f l

    how : MadeBy (standing a.bag) a.made s m
    how = made_by a.bag a.made s m d e

    j : Joins how.taken how.joined
    j = joins (standing a.bag) a.made s m how

    there : Every (λ z. Member z (standing a.bag)) (j.first ∷ j.others)
    there = subst (Every (λ z. Member z (standing a.bag))) j.is how.there

    kind : m.receiver ≡ how.joined.receiver
    kind = ap (λ (z : Meeting). z.receiver) how.is

    receivers : (c : Receiver) → as_receiver r.part ≡ Some c → stays c.kind ≡ false → s.receiver ≡ r.id → is_one_of r.id (spent_ids s m) ≡ true
    receivers c g n o =
        let same : r ≡ j.first = one-row (standing a.bag) r j.first d (member r (standing a.bag) i) there.0 (sym o ∙ receiver-id (standing a.bag) a.made s m how) in
        let one : Some c ≡ Some how.joined.receiver = sym g ∙ ap (λ (z : Row). as_receiver z.part) same ∙ j.receiver in
        let alike : c ≡ how.joined.receiver = cc one in
        let leaves : stays m.receiver.kind ≡ false = ap (λ (z : Receiver). stays z.kind) (kind ∙ sym alike) ∙ n in
        ap (λ b. is_one_of r.id (cond b [] (s.receiver ∷ []) ++ spent_data m.receiver.kind s.data_ids m.sends)) leaves
        ∙ ap (λ b. b || is_one_of r.id (spent_data m.receiver.kind s.data_ids m.sends)) (same_bytes r.id s.receiver (sym o))

    more : (b : Bool) (x : List ℕ) (ys : List (List ℕ)) → is_one_of r.id ys ≡ true → is_one_of r.id (cond b [] (x ∷ []) ++ ys) ≡ true
    more true x ys h = h
    more false x ys h = go (bytes_eq r.id x)
      where
        go : (b : Bool) → b || is_one_of r.id ys ≡ true
        go true = refl
        go false = h

    data_rows : (c : Datum) → as_datum r.part ≡ Some c → c.persistent ≡ false → is_one_of r.id s.data_ids ≡ true → peeks m.receiver.kind ≡ false → is_one_of r.id (spent_ids s m) ≡ true
    data_rows c g n o w =
        let xs : s.data_ids ≡ ids j.others = data-ids (standing a.bag) a.made s m how in
        let q = row-of-id r.id j.others (sym (ap (is_one_of r.id) xs) ∙ o) in
        let same : r ≡ q.0 = one-row (standing a.bag) r q.0 d (member r (standing a.bag) i) (every-at _ j.others q.0 there.1 q.1) q.2 in
        let sends : as_facts j.others ≡ Some m.sends = j.sends ∙ ap (λ (z : Meeting). Some z.sends) (sym how.is) in
        let spent : is_one_of q.0.id (spent_data m.receiver.kind (ids j.others) m.sends) ≡ true = datum-spent m.receiver.kind w j.others m.sends sends q.0 c q.1 (ap (λ (z : Row). as_datum z.part) (sym same) ∙ g) n in
        more (stays m.receiver.kind) s.receiver (spent_data m.receiver.kind s.data_ids m.sends)
        (subst (λ z. is_one_of z (spent_data m.receiver.kind s.data_ids m.sends) ≡ true) (sym q.2) (subst (λ l. is_one_of q.0.id (spent_data m.receiver.kind l m.sends) ≡ true) (sym xs) spent))
