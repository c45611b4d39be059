-- The least row that a bind takes is the first of those on its channel, where ids ascend.
use Rattle.std.proofs.Common.{◌≡◌, ◌<◌, ℕ, ◌+◌, Bool, true, false, cond, List, [], ◌∷◌, ◌++◌, length, get_or, take, drop, All, refl, ap, sym, ◌∙◌, subst, append_assoc, inl, inr}
use Rattle.std.specs.Prelude.{◌⊎◌, Option, Some, None, IsSome, MatchOption}
use Rattle.std.specs.List.{filter}
use Rattle.std.proofs.lemmas.List.{take_more, take-append-drop}
use Rattle.std.proofs.lemmas.List.Elements.{All-cons, All-head, All-tail}
use Rattle.calculus.specs.declared.ids.Digest.{Digest}
use Rattle.calculus.specs.Code.{code}
use Rattle.calculus.specs.Congruence.{congruent}
use Rattle.calculus.specs.Form.{a_bind}
use Rattle.calculus.specs.Order.{up_to}
use Rattle.calculus.specs.Rows.{Row}
use Rattle.calculus.specs.Steps.{as_datum, bindings_of}
use Rattle.calculus.proofs.CodesAgree.{code_is_congruence}
use Rattle.calculus.proofs.Ordered.{up_to_total}
use Rattle.events.proofs.Counts.{same_bytes}
use Rattle.events.specs.Found.{Among}
use Rattle.rho_term.specs.declared.term.TermBind.{TermBind}
use Rattle.rho_term.specs.Parts.{bind_tree}
use Rattle.match_targets.specs.Targets.{Ready}
use Rattle.row_search.specs.Choices.{takes}
use Rattle.row_search.proofs.Known.{all-in, bind-channel}
use Rattle.row_search.proofs.Looping.{in-rows}
use Rattle.row_search.proofs.Taking.{and_then, on_channel}
use Rattle.least_step.specs.Orders.{IsBefore, AreAscending}
use Rattle.least_step.specs.Filed.{has_code, is_on, HasReadyChannel}
use Rattle.least_step.specs.Choosing.{TakesNone, IsLeastTaken}

pub up_to_itself : (x : List ℕ) → up_to x x ≡ true
up_to_itself x = go (up_to x x) refl
  where
    go : (b : Bool) → up_to x x ≡ b → up_to x x ≡ true
    go true h = h
    go false h = up_to_total x x h

-- what is there is not none
pub some-none : {A : Type 0} (x : Option A) → IsSome x → x ≡ None → ⊥
some-none x h e = cc

pub an-option : {A : Type 0} (x : Option A) → IsSome x → (y : A) × (x ≡ Some y)
an-option None h = cc
an-option (Some y) h = (y, refl)

pub not-some : {A : Type 0} (x : Option A) → (IsSome x → ⊥) → x ≡ None
not-some None f = refl
not-some (Some y) f = absurd (f refl)

-- a list, taken apart at a place
pub apart_at : {A : Type 0} (xs : List A) (i : ℕ) (d : A) → i < length xs → xs ≡ take i xs ++ get_or xs i d ∷ drop (i + 1) xs
apart_at xs i d h =
    sym (take-append-drop (i + 1) xs) ∙ (ap (λ l. l ++ drop (i + 1) xs) (take_more xs i d h) ∙ append_assoc (take i xs) (get_or xs i d ∷ []) (drop (i + 1) xs))

-- a row of a list stands before a place, there or after it
pub where-is : (r : Row) (before : List Row) (q : Row) (after : List Row) → Among r (before ++ q ∷ after) → Among r before ⊎ ((r ≡ q) ⊎ Among r after)
where-is r [] q after (inl e) = inr (inl e)
where-is r [] q after (inr k) = inr (inr k)
where-is r (p ∷ before) q after (inl e) = inl (inl e)
where-is r (p ∷ before) q after (inr k) = elim (where-is r before q after k) [ inl a ↦ inl (inr a) | inr e ↦ inr e ]

pub stands-there : (before : List Row) (q : Row) (after : List Row) → Among q (before ++ q ∷ after)
stands-there [] q after = inl refl
stands-there (p ∷ before) q after = inr (stands-there before q after)

-- where ids ascend, a row's id is less than those after it
pub all-after : (before : List Row) (q : Row) (after : List Row) → AreAscending (before ++ q ∷ after) → All (IsBefore q) after
all-after [] q after a = a.0
all-after (p ∷ before) q after a = all-after before q after a.1

pub among-all : (P : Row → Type 0) (r : Row) (rs : List Row) → All P rs → Among r rs → P r
among-all P r rs a k = all-in P r rs a (in-rows r rs k)

-- the first row that a bind takes is the least where ids ascend
pub first-least : (b : TermBind) (before : List Row) (q : Row) (after : List Row) (id : Digest) → AreAscending (before ++ q ∷ after) → All (λ r. takes b r ≡ None) before → IsSome (takes b q) → id.0 ≡ q.id
    → IsLeastTaken (before ++ q ∷ after) b id
first-least b before q after id a n t e = record {
  send = q;
  among = stands-there before q after;
  id_is = e;
  taken = t;
  least = λ r k s.
      elim (where-is r before q after k) [
        | inl h ↦ absurd (some-none (takes b r) s (among-all (λ r. takes b r ≡ None) r before n h))
        | inr (inl h) ↦ subst (λ (p : Row). up_to q.id p.id ≡ true) (sym h) (up_to_itself q.id)
        | inr (inr h) ↦ (among-all (IsBefore q) r after (all-after before q after a) h).1
      ];
}

filter-among : (f : Row → Bool) (r : Row) (rs : List Row) → Among r (filter f rs) → Among r rs
filter-among f r [] k = absurd k
filter-among f r (q ∷ rs) k = go (f q) (filter-among f r rs) k
  where
    go : (b : Bool) → (Among r (filter f rs) → Among r rs) → Among r (cond b (q ∷ filter f rs) (filter f rs)) → Among r (q ∷ rs)
    go true next (inl e) = inl e
    go true next (inr h) = inr (next h)
    go false next h = inr (next h)

among-filter : (f : Row → Bool) (r : Row) (rs : List Row) → f r ≡ true → Among r rs → Among r (filter f rs)
among-filter f r [] e k = absurd k
among-filter f r (q ∷ rs) e (inl h) = go (f q) (ap f (sym h) ∙ e)
  where
    go : (b : Bool) → b ≡ true → Among r (cond b (q ∷ filter f rs) (filter f rs))
    go true g = inl h
    go false g = cc
among-filter f r (q ∷ rs) e (inr h) = go (f q) (among-filter f r rs e h)
  where
    go : (b : Bool) → Among r (filter f rs) → Among r (cond b (q ∷ filter f rs) (filter f rs))
    go true g = inr g
    go false g = g

all-filter : (P : Row → Type 0) (f : Row → Bool) (rs : List Row) → All P rs → All P (filter f rs)
all-filter P f [] a = a
all-filter P f (q ∷ rs) a = go (f q) (all-filter P f rs (All-tail P q rs a))
  where
    go : (b : Bool) → All P (filter f rs) → All P (cond b (q ∷ filter f rs) (filter f rs))
    go true n = All-cons P q (filter f rs) (All-head P q rs a) n
    go false n = n

pub ascending-filter : (f : Row → Bool) (rs : List Row) → AreAscending rs → AreAscending (filter f rs)
ascending-filter f [] a = tt
ascending-filter f (q ∷ rs) a = go (f q) (ascending-filter f rs a.1)
  where
    go : (b : Bool) → AreAscending (filter f rs) → AreAscending (cond b (q ∷ filter f rs) (filter f rs))
    go true n = (all-filter (IsBefore q) f rs a.0, n)
    go false n = n

module _ (b : TermBind) (ready : Ready a_bind (bind_tree b)) where
  -- what a bind takes is filed under the code of its channel
  pub taken-on : (r : Row) → HasReadyChannel r → IsSome (takes b r) → is_on (code b.channel) r ≡ true
  taken-on r s t =
      let xs = an-option (takes b r) t in
      let d = and_then (bindings_of (bind_tree b)) (as_datum r.part) xs.0 xs.1 in
      let on : congruent b.channel d.0.channel ≡ true = on_channel b d.0 xs.0 d.2 in
      let c = bind-channel b ready in
      let q = s d.0 d.1 in
      let same : code b.channel ≡ code d.0.channel = (code_is_congruence b.channel d.0.channel c.closed q.closed c.short q.short).1 on in
      ap (has_code (code b.channel)) d.1 ∙ same_bytes (code b.channel) (code d.0.channel) same

  module _ (rows : List Row) (channels : All HasReadyChannel rows) where
    -- what a bind takes none of on its channel it takes none of at all
    pub none-filed : TakesNone (filter (is_on (code b.channel)) rows) b → TakesNone rows b
    none-filed n r k = not-some (takes b r) (λ t. some-none (takes b r) t (n r (among-filter (is_on (code b.channel)) r rows (taken-on r (among-all HasReadyChannel r rows channels k) t) k)))

    pub least-filed : (id : Digest) → IsLeastTaken (filter (is_on (code b.channel)) rows) b id → IsLeastTaken rows b id
    least-filed id f = record {
      send = f.send;
      among = filter-among (is_on (code b.channel)) f.send rows f.among;
      id_is = f.id_is;
      taken = f.taken;
      least = λ r k t. f.least r (among-filter (is_on (code b.channel)) r rows (taken-on r (among-all HasReadyChannel r rows channels k) t) k) t;
    }

    -- what was found among the rows that are filed under a channel's code
    pub of-filed : (found : List Row) (o : Option Digest) → found ≡ filter (is_on (code b.channel)) rows → MatchOption o (TakesNone found b) (IsLeastTaken found b) → MatchOption o (TakesNone rows b) (IsLeastTaken rows b)
    of-filed found None e h = none-filed (subst (λ (l : List Row). TakesNone l b) e h)
    of-filed found (Some id) e h = least-filed id (subst (λ (l : List Row). IsLeastTaken l b id) e h)
