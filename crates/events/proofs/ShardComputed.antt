-- Proofs of the examples.
use Rattle.std.proofs.Common.{◌≡◌, ℕ, Bool, true, false, ◌||◌, [], ◌∷◌, refl, sym, ap, subst, ◌∙◌, inl, inr, eqb, eq-eqb}
use Rattle.std.specs.Prelude.{None}
use Rattle.calculus.proofs.Opened.{hashing}
use Rattle.calculus.proofs.Permutations.{unmoved, exchange}
use Rattle.calculus.proofs.Members.{Member}
use Rattle.events.specs.Found.{met}
use Rattle.events.specs.Allowed.{MeetsNothing}
use Rattle.events.proofs.EntryComputed.{nothing-of}
use Rattle.events.specs.Shards.{shards_of, stands_in, Covers}
use Rattle.events.specs.Hands.{shows, HoldShown, rows_of_all, is_in_hand, AreProjections}
use Rattle.events.specs.ShardExamples.{the_send, the_other, the_join, the_store, either_shard, StandingExamples, EntryExamples, HandExamples}
use Rattle.events.proofs.ShardStanding.{its-one}

pub standing_examples : StandingExamples
unfolding hashing
standing_examples = record { send = refl; join = refl; one_shard = refl; first = refl; second = refl; neither = refl }

-- the shards of these rows
send-shards : shards_of the_send ≡ 18 ∷ []
unfolding hashing
send-shards = refl

other-shards : shards_of the_other ≡ 1 ∷ []
unfolding hashing
other-shards = refl

join-shards : shards_of the_join ≡ 18 ∷ 1 ∷ []
unfolding hashing
join-shards = refl

-- a number is one of two where it is listed
either : (k i j : ℕ) → Member k (i ∷ j ∷ []) → either_shard i j k ≡ true
either k i j (inl e) = ap (λ b. b || eqb k j) (eq-eqb k i e)
either k i j (inr (inl e)) = ap (λ b. eqb k i || b) (eq-eqb k j e) ∙ or-true (eqb k i)
  where
    or-true : (b : Bool) → b || true ≡ true
    or-true true = refl
    or-true false = refl
either k i j (inr (inr e)) = absurd e

both-touched : Covers (either_shard 18 1) (the_join ∷ the_other ∷ [])
both-touched r k (inl i) e = either k 18 1 (subst (λ l. Member k l) (ap shards_of i ∙ join-shards) (its-one k r e))
both-touched r k (inr (inl i)) e = either k 18 1 (go (subst (λ l. Member k l) (ap shards_of i ∙ other-shards) (its-one k r e)))
  where
    go : Member k (1 ∷ []) → Member k (18 ∷ 1 ∷ [])
    go m = inr m
both-touched r k (inr (inr i)) e = absurd i

put-touched : Covers (eqb 18) (the_send ∷ [])
put-touched r k (inl i) e = go (subst (λ l. Member k l) (ap shards_of i ∙ send-shards) (its-one k r e))
  where
    go : Member k (18 ∷ []) → eqb 18 k ≡ true
    go (inl m) = eq-eqb 18 k (sym m)
    go (inr m) = absurd m
put-touched r k (inr i) e = absurd i

join-in-one : stands_in 1 the_join ≡ true
unfolding hashing
join-in-one = refl

one-is-not-all : Covers (eqb 18) (the_join ∷ the_other ∷ []) → ⊥
one-is-not-all c = cc (c the_join 1 (inl refl) join-in-one)

pub entry_examples : EntryExamples
unfolding hashing
entry_examples = record {
  put = refl;
  put_elsewhere = refl;
  join_leaves = refl;
  both_touched = both-touched;
  one_is_not_all = one-is-not-all;
  put_touched = put-touched;
}

two : (a b : Bool) → (a || false) || ((a || (b || false)) || (false || ((a || (b || false)) || false))) ≡ true → a || (b || false) ≡ true
two true b e = refl
two false true e = refl
two false false e = e

both : HoldShown (is_in_hand ((18, the_join ∷ []) ∷ (1, the_other ∷ the_join ∷ []) ∷ [])) (rows_of_all ((18, the_join ∷ []) ∷ (1, the_other ∷ the_join ∷ []) ∷ [])) the_send
unfolding hashing
both k e = two (eqb k 18) (eqb k 1) e

projections : AreProjections the_store ((18, the_join ∷ []) ∷ (1, the_other ∷ the_join ∷ []) ∷ [])
unfolding hashing
projections = (unmoved (the_join ∷ []), (exchange the_join the_other [], tt))

one-shown : shows (the_join ∷ []) the_send 1 ≡ true
unfolding hashing
one-shown = refl

one-tells-wrong : MeetsNothing (the_join ∷ []) the_send
unfolding hashing
one-tells-wrong = nothing-of (the_join ∷ []) the_send refl refl

they-meet : MeetsNothing the_store the_send → ⊥
unfolding hashing
they-meet n =
    let e : met (the_join ∷ the_send ∷ the_other ∷ []) ≡ None = n the_join (the_send ∷ the_other ∷ []) (inl refl, (inr (inr (inr (inr (inl refl)))), (inr (inl refl), tt))) (inr (inl refl)) refl in
    cc e

pub hand_examples : HandExamples
unfolding hashing
hand_examples = record {
  shown = refl;
  not_shown = refl;
  another_channel = refl;
  of_join = refl;
  projections = projections;
  one_is_not_all = λ h. cc (h 1 one-shown);
  one_tells_wrong = one-tells-wrong;
  meets = they-meet;
  both = both;
}
