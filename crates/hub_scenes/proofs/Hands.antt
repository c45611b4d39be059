-- What shards in hand tell of a space.
use Rattle.std.proofs.Common.{◌≡◌, ℕ, true, List, [], ◌∷◌, ◌++◌, map as each, sym, ap, subst, ◌∙◌, inl, inr}
use Rattle.std.specs.Prelude.{◌⊎◌}
use Rattle.calculus.proofs.Members.{Member, member-split, member-left, member-right}
use Rattle.events.proofs.Orders.{member-moved}
use Rattle.calculus.proofs.Permutations.{moved_so}
use Rattle.hub_rule.specs.Counts.{Each}
use Rattle.hub_scenes.specs.Spaces.{SeenRow, Part, Space, seen_in, IsPart}
use Rattle.events.proofs.ShardFollowing.{kept-in, kept-was}
use Rattle.hub_scenes.specs.Showing.{shown}

-- each row in hand is in the space
pub shown-there : (st : Space) (shards : List (ℕ × Part)) → Each (IsPart st) shards → (z : SeenRow) → Member z (shown shards) → Member z (st.store ++ st.built)
shown-there st [] e z m = absurd m
shown-there st (s ∷ ss) e z m = outer (shown-there st ss e.1 z) (member-split z (s.1.rows ++ s.1.built) (shown ss) m)
  where
    inner : Member z s.1.rows ⊎ Member z s.1.built → Member z (st.store ++ st.built)
    inner (inl k) = member-left z st.store st.built (kept-was (seen_in s.0) st.store z (member-moved z (moved_so e.0.rows) k)).0
    inner (inr k) = member-right z st.store st.built (kept-was (seen_in s.0) st.built z (subst (λ l. Member z l) e.0.built k)).0

    outer : (Member z (shown ss) → Member z (st.store ++ st.built)) → Member z (s.1.rows ++ s.1.built) ⊎ Member z (shown ss) → Member z (st.store ++ st.built)
    outer next (inl k) = inner (member-split z s.1.rows s.1.built k)
    outer next (inr k) = next k

-- each row of the space in a shard in hand is in hand
pub in-hand : (st : Space) (shards : List (ℕ × Part)) → Each (IsPart st) shards → (k : ℕ) (z : SeenRow) → Member k (each (λ s. s.0) shards) → Member z (st.store ++ st.built) → seen_in k z ≡ true → Member z (shown shards)
in-hand st [] e k z h m s = absurd h
in-hand st (x ∷ ss) e k z (inl j) m s = member-left z (x.1.rows ++ x.1.built) (shown ss) (go (member-split z st.store st.built m))
  where
    there : seen_in x.0 z ≡ true
    there = ap (λ n. seen_in n z) (sym j) ∙ s

    go : Member z st.store ⊎ Member z st.built → Member z (x.1.rows ++ x.1.built)
    go (inl i) = member-left z x.1.rows x.1.built (member-moved z e.0.rows (kept-in (seen_in x.0) st.store z i there))
    go (inr i) = member-right z x.1.rows x.1.built (subst (λ l. Member z l) (sym e.0.built) (kept-in (seen_in x.0) st.built z i there))
in-hand st (x ∷ ss) e k z (inr h) m s = member-right z (x.1.rows ++ x.1.built) (shown ss) (in-hand st ss e.1 k z h m s)
