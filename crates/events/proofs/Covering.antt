-- The shards that are shown for an operation are all that its entry changes.
use Rattle.std.proofs.Common.{◌≡◌, ℕ, Bool, true, List, [], ◌∷◌, ◌++◌, sym, ap, subst, ◌∙◌, inl, inr}
use Rattle.std.specs.Prelude.{◌⊎◌, Some, None}
use Rattle.calculus.proofs.Members.{Member, member-left, member-right}
use Rattle.calculus.specs.Rows.{Row}
use Rattle.calculus.specs.Steps.{is_one_of}
use Rattle.calculus.specs.Log.{Step}
use Rattle.calculus.specs.Runs.{Deploy, Work}
use Rattle.events.specs.Found.{Among, leaving_rows}
use Rattle.events.proofs.Making.{among, member}
use Rattle.events.proofs.Spent.{row-of-id, leaving-met}
use Rattle.events.specs.Entries.{Making}
use Rattle.events.specs.Allowed.{IdsTell, rows_at_hand, MakesStep}
use Rattle.events.specs.Shards.{shards_of, stands_in, changed_rows, Covers}
use Rattle.events.specs.Hands.{shows, HoldShards, HoldShown}
use Rattle.events.specs.ShardLaws.{ShownShardsCoverEntries}
use Rattle.events.proofs.ShardStanding.{its-one}
use Rattle.events.proofs.ShardFollowing.{kept-was}
use Rattle.events.proofs.Meeting.{met-on, its-shard}
use Rattle.events.proofs.ShardHolding.{beside, of-hand, own-shown, receiver-shown}

module _ (store : List Row) (held : ℕ → Bool) (rows : List Row) (o : Row) (h : HoldShards store held rows) (s : HoldShown held rows o) (tell : IdsTell (rows_at_hand store o)) where
  module _ (deploy : Deploy) (made : List Step) (a : Making) (w : Work) (k : MakesStep deploy store made o a w) where
    -- the shards of rows that meet are shown
    met-shown : (z : Row) → Member z (k.receiver ∷ k.sends) → (n : ℕ) → Member n (shards_of z) → shows rows o n ≡ true
    met-shown z (inl e) n i = receiver-shown store held rows o h s k.receiver k.sends k.found k.at_hand k.part k.meets n (subst (λ y. Member n (shards_of y)) e i)
    met-shown z (inr m) n i =
        let t = its-shard k.receiver z ((met-on k.receiver k.sends k.found k.meets).on z m) in
        receiver-shown store held rows o h s k.receiver k.sends k.found k.at_hand k.part k.meets n (one t.0 t.2 (subst (λ l. Member n l) t.1 i))
      where
        one : (j : ℕ) → Member j (shards_of k.receiver) → Member n (j ∷ []) → Member n (shards_of k.receiver)
        one j d (inl e) = subst (λ y. Member y (shards_of k.receiver)) (sym e) d
        one j d (inr f) = absurd f

    hand-of : (z : Row) → Member z (k.receiver ∷ k.sends) → Among z (rows_at_hand store o)
    hand-of z m = among z (store ++ beside o) (go (of-hand store o (k.receiver ∷ k.sends) k.at_hand z m))
      where
        go : Member z store ⊎ Member z (beside o) → Member z (store ++ beside o)
        go (inl p) = member-left z store (beside o) p
        go (inr p) = member-right z store (beside o) p

    -- a stored row with an id that is gone is one of those that met
    pub step-covers : Covers (shows rows o) (changed_rows store o (Some a))
    step-covers r n m e =
        let ls : List Row = leaving_rows k.found.receiver.kind k.found.sends (k.receiver ∷ k.sends) in
        let p = kept-was (λ q. is_one_of q.id a.gone) store r (member r (changed_rows store o (Some a)) m) in
        let l = row-of-id r.id ls (sym (ap (is_one_of r.id) k.gone) ∙ p.1) in
        let i : Member l.0 (k.receiver ∷ k.sends) = leaving-met k.found.receiver.kind k.found.sends (k.receiver ∷ k.sends) l.0 l.1 in
        let same : r ≡ l.0 = tell r l.0 (among r (store ++ beside o) (member-left r store (beside o) p.0)) (hand-of l.0 i) l.2 in
        met-shown r (subst (λ y. Member y (k.receiver ∷ k.sends)) (sym same) i) n (its-one n r e)

pub shown_shards_cover_entries : ShownShardsCoverEntries
shown_shards_cover_entries store held rows o h s tell deploy made None k = λ r n m e. own-shown store held rows o h s n (go r n m e)
  where
    go : (r : Row) (n : ℕ) → Among r (o ∷ []) → stands_in n r ≡ true → Member n (shards_of o)
    go r n (inl i) e = subst (λ y. Member n (shards_of y)) i (its-one n r e)
    go r n (inr i) e = absurd i
shown_shards_cover_entries store held rows o h s tell deploy made (Some a) k = step-covers store held rows o h s tell deploy made a k.0 k.1
