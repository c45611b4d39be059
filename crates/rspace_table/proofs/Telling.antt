-- What the answers of searches tell of all rows in hand.
use Rattle.std.proofs.Common.{◌≡◌, ℕ, true, List, [], ◌∷◌, ◌++◌, refl, sym, ap, subst, inl, inr}
use Rattle.std.specs.Prelude.{◌⊎◌, Option, Some, None, is_some, Result, Ok, Err, IfOk, IfSome, MatchOption}
use Rattle.std.specs.declared.alloc.AllocError.{AllocError}
use Rattle.calculus.proofs.Members.{Member, member-right}
use Rattle.calculus.specs.Rows.{Row, stdout, stdout_ack}
use Rattle.calculus.specs.Steps.{Meeting, as_datum}
use Rattle.events.specs.Found.{met, Among, AreAtHand}
use Rattle.events.proofs.Making.{among, member}
use Rattle.found_rows.specs.declared.found.Found.{Found}
use Rattle.row_search.specs.Meetings.{rows_with, AllAmong, IsFound, MeetsNothing as FindsNothing}
use Rattle.found_rows.specs.AtHand.{MeetsAtHand}
use Rattle.row_search.proofs.Sound.{among-last}
use Rattle.events.specs.Allowed.{IdsTell, MeetsNothing, rows_at_hand}
use Rattle.events.proofs.ShardHolding.{beside, of-hand}
use Rattle.events.proofs.Meeting.{met-on}
use Rattle.shard_tables.specs.Hands.{AreInHand}
use Rattle.rspace_table.specs.Hands.{InHand, shard_at, is_receive, rows_for, AreBuiltIns, MeetsNoReceiver, MeetsAReceiver}
use Rattle.rspace_table.proofs.Searching.{not-both, found-in, receive-shown, send-shown}
use Rattle.calculus.proofs.Members.{member-left}

-- a built-in receiver is a receive
built-in-is : (z : Row) → Member z (stdout ∷ stdout_ack ∷ []) → is_receive z ≡ true
built-in-is z (inl e) = ap is_receive e
built-in-is z (inr (inl e)) = ap is_receive e
built-in-is z (inr (inr e)) = absurd e

module _ (hand : InHand) (all : List Row) (o : Row) (are : AreInHand (λ rows. rows) (shard_at hand) all) where
  -- the rows of a shard in hand are in hand, and built-in receivers stand beside
  pub of-shard : (k : ℕ) (rows : List Row) → shard_at hand k ≡ Some rows → (r : Row) → Member r rows → Member r (all ++ beside o)
  of-shard k rows e r m = member-left r all (beside o) (member r all ((are r).1 (k, rows, e, among r rows m)))

  pub of-built-ins : (built : List Row) → AreBuiltIns built → (r : Row) → Member r built → Member r (all ++ beside o)
  of-built-ins built b r m = member-right r all (beside o) (go (member r (stdout ∷ stdout_ack ∷ []) ((b r).0 (among r built m))))
    where
      go : Member r (stdout ∷ stdout_ack ∷ []) → Member r (beside o)
      go (inl e) = inl e
      go (inr (inl e)) = inr (inl e)
      go (inr (inr e)) = absurd e

  -- what is found is in hand, or built in
  pub found-stored : (f : Found) → MeetsAReceiver hand o f → MeetsAtHand all o f
  found-stored f i = found-in i.1 hand all o are (of-shard i.0 i.1 i.2) f i.3

  pub found-built : (built : List Row) → AreBuiltIns built → (f : Found) → IsFound (rows_for built hand) o f → MeetsAtHand all o f
  found-built built b f i = found-in built hand all o are (of-built-ins built b) f i

  module _ (t : IdsTell (rows_at_hand all o)) where
    module _ (heard : List Row) (known : (r : Row) → Member r heard → Member r (all ++ beside o)) (n : FindsNothing (rows_for heard hand) o) where
      itself : (z : Row) → z ≡ o → Among z (rows_with (rows_for heard hand) o)
      itself z e = subst (λ y. Among y (rows_with (rows_for heard hand) o)) (sym e) (among-last o (rows_for heard hand))

      module _ (r : Row) (sends : List Row) (m : Meeting) (at : AreAtHand all o (r ∷ sends)) (meets : met (r ∷ sends) ≡ Some m) where
        send-here : (z : Row) → Member z sends → Among z (rows_with (rows_for heard hand) o)
        send-here z i = go (of-hand all o (r ∷ sends) at z (inr i))
          where
            datum : is_some (as_datum z.part) ≡ true
            datum = ((met-on r sends m meets).on z i).datum

            go : Member z all ⊎ Member z (beside o) → Among z (rows_with (rows_for heard hand) o)
            go (inl k) = send-shown heard hand all o are known t z (among z all k) datum
            go (inr (inl e)) = absurd (not-both z.part datum (built-in-is z (inl e)))
            go (inr (inr (inl e))) = absurd (not-both z.part datum (built-in-is z (inr (inl e))))
            go (inr (inr (inr (inl e)))) = itself z e
            go (inr (inr (inr (inr e)))) = absurd e

        each-here : (zs : List Row) → ((z : Row) → Member z zs → Member z sends) → AllAmong zs (rows_with (rows_for heard hand) o)
        each-here [] f = tt
        each-here (z ∷ zs) f = (send-here z (f z (inl refl)), each-here zs (λ y i. f y (inr i)))

        -- with a receiver that is looked at, or the operation itself, nothing meets
        pub nothing-with : Among o (r ∷ sends) → Member r heard ⊎ (r ≡ o) → ⊥
        nothing-with part w = no (n r sends (here w, each-here sends (λ z i. i)) part)
          where
            here : Member r heard ⊎ (r ≡ o) → Among r (rows_with (rows_for heard hand) o)
            here (inl k) = receive-shown heard hand all o are known t r k (met-on r sends m meets).receiver
            here (inr e) = itself r e

            no : met (r ∷ sends) ≡ None → ⊥
            no e = cc (e, meets)

    -- an operation that meets nothing with a receiver of a shard and a built-in one meets nothing
    pub nothing-all : (built : List Row) → AreBuiltIns built → MeetsNoReceiver hand o → FindsNothing (rows_for built hand) o → MeetsNothing all o
    nothing-all built b stored n r sends at part d = go (met (r ∷ sends)) refl
      where
        lies : (m : Meeting) → met (r ∷ sends) ≡ Some m → Member r all ⊎ Member r (beside o) → ⊥
        lies m e (inl k) = let i = (are r).0 (among r all k) in nothing-with i.1 (of-shard i.0 i.1 i.2) (stored i.0 i.1 i.2) r sends m at e part (inl (member r i.1 i.3))
        lies m e (inr (inl k)) = nothing-with built (of-built-ins built b) n r sends m at e part (inl (member r built ((b r).1 (inl k))))
        lies m e (inr (inr (inl k))) = nothing-with built (of-built-ins built b) n r sends m at e part (inl (member r built ((b r).1 (inr (inl k)))))
        lies m e (inr (inr (inr (inl k)))) = nothing-with built (of-built-ins built b) n r sends m at e part (inr k)
        lies m e (inr (inr (inr (inr k)))) = absurd k

        go : (x : Option Meeting) → met (r ∷ sends) ≡ x → met (r ∷ sends) ≡ None
        go None e = e
        go (Some m) e = absurd (lies m e (of-hand all o (r ∷ sends) at r (inl refl)))

    -- a receive that meets nothing with itself as the receiver meets nothing
    pub nothing-own : (built : List Row) → AreBuiltIns built → is_receive o ≡ true → FindsNothing (rows_for built hand) o → MeetsNothing all o
    nothing-own built b own n r sends at part d = go (met (r ∷ sends)) refl
      where
        lies : (m : Meeting) → met (r ∷ sends) ≡ Some m → Among o (r ∷ sends) → ⊥
        lies m e (inl k) = nothing-with built (of-built-ins built b) n r sends m at e part (inr (sym k))
        lies m e (inr k) = not-both o.part ((met-on r sends m e).on o (member o sends k)).datum own

        go : (x : Option Meeting) → met (r ∷ sends) ≡ x → met (r ∷ sends) ≡ None
        go None e = e
        go (Some m) e = absurd (lies m e part)

-- the answer of the last search, as first_step gives it
module _ (hand : InHand) (all : List Row) (o : Row) (are : AreInHand (λ rows. rows) (shard_at hand) all) (built : List Row) (b : AreBuiltIns built) (r : Result (Option Found) AllocError) (h : IfOk r (λ f. MatchOption f (FindsNothing (rows_for built hand) o) (IsFound (rows_for built hand) o))) where
  pub told-found : IfOk r (λ f. IfSome f (MeetsAtHand all o))
  told-found = go r h
    where
      go : (x : Result (Option Found) AllocError) → IfOk x (λ f. MatchOption f (FindsNothing (rows_for built hand) o) (IsFound (rows_for built hand) o)) → IfOk x (λ f. IfSome f (MeetsAtHand all o))
      go (Err e) k = tt
      go (Ok None) k = tt
      go (Ok (Some f)) k = found-built hand all o are built b f k

  pub told-none : IdsTell (rows_at_hand all o) → MeetsNoReceiver hand o ⊎ (is_receive o ≡ true) → IfOk r (λ f. f ≡ None → MeetsNothing all o)
  told-none t w = go r h w
    where
      no : {A : Type 0} (x : A) → Some x ≡ None → ⊥
      no x e = cc e

      go : (x : Result (Option Found) AllocError) → IfOk x (λ f. MatchOption f (FindsNothing (rows_for built hand) o) (IsFound (rows_for built hand) o)) → MeetsNoReceiver hand o ⊎ (is_receive o ≡ true) → IfOk x (λ f. f ≡ None → MeetsNothing all o)
      go (Err e) k v = tt
      go (Ok None) k (inl s) = λ e. nothing-all hand all o are t built b s k
      go (Ok None) k (inr s) = λ e. nothing-own hand all o are t built b s k
      go (Ok (Some f)) k v = λ e. absurd (no f e)

-- what a send meets, or that it is no send
pub send-meets : (hand : InHand) (o : Row) (x : Option Found) → MatchOption x (MeetsNoReceiver hand o) (MeetsAReceiver hand o) → MatchOption x (MeetsNoReceiver hand o ⊎ (is_receive o ≡ true)) (MeetsAReceiver hand o)
send-meets hand o None h = inl h
send-meets hand o (Some f) h = h

-- what an answer that is known tells
pub told-some : {A : Type 0} (P : Type 0) (Q : A → Type 0) (x : Option A) (y : A) → x ≡ Some y → MatchOption x P Q → Q y
told-some P Q (Some z) y e h = let same : z ≡ y = cc e in subst Q same h
told-some P Q None y e h = cc e

pub told-nothing : {A : Type 0} (P : Type 0) (Q : A → Type 0) (x : Option A) → x ≡ None → MatchOption x P Q → P
told-nothing P Q None e h = h
told-nothing P Q (Some z) e h = cc e
