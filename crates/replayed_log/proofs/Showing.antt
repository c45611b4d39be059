-- What shards in hand show of a try, from what they answer.
use Rattle.std.proofs.Common.{◌≡◌, ◌≤◌, ℕ, suc, true, List, [], ◌∷◌, ◌++◌, length, refl, sym, ap, subst, ◌∙◌, inl, inr, arith}
use Rattle.std.specs.Prelude.{◌⊎◌, Option, Some, None, is_some, MatchOption}
use Rattle.std.proofs.lemmas.List.{length-append}
use Rattle.calculus.proofs.Members.{Member, member-split}
use Rattle.calculus.specs.Log.{Step}
use Rattle.calculus.specs.Storing.{shard}
use Rattle.calculus.specs.Tree.{Tree}
use Rattle.events.specs.Shards.{stands_in}
use Rattle.hub_scenes.specs.Spaces.{SeenRow, Part, IsIn}
use Rattle.hub_scenes.specs.Showing.{IdsTellSeen}
use Rattle.hub_scenes.proofs.Basics.{has, hold}
use Rattle.replay_hub.specs.declared.deed.Try.{Try}
use Rattle.replay_hub.specs.Drawing.{IsInHand, ShowsIdle}
use Rattle.replay_slots.specs.Hands.{InHand, shard_at, shown_at, all_shown}
use Rattle.replay_rows.specs.Rows.{find_seen}
use Rattle.replay_shards.specs.Taken.{FitsNothing}
use Rattle.replay_shards.proofs.Fitting.{some-found}
use Rattle.replay_slots.proofs.Placing.{shown-in}
use Rattle.replay_shards.proofs.Trying.{found-id, found-in}

-- a shard as it is seen
abbrev pub part : Part → Part
part x = x

-- a row that shards in hand show is in hand
pub to-hand : (h : InHand) (q : SeenRow) → IsIn q (all_shown h) → IsInHand part (shard_at h) q
to-hand [] q m = absurd m
to-hand (None ∷ h) q m = let s = to-hand h q m in (suc s.0, s.1, s.2, s.3)
to-hand (Some x ∷ h) q m = go (to-hand h q) (member-split q (x.rows ++ x.built) (all_shown h) (has q ((x.rows ++ x.built) ++ all_shown h) m))
  where
    go : (IsIn q (all_shown h) → IsInHand part (shard_at h) q) → Member q (x.rows ++ x.built) ⊎ Member q (all_shown h) → IsInHand part (shard_at (Some x ∷ h)) q
    go next (inl k) = (0, x, refl, hold q (x.rows ++ x.built) k)
    go next (inr k) = let s = next (hold q (all_shown h) k) in (suc s.0, s.1, s.2, s.3)

-- and the other way round
pub to-shown : (h : InHand) (q : SeenRow) → IsInHand part (shard_at h) q → IsIn q (all_shown h)
to-shown h q m = hold q (all_shown h) (shown-in h m.0 q (subst (λ (o : Option Part). Member q (shown_at o)) (sym m.2) (has q (m.1.rows ++ m.1.built) m.3)))

nothing : {A : Type 0} (x : A) → None ≡ Some x → ⊥
nothing x e = cc e

pub one : {A : Type 0} (x y : A) → Some x ≡ Some y → x ≡ y
one x y e = cc e

-- what is said of an answer that is none, and of one that is there
pub at-none : {A : Type 0} (o : Option A) (P : Type 0) (Q : A → Type 0) → ((x : A) → o ≡ Some x → ⊥) → MatchOption o P Q → P
at-none None P Q never m = m
at-none (Some x) P Q never m = absurd (never x refl)

pub at-some : {A : Type 0} (o : Option A) (x : A) (P : Type 0) (Q : A → Type 0) → o ≡ Some x → MatchOption o P Q → Q x
at-some None x P Q e m = absurd (nothing x e)
at-some (Some y) x P Q e m = subst Q (one y x e) m

-- a row that is found by its id is in hand
pub found-hand : (h : InHand) (x : List ℕ) (q : SeenRow) → find_seen x (all_shown h) ≡ Some q → IsInHand part (shard_at h) q
found-hand h x q e = to-hand h q (hold q (all_shown h) (found-in x (all_shown h) q e))

-- there is no step behind the last one
pub shows-past : (h : InHand) (ss : List Step) (t : Try Tree) → length ss ≤ t.step → ShowsIdle part (shard_at h) ss (λ c. c) t
shows-past h ss t past tell before s after log place =
    absurd (omega (arith, ap (λ (l : List Step). length l) log, length-append before (s ∷ after), place, past))

module _ (h : InHand) (ss : List Step) (t : Try Tree) (own : is_some (shard_at h (shard t.channel)) ≡ true) where
  -- no row in hand is the step's receiver
  pub shows-unheard : ((b : List Step) (s : Step) (c : List Step) → ss ≡ b ++ s ∷ c → length b ≡ t.step → find_seen s.receiver (all_shown h) ≡ None) → ShowsIdle part (shard_at h) ss (λ c. c) t
  shows-unheard none tell b s c log place = record {
    own = own;
    joined = λ r m k i. absurd (no r m.0 m.1);
    none = λ r m ds i n f. no r m.0 m.1;
  }
    where
      no : (r : SeenRow) → IsInHand part (shard_at h) r → r.row.id ≡ s.receiver → ⊥
      no r m e = let z = some-found s.receiver (all_shown h) r (has r (all_shown h) (to-shown h r m)) (sym e) in nothing z.0 (sym (none b s c log place) ∙ z.1)

  -- all shards of the receiver are in hand, and no rows there fit the step
  pub shows-unfit : ((b : List Step) (s : Step) (c : List Step) → ss ≡ b ++ s ∷ c → length b ≡ t.step → (r : SeenRow) × ((find_seen s.receiver (all_shown h) ≡ Some r) × ((k : ℕ) → stands_in k r.row ≡ true → is_some (shard_at h k) ≡ true)))
      → ((b : List Step) (s : Step) (c : List Step) → ss ≡ b ++ s ∷ c → length b ≡ t.step → FitsNothing ss (all_shown h) b s t.step) → ShowsIdle part (shard_at h) ss (λ c. c) t
  shows-unfit heard unfit tell b s c log place = record {
    own = own;
    joined = λ r m k i. reaches r m.0 m.1 k i;
    none = λ r m ds i n f. unfit b s c log place tells (r ∷ ds) n (λ q j. all-there r ds m.0 i q j) f;
  }
    where
      tells : IdsTellSeen (all_shown h)
      tells q z m n e = tell q z (to-hand h q m) (to-hand h z n) e

      reaches : (r : SeenRow) → IsInHand part (shard_at h) r → r.row.id ≡ s.receiver → (k : ℕ) → stands_in k r.row ≡ true → is_some (shard_at h k) ≡ true
      reaches r m e k i =
          let w = heard b s c log place in
          let same : r ≡ w.0 = tell r w.0 m (found-hand h s.receiver w.0 w.1.0) (e ∙ found-id s.receiver (all_shown h) w.0 w.1.0) in
          w.1.1 k (ap (λ (q : SeenRow). stands_in k q.row) (sym same) ∙ i)

      all-there : (r : SeenRow) (ds : List SeenRow) → IsInHand part (shard_at h) r → ((d : SeenRow) → IsIn d ds → IsInHand part (shard_at h) d) → (q : SeenRow) → IsIn q (r ∷ ds) → IsIn q (all_shown h)
      all-there r ds m i q (inl e) = subst (λ (z : SeenRow). IsIn z (all_shown h)) (sym e) (to-shown h r m)
      all-there r ds m i q (inr n) = to-shown h q (i q n)
