-- What a worker shows of an entry is what a draw asks for.
use Rattle.std.proofs.Common.{◌≡◌, ◌<◌, ℕ, zero, suc, ◌+◌, Bool, true, false, ◌&&◌, ◌||◌, List, [], ◌∷◌, ◌++◌, map as each, refl, sym, ap, subst, ◌∙◌, arith, inl, inr, eqb, eqb-true, eq-eqb, Some, None}
use Rattle.std.specs.Prelude.{◌⊎◌, Option, is_some}
use Rattle.std.specs.List.{list_any}
use Rattle.calculus.proofs.Members.{Member, member-split, member-left, member-right}
use Rattle.calculus.specs.Log.{Step}
use Rattle.calculus.specs.Rows.{Row}
use Rattle.calculus.specs.Runs.{Deploy, Work}
use Rattle.events.specs.Found.{Among}
use Rattle.events.proofs.Making.{among, member}
use Rattle.hub_rule.specs.Counts.{one_if, count, Each}
use Rattle.events.specs.Entries.{Making, steps_of}
use Rattle.events.specs.Allowed.{AreAmong, MakesStep}
use Rattle.events.specs.Shards.{stands_in}
use Rattle.events.specs.Hands.{hears, shows, rows_of_all, is_in_hand}
use Rattle.events.proofs.ShardStanding.{any-true, any-one}
use Rattle.hub_scenes.specs.Plays.{entries_of}
use Rattle.hub_scenes.specs.PlayScene.{IsShownHere}
use Rattle.hub_scenes.specs.PlayPulled.{seen_at}
use Rattle.hub_scenes.proofs.Apart.{hand-more, tell-fewer}
use Rattle.hub_scenes.proofs.Carrying.{Now, now_of, carried}
use Rattle.play_hub.specs.Values.{entry_of, hub_meaning}
use Rattle.play_hub.specs.Endings.{play_of}
use Rattle.hub_rule.specs.Rule.{Carries}
use Rattle.shard_tables.specs.Hands.{IsInHand, AreInHand}
use Rattle.play_hub.specs.declared.entry.PlayEntry.{PlayEntry}
use Rattle.play_hub.specs.Drawing.{DrawsAreTold, DrawsCarry}

-- a step with some rows is a step with the same in another order
step-same : (deploy : Deploy) (rows others : List Row) (made : List Step) (o : Row) (x : Making) (w : Work) → AreAmong rows others → AreAmong others rows → MakesStep deploy rows made o x w → MakesStep deploy others made o x w
step-same deploy rows others made o x w a b k = record {
  receiver = k.receiver;
  sends = k.sends;
  at_hand = hand-more rows others o a (k.receiver ∷ k.sends) k.at_hand;
  part = k.part;
  differs = λ t. k.differs (tell-fewer rows others o a t);
  found = k.found;
  meets = k.meets;
  step = k.step;
  gone = k.gone;
  line = k.line;
  room = k.room;
  work = k.work;
  offers = k.offers;
  price = k.price;
  fault = k.fault;
}

-- what is so of some rows is so of the same in another order
shown-same : (deploy : Deploy) (rows others : List Row) (made : List Step) (o : Row) (x : Option Making) → AreAmong rows others → AreAmong others rows → IsShownHere deploy rows made o x → IsShownHere deploy others made o x
unfolding step-same
shown-same deploy rows others made o None a b (inl n) = inl (λ r sends hand part d. n r sends (hand-more others rows o b (r ∷ sends) hand) part d)
shown-same deploy rows others made o None a b (inr n) = absurd n
shown-same deploy rows others made o (Some m) a b (inl k) = inl (k.0, step-same deploy rows others made o m k.0 a b k.1)
shown-same deploy rows others made o (Some m) a b (inr k) = inr (k.0, step-same deploy rows others [] o m k.0 a b k.1, k.2)

-- fewer rows show fewer shards
shows-fewer : (rows more : List Row) (o : Row) (k : ℕ) → AreAmong rows more → shows rows o k ≡ true → shows more o k ≡ true
shows-fewer rows more o k a e = go (stands_in k o) refl e
  where
    heard : Row → Bool
    heard r = hears r o && stands_in k r

    go : (b : Bool) → stands_in k o ≡ b → b || list_any (λ r. hears r o && stands_in k r) rows ≡ true → b || list_any (λ r. hears r o && stands_in k r) more ≡ true
    go true d f = refl
    go false d f = let r = any-one (λ r. hears r o && stands_in k r) rows f in any-true (λ r. hears r o && stands_in k r) more r.0 (member r.0 more (a r.0 (among r.0 rows r.1))) r.2

module _ {X : Type 0} (rows : X → List Row) (in_hand : ℕ → Option X) where
  abbrev seen : List (ℕ × X) → List (ℕ × List Row)
  seen before = each (seen_at rows) before

  -- the shard of a number that is in hand
  at : (before : List (ℕ × X)) → Each (λ k y. in_hand k ≡ Some y) before → (k : ℕ) → 0 < count k before
      → (y : X) × (in_hand k ≡ Some y) × (is_in_hand (seen before) k ≡ true) × ((r : Row) → Member r (rows y) → Member r (rows_of_all (seen before)))
  at [] e k lt = absurd (omega (arith, lt))
  at (p ∷ ps) e k lt = go (eqb p.0 k) refl lt (at ps e.1 k)
    where
      or-true : (b : Bool) → b || true ≡ true
      or-true true = refl
      or-true false = refl

      go : (b : Bool) → eqb p.0 k ≡ b → 0 < one_if b + count k ps
          → (0 < count k ps → (y : X) × (in_hand k ≡ Some y) × (is_in_hand (seen ps) k ≡ true) × ((r : Row) → Member r (rows y) → Member r (rows_of_all (seen ps))))
          → (y : X) × (in_hand k ≡ Some y) × (eqb k p.0 || is_in_hand (seen ps) k ≡ true) × ((r : Row) → Member r (rows y) → Member r (rows p.1 ++ rows_of_all (seen ps)))
      go true d l next = (
        p.1,
        ap in_hand (sym (eqb-true p.0 k d)) ∙ e.0,
        ap (λ b. b || is_in_hand (seen ps) k) (eq-eqb k p.0 (sym (eqb-true p.0 k d))),
        λ r m. member-left r (rows p.1) (rows_of_all (seen ps)) m,
      )
      go false d l next =
          let n = next (omega (arith, l)) in
          (n.0, n.1, ap (λ b. eqb k p.0 || b) n.2 ∙ or-true (eqb k p.0), λ r m. member-right r (rows p.1) (rows_of_all (seen ps)) (n.3 r m))

  -- a row of these shards is in hand
  there : (before : List (ℕ × X)) → Each (λ k y. in_hand k ≡ Some y) before → (r : Row) → Member r (rows_of_all (seen before)) → IsInHand rows in_hand r
  there [] e r m = absurd m
  there (p ∷ ps) e r m = go (member-split r (rows p.1) (rows_of_all (seen ps)) m) (there ps e.1 r)
    where
      go : Member r (rows p.1) ⊎ Member r (rows_of_all (seen ps)) → (Member r (rows_of_all (seen ps)) → IsInHand rows in_hand r) → IsInHand rows in_hand r
      go (inl k) next = (p.0, p.1, e.0, among r (rows p.1) k)
      go (inr k) next = next k

module _ {X : Type 0} (rows : X → List Row) where
  pub draws_are_told : DrawsAreTold rows
  draws_are_told deploy source in_hand since held all took e c s = (
    now.before,
    now.follows,
    (
      record {
        held = λ k h. found k (s.held k (shows-fewer (rows_of_all shards) all o k back h));
        touches = λ k h. s.touches k (shows-fewer (rows_of_all shards) all o k back h);
        shown = λ t. shown-same deploy all (rows_of_all shards) (steps_of (entries_of (play_of took))) o (entry_of e).entry.making to back (s.shown (tell-fewer all (rows_of_all shards) o to t));
        cheap = s.priced.cheap;
      },
      s.priced,
    ),
  )
    where
      o : Row
      o = (entry_of e).entry.operation

      now : Now (hub_meaning deploy source rows) in_hand since held
      now = now_of (hub_meaning deploy source rows) in_hand since held c.0

      shards : List (ℕ × List Row)
      shards = each (seen_at rows) now.before

      -- a shard in hand is one of those
      counted : (k : ℕ) (x : X) → in_hand k ≡ Some x → (y : X) × (in_hand k ≡ Some y) × (is_in_hand shards k ≡ true) × ((r : Row) → Member r (rows y) → Member r (rows_of_all shards))
      counted k x i = go (count k held) refl
        where
          go : (n : ℕ) → count k held ≡ n → (y : X) × (in_hand k ≡ Some y) × (is_in_hand shards k ≡ true) × ((r : Row) → Member r (rows y) → Member r (rows_of_all shards))
          go zero z = absurd (clash (sym (c.1 k z) ∙ i))
            where
              clash : None ≡ Some x → ⊥
              clash f = cc f
          go (suc n) z = at rows in_hand now.before now.are k (now.there k (omega (arith, z))).2

      found : (k : ℕ) → is_some (in_hand k) ≡ true → is_in_hand shards k ≡ true
      found k h = go (in_hand k) refl h
        where
          go : (x : Option X) → in_hand k ≡ x → is_some x ≡ true → is_in_hand shards k ≡ true
          go None d f = cc f
          go (Some x) d f = (counted k x d).2

      back : AreAmong (rows_of_all shards) all
      back r m = (s.are r).1 (there rows in_hand now.before now.are r (member r (rows_of_all shards) m))

      to : AreAmong all (rows_of_all shards)
      to r m = go ((s.are r).0 m)
        where
          go : IsInHand rows in_hand r → Among r (rows_of_all shards)
          go h =
              let n = counted h.0 h.1 h.2 in
              let both : Some n.0 ≡ Some h.1 = sym n.1 ∙ h.2 in
              let same : n.0 ≡ h.1 = cc both in
              among r (rows_of_all shards) (n.3 r (subst (λ y. Member r (rows y)) (sym same) (member r (rows h.1) h.3)))

  pub draws_carry : DrawsCarry rows
  draws_carry deploy source old new since held e c h = carried (hub_meaning deploy source rows) old new e since held h.here h.absent c

  -- the rows of the shards in hand
  pub hands-are : (deploy : Deploy) (source : Work) (in_hand : ℕ → Option X) (since : List PlayEntry) (held : List (ℕ × X)) → Carries (hub_meaning deploy source rows) since held in_hand → (all : List Row) × AreInHand rows in_hand all
  hands-are deploy source in_hand since held c = (rows_of_all shards, λ r. (λ m. there rows in_hand now.before now.are r (member r (rows_of_all shards) m), to r))
    where
      now : Now (hub_meaning deploy source rows) in_hand since held
      now = now_of (hub_meaning deploy source rows) in_hand since held c.0

      shards : List (ℕ × List Row)
      shards = each (seen_at rows) now.before

      to : (r : Row) → IsInHand rows in_hand r → Among r (rows_of_all shards)
      to r h = go (count h.0 held) refl
        where
          go : (n : ℕ) → count h.0 held ≡ n → Among r (rows_of_all shards)
          go zero z = absurd (clash (sym (c.1 h.0 z) ∙ h.2))
            where
              clash : None ≡ Some h.1 → ⊥
              clash f = cc f
          go (suc n) z =
              let y = at rows in_hand now.before now.are h.0 (now.there h.0 (omega (arith, z))).2 in
              let both : Some y.0 ≡ Some h.1 = sym y.1 ∙ h.2 in
              let same : y.0 ≡ h.1 = cc both in
              among r (rows_of_all shards) (y.3 r (subst (λ q. Member r (rows q)) (sym same) (member r (rows h.1) h.3)))

  -- the shard of a number whose turn is held
  pub held-is : (deploy : Deploy) (source : Work) (in_hand : ℕ → Option X) (since : List PlayEntry) (held : List (ℕ × X)) → Carries (hub_meaning deploy source rows) since held in_hand → (k : ℕ) → 0 < count k held → is_some (in_hand k) ≡ true
  held-is deploy source in_hand since held c k lt = ap is_some ((now_of (hub_meaning deploy source rows) in_hand since held c.0).there k lt).1
