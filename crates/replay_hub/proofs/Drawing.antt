-- What a worker shows of an entry is what a draw asks for.
use Rattle.std.proofs.Common.{◌≡◌, ◌<◌, ℕ, zero, suc, ◌+◌, Bool, true, false, List, [], ◌∷◌, ◌++◌, map, refl, sym, ap, subst, ◌∙◌, arith, inl, inr, eqb, eqb-true, Some, None}
use Rattle.std.specs.Prelude.{◌⊎◌, Option, is_some}
use Rattle.calculus.proofs.Members.{Member, member-split, member-left, member-right}
use Rattle.calculus.specs.Tree.{Tree}
use Rattle.calculus.specs.Log.{Step}
use Rattle.calculus.specs.Rows.{Row}
use Rattle.calculus.specs.Runs.{Deploy}
use Rattle.calculus.specs.Storing.{shard}
use Rattle.hub_rule.specs.Counts.{one_if, count, Each}
use Rattle.hub_scenes.specs.Spaces.{SeenRow, Part, IsIn}
use Rattle.hub_scenes.specs.Showing.{HasShard, TellsDeed, shown}
use Rattle.hub_scenes.specs.ReplayPulled.{seen_at}
use Rattle.hub_scenes.proofs.Basics.{has, hold}
use Rattle.hub_scenes.proofs.Carrying.{Now, now_of, carried}
use Rattle.replay_hub.specs.declared.deed.Did.{Did}
use Rattle.replay_hub.specs.declared.deed.Did.TheVariants.{Arrived, Done, Idle}
use Rattle.replay_hub.specs.Values.{has_bit, deed_of, values}
use Rattle.replay_hub.specs.Drawing.{IsInHand, IdsTellHand, ShowsDeed, DrawsAreTold, IdleTriesAreShown, DrawsCarry}

module _ {S : Type 0} (part : S → Part) (in_hand : ℕ → Option S) where
  abbrev rows-of : S → List SeenRow
  rows-of x = (part x).rows ++ (part x).built

  abbrev seen : List (ℕ × S) → List (ℕ × Part)
  seen before = map (seen_at part) before

  -- a row that these shards show is in hand
  in-hand : (before : List (ℕ × S)) → Each (λ k y. in_hand k ≡ Some y) before → (q : SeenRow) → IsIn q (shown (seen before)) → IsInHand part in_hand q
  in-hand [] e q m = absurd m
  in-hand (p ∷ ps) e q m = go (member-split q (rows-of p.1) (shown (seen ps)) (has q (rows-of p.1 ++ shown (seen ps)) m)) (in-hand ps e.1 q)
    where
      go : Member q (rows-of p.1) ⊎ Member q (shown (seen ps)) → (IsIn q (shown (seen ps)) → IsInHand part in_hand q) → IsInHand part in_hand q
      go (inl k) next = (p.0, p.1, e.0, hold q (rows-of p.1) k)
      go (inr k) next = next (hold q (shown (seen ps)) k)

  -- the shard of a number that is in hand, with its rows
  pub record At (before : List (ℕ × S)) (k : ℕ) : Type 0 where
    pub it : S
    pub is : in_hand k ≡ Some it
    pub among : HasShard (seen before) k
    pub shows : (q : SeenRow) → Member q (rows-of it) → Member q (shown (seen before))

  at : (before : List (ℕ × S)) → Each (λ k y. in_hand k ≡ Some y) before → (k : ℕ) → 0 < count k before → At before k
  at [] e k lt = absurd (omega (arith, lt))
  at (p ∷ ps) e k lt = go (eqb p.0 k) refl lt (at ps e.1 k)
    where
      go : (b : Bool) → eqb p.0 k ≡ b → 0 < one_if b + count k ps → (0 < count k ps → At ps k) → At (p ∷ ps) k
      go true d l next = record {
        it = p.1;
        is = ap in_hand (sym (eqb-true p.0 k d)) ∙ e.0;
        among = inl (sym (eqb-true p.0 k d));
        shows = λ q m. member-left q (rows-of p.1) (shown (seen ps)) m;
      }
      go false d l next =
          let n = next (omega (arith, l)) in
          record { it = n.it; is = n.is; among = inr n.among; shows = λ q m. member-right q (rows-of p.1) (shown (seen ps)) (n.shows q m) }

  module _ (held before : List (ℕ × S)) (are : Each (λ k y. in_hand k ≡ Some y) before) (there : (k : ℕ) → 0 < count k held → 0 < count k before) (absent : (k : ℕ) → count k held ≡ 0 → in_hand k ≡ None) where
    -- a shard in hand is one of those
    pub found : (k : ℕ) (x : S) → in_hand k ≡ Some x → At before k
    found k x i = go (count k held) refl
      where
        go : (n : ℕ) → count k held ≡ n → At before k
        go zero z = absurd (clash (sym (absent k z) ∙ i))
          where
            clash : None ≡ Some x → ⊥
            clash f = cc f
        go (suc n) z = at before are k (there k (omega (arith, z)))

    pub has-shard : (k : ℕ) → is_some (in_hand k) ≡ true → HasShard (seen before) k
    has-shard k h = go (in_hand k) refl h
      where
        go : (x : Option S) → in_hand k ≡ x → is_some x ≡ true → HasShard (seen before) k
        go None d f = cc f
        go (Some x) d f = (found k x d).among

    -- a row in hand is one of theirs
    pub back : (q : SeenRow) → IsInHand part in_hand q → IsIn q (shown (seen before))
    back q h =
        let n = found h.0 h.1 h.2 in
        let both : Some n.it ≡ Some h.1 = sym n.is ∙ h.2 in
        let same : n.it ≡ h.1 = cc both in
        hold q (shown (seen before)) (n.shows q (subst (λ y. Member q (rows-of y)) (sym same) (has q (rows-of h.1) h.3)))

module _ {R C S : Type 0} (deploy : Deploy) (ss : List Step) (row : R → Row) (channel : C → Tree) (part : S → Part) where
  pub idle_tries_are_shown : IdleTriesAreShown deploy ss row channel part
  idle_tries_are_shown in_hand since held t c shows before are there tell pre s post log place =
      let w = shows ids pre s post log place in
      record {
        own = has-shard part in_hand held before are there c.1 (shard (channel t.channel)) w.own;
        joined = λ r i e h k st. has-shard part in_hand held before are there c.1 k (w.joined r (in-hand part in_hand before are r i, e, h) k st);
        none = λ r i e h ds each m f. w.none r (in-hand part in_hand before are r i, e, h) ds (λ d n. in-hand part in_hand before are d (each d n)) m f;
      }
    where
      ids : IdsTellHand part in_hand
      ids q z a b e = tell q z (back part in_hand held before are there c.1 q a) (back part in_hand held before are there c.1 z b) e

  pub draws_are_told : DrawsAreTold deploy ss row channel part
  draws_are_told in_hand since held took e c s = (now.before, now.follows, go e.did s)
    where
      now : Now (values deploy ss row channel part) in_hand since held
      now = now_of (values deploy ss row channel part) in_hand since held c.0

      at-least : (k : ℕ) → 0 < count k held → 0 < count k now.before
      at-least k h = (now.there k h).2

      go : (d : Did R C) → ShowsDeed deploy ss row channel part in_hand (has_bit e.shards) d → TellsDeed ss deploy (map (seen_at part) now.before) (has_bit e.shards) (deed_of row channel d)
      go (Arrived a) s = s
      go (Idle t) s = idle_tries_are_shown in_hand since held t.value c s now.before now.are at-least
      go (Done m) s =
          let k = s.makes in (
            record {
              before = k.before;
              after = k.after;
              log = k.log;
              place = k.place;
              rows = k.rows;
              at_hand = λ q i. back part in_hand held now.before now.are at-least c.1 q (s.are q (k.at_hand q i));
              found = k.found;
              fits = k.fits;
              covers = k.covers;
              gone = k.gone;
              line = k.line;
              room = k.room;
              work = k.work;
              works = k.works;
              offers = k.offers;
              price = k.price;
              fault = k.fault;
              early = k.early;
              are = k.are;
              uses_of = k.uses_of;
            },
            λ i h b t a log place. let w = s.early i h b t a log place in record {
              receiver = w.receiver;
              there = w.there;
              named = w.named;
              joined = λ n st. has-shard part in_hand held now.before now.are at-least c.1 n (w.joined n st);
              id = w.id;
              wanted = w.wanted;
              none = λ q j e. w.none q (in-hand part in_hand now.before now.are q j) e;
            },
          )

  pub draws_carry : DrawsCarry deploy ss row channel part
  draws_carry old new since held e c h = carried (values deploy ss row channel part) old new e since held h.here h.absent c
