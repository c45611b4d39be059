-- Good processes unfold: with each seed there is room enough.
use Rattle.std.proofs.Common.{◌≡◌, ℕ, suc, ◌+◌, ◌<◌, Bool, List, [], ◌∷◌, ◌++◌, reverse, arith}
use Rattle.calculus.proofs.Members.{Every, every-reverse}
use Rattle.calculus.specs.Tree.{Label, par, bool, int, str, uri, bytes, fresh, list, tuple, set, dict, send, receive, new, match, bundle, unary, binary, method, Tree, node, Trees, none, also, trees}
use Rattle.calculus.specs.Shape.{held, listed, joined_trees, at}
use Rattle.calculus.specs.Variables.{bound}
use Rattle.calculus.specs.Normal.{ascending}
use Rattle.calculus.specs.Outcome.{Prices, Outcome, pure, after, in_order}
use Rattle.calculus.specs.Substitution.{Change, change, the_one, put}
use Rattle.calculus.specs.Seeds.{digest_of, Split, Body}
use Rattle.calculus.specs.Values.{value, values}
use Rattle.calculus.specs.Unfolding.{Product, opened, send_offered, unfold_part, parts_unfolded, unfold_in}
use Rattle.process_laws.proofs.Lists.{ascending-every}
use Rattle.process_laws.proofs.Goodness.{Role, a_term, a_part, the_terms, each_is, IsGood, AreGoodKids, AreGood, held-good, at-good}
use Rattle.process_laws.proofs.Moving.{moved}
use Rattle.process_laws.proofs.Quiet.{good-quiet}
use Rattle.process_laws.proofs.Building.{AreKids, IsBuilt}
use Rattle.process_laws.proofs.Turning.{AreLeaves, AreBuiltAs, IsTurn, leaves-built, built-turned}
use Rattle.process_laws.proofs.Valuing.{after-comes}
use Rattle.process_laws.proofs.Rooms.{IsAnything, IsSure, part-sure, parts-sure}
use Rattle.process_laws.proofs.Ending.{value-sure, part-known, values-sure, send-sure, Changes, each_changed, all_applied, PartEnds, PartsEnd, EndsUntold, own-stable}

module _ (p : Prices) where
  -- a process unfolds with each seed
  abbrev pub TermEnds : Tree → Type 0
  TermEnds t = (s : List ℕ) → (n : ℕ) × IsSure (unfold_in p n t s)

  -- these parts unfold, with room enough for each
  parts-end : (ts : List Tree) → Every (PartEnds p) ts → (s : List ℕ) (i : ℕ) → (n : ℕ) × IsSure (parts_unfolded p (unfold_in p n) s i ts)
  parts-end [] h s i = (0, tt)
  parts-end (t ∷ ts) h s i =
      let a = h.0 (digest_of (Split s i)) in
      let b = parts-end ts h.1 s (suc i) in (
        a.0 + b.0,
        after-comes IsAnything IsAnything (unfold_part p (unfold_in p (a.0 + b.0)) (digest_of (Split s i)) t) (λ rs. after (parts_unfolded p (unfold_in p (a.0 + b.0)) s (suc i) ts) (λ qs. pure (rs ++ qs)))
            (part-sure p a.0 (a.0 + b.0) (omega arith) (digest_of (Split s i)) t a.1)
            (λ rs x. after-comes IsAnything IsAnything (parts_unfolded p (unfold_in p (a.0 + b.0)) s (suc i) ts) (λ qs. pure (rs ++ qs)) (parts-sure p b.0 (a.0 + b.0) (omega arith) s (suc i) ts b.1) (λ qs y. tt)),
      )

  all-listed : (ts : Trees) → PartsEnd p ts → Every (PartEnds p) (listed ts)
  all-listed none h = tt
  all-listed (also t ts) h = (h.0, all-listed ts h.1)

  pub process-ends : (l : Label) (ts : Trees) → PartsEnd p ts → TermEnds (node l ts)
  unfolding unfold_in
  process-ends l ts h s = let k = parts-end (ascending (listed ts)) (ascending-every (PartEnds p) (listed ts) (all-listed ts h)) s 0 in (suc k.0, k.1)

  -- good for that property
  abbrev pub EndsWell : Role → Tree → Type 0
  EndsWell r t = IsGood (EndsUntold p) r t

  pub send-ends : (q : Bool) (c : Tree) (l : Label) (xs : Trees) → EndsWell a_term c → EndsWell the_terms (node l xs) → PartEnds p (node (send q) (also c (also (node l xs) none)))
  send-ends q c l xs h k s = (
    0,
    after-comes IsAnything IsAnything (value p c) (λ v. after (in_order (values p xs)) (λ vs. send_offered p s q (opened v) vs)) (value-sure (EndsUntold p) p c h)
        (λ v x. after-comes IsAnything IsAnything (in_order (values p xs)) (λ vs. send_offered p s q (opened v) vs) (values-sure (EndsUntold p) p l xs k) (λ vs y. send-sure (EndsUntold p) p s q (opened v) vs)),
  )

  pub known-ends : (o : Outcome Tree) → IsSure o → IsSure (after o (λ v. pure {A = List Product} []))
  known-ends o h = after-comes IsAnything IsAnything o (λ v. pure []) h (λ v x. tt)

  mutual
    pub ends-part : (t : Tree) → EndsWell a_part t → PartEnds p t
    ends-part (node (receive k) ts) h = (h.0 []).0
    ends-part (node (new os) ts) h = (h.0 []).0
    ends-part (node match ts) h = (h.0 []).0
    ends-part (node (unary o) ts) h = (h.0 []).0
    ends-part (node (binary o) ts) h = (h.0 []).0
    ends-part (node (method n) ts) h = (h.0 []).0
    ends-part (node (bool x) ts) h = λ s. (0, tt)
    ends-part (node (int x) ts) h = λ s. (0, tt)
    ends-part (node (str x) ts) h = λ s. (0, tt)
    ends-part (node (uri x) ts) h = λ s. (0, tt)
    ends-part (node (bytes x) ts) h = λ s. (0, tt)
    ends-part (node (fresh x) ts) h = λ s. (0, tt)
    ends-part (node list ts) h = λ s. (0, known-ends (value p (node list ts)) (part-known (EndsUntold p) p list ts h.1))
    ends-part (node tuple ts) h = λ s. (0, known-ends (value p (node tuple ts)) (part-known (EndsUntold p) p tuple ts h.1))
    ends-part (node set ts) h = λ s. (0, known-ends (value p (node set ts)) (part-known (EndsUntold p) p set ts h.1))
    ends-part (node dict ts) h = λ s. (0, known-ends (value p (node dict ts)) (part-known (EndsUntold p) p dict ts h.1))
    ends-part (node (send q) none) h = absurd h.1
    ends-part (node (send q) (also c none)) h = absurd h.1.1
    ends-part (node (send q) (also c (also (node l xs) none))) h = send-ends q c l xs h.1.0 h.1.1.0
    ends-part (node (send q) (also c (also x (also y ys)))) h = absurd h.1.1.1
    ends-part (node (bundle r) none) h = absurd h.1
    ends-part (node (bundle r) (also t none)) h = λ s. ends-term t h.1.0 (digest_of (Body s))
    ends-part (node (bundle r) (also t (also u us))) h = absurd h.1.1
    ends-part (node _ ts) h = absurd h.1

    pub ends-term : (t : Tree) → EndsWell a_term t → TermEnds t
    ends-term (node par ts) h = process-ends par ts (ends-parts ts h.1)
    ends-term (node _ ts) h = absurd h.1

    ends-parts : (ts : Trees) → AreGoodKids (EndsUntold p) (each_is a_part) ts → PartsEnd p ts
    ends-parts none h = tt
    ends-parts (also t ts) h = (ends-part t h.0, ends-parts ts h.1)

  -- leaves: good parts
  abbrev pub IsEndingLeaf : Tree → Type 0
  IsEndingLeaf t = EndsWell a_part t

  quiet : (t : Tree) → IsEndingLeaf t → bound t ≡ []
  quiet t h = good-quiet (EndsUntold p) a_part t tt h

  to-leaves : (ts : Trees) → AreGoodKids (EndsUntold p) (each_is a_part) ts → AreLeaves IsEndingLeaf ts
  to-leaves none h = tt
  to-leaves (also t ts) h = (h.0, to-leaves ts h.1)

  moves : (F : Change) (d : ℕ) (t : Tree) → IsEndingLeaf t → AreLeaves IsEndingLeaf (change F d t)
  moves F d t h = to-leaves (change F d t) (moved (EndsUntold p) (own-stable p) F a_part d t tt h)

  good-leaves : (ts : List Tree) → AreGood (EndsUntold p) a_part ts → AreLeaves IsEndingLeaf (trees ts)
  good-leaves [] h = tt
  good-leaves (t ∷ ts) h = (h.0, good-leaves ts h.1)

  the-one-built : (h : ℕ) (ts : Trees) → AreBuiltAs IsEndingLeaf h a_term 0 ts → IsBuilt IsEndingLeaf h a_term 0 (the_one ts)
  the-one-built h none x = absurd x
  the-one-built h (also t none) x = x
  the-one-built h (also t (also u us)) x = absurd x

  -- a body with good values for its variables has none open
  pub put-built : (h c : ℕ) (vs : List Tree) (t : Tree) → AreGood (EndsUntold p) a_term vs → IsBuilt IsEndingLeaf h a_term c t → IsBuilt IsEndingLeaf h a_term 0 (put vs t)
  unfolding put
  put-built h c vs t g x =
      let F : Change = λ k d form. trees (held (at k (reverse vs))) in
      let v : (k : ℕ) → AreLeaves IsEndingLeaf (trees (held (at k (reverse vs)))) = λ k. good-leaves (held (at k (reverse vs))) (held-good (EndsUntold p) (at k (reverse vs)) (at-good (EndsUntold p) k (reverse vs) (every-reverse (EndsWell a_term) vs g))) in
      let turns : IsTurn IsEndingLeaf F c 0 0 = (omega arith, λ k m e b y z w. (λ h. leaves-built IsEndingLeaf (suc h) b (trees (held (at k (reverse vs)))) (v k), λ h. leaves-built IsEndingLeaf (suc h) b (trees (held (at k (reverse vs)))) (v k))) in
      the-one-built h (change F 0 t) (built-turned IsEndingLeaf quiet F (moves F) h a_term c 0 0 t turns x).0

  -- where nothing is open, any change leaves nothing open
  closed-turns : (F : Change) (d : ℕ) → IsTurn IsEndingLeaf F 0 0 d
  closed-turns F d = (omega arith, λ k m e b y z w. absurd (none-below (k + d) w))
    where
      none-below : (n : ℕ) → n < 0 → ⊥
      none-below n w = omega (arith, w)

  joined-parts : (h : ℕ) (ts us : Trees) → AreKids (IsBuilt IsEndingLeaf h) (each_is a_part) 0 0 ts → AreKids (IsBuilt IsEndingLeaf h) (each_is a_part) 0 0 us → AreKids (IsBuilt IsEndingLeaf h) (each_is a_part) 0 0 (joined_trees ts us)
  joined-parts h none us x y = y
  joined-parts h (also t ts) us x y = (x.0, joined-parts h ts us x.1 y)

  flat-built : (h : ℕ) (F : Change) (d : ℕ) (ts : Trees) → AreKids (IsBuilt IsEndingLeaf h) (each_is a_part) 0 0 ts → AreKids (IsBuilt IsEndingLeaf h) (each_is a_part) 0 0 (each_changed F d ts)
  flat-built h F d none x = tt
  flat-built h F d (also t ts) x = joined-parts h (change F d t) (each_changed F d ts) (built-turned IsEndingLeaf quiet F (moves F) h a_part 0 0 d t (closed-turns F d) x.0).0 (flat-built h F d ts x.1)

  each-ends : (h : ℕ) → ((t : Tree) → IsBuilt IsEndingLeaf h a_part 0 t → PartEnds p t) → (ts : Trees) → AreKids (IsBuilt IsEndingLeaf h) (each_is a_part) 0 0 ts → PartsEnd p ts
  each-ends h f none x = tt
  each-ends h f (also t ts) x = (f t x.0, each-ends h f ts x.1)

  pub pending-end : (h : ℕ) → ((t : Tree) → IsBuilt IsEndingLeaf h a_part 0 t → PartEnds p t) → (cs : Changes) (ts : Trees) → AreKids (IsBuilt IsEndingLeaf h) (each_is a_part) 0 0 ts → PartsEnd p (all_applied cs ts)
  pending-end h f [] ts x = each-ends h f ts x
  pending-end h f (c ∷ cs) ts x = pending-end h f cs (each_changed c.0 c.1 ts) (flat-built h c.0 c.1 ts x)
