-- Congruent arguments, binds and bindings, one by one.
use Rattle.std.proofs.Common.{◌≡◌, ℕ, suc, ◌+◌, ◌<◌, List, [], ◌∷◌, map as each, refl, ap, arith}
use Rattle.std.specs.List.{AllZip}
use Rattle.calculus.proofs.Members.{Every}
use Rattle.calculus.specs.declared.plain.Origin.{Origin}
use Rattle.calculus.specs.declared.plain.Origin.TheVariants as origins
use Rattle.calculus.specs.Tree.{Label, bind, Tree, node, Trees, none, also, trees}
use Rattle.calculus.specs.Shape.{held, at, listed}
use Rattle.calculus.specs.CongruenceLaws.{AreCongruent}
use Rattle.calculus.specs.Form.{term, a_bind, all, Fits, Hold, IsClosed}
use Rattle.calculus.specs.Outcome.{Prices, Outcome, charged}
use Rattle.calculus.specs.Values.{value, values}
use Rattle.calculus.specs.Unfolding.{Product, opened, fresh_names}
use Rattle.calculus.proofs.Keys.{key, key_all, equal_nodes}
use Rattle.calculus.proofs.Equivalence.{agree}
use Rattle.process_laws.proofs.Outcomes.{Ends}
use Rattle.process_laws.proofs.Putting.{AreLevel, closed-level}
use Rattle.process_laws.proofs.Exchanging.{even-self}
use Rattle.process_laws.proofs.Sizing.{cost, costs}
use Rattle.process_laws.proofs.Likeness.{AreRoomyTwins, AreSameThings, value-alike, AreSameChannels, opened-alike, kids-keys, first-keys, no-keys, keys-no}
use Rattle.process_laws.proofs.Rowing.{HaveSameKeys, KeepSame}

-- values that are put in
pub levels-of : (vs ws : List Tree) → AreCongruent vs ws → Every IsClosed vs → AreLevel vs ws
levels-of [] [] h k = tt
levels-of [] (w ∷ ws) h k = absurd h
levels-of (v ∷ vs) [] h k = absurd h
levels-of (v ∷ vs) (w ∷ ws) h k = (closed-level v w k.0 ((agree v w).0 h.0), levels-of vs ws h.1 k.1)

pub levels-self : (vs : List Tree) → AreLevel vs vs
levels-self [] = tt
levels-self (v ∷ vs) = (even-self (key_all (trees (held v))), levels-self vs)

pub pair-keys : (vs ws : List Tree) → AllZip AreRoomyTwins vs ws → HaveSameKeys vs ws
pair-keys [] [] h = tt
pair-keys [] (w ∷ ws) h = absurd h
pair-keys (v ∷ vs) [] h = absurd h
pair-keys (v ∷ vs) (w ∷ ws) h = (h.0.same, pair-keys vs ws h.1)

pub pair-channels : (vs ws : List Tree) → AllZip AreRoomyTwins vs ws → AllZip AreSameChannels (each opened vs) (each opened ws)
pair-channels [] [] h = tt
pair-channels [] (w ∷ ws) h = absurd h
pair-channels (v ∷ vs) [] h = absurd h
pair-channels (v ∷ vs) (w ∷ ws) h = (opened-alike v w h.0, pair-channels vs ws h.1)

pub fresh-self : (s : List ℕ) (k : ℕ) (os : List Origin) → AreSameThings (fresh_names s k os) (fresh_names s k os)
fresh-self s k [] = tt
fresh-self s k (origins.Plain ∷ os) = (refl, fresh-self s (suc k) os)
fresh-self s k (origins.Stdout ∷ os) = fresh-self s (suc k) os
fresh-self s k (origins.StdoutAck ∷ os) = fresh-self s (suc k) os

pub again-charged : (n : ℕ) (o q : Outcome (List Product)) → Ends AreSameThings o q → Ends AreSameThings (charged n o) (charged n q)
again-charged n o q h = (ap (λ x. n + x) h.0, h.1)

module _ (p : Prices) where
  -- rows of values
  pub row-ends : (ts us : Trees) → Hold (all term) [] [] ts → Hold (all term) [] [] us → costs ts < 4294967296 → costs us < 4294967296 → key_all ts ≡ key_all us → AllZip (Ends AreRoomyTwins) (values p ts) (values p us)
  unfolding values
  row-ends none none h k a b e = tt
  row-ends none (also u us) h k a b e = absurd (no-keys u us e)
  row-ends (also t ts) none h k a b e = absurd (keys-no t ts e)
  row-ends (also t ts) (also u us) h k a b e =
      let f = first-keys t u ts us e in
      (value-alike p t u (record { first = h.0; second = k.0; roomy = omega (arith, a); room = omega (arith, b); same = f.0 }), row-ends ts us h.1 k.1 (omega (arith, a)) (omega (arith, b)) f.1)

  -- binds: their channels' values, and what is kept
  bind-ends : (b d : Tree) → Fits a_bind [] b → Fits a_bind [] d → cost b < 4294967296 → cost d < 4294967296 → key b ≡ key d → Ends AreRoomyTwins (value p (at 0 (held b))) (value p (at 0 (held d))) × KeepSame b d
  bind-ends (node bind (also c (also q (also r none)))) (node m us) h k a b e = from-bind m us k b e (equal_nodes bind m (also c (also q (also r none))) us e).0
    where
      from-bind : (m : Label) (us : Trees) → Fits a_bind [] (node m us) → cost (node m us) < 4294967296 → key (node bind (also c (also q (also r none)))) ≡ key (node m us) → bind ≡ m
          → Ends AreRoomyTwins (value p c) (value p (at 0 (listed us))) × KeepSame (node bind (also c (also q (also r none)))) (node m us)
      from-bind bind (also c' (also q' (also r' none))) k b e z =
          let f = kids-keys bind (also c (also q (also r none))) (also c' (also q' (also r' none))) e refl in
          let x = first-keys c c' (also q (also r none)) (also q' (also r' none)) f in
          let y = first-keys q q' (also r none) (also r' none) x.1 in
          let w = first-keys r r' none none y.1 in
          (value-alike p c c' (record { first = h.1.0; second = k.1.0; roomy = omega (arith, a); room = omega (arith, b); same = x.0 }), (y.0, w.0))
      from-bind bind none k b e z = absurd k.1
      from-bind bind (also c' none) k b e z = absurd k.1.1
      from-bind bind (also c' (also q' none)) k b e z = absurd k.1.1.1
      from-bind bind (also c' (also q' (also r' (also x xs)))) k b e z = absurd k.1.1.1.1
      from-bind _ us k b e z = absurd k.1
  bind-ends (node bind none) d h k a b e = absurd h.1
  bind-ends (node bind (also c none)) d h k a b e = absurd h.1.1
  bind-ends (node bind (also c (also q none))) d h k a b e = absurd h.1.1.1
  bind-ends (node bind (also c (also q (also r (also x xs))))) d h k a b e = absurd h.1.1.1.1
  bind-ends (node _ ts) d h k a b e = absurd h.1

  pub binds-end : (bs ds : Trees) → Hold (all a_bind) [] [] bs → Hold (all a_bind) [] [] ds → costs bs < 4294967296 → costs ds < 4294967296 → key_all bs ≡ key_all ds
      → AllZip (Ends AreRoomyTwins) (each (λ b. value p (at 0 (held b))) (listed bs)) (each (λ b. value p (at 0 (held b))) (listed ds)) × AllZip KeepSame (listed bs) (listed ds)
  binds-end none none h k a b e = (tt, tt)
  binds-end none (also d ds) h k a b e = absurd (no-keys d ds e)
  binds-end (also c bs) none h k a b e = absurd (keys-no c bs e)
  binds-end (also c bs) (also d ds) h k a b e =
      let f = first-keys c d bs ds e in
      let x = bind-ends c d h.0 k.0 (omega (arith, a)) (omega (arith, b)) f.0 in
      let y = binds-end bs ds h.1 k.1 (omega (arith, a)) (omega (arith, b)) f.1 in
      ((x.0, y.0), (x.1, y.1))
