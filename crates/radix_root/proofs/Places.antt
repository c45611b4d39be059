-- One of the nodes of half bytes changed, and one more.
use Rattle.std.proofs.Common.{◌≡◌, ℕ, zero, suc, ◌<◌, Bool, true, false, cond, List, [], ◌∷◌, ◌++◌, length, get_or, set, take, replicate, refl, ap, sym, ◌∙◌, subst, arith}
use Rattle.std.specs.Prelude.{eqb}
use Rattle.std.specs.Str.{bytes_eq}
use Rattle.std.proofs.lemmas.Bool.{eqb-true, eqb-false}
use Rattle.std.proofs.Math.ListN.{length-set}
use Rattle.radix_root.specs.Leaves.{Leaves, digest_at, half_of}
use Rattle.radix_root.specs.Nodes.{Seen, leaves_of, NoneHas, IsPlace, digest_under, AllKeys, AllHalf, IsNode, AreChildren, IsFork}
use Rattle.radix_root.proofs.Found.{absent, found-later, found-first, all-found, keys-first, keys-last}
use Rattle.radix_root.proofs.Forks.{none-found}

-- a place that was found is one of the nodes
pub place-within : (h : ℕ) (cs : List Seen) (j : ℕ) → IsPlace h cs j → j < length cs
place-within h [] j p = absurd p
place-within h (c ∷ cs) zero p = omega arith
place-within h (c ∷ cs) (suc j) p = omega (arith, place-within h cs j p.1)

-- the node at a place that was found
pub place-half : (h : ℕ) (cs : List Seen) (j : ℕ) (o : Seen) → IsPlace h cs j → get_or cs j o ≡ o → o.half ≡ h
place-half h [] j o p g = absurd p
place-half h (c ∷ cs) zero o p g = ap (λ (s : Seen). s.half) (sym g) ∙ p
place-half h (c ∷ cs) (suc j) o p g = place-half h cs j o p.1 g

-- the first node of a half byte stands at its place
pub place-here : (h : ℕ) (cs : List Seen) (i : ℕ) (o : Seen) → NoneHas h (take i cs) → i < length cs → o ≡ get_or cs i o → o.half ≡ h → IsPlace h cs i
place-here h [] i o n l g e = absurd (omega (arith, l))
place-here h (c ∷ cs) zero o n l g e = ap (λ (s : Seen). s.half) (sym g) ∙ e
place-here h (c ∷ cs) (suc i) o n l g e = (n.0, place-here h cs i o n.1 (omega (arith, l)) g e)

-- one node more is of another half byte
pub none-more : (h : ℕ) (cs : List Seen) (i : ℕ) (o : Seen) → NoneHas h (take i cs) → i < length cs → o ≡ get_or cs i o → (o.half ≡ h → ⊥) → NoneHas h (take (suc i) cs)
none-more h [] i o n l g e = tt
none-more h (c ∷ cs) zero o n l g e = ((λ q. e (ap (λ (s : Seen). s.half) g ∙ q)), tt)
none-more h (c ∷ cs) (suc i) o n l g e = (n.0, none-more h cs i o n.1 (omega (arith, l)) g e)

-- the digest that the node at a place keeps
pub place-digest : (h : ℕ) (cs : List Seen) (i : ℕ) (o : Seen) → IsPlace h cs i → o ≡ get_or cs i o → o.digest ≡ digest_under cs h
place-digest h [] i o p g = absurd p
place-digest h (c ∷ cs) zero o p g = ap (λ (s : Seen). s.digest) g ∙ go (eqb c.half h) refl
  where
    go : (b : Bool) → eqb c.half h ≡ b → c.digest ≡ cond b c.digest (digest_under cs h)
    go true t = refl
    go false t = absurd (eqb-false c.half h t p)
place-digest h (c ∷ cs) (suc i) o p g = place-digest h cs i o p.1 g ∙ go (eqb c.half h) refl
  where
    go : (b : Bool) → eqb c.half h ≡ b → digest_under cs h ≡ cond b c.digest (digest_under cs h)
    go true t = absurd (p.0 (eqb-true c.half h t))
    go false t = refl

pub none-digest : (h : ℕ) (cs : List Seen) → NoneHas h cs → replicate 32 0 ≡ digest_under cs h
none-digest h [] n = refl
none-digest h (c ∷ cs) n = none-digest h cs n.1 ∙ go (eqb c.half h) refl
  where
    go : (b : Bool) → eqb c.half h ≡ b → digest_under cs h ≡ cond b c.digest (digest_under cs h)
    go true t = absurd (n.0 (eqb-true c.half h t))
    go false t = refl

pub keys-at : (P : List ℕ → Type 0) (j : ℕ) (cs : List Seen) (o : Seen) → AllKeys P (leaves_of cs) → j < length cs → get_or cs j o ≡ o → AllKeys P o.leaves
keys-at P j [] o a l g = absurd (omega (arith, l))
keys-at P zero (c ∷ cs) o a l g = subst (λ (s : Seen). AllKeys P s.leaves) g (keys-first P c.leaves (leaves_of cs) a)
keys-at P (suc j) (c ∷ cs) o a l g = keys-at P j cs o (keys-last P c.leaves (leaves_of cs) a) (omega (arith, l)) g

-- the node at a place
pub child-at : (d j : ℕ) (cs : List Seen) (o : Seen) → AreChildren d cs → j < length cs → get_or cs j o ≡ o → IsNode (suc d) o × AllHalf d o.half o.leaves
child-at d j [] o a l g = absurd (omega (arith, l))
child-at d zero (c ∷ cs) o a l g = subst (λ (s : Seen). IsNode (suc d) s × AllHalf d s.half s.leaves) g (a.0.0, a.0.1)
child-at d (suc j) (c ∷ cs) o a l g = child-at d j cs o a.1 (omega (arith, l)) g

none-at : (h j : ℕ) (cs : List Seen) (o : Seen) → NoneHas h cs → j < length cs → get_or cs j o ≡ o → o.half ≡ h → ⊥
none-at h j [] o n l g e = absurd (omega (arith, l))
none-at h zero (c ∷ cs) o n l g e = n.0 (ap (λ (s : Seen). s.half) g ∙ e)
none-at h (suc j) (c ∷ cs) o n l g e = none-at h j cs o n.1 (omega (arith, l)) g e

-- a key with the half byte of a node is looked for there
found-at : (d j : ℕ) (cs : List Seen) (o : Seen) → AreChildren d cs → j < length cs → get_or cs j o ≡ o → (k : List ℕ) → half_of d k ≡ o.half → digest_at (leaves_of cs) k ≡ digest_at o.leaves k
found-at d j [] o a l g k e = absurd (omega (arith, l))
found-at d zero (c ∷ cs) o a l g k e =
    found-first k c.leaves (leaves_of cs) (none-found d c.half cs a.1 a.0.2 k (e ∙ ap (λ (s : Seen). s.half) (sym g)))
    ∙ ap (λ (s : Seen). digest_at s.leaves k) g
found-at d (suc j) (c ∷ cs) o a l g k e =
    found-later (λ m. half_of d m ≡ c.half) k (λ q. none-at c.half j cs o a.0.2 (omega (arith, l)) g (sym e ∙ q)) c.leaves (leaves_of cs) a.0.1
    ∙ found-at d j cs o a.1 (omega (arith, l)) g k e

none-set : (h j : ℕ) (cs : List Seen) (n : Seen) → NoneHas h cs → (n.half ≡ h → ⊥) → NoneHas h (set cs j n)
none-set h j [] n a m = tt
none-set h zero (c ∷ cs) n a m = (m, a.1)
none-set h (suc j) (c ∷ cs) n a m = (a.0, none-set h j cs n a.1 m)

children-set : (d j : ℕ) (cs : List Seen) (o n : Seen) → AreChildren d cs → j < length cs → get_or cs j o ≡ o → IsNode (suc d) n → n.half ≡ o.half → AllHalf d n.half n.leaves → AreChildren d (set cs j n)
children-set d j [] o n a l g w e h = absurd (omega (arith, l))
children-set d zero (c ∷ cs) o n a l g w e h = ((w, h, subst (λ i. NoneHas i cs) (sym (e ∙ ap (λ (s : Seen). s.half) (sym g))) a.0.2), a.1)
children-set d (suc j) (c ∷ cs) o n a l g w e h = (
  (a.0.0, a.0.1, none-set c.half j cs n a.0.2 (λ q. none-at c.half j cs o a.0.2 (omega (arith, l)) g (sym e ∙ q))),
  children-set d j cs o n a.1 (omega (arith, l)) g w e h,
)

found-same : (k : List ℕ) (ls ms ns : Leaves) → digest_at ms k ≡ digest_at ns k → digest_at (ls ++ ms) k ≡ digest_at (ls ++ ns) k
found-same k [] ms ns e = e
found-same k (l ∷ ls) ms ns e = ap (cond (bytes_eq k l.0) l.1) (found-same k ls ms ns e)

-- a key with another half byte is not looked for in a node that changed
other-set : (d j : ℕ) (cs : List Seen) (o n : Seen) → AreChildren d cs → j < length cs → get_or cs j o ≡ o → AllHalf d o.half n.leaves
    → (k : List ℕ) → (half_of d k ≡ o.half → ⊥) → digest_at (leaves_of (set cs j n)) k ≡ digest_at (leaves_of cs) k
other-set d j [] o n a l g h k m = absurd (omega (arith, l))
other-set d zero (c ∷ cs) o n a l g h k m =
    found-later (λ i. half_of d i ≡ o.half) k m n.leaves (leaves_of cs) h
    ∙ sym (found-later (λ i. half_of d i ≡ o.half) k m c.leaves (leaves_of cs) (subst (λ (s : Seen). AllHalf d s.half c.leaves) g a.0.1))
other-set d (suc j) (c ∷ cs) o n a l g h k m =
    found-same k c.leaves (leaves_of (set cs j n)) (leaves_of cs) (other-set d j cs o n a.1 (omega (arith, l)) g h k m)

set-at : (cs : List Seen) (j : ℕ) (n : Seen) → j < length cs → get_or (set cs j n) j n ≡ n
set-at [] j n l = absurd (omega (arith, l))
set-at (c ∷ cs) zero n l = refl
set-at (c ∷ cs) (suc j) n l = set-at cs j n (omega (arith, l))

-- what the digests of keys become where those of one half byte do
pub fork-changed : (d j : ℕ) (cs : List Seen) (o n : Seen) (f : List ℕ → List ℕ → List ℕ) → IsFork d cs → j < length cs → get_or cs j o ≡ o → IsNode o.depth n → n.half ≡ o.half
    → ((k v : List ℕ) → (half_of d k ≡ o.half → ⊥) → f k v ≡ v)
    → ((k : List ℕ) → digest_at n.leaves k ≡ f k (digest_at o.leaves k))
    → IsFork d (set cs j n) × ((k : List ℕ) → digest_at (leaves_of (set cs j n)) k ≡ f k (digest_at (leaves_of cs) k))
fork-changed d j cs o n f fk l g w e stays is = (record { within = fk.within; children = after }, each)
  where
    was : IsNode (suc d) o × AllHalf d o.half o.leaves
    was = child-at d j cs o fk.children l g

    node : IsNode (suc d) n
    node = subst (λ m. IsNode m n) was.0.depth w

    half : AllHalf d o.half n.leaves
    half = all-found (λ k. half_of d k ≡ o.half) n.leaves node.leaves (λ k m. go k m (eqb (half_of d k) o.half) refl)
      where
        go : (k : List ℕ) → (digest_at n.leaves k ≡ [] → ⊥) → (b : Bool) → eqb (half_of d k) o.half ≡ b → half_of d k ≡ o.half
        go k m true t = eqb-true (half_of d k) o.half t
        go k m false t =
            let q : half_of d k ≡ o.half → ⊥ = eqb-false (half_of d k) o.half t in
            absurd (m (is k ∙ stays k (digest_at o.leaves k) q ∙ absent (λ i. half_of d i ≡ o.half) k q o.leaves was.1))

    after : AreChildren d (set cs j n)
    after = children-set d j cs o n fk.children l g node e (subst (λ i. AllHalf d i n.leaves) (sym e) half)

    each : (k : List ℕ) → digest_at (leaves_of (set cs j n)) k ≡ f k (digest_at (leaves_of cs) k)
    each k = go (eqb (half_of d k) o.half) refl
      where
        go : (b : Bool) → eqb (half_of d k) o.half ≡ b → digest_at (leaves_of (set cs j n)) k ≡ f k (digest_at (leaves_of cs) k)
        go true t =
            let q : half_of d k ≡ o.half = eqb-true (half_of d k) o.half t in
            found-at d j (set cs j n) n after (omega (arith, length-set cs j n, l)) (set-at cs j n l) k (q ∙ sym e)
            ∙ is k ∙ ap (f k) (sym (found-at d j cs o fk.children l g k q))
        go false t =
            let q : half_of d k ≡ o.half → ⊥ = eqb-false (half_of d k) o.half t in
            other-set d j cs o n fk.children l g half k q ∙ sym (stays k (digest_at (leaves_of cs) k) q)
