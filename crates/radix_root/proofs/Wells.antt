-- Nodes that are as they should be.
use Rattle.std.proofs.Common.{◌≡◌, ℕ, zero, suc, ◌-◌, ◌<◌, ◌≤◌, false, cond, List, [], ◌∷◌, ◌++◌, length, map as each, get_or, set, refl, ap, sym, ◌∙◌, subst, arith, Option, Some, None}
use Rattle.std.specs.Str.{bytes_eq}
use Rattle.std.specs.Prelude.{Result, Ok, Err, OnOk, OnErr}
use Rattle.sha2.specs.Sha256.{sha256}
use Rattle.calculus.specs.Bytes.{joined}
use Rattle.calculus.specs.declared.ids.Digest.{Digest}
use Rattle.radix_root.specs.Leaves.{Leaves, digest_at, half_of, set_digest}
use Rattle.calculus.specs.Root.{sixteen}
use Rattle.radix_root.specs.Nodes.{Seen, leaves_of, own_leaf, digest_under, AreLeaves, AllHalf, AllShare, Shares, IsPlace, IsNode, IsFork, IsWell}
use Rattle.radix_root.proofs.Found.{differ}
use Rattle.radix_root.proofs.Forks.{fork-digest, children-leaves}
use Rattle.radix_root.proofs.Places.{child-at, fork-changed, keys-at, place-within, place-half}
use Rattle.radix_root.proofs.Halves.{all-share-more, apart-below}

-- the group of a node that has one and no nodes under it
pub lone-leaf : (key : Option Digest) (k : Digest) (v : List ℕ) (cs : List Seen) → key ≡ Some k → length cs ≡ 0 → own_leaf key v ++ leaves_of cs ≡ (k.0, v) ∷ []
lone-leaf key k v [] e n = ap (λ (q : Option Digest). own_leaf q v ++ []) e
lone-leaf key k v (c ∷ cs) e n = absurd (omega (arith, n))

-- a node with several groups
pub well-fork : (d : ℕ) (v : List ℕ) (key : Option Digest) (cs : List Seen) → key ≡ None → IsFork d cs → 2 ≤ length (leaves_of cs)
    → v ≡ sha256 (0x11 ∷ joined (each (digest_under cs) sixteen)) → IsWell d v key cs
well-fork d v key [] n f two e = absurd (omega (arith, two))
well-fork d v key (c ∷ cs) n f two e =
    subst (λ (k : Option Digest). IsWell d v k (c ∷ cs)) (sym n)
    (record { within = omega (arith, f.within); shaped = (refl, f, two); leaves = children-leaves d (c ∷ cs) f.children; digest = e ∙ fork-digest d (c ∷ cs) f two })

-- what is seen of such a node, at its depth by another name
pub well-node : (d f i : ℕ) (v : List ℕ) (key : Option Digest) (cs : List Seen) (h : ℕ) → d ≡ f → IsWell d v key cs
    → IsNode f (record { depth = d; half = i; digest = v; leaves = own_leaf key v ++ leaves_of cs; height = h })
well-node d f i v key cs h e w = record { depth = e; leaves = w.leaves; digest = w.digest ∙ ap (λ m. set_digest (64 - m) (own_leaf key v ++ leaves_of cs)) e }

-- the keys under the node of a key's half byte share one more half byte with it
pub shared-at : (d h : ℕ) (key : List ℕ) (j : ℕ) (cs : List Seen) (o : Seen) → IsFork d cs → AllShare d key (leaves_of cs) → h ≡ half_of d key → IsPlace h cs j → get_or cs j o ≡ o
    → AllShare o.depth key o.leaves
shared-at d h key j cs o f a e p g =
    let l = place-within h cs j p in
    let r = child-at d j cs o f.children l g in
    let share : AllShare d key o.leaves = keys-at (Shares d key) j cs o a l g in
    subst (λ m. AllShare m key o.leaves) (sym r.0.depth) (all-share-more d key o.leaves share (subst (λ m. AllHalf d m o.leaves) (place-half h cs j o p g ∙ e) r.1))

-- the depth of the node of a half byte
pub depth-at : (d h j : ℕ) (cs : List Seen) (o : Seen) → IsFork d cs → IsPlace h cs j → get_or cs j o ≡ o → o.depth ≡ suc d
depth-at d h j cs o f p g = (child-at d j cs o f.children (place-within h cs j p) g).0.depth

-- nodes of which that of a key has another digest of this key
pub fork-set : (d h j : ℕ) (cs : List Seen) (o n : Seen) (key v : List ℕ) → IsFork d cs → h ≡ half_of d key → IsPlace h cs j → get_or cs j o ≡ o → IsNode o.depth n → n.half ≡ o.half
    → ((k : List ℕ) → digest_at n.leaves k ≡ cond (bytes_eq k key) v (digest_at o.leaves k))
    → IsFork d (set cs j n) × ((k : List ℕ) → digest_at (leaves_of (set cs j n)) k ≡ cond (bytes_eq k key) v (digest_at (leaves_of cs) k))
fork-set d h j cs o n key v f e p g w same_half is =
    fork-changed d j cs o n (λ k x. cond (bytes_eq k key) v x) f (place-within h cs j p) g w same_half
    (λ k x q. ap (λ b. cond b v x) (differ k key (λ z. q (ap (half_of d) z ∙ sym e ∙ sym (place-half h cs j o p g))))) is

-- the groups of nodes of which one has what it had
pub leaves-set : (j : ℕ) (cs : List Seen) (o n : Seen) → j < length cs → get_or cs j o ≡ o → n.leaves ≡ o.leaves → leaves_of (set cs j n) ≡ leaves_of cs
leaves-set j [] o n l g e = refl
leaves-set zero (c ∷ cs) o n l g e = ap (λ ls. ls ++ leaves_of cs) (e ∙ ap (λ (s : Seen). s.leaves) (sym g))
leaves-set (suc j) (c ∷ cs) o n l g e = ap (λ ls. c.leaves ++ ls) (leaves-set j cs o n (omega (arith, l)) g e)

-- nodes of which that of a key has another digest of this key, or what it had after an error
pub fork-put : {T E : Type 0} (r : Result T E) (d h j : ℕ) (cs : List Seen) (o n : Seen) (key v : List ℕ) → IsFork d cs → h ≡ half_of d key → IsPlace h cs j → get_or cs j o ≡ o → IsNode o.depth n → n.half ≡ o.half
    → OnOk r ((k : List ℕ) → digest_at n.leaves k ≡ cond (bytes_eq k key) v (digest_at o.leaves k)) → OnErr r (n.leaves ≡ o.leaves) → IsFork d (set cs j n)
fork-put (Ok x) d h j cs o n key v f e p g w i is same = (fork-set d h j cs o n key v f e p g w i is).0
fork-put (Err x) d h j cs o n key v f e p g w i is same =
    (fork-changed d j cs o n (λ k y. y) f (place-within h cs j p) g w i (λ k y q. refl) (λ k. ap (λ (ls : Leaves). digest_at ls k) same)).0

-- the key of a node's one group and another key part below it
pub parts-below : (d : ℕ) (ls : Leaves) (own kept key : List ℕ) → d ≤ 64 → AreLeaves ls → ls ≡ (own, kept) ∷ [] → length key ≡ 32 → bytes_eq own key ≡ false → AllShare d key ls → d < 64
parts-below d ls own kept key l a e n b s =
    apart-below d own key l (subst AreLeaves e a).0.0 n b (subst (AllShare d key) e s).0

-- two facts of one answer
pub both-ok : {T E : Type 0} (P Q : Type 0) (r : Result T E) → OnOk r P → OnOk r Q → OnOk r (P × Q)
both-ok P Q (Ok x) p q = (p, q)
both-ok P Q (Err y) p q = tt

-- any keys share no half bytes
pub share-none : (d : ℕ) (key : List ℕ) (ls : Leaves) → d ≡ 0 → AllShare d key ls
share-none d key [] e = tt
share-none d key (l ∷ ls) e = ((λ i h. absurd (omega (arith, h, e))), share-none d key ls e)
