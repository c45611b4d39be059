-- The nodes of half bytes, under one node.
use Rattle.std.proofs.Common.{◌≡◌, ℕ, zero, suc, ◌-◌, ◌≤◌, Bool, true, false, cond, List, [], ◌∷◌, ◌++◌, length, map as each, replicate, refl, ap, sym, ◌∙◌, subst, arith, append-nil}
use Rattle.std.specs.Prelude.{eqb}
use Rattle.std.specs.List.{filter}
use Rattle.std.proofs.lemmas.Bool.{eqb-true, eq-eqb, eqb-false}
use Rattle.std.proofs.lemmas.List.Elements.{filter-append}
use Rattle.sha2.specs.Sha256.{sha256}
use Rattle.calculus.specs.Bytes.{joined}
use Rattle.calculus.specs.Root.{sixteen}
use Rattle.radix_root.specs.Leaves.{Leaves, digest_at, half_of, has_half, set_digest}
use Rattle.radix_root.specs.Nodes.{Seen, leaves_of, AreLeaves, NoneHas, digest_under, AllHalf, AreChildren, IsFork}
use Rattle.radix_root.proofs.Found.{found-later, leaves-join}

apart : (a b : ℕ) → (a ≡ b → ⊥) → eqb a b ≡ false
apart a b n = go (eqb a b) refl
  where
    go : (c : Bool) → eqb a b ≡ c → c ≡ false
    go true e = absurd (n (eqb-true a b e))
    go false e = refl

-- the groups with the half byte that all have
filter-all : (d i : ℕ) (ls : Leaves) → AllHalf d i ls → filter (has_half d i) ls ≡ ls
filter-all d i [] a = refl
filter-all d i (l ∷ ls) a = go (eqb (half_of d l.0) i) (eq-eqb (half_of d l.0) i a.0) (filter-all d i ls a.1)
  where
    go : (b : Bool) → b ≡ true → filter (has_half d i) ls ≡ ls → cond b (l ∷ filter (has_half d i) ls) (filter (has_half d i) ls) ≡ l ∷ ls
    go true e h = ap (λ xs. l ∷ xs) h
    go false e h = cc

-- the groups with another half byte than all have
filter-none : (d i x : ℕ) → (i ≡ x → ⊥) → (ls : Leaves) → AllHalf d i ls → filter (has_half d x) ls ≡ []
filter-none d i x n [] a = refl
filter-none d i x n (l ∷ ls) a = go (eqb (half_of d l.0) x) (apart (half_of d l.0) x (λ e. n (sym a.0 ∙ e))) (filter-none d i x n ls a.1)
  where
    go : (b : Bool) → b ≡ false → filter (has_half d x) ls ≡ [] → cond b (l ∷ filter (has_half d x) ls) (filter (has_half d x) ls) ≡ []
    go true e h = cc
    go false e h = h

-- nodes of other half bytes have no group with this one
none-filter : (d h : ℕ) (cs : List Seen) → AreChildren d cs → NoneHas h cs → filter (has_half d h) (leaves_of cs) ≡ []
none-filter d h [] a n = refl
none-filter d h (c ∷ cs) a n =
    filter-append (has_half d h) c.leaves (leaves_of cs)
    ∙ ap (λ xs. xs ++ filter (has_half d h) (leaves_of cs)) (filter-none d c.half h n.0 c.leaves a.0.1)
    ∙ none-filter d h cs a.1 n.1

set-none : (n : ℕ) → replicate 32 0 ≡ set_digest n []
set-none zero = refl
set-none (suc n) = refl

-- the digest of the groups of a half byte is the one that is kept
kept-digest : (d n h : ℕ) (cs : List Seen) → n ≡ 64 - suc d → AreChildren d cs → set_digest n (filter (has_half d h) (leaves_of cs)) ≡ digest_under cs h
kept-digest d n h [] e a = sym (set-none n)
kept-digest d n h (c ∷ cs) e a = ap (set_digest n) (filter-append (has_half d h) c.leaves (leaves_of cs)) ∙ go (eqb c.half h) refl (kept-digest d n h cs e a.1)
  where
    go : (b : Bool) → eqb c.half h ≡ b → set_digest n (filter (has_half d h) (leaves_of cs)) ≡ digest_under cs h
        → set_digest n (filter (has_half d h) c.leaves ++ filter (has_half d h) (leaves_of cs)) ≡ cond b c.digest (digest_under cs h)
    go true t m =
        let q : c.half ≡ h = eqb-true c.half h t in
        let own : filter (has_half d h) c.leaves ≡ c.leaves = filter-all d h c.leaves (subst (λ i. AllHalf d i c.leaves) q a.0.1) in
        let others : filter (has_half d h) (leaves_of cs) ≡ [] = none-filter d h cs a.1 (subst (λ i. NoneHas i cs) q a.0.2) in
        ap (λ xs. set_digest n (xs ++ filter (has_half d h) (leaves_of cs))) own
        ∙ ap (λ xs. set_digest n (c.leaves ++ xs)) others
        ∙ ap (set_digest n) (append-nil c.leaves)
        ∙ ap (λ m. set_digest m c.leaves) e ∙ sym a.0.0.digest
    go false t m =
        let none : filter (has_half d h) c.leaves ≡ [] = filter-none d c.half h (eqb-false c.half h t) c.leaves a.0.1 in
        ap (λ xs. set_digest n (xs ++ filter (has_half d h) (leaves_of cs))) none ∙ m

each-same : (f g : ℕ → List ℕ) → ((x : ℕ) → f x ≡ g x) → (xs : List ℕ) → each f xs ≡ each g xs
each-same f g h [] = refl
each-same f g h (x ∷ xs) = cc (h x, each-same f g h xs)

set-several : (n : ℕ) (ls : Leaves) → 2 ≤ length ls → set_digest (suc n) ls ≡ sha256 (0x11 ∷ joined (each (λ x. set_digest n (filter (has_half (63 - n) x) ls)) sixteen))
set-several n [] h = absurd (omega arith)
set-several n (l ∷ []) h = absurd (omega arith)
set-several n (l ∷ m ∷ ls) h = refl

-- the digest of the groups of these nodes, from those that the nodes keep
pub fork-digest : (d : ℕ) (cs : List Seen) → IsFork d cs → 2 ≤ length (leaves_of cs)
    → sha256 (0x11 ∷ joined (each (digest_under cs) sixteen)) ≡ set_digest (64 - d) (leaves_of cs)
fork-digest d cs f two =
    let ls : Leaves = leaves_of cs in
    let left : 64 - d ≡ suc (63 - d) = omega (arith, f.within) in
    let place : 63 - (63 - d) ≡ d = omega (arith, f.within) in
    let next : 63 - d ≡ 64 - suc d = omega (arith, f.within) in
    let digests : each (λ x. set_digest (63 - d) (filter (has_half d x) ls)) sixteen ≡ each (digest_under cs) sixteen =
    each-same (λ x. set_digest (63 - d) (filter (has_half d x) ls)) (digest_under cs) (λ x. kept-digest d (63 - d) x cs next f.children) sixteen in
    sym (ap (λ m. set_digest m ls) left ∙ set-several (63 - d) ls two
    ∙ ap (λ p. sha256 (0x11 ∷ joined (each (λ x. set_digest (63 - d) (filter (has_half p x) ls)) sixteen))) place
    ∙ ap (λ ds. sha256 (0x11 ∷ joined ds)) digests)

-- nodes of other half bytes have no key with this one
pub none-found : (d h : ℕ) (cs : List Seen) → AreChildren d cs → NoneHas h cs → (k : List ℕ) → half_of d k ≡ h → digest_at (leaves_of cs) k ≡ []
none-found d h [] a n k e = refl
none-found d h (c ∷ cs) a n k e =
    found-later (λ j. half_of d j ≡ c.half) k (λ q. n.0 (sym q ∙ e)) c.leaves (leaves_of cs) a.0.1 ∙ none-found d h cs a.1 n.1 k e

pub children-leaves : (d : ℕ) (cs : List Seen) → AreChildren d cs → AreLeaves (leaves_of cs)
children-leaves d [] a = tt
children-leaves d (c ∷ cs) a =
    leaves-join (λ j. half_of d j ≡ c.half) c.leaves (leaves_of cs) a.0.0.leaves (children-leaves d cs a.1) a.0.1 (λ k e. none-found d c.half cs a.1 a.0.2 k e)
