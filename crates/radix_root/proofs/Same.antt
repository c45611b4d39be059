-- Groups with the same digest of each key have one digest.
use Rattle.std.proofs.Common.{◌≡◌, ℕ, zero, suc, ◌-◌, ◌≤◌, Bool, true, false, cond, List, [], ◌∷◌, length, map as each, refl, ap, sym, ◌∙◌, arith}
use Rattle.std.specs.Prelude.{eqb}
use Rattle.std.specs.List.{filter}
use Rattle.std.specs.Str.{bytes_eq}
use Rattle.sha2.specs.Sha256.{sha256}
use Rattle.calculus.specs.Bytes.{joined}
use Rattle.calculus.specs.Root.{sixteen}
use Rattle.radix_root.specs.Leaves.{Leaves, digest_at, half_of, has_half, set_digest}
use Rattle.radix_root.specs.Nodes.{AreLeaves}
use Rattle.radix_root.proofs.Found.{same, equal, some-bytes, two-found}

pub first-found : (l : List ℕ × List ℕ) (ls : Leaves) → digest_at (l ∷ ls) l.0 ≡ l.1
first-found l ls = ap (λ b. cond b l.1 (digest_at ls l.0)) (equal l.0 l.0 refl)

pub single : (n : ℕ) (l : List ℕ × List ℕ) → set_digest n (l ∷ []) ≡ l.1
single zero l = refl
single (suc n) l = refl

-- the digest of a key among those with a half byte
filter-found : (d x : ℕ) (ls : Leaves) (k : List ℕ) → digest_at (filter (has_half d x) ls) k ≡ cond (eqb (half_of d k) x) (digest_at ls k) []
filter-found d x [] k = go (eqb (half_of d k) x)
  where
    go : (b : Bool) → digest_at [] k ≡ cond b (digest_at [] k) []
    go true = refl
    go false = refl
filter-found d x (l ∷ ls) k = go (bytes_eq k l.0) refl (eqb (half_of d l.0) x) refl (filter-found d x ls k)
  where
    go : (c : Bool) → bytes_eq k l.0 ≡ c → (b : Bool) → eqb (half_of d l.0) x ≡ b
        → digest_at (filter (has_half d x) ls) k ≡ cond (eqb (half_of d k) x) (digest_at ls k) []
        → digest_at (cond b (l ∷ filter (has_half d x) ls) (filter (has_half d x) ls)) k ≡ cond (eqb (half_of d k) x) (cond c l.1 (digest_at ls k)) []
    go true p true q h =
        ap (λ z. cond z l.1 (digest_at (filter (has_half d x) ls) k)) p
        ∙ sym (ap (λ z. cond z l.1 []) (ap (λ j. eqb (half_of d j) x) (same k l.0 p) ∙ q))
    go true p false q h =
        let e = ap (λ j. eqb (half_of d j) x) (same k l.0 p) ∙ q in
        h ∙ ap (λ z. cond z (digest_at ls k) []) e ∙ sym (ap (λ z. cond z l.1 []) e)
    go false p true q h = ap (λ z. cond z l.1 (digest_at (filter (has_half d x) ls) k)) p ∙ h
    go false p false q h = h

leaves-filter : (d x : ℕ) (ls : Leaves) → AreLeaves ls → AreLeaves (filter (has_half d x) ls)
leaves-filter d x [] a = tt
leaves-filter d x (l ∷ ls) a = go (eqb (half_of d l.0) x) (leaves-filter d x ls a.1)
  where
    none : (b : Bool) → cond b (digest_at ls l.0) [] ≡ []
    none true = a.0.2
    none false = refl

    go : (b : Bool) → AreLeaves (filter (has_half d x) ls) → AreLeaves (cond b (l ∷ filter (has_half d x) ls) (filter (has_half d x) ls))
    go true h = ((a.0.0, a.0.1, filter-found d x ls l.0 ∙ none (eqb (half_of d l.0) x)), h)
    go false h = h

-- two groups have two keys
pub two-keys : (l m : List ℕ × List ℕ) (ls : Leaves) → AreLeaves (l ∷ m ∷ ls) → l.0 ≡ m.0 → ⊥
two-keys l m ls a e =
    some-bytes m.1 a.1.0.1 (sym (ap (λ k. digest_at (m ∷ ls) k) e ∙ first-found m ls) ∙ a.0.2)

pub first-some : (l : List ℕ × List ℕ) (ls : Leaves) → AreLeaves (l ∷ ls) → digest_at (l ∷ ls) l.0 ≡ [] → ⊥
first-some l ls a e = some-bytes l.1 a.0.1 (sym (first-found l ls) ∙ e)

pub second-some : (l m : List ℕ × List ℕ) (ls : Leaves) → AreLeaves (l ∷ m ∷ ls) → digest_at (l ∷ m ∷ ls) m.0 ≡ [] → ⊥
second-some l m ls a e = go (bytes_eq m.0 l.0) refl e
  where
    go : (b : Bool) → bytes_eq m.0 l.0 ≡ b → cond b l.1 (digest_at (m ∷ ls) m.0) ≡ [] → ⊥
    go true p z = some-bytes l.1 a.0.1 z
    go false p z = some-bytes m.1 a.1.0.1 (sym (first-found m ls) ∙ z)

-- two groups stay two where no key loses its digest
pub two-kept : (ls ms : Leaves) → AreLeaves ls → ((k : List ℕ) → (digest_at ls k ≡ [] → ⊥) → digest_at ms k ≡ [] → ⊥) → 2 ≤ length ls → 2 ≤ length ms
two-kept [] ms a f h = absurd (omega arith)
two-kept (l ∷ []) ms a f h = absurd (omega arith)
two-kept (l ∷ m ∷ ls) ms a f h =
    two-found l.0 m.0 ms (two-keys l m ls a) (f l.0 (first-some l (m ∷ ls) a)) (f m.0 (second-some l m ls a))

each-same : (f g : ℕ → List ℕ) → ((x : ℕ) → f x ≡ g x) → (xs : List ℕ) → each f xs ≡ each g xs
each-same f g h [] = refl
each-same f g h (x ∷ xs) = cc (h x, each-same f g h xs)

-- the digest of the one group
lone : (l m : List ℕ × List ℕ) → AreLeaves (l ∷ []) → ((k : List ℕ) → digest_at (l ∷ []) k ≡ digest_at (m ∷ []) k) → l.1 ≡ m.1
lone l m a s = go (bytes_eq l.0 m.0) (sym (first-found l []) ∙ s l.0)
  where
    go : (b : Bool) → l.1 ≡ cond b m.1 [] → l.1 ≡ m.1
    go true e = e
    go false e = absurd (some-bytes l.1 a.0.1 e)

kept-some : (ls ms : Leaves) → ((k : List ℕ) → digest_at ls k ≡ digest_at ms k) → (k : List ℕ) → (digest_at ls k ≡ [] → ⊥) → digest_at ms k ≡ [] → ⊥
kept-some ls ms s k n z = n (s k ∙ z)

pub same-digest : (n : ℕ) (ls ms : Leaves) → AreLeaves ls → AreLeaves ms → ((k : List ℕ) → digest_at ls k ≡ digest_at ms k) → set_digest n ls ≡ set_digest n ms
same-digest n [] [] a b s = refl
same-digest n [] (m ∷ ms) a b s = absurd (first-some m ms b (sym (s m.0)))
same-digest n (l ∷ ls) [] a b s = absurd (first-some l ls a (s l.0))
same-digest n (l ∷ []) (m ∷ []) a b s = single n l ∙ lone l m a s ∙ sym (single n m)
same-digest n (l ∷ []) (m ∷ p ∷ ms) a b s =
    let few : 2 ≤ length (l ∷ []) = two-kept (m ∷ p ∷ ms) (l ∷ []) b (kept-some (m ∷ p ∷ ms) (l ∷ []) (λ k. sym (s k))) (omega arith) in
    absurd (omega (arith, few))
same-digest n (l ∷ p ∷ ls) (m ∷ []) a b s =
    let few : 2 ≤ length (m ∷ []) = two-kept (l ∷ p ∷ ls) (m ∷ []) a (kept-some (l ∷ p ∷ ls) (m ∷ []) s) (omega arith) in
    absurd (omega (arith, few))
same-digest zero (l ∷ p ∷ ls) (m ∷ q ∷ ms) a b s = refl
same-digest (suc n) (l ∷ p ∷ ls) (m ∷ q ∷ ms) a b s =
    ap (λ ds. sha256 (0x11 ∷ joined ds))
    (each-same (λ x. set_digest n (filter (has_half (63 - n) x) (l ∷ p ∷ ls))) (λ x. set_digest n (filter (has_half (63 - n) x) (m ∷ q ∷ ms)))
    (λ x. same-digest n (filter (has_half (63 - n) x) (l ∷ p ∷ ls)) (filter (has_half (63 - n) x) (m ∷ q ∷ ms))
    (leaves-filter (63 - n) x (l ∷ p ∷ ls) a) (leaves-filter (63 - n) x (m ∷ q ∷ ms) b)
    (λ k. filter-found (63 - n) x (l ∷ p ∷ ls) k ∙ ap (λ v. cond (eqb (half_of (63 - n) k) x) v []) (s k) ∙ sym (filter-found (63 - n) x (m ∷ q ∷ ms) k))) sixteen)
