-- The digest of a key among groups.
use Rattle.std.proofs.Common.{◌≡◌, ℕ, ◌≤◌, Bool, true, false, cond, List, [], ◌∷◌, ◌++◌, length, refl, ap, sym, ◌∙◌, subst, arith}
use Rattle.std.specs.Prelude.{Option, Some, None, IfNone, is_some, not}
use Rattle.std.specs.Str.{bytes_eq}
use Rattle.std.proofs.lemmas.Slice.Eq.{bytes_eq-Decides}
use Rattle.calculus.specs.declared.ids.Digest.{Digest}
use Rattle.radix_root.specs.Groups.{given}
use Rattle.radix_root.specs.Leaves.{Leaves, digest_at}
use Rattle.radix_root.specs.Nodes.{AllKeys, AreLeaves}

pub same : (x y : List ℕ) → bytes_eq x y ≡ true → x ≡ y
same x y e = (bytes_eq-Decides x y).0 e

pub equal : (x y : List ℕ) → x ≡ y → bytes_eq x y ≡ true
equal x y e = (bytes_eq-Decides x y).1 e

pub differ : (x y : List ℕ) → (x ≡ y → ⊥) → bytes_eq x y ≡ false
differ x y n = go (bytes_eq x y) refl
  where
    go : (b : Bool) → bytes_eq x y ≡ b → b ≡ false
    go true e = absurd (n (same x y e))
    go false e = refl

-- a text of 32 bytes is not empty
pub some-bytes : (xs : List ℕ) → length xs ≡ 32 → xs ≡ [] → ⊥
some-bytes [] h e = omega (arith, h)
some-bytes (x ∷ xs) h e = cc

-- a key that is not among these groups
pub absent : (P : List ℕ → Type 0) (k : List ℕ) → (P k → ⊥) → (ls : Leaves) → AllKeys P ls → digest_at ls k ≡ []
absent P k n [] a = refl
absent P k n (l ∷ ls) a = go (bytes_eq k l.0) refl (absent P k n ls a.1)
  where
    go : (b : Bool) → bytes_eq k l.0 ≡ b → digest_at ls k ≡ [] → cond b l.1 (digest_at ls k) ≡ []
    go true e h = absurd (n (subst P (sym (same k l.0 e)) a.0))
    go false e h = h

-- a group without a digest
pub given-none : (o : Option Digest) → is_some o ≡ not true → given o ≡ []
given-none None e = refl
given-none (Some d) e = cc

-- what holds where there is none
pub none-so : {A : Type 0} (o : Option A) (P : Type 0) → is_some o ≡ not true → IfNone o P → P
none-so None P e p = p
none-so (Some x) P e p = cc

-- a key that is not there is taken out
pub absent-out : (ls : Leaves) (key v : List ℕ) → v ≡ [] → digest_at ls key ≡ [] → (k : List ℕ) → digest_at ls k ≡ cond (bytes_eq k key) v (digest_at ls k)
absent-out ls key v n e k = go (bytes_eq k key) refl
  where
    go : (b : Bool) → bytes_eq k key ≡ b → digest_at ls k ≡ cond b v (digest_at ls k)
    go true q = ap (digest_at ls) (same k key q) ∙ e ∙ sym n
    go false q = refl

-- a key is not there where the one group has another
pub other-absent : (ls : Leaves) (own kept key : List ℕ) → ls ≡ (own, kept) ∷ [] → bytes_eq own key ≡ false → digest_at ls key ≡ []
other-absent ls own kept key e b =
    ap (λ (ms : Leaves). digest_at ms key) e ∙ ap (λ z. cond z kept []) (differ key own (λ q. truth (sym (equal own key (sym q)) ∙ b)))
  where
    truth : true ≡ false → ⊥
    truth y = cc

-- groups before others, where a key is not among the first
pub found-later : (P : List ℕ → Type 0) (k : List ℕ) → (P k → ⊥) → (ls ms : Leaves) → AllKeys P ls → digest_at (ls ++ ms) k ≡ digest_at ms k
found-later P k n [] ms a = refl
found-later P k n (l ∷ ls) ms a = go (bytes_eq k l.0) refl (found-later P k n ls ms a.1)
  where
    go : (b : Bool) → bytes_eq k l.0 ≡ b → digest_at (ls ++ ms) k ≡ digest_at ms k → cond b l.1 (digest_at (ls ++ ms) k) ≡ digest_at ms k
    go true e h = absurd (n (subst P (sym (same k l.0 e)) a.0))
    go false e h = h

-- groups before others, where a key is not among the last
pub found-first : (k : List ℕ) (ls ms : Leaves) → digest_at ms k ≡ [] → digest_at (ls ++ ms) k ≡ digest_at ls k
found-first k [] ms e = e
found-first k (l ∷ ls) ms e = ap (cond (bytes_eq k l.0) l.1) (found-first k ls ms e)

-- where each key that has a digest is so, each key is
pub all-found : (P : List ℕ → Type 0) (ls : Leaves) → AreLeaves ls → ((k : List ℕ) → (digest_at ls k ≡ [] → ⊥) → P k) → AllKeys P ls
all-found P [] a f = tt
all-found P (l ∷ ls) a f = (f l.0 (λ e. some-bytes l.1 a.0.1 (sym (ap (λ b. cond b l.1 (digest_at ls l.0)) (equal l.0 l.0 refl)) ∙ e)), all-found P ls a.1 (λ k n. f k (rest k n)))
  where
    rest : (k : List ℕ) → (digest_at ls k ≡ [] → ⊥) → cond (bytes_eq k l.0) l.1 (digest_at ls k) ≡ [] → ⊥
    rest k n = go (bytes_eq k l.0)
      where
        go : (b : Bool) → cond b l.1 (digest_at ls k) ≡ [] → ⊥
        go true e = some-bytes l.1 a.0.1 e
        go false e = n e

-- groups joined, where no key of the first is among the others
pub leaves-join : (P : List ℕ → Type 0) (ls ms : Leaves) → AreLeaves ls → AreLeaves ms → AllKeys P ls → ((k : List ℕ) → P k → digest_at ms k ≡ []) → AreLeaves (ls ++ ms)
leaves-join P [] ms a b h f = b
leaves-join P (l ∷ ls) ms a b h f = ((a.0.0, a.0.1, found-first l.0 ls ms (f l.0 h.0) ∙ a.0.2), leaves-join P ls ms a.1 b h.1 f)

pub keys-first : (P : List ℕ → Type 0) (ls ms : Leaves) → AllKeys P (ls ++ ms) → AllKeys P ls
keys-first P [] ms a = tt
keys-first P (l ∷ ls) ms a = (a.0, keys-first P ls ms a.1)

pub keys-last : (P : List ℕ → Type 0) (ls ms : Leaves) → AllKeys P (ls ++ ms) → AllKeys P ms
keys-last P [] ms a = a
keys-last P (l ∷ ls) ms a = keys-last P ls ms a.1

pub keys-both : (P Q R : List ℕ → Type 0) → ((k : List ℕ) → P k → Q k → R k) → (ls : Leaves) → AllKeys P ls → AllKeys Q ls → AllKeys R ls
keys-both P Q R f [] a b = tt
keys-both P Q R f (l ∷ ls) a b = (f l.0 a.0 b.0, keys-both P Q R f ls a.1 b.1)

-- two keys with digests are two groups
pub two-found : (j k : List ℕ) (ls : Leaves) → (j ≡ k → ⊥) → (digest_at ls j ≡ [] → ⊥) → (digest_at ls k ≡ [] → ⊥) → 2 ≤ length ls
two-found j k [] n a b = absurd (a refl)
two-found j k (l ∷ []) n a b = go (bytes_eq j l.0) refl (bytes_eq k l.0) refl a b
  where
    go : (p : Bool) → bytes_eq j l.0 ≡ p → (q : Bool) → bytes_eq k l.0 ≡ q → (cond p l.1 [] ≡ [] → ⊥) → (cond q l.1 [] ≡ [] → ⊥) → 2 ≤ length (l ∷ [])
    go true d true e x y = absurd (n (same j l.0 d ∙ sym (same k l.0 e)))
    go true d false e x y = absurd (y refl)
    go false d q e x y = absurd (x refl)
two-found j k (l ∷ m ∷ ls) n a b = omega arith
