-- Texts that are appended one after another, and nodes one after another.
use Rattle.std.proofs.Common.{◌≡◌, ℕ, zero, suc, ◌+◌, ◌<◌, List, [], ◌∷◌, ◌++◌, map, take, length, get_or, refl, sym, ◌∙◌, ap, arith, append_assoc, append-nil}
use Rattle.std.proofs.lemmas.List.{map-append, take_more}
use Rattle.calculus.specs.Bytes.{joined}
use Rattle.calculus.specs.Root.{sixteen}
use Rattle.calculus.proofs.BytesLemmas.{joined-take}
use Rattle.radix_root.specs.Nodes.{Seen, leaves_of}

-- one more text after a key, a number and the texts of the first i members
pub hashed : {A : Type 0} (f : A → List ℕ) (tag : ℕ) (c ns ys : List ℕ) (xs : List A) (i : ℕ) (d : A) → i < length xs → ys ≡ f (get_or xs i d)
    → (tag ∷ (c ++ (ns ++ joined (map f (take i xs))))) ++ ys ≡ tag ∷ (c ++ (ns ++ joined (map f (take (i + 1) xs))))
hashed f tag c ns ys xs i d h is =
    let j = joined (map f (take i xs)) in
    let y = f (get_or xs i d) in
    ap (λ l. (tag ∷ (c ++ (ns ++ j))) ++ l) is
    ∙ ap (λ l. tag ∷ l) (append_assoc c (ns ++ j) y ∙ ap (λ l. c ++ l) (append_assoc ns j y ∙ ap (λ l. ns ++ l) (sym (joined-take f xs i d h))))

-- one more text after a tag and the texts of the first i members
pub tagged : {A : Type 0} (f : A → List ℕ) (tag : ℕ) (ys : List ℕ) (xs : List A) (i : ℕ) (d : A) → i < length xs → ys ≡ f (get_or xs i d)
    → (tag ∷ joined (map f (take i xs))) ++ ys ≡ tag ∷ joined (map f (take (i + 1) xs))
tagged f tag ys xs i d h is = ap (λ l. (tag ∷ joined (map f (take i xs))) ++ l) is ∙ ap (λ l. tag ∷ l) (sym (joined-take f xs i d h))

-- the groups of the first nodes and of the next one
pub leaves-take : (cs : List Seen) (i : ℕ) (d : Seen) → i < length cs → leaves_of (take (i + 1) cs) ≡ leaves_of (take i cs) ++ (get_or cs i d).leaves
leaves-take [] i d h = absurd (omega (arith, h))
leaves-take (c ∷ cs) zero d h =
    let z : 0 + 1 ≡ suc 0 = omega arith in
    ap (λ n. leaves_of (take n (c ∷ cs))) z ∙ append-nil c.leaves
leaves-take (c ∷ cs) (suc i) d h =
    let z : suc i + 1 ≡ suc (i + 1) = omega arith in
    ap (λ n. leaves_of (take n (c ∷ cs))) z ∙ ap (λ ls. c.leaves ++ ls) (leaves-take cs i d (omega (arith, h)))
    ∙ sym (append_assoc c.leaves (leaves_of (take i cs)) (get_or cs i d).leaves)

-- numbers from one on, this many
abbrev from : ℕ → ℕ → List ℕ
from i zero = []
from i (suc n) = i ∷ from (suc i) n

from-at : (i n h : ℕ) → h < n → get_or (from i n) h 0 ≡ i + h
from-at i zero h l = absurd (omega (arith, l))
from-at i (suc n) zero l = omega arith
from-at i (suc n) (suc h) l = from-at (suc i) n h (omega (arith, l)) ∙ omega arith

sixteen-from : sixteen ≡ from 0 16
sixteen-from = refl

-- the half byte at a place is that number
pub sixteen-at : (h : ℕ) → h < 16 → get_or sixteen h 0 ≡ h
sixteen-at h l = ap (λ hs. get_or hs h 0) sixteen-from ∙ from-at 0 16 h l ∙ omega arith

-- one more member behind those that are made of the first i
pub mapped-more : {A B C : Type 0} (f : A → C) (g : B → C) (xs ys : List A) (zs : List B) (i : ℕ) (x : A) (z : B) → ys ≡ xs ++ x ∷ [] → i < length zs → z ≡ get_or zs i z → f x ≡ g z
    → map f xs ≡ map g (take i zs) → map f ys ≡ map g (take (i + 1) zs)
mapped-more f g xs ys zs i x z e l h s m =
    ap (map f) e ∙ map-append f xs (x ∷ []) ∙ ap (λ cs. cs ++ f x ∷ []) m ∙ ap (λ c. map g (take i zs) ++ c ∷ []) (s ∙ ap g h)
    ∙ sym (ap (map g) (take_more zs i z l) ∙ map-append g (take i zs) (get_or zs i z ∷ []))
