-- Which form a refused part can have, by its tag.
use Rattle.std.proofs.Common.{◌≡◌, ℕ, ◌≤◌, List, [], ◌∷◌, ◌++◌, length, refl, ap, ◌∙◌, arith, ◌<◌, inl, inr, ⊎_elim}
use Rattle.std.specs.Prelude.{Bool, true, false, ◌&&◌, ◌||◌, leb, ◌⊎◌}
use Rattle.std.proofs.lemmas.Bool.{and_parts, leb-true}
use Rattle.calculus.specs.Tree.{Tree, node}
use Rattle.calculus.specs.Bytes.{joined}
use Rattle.calculus.specs.Shape.{count}
use Rattle.calculus.specs.Congruence.{is_bag}
use Rattle.calculus.specs.Code.{arranged, code, codes}
use Rattle.calculus.specs.Form.{Sort, Scope, Fits, kids}
use Rattle.calculus.proofs.Heads.{lead, tail, head-parts}
use Rattle.calculus.proofs.Known.{own_bytes, known}
use Rattle.calculus.proofs.Tails.{IsFine}
use Rattle.calculus.proofs.Formed.{is_form}
use Rattle.calculus.proofs.FromFits.{formed, fine}
use Rattle.code_faults.specs.declared.fault.ReadFault.{ReadFault}
use Rattle.code_faults.specs.Refusing.{Denies, IsRight, HasRoom, Refuses}
use Rattle.code_faults.specs.Tags.{is_form_tag, is_pat_form_tag}

-- the first byte
abbrev pub first : List ℕ → ℕ
first [] = 0
first (x ∷ xs) = x

-- the tag of a form
abbrev pub tag_of : Tree → ℕ
tag_of (node l ts) = first (lead l)

alone : (xs : List ℕ) → length xs ≡ 1 → xs ≡ first xs ∷ []
alone [] e = absurd (omega arith)
alone (x ∷ []) e = refl
alone (x ∷ y ∷ xs) e = absurd (omega arith)

heads : (n m : ℕ) (xs ys : List ℕ) → n ∷ xs ≡ m ∷ ys → m ≡ n
heads n m xs ys e = cc

pub tag-same : (s : Sort) (v : Scope) (t : Tree) (k : ℕ) (xs y : List ℕ) → own_bytes s ≡ 1 → Fits s v t → k ∷ xs ≡ code t ++ y → tag_of t ≡ k
tag-same s v (node l ts) k xs y o h q =
    let f = is_form IsFine (kids s l 0) ts ((formed IsFine fine s v (node l ts) h).1) in
    let a : lead l ≡ first (lead l) ∷ [] = alone (lead l) ((known s l 0 f).1 ∙ o) in
    let j = joined (arranged (is_bag l) (codes ts)) in
    heads k (first (lead l)) xs ((tail l (count ts) ++ j) ++ y)
    (q ∙ ap (λ (z : List ℕ). (z ++ j) ++ y) (head-parts l (count ts)) ∙ ap (λ (z : List ℕ). ((z ++ tail l (count ts)) ++ j) ++ y) a)

-- only forms of this tag matter
pub by-tag : {b : Bool} {s : Sort} {v : Scope} {room : ℕ} {e : ReadFault} (k : ℕ) (bs : List ℕ) → own_bytes s ≡ 1
    → (HasRoom v (k ∷ bs) → (t : Tree) → IsRight b s v room t → tag_of t ≡ k → Denies e (k ∷ bs) (code t)) → Refuses b s v room e (k ∷ bs)
by-tag {s = s} {v = v} k bs o f = record { no = λ l t g. record { no = λ x y m q. (f l t g (tag-same s v t k (bs ++ x) y o g.fits q)).no x y m q } }

-- a tree of this tag is denied
abbrev pub Of : Bool → Sort → Scope → ℕ → ReadFault → List ℕ → ℕ → Tree → Type 0
Of b s v room e bs k t = HasRoom v (k ∷ bs) → IsRight b s v room t → tag_of t ≡ k → Denies e (k ∷ bs) (code t)

pub after-tag : {v : Scope} {bs : List ℕ} (k : ℕ) → HasRoom v (k ∷ bs) → HasRoom v bs
after-tag k l = record { few = omega (arith, l.few) }

either_of : (x y : Bool) → (x || y) ≡ true → (x ≡ true) ⊎ (y ≡ true)
either_of true y e = inl refl
either_of false y e = inr e

between : (a k b : ℕ) → (leb a k && leb k b) ≡ true → (a ≤ k) × (k ≤ b)
between a k b e = let p = and_parts (leb a k) (leb k b) e in (leb-true a k p.0, leb-true k b p.1)

-- the tags of forms are in three ranges
three : (a b c d f g k : ℕ) → ((leb a k && leb k b) || ((leb c k && leb k d) || (leb f k && leb k g))) ≡ true → (P : Type 0) → ((a ≤ k) × (k ≤ b) → P) → ((c ≤ k) × (k ≤ d) → P) → ((f ≤ k) × (k ≤ g) → P) → P
three a b c d f g k e P p q r =
    ⊎_elim (λ (x : (leb a k && leb k b) ≡ true). p (between a k b x))
    (λ (x : ((leb c k && leb k d) || (leb f k && leb k g)) ≡ true). ⊎_elim (λ (y : (leb c k && leb k d) ≡ true). q (between c k d y)) (λ (y : (leb f k && leb k g) ≡ true). r (between f k g y)) (either_of (leb c k && leb k d) (leb f k && leb k g) x))
    (either_of (leb a k && leb k b) ((leb c k && leb k d) || (leb f k && leb k g)) e)

pub form-tags : (k : ℕ) → is_form_tag k ≡ true → (k ≡ 0x20 → ⊥) → (k ≡ 0x21 → ⊥) → (k ≡ 0x22 → ⊥) → (k ≡ 0x23 → ⊥) → (k ≡ 0x30 → ⊥) → (k ≡ 0x31 → ⊥) → (k ≡ 0x32 → ⊥) → (k ≡ 0x33 → ⊥) → (k ≡ 0x34 → ⊥) → (k ≡ 0x40 → ⊥) → (k ≡ 0x41 → ⊥) → (k ≡ 0x42 → ⊥) → ⊥
form-tags k e a b c d f g h i j l m n = three 0x20 0x23 0x30 0x34 0x40 0x42 k e ⊥ (λ x. omega arith) (λ x. omega arith) (λ x. omega arith)

pub pat_form-tags : (k : ℕ) → is_pat_form_tag k ≡ true → (0x31 ≤ k → k ≤ 0x33 → ⊥) → (k ≡ 0x20 → ⊥) → (k ≡ 0x21 → ⊥) → (k ≡ 0x22 → ⊥) → (k ≡ 0x23 → ⊥) → (k ≡ 0x30 → ⊥) → (k ≡ 0x34 → ⊥) → (k ≡ 0x53 → ⊥) → (k ≡ 0x54 → ⊥) → (k ≡ 0x55 → ⊥) → (k ≡ 0x56 → ⊥) → ⊥
pat_form-tags k e z a b c d f j l m n o = three 0x20 0x23 0x30 0x34 0x53 0x56 k e ⊥ (λ x. omega arith) (λ x. let w : (k < 0x31 → ⊥) → (0x33 < k → ⊥) → ⊥ = λ u v. z (omega arith) (omega arith) in omega arith) (λ x. omega arith)
