-- Numbers that are used, one after another.
use Rattle.std.proofs.Common.{◌≡◌, ℕ, suc, ◌+◌, ◌<◌, ◌≤◌, Bool, true, false, cond, List, ◌∷◌, length, drop, get_or, refl, sym, ap, ◌∙◌, subst, arith, add-one, eq-eqb}
use Rattle.std.specs.Prelude.{◌||◌, eqb, not, Option, Some, None}
use borrow.Author.Count.{below_more}
use Rattle.std.proofs.Math.Seq.{drop-cons}
use Rattle.std.proofs.lemmas.List.{drop_all}
use Rattle.std.proofs.lemmas.Bool.Decides.{nat_tests}
use Rattle.calculus.specs.Tree.{Tree, par}
use Rattle.calculus.specs.Shape.{leaf}
use Rattle.calculus.specs.Matching.{is_empty}
use Rattle.free_places.specs.Places.{AreUsed, IsNextFree, NextFree, has, left_from}

pub left-taken : (us : List ℕ) (i : ℕ) (t : Tree) (ts : List Tree) → has us i ≡ true → left_from i us (t ∷ ts) ≡ left_from (suc i) us ts
left-taken us i t ts h = ap (λ b. cond b (left_from (suc i) us ts) (t ∷ left_from (suc i) us ts)) h

pub left-free : (us : List ℕ) (i : ℕ) (t : Tree) (ts : List Tree) → has us i ≡ false → left_from i us (t ∷ ts) ≡ t ∷ left_from (suc i) us ts
left-free us i t ts h = ap (λ b. cond b (left_from (suc i) us ts) (t ∷ left_from (suc i) us ts)) h

-- from whether a number is free
pub is-used : (b : Bool) → false ≡ not b → b ≡ true
is-used true h = refl
is-used false h = cc

pub is-free : (b : Bool) → true ≡ not b → b ≡ false
is-free true h = cc
is-free false h = refl

-- numbers, one after another
pub free-hit : (us : List ℕ) (i j : ℕ) → i < length us → get_or us i 0 ≡ j → has us j ≡ has (drop i us) j → has us j ≡ true
free-hit us i j l q k =
    k ∙ ap (λ vs. has vs j) (drop-cons us i 0 l) ∙ ap (λ v. eqb v j || has (drop (suc i) us) j) q ∙ ap (λ b. b || has (drop (suc i) us) j) (eq-eqb j j refl)

unequal : (m n : ℕ) → (m ≡ n → ⊥) → eqb m n ≡ false
unequal m n h = grind (arith, nat_tests)

pub free-miss : (us : List ℕ) (i j : ℕ) → i < length us → (get_or us i 0 ≡ j → ⊥) → has us j ≡ has (drop i us) j → has us j ≡ has (drop (i + 1) us) j
free-miss us i j l q k =
    let h = k ∙ ap (λ vs. has vs j) (drop-cons us i 0 l) ∙ ap (λ b. b || has (drop (suc i) us) j) (unequal (get_or us i 0) j q) in
    rw (add-one) h

pub free-end : (us : List ℕ) (i j : ℕ) → length us ≤ i → has us j ≡ has (drop i us) j → has us j ≡ false
free-end us i j l k = k ∙ ap (λ vs. has vs j) (drop_all i us l)

-- whether all of n targets are used
abbrev pub Spent : List ℕ → ℕ → ℕ → Type 0
Spent us n j = (ts : List Tree) → length ts ≡ n → is_empty (left_from 0 us ts) ≡ is_empty (left_from j us (drop j ts))

pub spent-next : (us : List ℕ) (n j : ℕ) → j < n → has us j ≡ true → Spent us n j → Spent us n (j + 1)
spent-next us n j l h k ts e =
    let q = k ts e ∙ ap (λ vs. is_empty (left_from j us vs)) (drop-cons ts j (leaf par) (omega arith)) ∙ ap is_empty (left-taken us j (get_or ts j (leaf par)) (drop (suc j) ts) h) in
    rw (add-one) q

pub spent-not : (us : List ℕ) (n j : ℕ) → j < n → has us j ≡ false → Spent us n j → (ts : List Tree) → length ts ≡ n → false ≡ is_empty (left_from 0 us ts)
spent-not us n j l h k ts e =
    sym (k ts e ∙ ap (λ vs. is_empty (left_from j us vs)) (drop-cons ts j (leaf par) (omega arith)) ∙ ap is_empty (left-free us j (get_or ts j (leaf par)) (drop (suc j) ts) h))

pub spent-end : (us : List ℕ) (n j : ℕ) → n ≤ j → Spent us n j → (ts : List Tree) → length ts ≡ n → true ≡ is_empty (left_from 0 us ts)
spent-end us n j l k ts e = sym (k ts e ∙ ap (λ vs. is_empty (left_from j us vs)) (drop_all j ts (omega arith)))

-- numbers that are used, up to one
pub none-used : (us : List ℕ) (i : ℕ) → AreUsed us i i
none-used us i k l m = absurd (omega arith)

pub used-next : (us : List ℕ) (i j : ℕ) → has us j ≡ true → AreUsed us i j → AreUsed us i (j + 1)
used-next us i j h a = below_more (λ k. i ≤ k → has us k ≡ true) j a (λ m. h)

pub used-up_to : (us : List ℕ) (i j n : ℕ) → n ≤ j → AreUsed us i j → AreUsed us i n
used-up_to us i j n l a k m = a k (omega arith)

-- what an answer says where it is known
module _ (us : List ℕ) (i n : ℕ) where
  pub next-of : (o : Option ℕ) (j : ℕ) → o ≡ Some j → IsNextFree us i n o → NextFree us i n j
  next-of o j e h = subst (λ (p : Option ℕ). IsNextFree us i n p) e h

  pub none-of : (o : Option ℕ) → ((j : ℕ) → o ≡ Some j → ⊥) → IsNextFree us i n o → AreUsed us i n
  none-of None f h = h
  none-of (Some j) f h = absurd (f j refl)
