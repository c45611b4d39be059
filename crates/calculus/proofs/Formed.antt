-- Trees of a sort whose labels have a property, and the lengths of their codes.
use Rattle.std.proofs.Common.{◌≡◌, ℕ, ◌<◌, ◌≤◌, ◌+◌, [], ◌∷◌, length, ap, ◌∙◌, arith, length-append, inl, inr, ⊎_elim}
use Rattle.std.specs.Prelude.{⊤, ◌⊎◌}
use Rattle.calculus.specs.Tree.{Label, par, pair, bind, case, rest, pattern, row, Tree, node, Trees, none, also}
use Rattle.calculus.specs.Bytes.{joined}
use Rattle.calculus.specs.Shape.{count}
use Rattle.calculus.specs.Congruence.{is_bag}
use Rattle.calculus.specs.Code.{head, arranged, code, codes}
use Rattle.calculus.specs.Form.{Sort, term, part, a_bind, a_case, a_rest, pat, name_pat, pat_part, name_part, row_of, pair_of, Kids, all, these, no_form, kids}
pub use Rattle.calculus.specs.Formed.{Formed, Holds}
use Rattle.calculus.proofs.Heads.{lead, tail, head-parts}
use Rattle.calculus.proofs.Known.{IsForm, known}
use Rattle.calculus.proofs.Tails.{length-be32}
use Rattle.calculus.proofs.Sorting.{total-arranged}

pub is_form : (P : Label → Type 0) (p : Kids) (ts : Trees) → Holds P p ts → IsForm p
is_form P (all s) ts h = tt
is_form P (these ss) ts h = tt
is_form P no_form ts h = absurd h

module _ (P Q : Label → Type 0) (f : (l : Label) → P l → Q l) where
  mutual
    pub Formed-map : (s : Sort) (t : Tree) → Formed P s t → Formed Q s t
    Formed-map s (node l ts) h = (f l h.0, Holds-map (kids s l 0) ts h.1)

    Holds-map : (p : Kids) (ts : Trees) → Holds P p ts → Holds Q p ts
    Holds-map (all s) none h = tt
    Holds-map (all s) (also t ts) h = (Formed-map s t h.0, Holds-map (all s) ts h.1)
    Holds-map (these []) none h = tt
    Holds-map (these []) (also t ts) h = absurd h
    Holds-map (these (s ∷ ss)) none h = absurd h
    Holds-map (these (s ∷ ss)) (also t ts) h = (Formed-map s t h.0, Holds-map (these ss) ts h.1)
    Holds-map no_form ts h = absurd h

-- it holds at least one constituent
IsFull : Kids → Type 0
IsFull (these (s ∷ ss)) = ⊤
IsFull _ = ⊥

own-byte : (s : Sort) (l : Label) (n : ℕ) → length (lead l) ≡ 1 → (0 < length (head l n)) ⊎ IsFull (kids s l 0)
own-byte s l n e = inl (omega (arith, ap length (head-parts l n), length-append (lead l) (tail l n)))

-- a form has a head or constituents
solid : (s : Sort) (l : Label) (n : ℕ) → IsForm (kids s l 0) → (0 < length (head l n)) ⊎ IsFull (kids s l 0)
unfolding IsFull
solid part l n h = own-byte part l n (known part l 0 h).1
solid pat_part l n h = own-byte pat_part l n (known pat_part l 0 h).1
solid name_part l n h = own-byte name_part l n (known name_part l 0 h).1
solid term par n h = inl (omega (arith, length-be32 n))
solid term _ n h = absurd h
solid a_bind bind n h = inr tt
solid a_bind _ n h = absurd h
solid a_case case n h = inr tt
solid a_case _ n h = absurd h
solid a_rest (rest x) n h = inl (omega arith)
solid a_rest _ n h = absurd h
solid pat pattern n h = inl (omega (arith, length-be32 n))
solid pat _ n h = absurd h
solid name_pat pattern n h = inl (omega (arith, length-be32 n))
solid name_pat _ n h = absurd h
solid (row_of s) row n h = inl (omega (arith, length-be32 n))
solid (row_of s) _ n h = absurd h
solid (pair_of s) pair n h = inr tt
solid (pair_of s) _ n h = absurd h

-- the length of a code: its head's, and its constituents'
pub length-code : (l : Label) (ts : Trees) → length (code (node l ts)) ≡ length (head l (count ts)) + length (joined (codes ts))
length-code l ts =
    length-append (head l (count ts)) (joined (arranged (is_bag l) (codes ts))) ∙ ap (λ n. length (head l (count ts)) + n) (total-arranged (is_bag l) (codes ts))

module _ (P : Label → Type 0) where
  mutual
    unfolding IsFull

    pub some-code : (s : Sort) (t : Tree) → Formed P s t → 0 < length (code t)
    some-code s (node l ts) h =
        let p = kids s l 0 in
        ⊎_elim (λ (a : 0 < length (head l (count ts))). omega (arith, length-code l ts)) (λ (a : IsFull p). omega (arith, length-code l ts, some-joined p ts h.1 a)) (solid s l (count ts) (is_form P p ts h.1))

    some-joined : (p : Kids) (ts : Trees) → Holds P p ts → IsFull p → 0 < length (joined (codes ts))
    some-joined (all s) ts h f = absurd f
    some-joined no_form ts h f = absurd f
    some-joined (these []) ts h f = absurd f
    some-joined (these (s ∷ ss)) none h f = absurd h
    some-joined (these (s ∷ ss)) (also t ts) h f = omega (arith, length-append (code t) (joined (codes ts)), some-code s t h.0)

  pub count-le : (p : Kids) (ts : Trees) → Holds P p ts → count ts ≤ length (joined (codes ts))
  count-le (all s) none h = omega arith
  count-le (all s) (also t ts) h = omega (arith, some-code s t h.0, count-le (all s) ts h.1, length-append (code t) (joined (codes ts)))
  count-le (these []) none h = omega arith
  count-le (these []) (also t ts) h = absurd h
  count-le (these (s ∷ ss)) none h = absurd h
  count-le (these (s ∷ ss)) (also t ts) h = omega (arith, some-code s t h.0, count-le (these ss) ts h.1, length-append (code t) (joined (codes ts)))
  count-le no_form ts h = absurd h
