-- What is left of a process: it is closed, short and in order, as the process is.
use Rattle.std.proofs.Common.{◌≡◌, ℕ, suc, ◌+◌, ◌≤◌, Bool, true, false, cond, List, [], ◌∷◌, length, map as each, refl, sym, ap, ◌∙◌, subst, arith, length-append}
use Rattle.std.specs.Prelude.{eqb}
use Rattle.std.proofs.lemmas.Bool.{eqb-true}
use Rattle.calculus.specs.Tree.{Tree, node, trees, par}
use Rattle.calculus.specs.Bytes.{joined}
use Rattle.calculus.specs.Shape.{process, held}
use Rattle.calculus.specs.Order.{up_to, IsAscending, IsBelowFirst}
use Rattle.calculus.specs.Code.{code, codes}
use Rattle.calculus.specs.CodeLaws.{IsShort}
use Rattle.calculus.specs.Form.{term, part, all, Hold, Fits}
use Rattle.calculus.specs.Normal.{placed_by, by_code, ascending}
use Rattle.calculus.proofs.Formed.{length-code}
use Rattle.calculus.proofs.Tails.{length-be32}
use Rattle.calculus.proofs.Ordered.{up_to_trans}
use Rattle.calculus.proofs.Placing.{listed-trees, trees-listed}
use Rattle.match_targets.specs.Targets.{Ready, remaining}
use Rattle.free_places.specs.Places.{has, left_from}

on_cond : (b : Bool) (P : List Tree → Type 0) (xs ys : List Tree) → P xs → P ys → P (cond b xs ys)
on_cond true P xs ys f g = f
on_cond false P xs ys f g = g

-- where nothing is used, all is left
pub left-all : (i : ℕ) (ts : List Tree) → left_from i [] ts ≡ ts
left-all i [] = refl
left-all i (t ∷ ts) = ap (λ us. t ∷ us) (left-all (suc i) ts)

left-hold : (i : ℕ) (us : List ℕ) (ts : List Tree) → Hold (all part) [] [] (trees ts) → Hold (all part) [] [] (trees (left_from i us ts))
left-hold i us [] h = tt
left-hold i us (t ∷ ts) h =
    let P : List Tree → Type 0 = λ vs. Hold (all part) [] [] (trees vs) in
    let k = left-hold (suc i) us ts h.1 in
    on_cond (has us i) P (left_from (suc i) us ts) (t ∷ left_from (suc i) us ts) k (h.0, k)

-- the bytes of the codes of these trees
abbrev bytes_of : List Tree → ℕ
bytes_of ts = length (joined (codes (trees ts)))

bytes-cons : (t : Tree) (ts : List Tree) → bytes_of (t ∷ ts) ≡ length (code t) + bytes_of ts
bytes-cons t ts = length-append (code t) (joined (codes (trees ts)))

left-bytes : (i : ℕ) (us : List ℕ) (ts : List Tree) → bytes_of (left_from i us ts) ≤ bytes_of ts
left-bytes i us [] = omega arith
left-bytes i us (t ∷ ts) =
    let P : List Tree → Type 0 = λ vs. bytes_of vs ≤ bytes_of (t ∷ ts) in
    let k = left-bytes (suc i) us ts in
    on_cond (has us i) P (left_from (suc i) us ts) (t ∷ left_from (suc i) us ts)
    (omega (arith, bytes-cons t ts, k)) (omega (arith, bytes-cons t ts, bytes-cons t (left_from (suc i) us ts), k))

left-short : (us : List ℕ) (ts : List Tree) → IsShort (process ts) → IsShort (process (left_from 0 us ts))
left-short us ts h =
    omega (arith, length-code par (trees ts), length-code par (trees (left_from 0 us ts)), left-bytes 0 us ts, length-be32)

-- a process of such parts
pub left-ready : (us : List ℕ) (ts : List Tree) → Ready term (process ts) → Ready term (process (left_from 0 us ts))
left-ready us ts h = record { closed = (tt, left-hold 0 us ts h.closed.1); short = left-short us ts h.short }

below-through : (c d : List ℕ) (cs : List (List ℕ)) → up_to c d ≡ true → IsBelowFirst d cs → IsBelowFirst c cs
below-through c d [] e h = tt
below-through c d (b ∷ cs) e h = up_to_trans c d b e h

left-below : (c : List ℕ) (i : ℕ) (us : List ℕ) (ts : List Tree) → IsAscending (codes (trees ts)) → IsBelowFirst c (codes (trees ts)) → IsBelowFirst c (codes (trees (left_from i us ts)))
left-below c i us [] h k = tt
left-below c i us (t ∷ ts) h k =
    let P : List Tree → Type 0 = λ vs. IsBelowFirst c (codes (trees vs)) in
    on_cond (has us i) P (left_from (suc i) us ts) (t ∷ left_from (suc i) us ts)
    (left-below c (suc i) us ts h.1 (below-through c (code t) (codes (trees ts)) k h.0)) k

-- what is left ascends
pub left-ascends : (i : ℕ) (us : List ℕ) (ts : List Tree) → IsAscending (codes (trees ts)) → IsAscending (codes (trees (left_from i us ts)))
left-ascends i us [] h = tt
left-ascends i us (t ∷ ts) h =
    let P : List Tree → Type 0 = λ vs. IsAscending (codes (trees vs)) in
    let k = left-ascends (suc i) us ts h.1 in
    on_cond (has us i) P (left_from (suc i) us ts) (t ∷ left_from (suc i) us ts) k (left-below (code t) (suc i) us ts h.1 h.0, k)

by_code-same : {A : Type 0} (xs : List (List ℕ × A)) → IsAscending (each (λ p. p.0) xs) → by_code xs ≡ xs
unfolding by_code placed_by
by_code-same [] h = refl
by_code-same (x ∷ []) h = refl
by_code-same (x ∷ y ∷ ys) h =
    ap (placed_by x) (by_code-same (y ∷ ys) h.1) ∙ ap (λ b. cond b (x ∷ y ∷ ys) (y ∷ placed_by x ys)) h.0

codes-beside : (ts : List Tree) → each (λ (p : List ℕ × Tree). p.0) (each (λ t. (code t, t)) ts) ≡ codes (trees ts)
codes-beside [] = refl
codes-beside (t ∷ ts) = ap (λ cs. code t ∷ cs) (codes-beside ts)

without-codes : (ts : List Tree) → each (λ (p : List ℕ × Tree). p.1) (each (λ t. (code t, t)) ts) ≡ ts
without-codes [] = refl
without-codes (t ∷ ts) = ap (λ us. t ∷ us) (without-codes ts)

-- trees whose codes ascend are in order
pub ascending-same : (ts : List Tree) → IsAscending (codes (trees ts)) → ascending ts ≡ ts
unfolding ascending
ascending-same ts h =
    ap (each (λ (p : List ℕ × Tree). p.1)) (by_code-same (each (λ t. (code t, t)) ts) (subst IsAscending (sym (codes-beside ts)) h)) ∙ without-codes ts

pub held-process : (ts : List Tree) → held (process ts) ≡ ts
held-process ts = listed-trees ts

-- the parts of what is left
pub held-remaining : (us : List ℕ) (t : Tree) → held (remaining us t) ≡ left_from 0 us (held t)
held-remaining us t = listed-trees (left_from 0 us (held t))

closed-process : (t : Tree) → Fits term [] t → t ≡ process (held t)
closed-process (node par ts) h = ap (λ us. node par us) (sym (trees-listed ts))
closed-process (node _ ts) h = absurd h.1

-- where nothing is used, the whole process is left
pub remaining-all : (t : Tree) → Ready term t → remaining [] t ≡ t
remaining-all t h = ap process (left-all 0 (held t)) ∙ sym (closed-process t h.closed)

pub remaining-ready : (us : List ℕ) (t : Tree) → Ready term t → Ready term (remaining us t)
remaining-ready us t h = left-ready us (held t) (subst (Ready term) (closed-process t h.closed) h)

pub whole-ready : (t : Tree) → Ready term t → Ready term (process (held t))
whole-ready t h = subst (Ready term) (closed-process t h.closed) h

pub no-items : (us : List ℕ) → eqb (length us) 0 ≡ true → us ≡ []
no-items [] h = refl
no-items (u ∷ us) h = let e = eqb-true (length (u ∷ us)) 0 h in absurd (omega arith)
