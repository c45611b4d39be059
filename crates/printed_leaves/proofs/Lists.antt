-- Lists that are printed member by member.
use Rattle.std.proofs.Common.{◌≡◌, ℕ, zero, suc, ◌+◌, ◌<◌, ◌≤◌, Bool, cond, List, [], ◌∷◌, ◌++◌, length, map, drop, get_or, refl, sym, ap, ◌∙◌, subst, arith, append_assoc, append-nil, length-append, add-one}
use Rattle.std.proofs.lemmas.Bool.{ne_eqb}
use Rattle.calculus.specs.Tree.{Tree, trees}
use Rattle.calculus.specs.Variables.{bound, bound_all}
use Rattle.calculus.specs.Form.{Sort, all}
use Rattle.calculus.specs.Printed.{separated}
use Rattle.calculus.proofs.Formed.{Formed, Holds}
use Rattle.calculus.proofs.Tails.{IsFine}
use Rattle.printed_leaves.specs.Words.{before}
use Rattle.printed_leaves.specs.Texts.{chain, separated_from, GoesOn}

-- the members from number i on are left
abbrev pub StillWrites : (Tree → ℕ → List ℕ) → Sort → List ℕ → List Tree → ℕ → List ℕ → List ℕ → Type 0
StillWrites f a mark ts i out start = Holds IsFine (all a) (trees ts) → (n : ℕ) → ((m : ℕ) × (out ++ separated_from i mark (chain f (drop i ts) m) ≡ start ++ separated mark (chain f ts n)))

-- the same where the next variable has this number, which counts the `d` variables in scope too
abbrev pub StillFrom : (Tree → ℕ → List ℕ) → Sort → List ℕ → List Tree → ℕ → ℕ → List ℕ → ℕ → ℕ → List ℕ → Type 0
StillFrom f a mark ts i m out d n start = d ≤ n → Holds IsFine (all a) (trees ts)
    → (d ≤ m) × (out ++ separated_from i mark (chain f (drop i ts) m) ≡ start ++ separated mark (chain f ts n)) × (m + length (bound_all (trees (drop i ts))) ≡ n + length (bound_all (trees ts)))

-- a mark stands before each text but the first
pub before_some : (i : ℕ) (mark : List ℕ) → before (suc i) mark ≡ mark
before_some i mark = ap (λ (b : Bool). cond b [] mark) (ne_eqb (suc i) 0 (λ e. omega (arith, e)))

separated_later : (mark : List ℕ) (i : ℕ) (x : List ℕ) (xs : List (List ℕ)) → separated_from (suc i) mark (x ∷ xs) ≡ mark ++ separated mark (x ∷ xs)
separated_later mark i x [] = ap (λ (m : List ℕ). m ++ (x ++ [])) (before_some i mark) ∙ ap (λ (y : List ℕ). mark ++ y) (append-nil x)
separated_later mark i x (y ∷ ys) = ap (λ (m : List ℕ). m ++ (x ++ separated_from (suc (suc i)) mark (y ∷ ys))) (before_some i mark) ∙ ap (λ (z : List ℕ). mark ++ (x ++ z)) (separated_later mark (suc i) y ys)

pub separated_zero : (mark : List ℕ) (xs : List (List ℕ)) → separated_from 0 mark xs ≡ separated mark xs
separated_zero mark [] = refl
separated_zero mark (x ∷ []) = append-nil x
separated_zero mark (x ∷ y ∷ ys) = ap (λ (z : List ℕ). x ++ z) (separated_later mark 0 y ys)

pub holds_from : (s : Sort) (ts : List Tree) (i : ℕ) → Holds IsFine (all s) (trees ts) → Holds IsFine (all s) (trees (drop i ts))
holds_from s ts zero h = h
holds_from s [] (suc i) h = h
holds_from s (t ∷ ts) (suc i) h = holds_from s ts i h.1

holds_at : (s : Sort) (ts us : List Tree) (i : ℕ) (t : Tree) → drop i ts ≡ t ∷ us → Holds IsFine (all s) (trees ts) → Formed IsFine s t
holds_at s ts us i t e h = (subst (λ (xs : List Tree). Holds IsFine (all s) (trees xs)) e (holds_from s ts i h)).0

-- member number i stands first among those from i on
pub taken_at : (ts : List Tree) (i : ℕ) (t : Tree) → i < length ts → t ≡ get_or ts i t → drop i ts ≡ t ∷ drop (suc i) ts
taken_at [] i t l e = absurd (omega arith)
taken_at (u ∷ ts) zero t l e = ap (λ (x : Tree). x ∷ ts) (sym e)
taken_at (u ∷ ts) (suc i) t l e = taken_at ts i t (omega arith) e

pub taken_of : {A : Type 0} (g : A → Tree) (xs : List A) (i : ℕ) (x : A) → i < length xs → x ≡ get_or xs i x → drop i (map g xs) ≡ g x ∷ drop (suc i) (map g xs)
taken_of g [] i x l e = absurd (omega arith)
taken_of g (y ∷ xs) zero x l e = ap (λ (z : Tree). z ∷ map g xs) (ap g (sym e))
taken_of g (y ∷ xs) (suc i) x l e = taken_of g xs i x (omega arith) e

pub none_left : {A : Type 0} (xs : List A) (i : ℕ) → length xs ≤ i → drop i xs ≡ []
none_left [] zero l = refl
none_left [] (suc i) l = refl
none_left (x ∷ xs) zero l = absurd (omega arith)
none_left (x ∷ xs) (suc i) l = none_left xs i (omega arith)

pub none_left_of : {A : Type 0} (g : A → Tree) (xs : List A) (i : ℕ) → length xs ≤ i → drop i (map g xs) ≡ []
none_left_of g [] zero l = refl
none_left_of g [] (suc i) l = refl
none_left_of g (x ∷ xs) zero l = absurd (omega arith)
none_left_of g (x ∷ xs) (suc i) l = none_left_of g xs i (omega arith)

-- one more member is written, after its mark
one_more : (f : Tree → ℕ → List ℕ) (mark : List ℕ) (ts us : List Tree) (i m : ℕ) (t : Tree) (out mid new whole : List ℕ)
    → ts ≡ t ∷ us → mid ≡ out ++ before i mark → new ≡ mid ++ f t m
    → out ++ separated_from i mark (chain f ts m) ≡ whole → new ++ separated_from (suc i) mark (chain f us (m + length (bound t))) ≡ whole
one_more f mark ts us i m t out mid new whole e p q h =
    let rest = separated_from (suc i) mark (chain f us (m + length (bound t))) in
    ap (λ (x : List ℕ). x ++ rest) (q ∙ ap (λ (x : List ℕ). x ++ f t m) p)
    ∙ append_assoc (out ++ before i mark) (f t m) rest ∙ append_assoc out (before i mark) (f t m ++ rest)
    ∙ ap (λ (xs : List Tree). out ++ separated_from i mark (chain f xs m)) (sym e) ∙ h

pub at_start : (f : Tree → ℕ → List ℕ) (a : Sort) (mark : List ℕ) (ts : List Tree) (out : List ℕ) → StillWrites f a mark ts 0 out out
at_start f a mark ts out h n = (n, ap (λ (x : List ℕ). out ++ x) (separated_zero mark (chain f ts n)))

pub goes_on : (f : Tree → ℕ → List ℕ) (a : Sort) (mark : List ℕ) (ts : List Tree) (i : ℕ) (t : Tree) (out mid new start : List ℕ)
    → StillWrites f a mark ts i out start → drop i ts ≡ t ∷ drop (suc i) ts → mid ≡ out ++ before i mark → (Formed IsFine a t → (n : ℕ) → new ≡ mid ++ f t n)
    → StillWrites f a mark ts (i + 1) new start
goes_on f a mark ts i t out mid new start w e p q h n =
    let k = w h n in
    rw (add-one i) (k.0 + length (bound t), one_more f mark (drop i ts) (drop (suc i) ts) i k.0 t out mid new (start ++ separated mark (chain f ts n)) e p (q (holds_at a ts (drop (suc i) ts) i t e h) k.0) k.1)

at_last : (f : Tree → ℕ → List ℕ) (mark : List ℕ) (us : List Tree) (i m : ℕ) (out whole : List ℕ) → us ≡ [] → out ++ separated_from i mark (chain f us m) ≡ whole → out ≡ whole
at_last f mark us i m out whole e h = sym (append-nil out) ∙ ap (λ (xs : List Tree). out ++ separated_from i mark (chain f xs m)) (sym e) ∙ h

pub at_end : (f : Tree → ℕ → List ℕ) (a : Sort) (mark : List ℕ) (ts : List Tree) (i : ℕ) (out start : List ℕ)
    → StillWrites f a mark ts i out start → drop i ts ≡ [] → Holds IsFine (all a) (trees ts) → (n : ℕ) → out ≡ start ++ separated mark (chain f ts n)
at_end f a mark ts i out start w e h n =
    let k = w h n in
    at_last f mark (drop i ts) i k.0 out (start ++ separated mark (chain f ts n)) e k.1

pub at_start_from : (f : Tree → ℕ → List ℕ) (a : Sort) (mark : List ℕ) (ts : List Tree) (d n : ℕ) (out : List ℕ) → StillFrom f a mark ts 0 n out d n out
at_start_from f a mark ts d n out l h = (l, ap (λ (x : List ℕ). out ++ x) (separated_zero mark (chain f ts n)), refl)

bound_more : (t : Tree) (us vs : List Tree) (m k whole : ℕ) → vs ≡ t ∷ us → k ≡ m + length (bound t) → m + length (bound_all (trees vs)) ≡ whole → k + length (bound_all (trees us)) ≡ whole
bound_more t us vs m k whole e p h =
    let q : m + length (bound_all (trees (t ∷ us))) ≡ whole = ap (λ (xs : List Tree). m + length (bound_all (trees xs))) (sym e) ∙ h in
    omega (arith, q, p, length-append (bound t) (bound_all (trees us)))

pub goes_on_from : (f : Tree → ℕ → List ℕ) (a : Sort) (mark : List ℕ) (ts : List Tree) (i m k d n : ℕ) (t : Tree) (out mid new start : List ℕ)
    → StillFrom f a mark ts i m out d n start → drop i ts ≡ t ∷ drop (suc i) ts → mid ≡ out ++ before i mark
    → GoesOn (Formed IsFine a t) d m (f t m) (length (bound t)) k mid new
    → StillFrom f a mark ts (i + 1) k new d n start
goes_on_from f a mark ts i m k d n t out mid new start w e p q l h =
    let us = drop (suc i) ts in
    let v = w l h in
    let g = q v.0 (holds_at a ts us i t e h) in
    let whole = start ++ separated mark (chain f ts n) in
    let more = one_more f mark (drop i ts) us i m t out mid new whole e p g.0 v.1 in
    let above : d ≤ k = omega (arith, v.0, g.1) in
    rw (add-one i) (
      above,
      subst (λ (j : ℕ). new ++ separated_from (suc i) mark (chain f us j) ≡ whole) (sym g.1) more,
      bound_more t us (drop i ts) m k (n + length (bound_all (trees ts))) e g.1 v.2,
    )

pub at_end_from : (f : Tree → ℕ → List ℕ) (a : Sort) (mark : List ℕ) (ts : List Tree) (i m d n : ℕ) (out start : List ℕ)
    → StillFrom f a mark ts i m out d n start → drop i ts ≡ []
    → GoesOn (Holds IsFine (all a) (trees ts)) d n (separated mark (chain f ts n)) (length (bound_all (trees ts))) m start out
at_end_from f a mark ts i m d n out start w e l h =
    let k = w l h in
    let z : length (bound_all (trees (drop i ts))) ≡ 0 = ap (λ (xs : List Tree). length (bound_all (trees xs))) e in
    (at_last f mark (drop i ts) i m out (start ++ separated mark (chain f ts n)) e k.1, omega (arith, k.2, z))
