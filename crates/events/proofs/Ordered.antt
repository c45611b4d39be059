-- Trees in ascending order: those with an empty code stand first.
use Rattle.std.proofs.Common.{◌≡◌, ℕ, ◌+◌, Bool, true, false, cond, List, [], ◌∷◌, map as each, length, refl, ap, ◌∙◌, arith, inl, inr}
use Rattle.std.specs.Prelude.{⊤, ◌⊎◌}
use Rattle.calculus.proofs.Members.{Every}
use Rattle.calculus.specs.Tree.{Tree, Trees, none, also}
use Rattle.calculus.specs.Shape.{listed}
use Rattle.calculus.specs.Order.{up_to, placed, sorted}
use Rattle.calculus.specs.Code.{code, codes}
use Rattle.calculus.specs.Normal.{placed_by, by_code, ascending}
use Rattle.calculus.proofs.Sorting.{by_place}
use Rattle.events.specs.Numbers.{one_if_full, full_codes, IsNumberable, AreNumberable}

-- a list that is not empty
abbrev pub IsFull : List ℕ → Type 0
IsFull [] = ⊥
IsFull (x ∷ xs) = ⊤

-- lists of which the empty ones stand first
abbrev pub EmptiesFirst : List (List ℕ) → Type 0
EmptiesFirst [] = ⊤
EmptiesFirst (c ∷ cs) = ((c ≡ []) × EmptiesFirst cs) ⊎ Every IsFull (c ∷ cs)

every-placed : (P : List ℕ → Type 0) (x : List ℕ) (ys : List (List ℕ)) → P x → Every P ys → Every P (placed x ys)
unfolding placed
every-placed P x [] h k = (h, tt)
every-placed P x (y ∷ ys) h k = by_place x y ys (Every P) (h, k) (k.0, every-placed P x ys h k.1)

full-one : (c : List ℕ) → IsFull c → one_if_full c ≡ 1
full-one [] h = absurd h
full-one (x ∷ xs) h = refl

-- of full lists all count
pub all-count : (cs : List (List ℕ)) → Every IsFull cs → full_codes cs ≡ length cs
all-count [] h = refl
all-count (c ∷ cs) h = omega (arith, full-one c h.0, all-count cs h.1)

full_codes-placed : (x : List ℕ) (ys : List (List ℕ)) → full_codes (placed x ys) ≡ one_if_full x + full_codes ys
unfolding placed
full_codes-placed x [] = refl
full_codes-placed x (y ∷ ys) = by_place x y ys (λ zs. full_codes zs ≡ one_if_full x + (one_if_full y + full_codes ys)) refl (omega (arith, full_codes-placed x ys))

pub full_codes-sorted : (cs : List (List ℕ)) → full_codes (sorted cs) ≡ full_codes cs
unfolding sorted
full_codes-sorted [] = refl
full_codes-sorted (c ∷ cs) = omega (arith, full_codes-placed c (sorted cs), full_codes-sorted cs)

first-rest : (c : List ℕ) (cs : List (List ℕ)) → EmptiesFirst (c ∷ cs) → c ≡ [] → EmptiesFirst cs
first-rest c cs (inl p) e = p.1
first-rest [] cs (inr p) e = absurd p.0
first-rest (x ∷ xs) cs (inr p) e = cc

all-full : (x : ℕ) (xs : List ℕ) (cs : List (List ℕ)) → EmptiesFirst ((x ∷ xs) ∷ cs) → Every IsFull ((x ∷ xs) ∷ cs)
all-full x xs cs (inl p) = let e : x ∷ xs ≡ [] = p.0 in cc
all-full x xs cs (inr p) = p

placed-first : (x : List ℕ) (ys : List (List ℕ)) → EmptiesFirst ys → EmptiesFirst (placed x ys)
unfolding placed
placed-first [] [] h = inl (refl, tt)
placed-first (a ∷ ds) [] h = inr (tt, tt)
placed-first [] ([] ∷ ys) h = inl (refl, h)
placed-first [] ((b ∷ bs) ∷ ys) h = inl (refl, h)
placed-first (a ∷ ds) ([] ∷ ys) h = inl (refl, placed-first (a ∷ ds) ys (first-rest [] ys h refl))
placed-first (a ∷ ds) ((b ∷ bs) ∷ ys) h =
    let k : Every IsFull ((b ∷ bs) ∷ ys) = all-full b bs ys h in
    by_place (a ∷ ds) (b ∷ bs) ys EmptiesFirst (inr (tt, k)) (inr (tt, every-placed IsFull (a ∷ ds) ys tt k.1))

pub sorted-first : (cs : List (List ℕ)) → EmptiesFirst (sorted cs)
unfolding sorted
sorted-first [] = tt
sorted-first (c ∷ cs) = placed-first c (sorted cs) (sorted-first cs)

-- the codes beside things
abbrev firsts : {A : Type 0} → List (List ℕ × A) → List (List ℕ)
firsts ps = each (λ p. p.0) ps

firsts-placed : {A : Type 0} (x : List ℕ × A) (ps : List (List ℕ × A)) → firsts (placed_by x ps) ≡ placed x.0 (firsts ps)
unfolding placed placed_by
firsts-placed x [] = refl
firsts-placed {A} x (p ∷ ps) =
    elim (up_to x.0 p.0) as (λ (b : Bool). firsts (cond b (x ∷ p ∷ ps) (p ∷ placed_by x ps)) ≡ cond b (x.0 ∷ p.0 ∷ firsts ps) (p.0 ∷ placed x.0 (firsts ps))) [ true ↦ refl | false ↦ ap (λ l. p.0 ∷ l) (firsts-placed x ps) ]

firsts-sorted : {A : Type 0} (ps : List (List ℕ × A)) → firsts (by_code ps) ≡ sorted (firsts ps)
unfolding sorted by_code
firsts-sorted [] = refl
firsts-sorted (p ∷ ps) = firsts-placed p (by_code ps) ∙ ap (placed p.0) (firsts-sorted ps)

every-placed_by : {A : Type 0} (P : List ℕ × A → Type 0) (x : List ℕ × A) (ps : List (List ℕ × A)) → P x → Every P ps → Every P (placed_by x ps)
unfolding placed_by
every-placed_by P x [] h k = (h, tt)
every-placed_by {A} P x (p ∷ ps) h k =
    elim (up_to x.0 p.0) as (λ (b : Bool). Every P (cond b (x ∷ p ∷ ps) (p ∷ placed_by x ps))) [ true ↦ (h, k) | false ↦ (k.0, every-placed_by P x ps h k.1) ]

every-by_code : {A : Type 0} (P : List ℕ × A → Type 0) (ps : List (List ℕ × A)) → Every P ps → Every P (by_code ps)
unfolding by_code
every-by_code P [] h = tt
every-by_code P (p ∷ ps) h = every-placed_by P p (by_code ps) h.0 (every-by_code P ps h.1)

-- a tree beside its code
abbrev Coded : List ℕ × Tree → Type 0
Coded p = p.0 ≡ code p.1

codes-beside : (ps : List (List ℕ × Tree)) → Every Coded ps → each code (each (λ p. p.1) ps) ≡ firsts ps
codes-beside [] h = refl
codes-beside (p ∷ ps) h = cc (h.0, codes-beside ps h.1)

-- trees with their codes
abbrev with_codes : List Tree → List (List ℕ × Tree)
with_codes ts = each (λ t. (code t, t)) ts

all-coded : (ts : List Tree) → Every Coded (with_codes ts)
all-coded [] = tt
all-coded (t ∷ ts) = (refl, all-coded ts)

firsts-codes : (ts : List Tree) → firsts (with_codes ts) ≡ each code ts
firsts-codes [] = refl
firsts-codes (t ∷ ts) = ap (λ l. code t ∷ l) (firsts-codes ts)

pub codes-ascending : (ts : List Tree) → each code (ascending ts) ≡ sorted (each code ts)
unfolding ascending
codes-ascending ts = codes-beside (by_code (with_codes ts)) (every-by_code Coded (with_codes ts) (all-coded ts)) ∙ firsts-sorted (with_codes ts) ∙ ap sorted (firsts-codes ts)

seconds : {A : Type 0} (P : A → Type 0) (ps : List (List ℕ × A)) → Every (λ p. P p.1) ps → Every P (each (λ p. p.1) ps)
seconds P [] h = tt
seconds P (p ∷ ps) h = (h.0, seconds P ps h.1)

beside : (P : Tree → Type 0) (ts : List Tree) → Every P ts → Every (λ p. P p.1) (with_codes ts)
beside P [] h = tt
beside P (t ∷ ts) h = (h.0, beside P ts h.1)

pub every-ascending : (P : Tree → Type 0) (ts : List Tree) → Every P ts → Every P (ascending ts)
unfolding ascending
every-ascending P ts h = seconds P (by_code (with_codes ts)) (every-by_code (λ p. P p.1) (with_codes ts) (beside P ts h))

pub codes-listed : (ts : Trees) → each code (listed ts) ≡ codes ts
codes-listed none = refl
codes-listed (also t ts) = ap (λ l. code t ∷ l) (codes-listed ts)

pub numberable-every : (ts : Trees) → AreNumberable ts → Every IsNumberable (listed ts)
numberable-every none h = tt
numberable-every (also t ts) h = (h.0, numberable-every ts h.1)
