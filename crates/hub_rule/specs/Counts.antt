-- Lists of numbered things, and sums over lists.
use Rattle.std.specs.Prelude.{◌≡◌, ℕ, ◌+◌, Bool, true, false, List, [], ◌∷◌, ◌++◌, ◌==◌, nat_lt, set, Option, Some, slice_get}

-- 1 for true, 0 for false
abbrev pub one_if : Bool → ℕ
one_if true = 1
one_if false = 0

-- how many have the number k
abbrev pub count : {A : Type 0} → ℕ → List (ℕ × A) → ℕ
count k [] = 0
count k (p ∷ ps) = one_if (p.0 == k) + count k ps

-- f of each, added up
abbrev pub total : {A : Type 0} → (A → ℕ) → List A → ℕ
total f [] = 0
total f (x ∷ xs) = f x + total f xs

-- 1 where n is below the bound, else 0
abbrev pub once_below : ℕ → ℕ → ℕ
once_below n bound = one_if (nat_lt n bound)

-- P holds of each number and thing
abbrev pub Each : {A : Type 0} → (ℕ → A → Type 0) → List (ℕ × A) → Type 0
Each P [] = Unit {0}
Each P (p ∷ ps) = P p.0 p.1 × Each P ps

-- the lists of all, one after another
abbrev pub all_of : {A B : Type 0} → (A → List B) → List A → List B
all_of f [] = []
all_of f (x ∷ xs) = f x ++ all_of f xs

-- each thing is put at its number
abbrev pub placed : {A : Type 0} → List (Option A) → List (ℕ × A) → List (Option A)
placed rows [] = rows
placed rows (p ∷ ps) = placed (set rows p.0 (Some p.1)) ps

-- the item at place k of the list is the projection of the store to k
abbrev pub Projected : {Store X : Type 0} → (Store → ℕ → X → Type 0) → Store → List X → Type 0
Projected {X = X} projects store xs = (k : ℕ) (x : X) → slice_get xs k ≡ Some x → projects store k x

-- the things without their numbers
abbrev pub things_of : {A : Type 0} → List (ℕ × A) → List A
things_of [] = []
things_of (p ∷ ps) = p.1 ∷ things_of ps

-- numbered from the base on
abbrev pub numbered : {A : Type 0} → ℕ → List A → List (ℕ × A)
numbered base [] = []
numbered base (x ∷ xs) = (base, x) ∷ numbered (base + 1) xs

-- each thing stands at its number in the list
abbrev pub StandIn : {A : Type 0} → List A → List (ℕ × A) → Type 0
StandIn xs ps = Each (λ n x. slice_get xs n ≡ Some x) ps

-- each number below the bound stands once, and no other
abbrev pub EachOnceBelow : {A : Type 0} → ℕ → List (ℕ × A) → Type 0
EachOnceBelow bound ps = (n : ℕ) → count n ps ≡ once_below n bound
