-- Lists of bytes in ascending order: what they hold, and how long they are.
use Rattle.std.proofs.Common.{◌≡◌, ℕ, suc, ◌+◌, Bool, true, false, cond, List, [], ◌∷◌, length, refl, sym, ap, ◌∙◌, arith, length-append}
use Rattle.std.specs.Prelude.{⊤}
use Rattle.calculus.specs.Bytes.{joined}
use Rattle.calculus.specs.Order.{up_to, placed, sorted}
use Rattle.calculus.specs.Code.{arranged}
use Rattle.calculus.specs.CodeLaws.{Splits}
use Rattle.calculus.proofs.Prefixes.{Together}

-- where a list goes among ascending ones: to the front, or further on
pub by_place : (x y : List ℕ) (ys : List (List ℕ)) (P : List (List ℕ) → Type 0) → P (x ∷ y ∷ ys) → P (y ∷ placed x ys) → P (placed x (y ∷ ys))
unfolding placed
by_place x y ys P a b = elim (up_to x y) as (λ (t : Bool). P (cond t (x ∷ y ∷ ys) (y ∷ placed x ys))) [ true ↦ a | false ↦ b ]

-- what holds of each
abbrev pub Each : (List ℕ → Type 0) → List (List ℕ) → Type 0
Each P [] = ⊤
Each P (c ∷ cs) = P c × Each P cs

pub Each-map : (P Q : List ℕ → Type 0) (f : (c : List ℕ) → P c → Q c) (cs : List (List ℕ)) → Each P cs → Each Q cs
Each-map P Q f [] h = tt
Each-map P Q f (c ∷ cs) h = (f c h.0, Each-map P Q f cs h.1)

Each-placed : (P : List ℕ → Type 0) (x : List ℕ) (xs : List (List ℕ)) → P x → Each P xs → Each P (placed x xs)
unfolding placed
Each-placed P x [] h k = (h, tt)
Each-placed P x (y ∷ ys) h k = by_place x y ys (Each P) (h, k) (k.0, Each-placed P x ys h k.1)

Each-sorted : (P : List ℕ → Type 0) (xs : List (List ℕ)) → Each P xs → Each P (sorted xs)
unfolding sorted
Each-sorted P [] h = tt
Each-sorted P (x ∷ xs) h = Each-placed P x (sorted xs) h.0 (Each-sorted P xs h.1)

pub Each-arranged : (b : Bool) (P : List ℕ → Type 0) (xs : List (List ℕ)) → Each P xs → Each P (arranged b xs)
Each-arranged true P xs h = Each-sorted P xs h
Each-arranged false P xs h = h

length-placed : (x : List ℕ) (xs : List (List ℕ)) → length (placed x xs) ≡ suc (length xs)
unfolding placed
length-placed x [] = refl
length-placed x (y ∷ ys) = by_place x y ys (λ zs. length zs ≡ suc (suc (length ys))) refl (ap suc (length-placed x ys))

pub length-sorted : (xs : List (List ℕ)) → length (sorted xs) ≡ length xs
unfolding sorted
length-sorted [] = refl
length-sorted (x ∷ xs) = length-placed x (sorted xs) ∙ ap suc (length-sorted xs)

pub length-arranged : (b : Bool) (xs : List (List ℕ)) → length (arranged b xs) ≡ length xs
length-arranged true xs = length-sorted xs
length-arranged false xs = refl

-- the number of bytes of all of these
abbrev total : List (List ℕ) → ℕ
total xs = length (joined xs)

total-cons : (x : List ℕ) (xs : List (List ℕ)) → total (x ∷ xs) ≡ length x + total xs
total-cons x xs = length-append x (joined xs)

total-placed : (x : List ℕ) (xs : List (List ℕ)) → total (placed x xs) ≡ length x + total xs
unfolding placed
total-placed x [] = total-cons x []
total-placed x (y ∷ ys) =
    by_place x y ys (λ zs. total zs ≡ length x + total (y ∷ ys)) (total-cons x (y ∷ ys))
    (omega (arith, total-cons y (placed x ys), total-cons y ys, total-placed x ys))

total-sorted : (xs : List (List ℕ)) → total (sorted xs) ≡ total xs
unfolding sorted
total-sorted [] = refl
total-sorted (x ∷ xs) = omega (arith, total-placed x (sorted xs), total-sorted xs, total-cons x xs)

pub total-arranged : (b : Bool) (xs : List (List ℕ)) → length (joined (arranged b xs)) ≡ length (joined xs)
total-arranged true xs = total-sorted xs
total-arranged false xs = refl

-- where each list of one side splits from each of the other, they do so in any order
pub together : (cs ds : List (List ℕ)) → length cs ≡ length ds → Each (λ c. Each (Splits c) ds) cs → Together cs ds
together [] [] e h = tt
together [] (d ∷ ds) e h = omega arith
together (c ∷ cs) [] e h = omega arith
together (c ∷ cs) (d ∷ ds) e h = (h.0.0, together cs ds (omega arith) (Each-map (λ x. Each (Splits x) (d ∷ ds)) (λ x. Each (Splits x) ds) (λ x k. k.1) cs h.1))

pub together-arranged : (b : Bool) (cs ds : List (List ℕ)) → length cs ≡ length ds → Each (λ c. Each (Splits c) ds) cs → Together (arranged b cs) (arranged b ds)
together-arranged b cs ds e h =
    let inner = Each-map (λ c. Each (Splits c) ds) (λ c. Each (Splits c) (arranged b ds)) (λ c k. Each-arranged b (Splits c) ds k) cs h in
    together (arranged b cs) (arranged b ds) (length-arranged b cs ∙ e ∙ sym (length-arranged b ds)) (Each-arranged b (λ c. Each (Splits c) (arranged b ds)) cs inner)
