-- How often an id is used, and a step is made, among the done steps and in the log.
use Rattle.std.proofs.Common.{◌≡◌, ◌≤◌, ℕ, suc, ◌+◌, Bool, true, false, cond, List, [], ◌∷◌, ◌++◌, length, map as each, refl, ap, sym, ◌∙◌, subst, arith, inl, inr}
use Rattle.std.specs.Prelude.{count_by}
use Rattle.std.proofs.lemmas.List.Sums.{sum_by-cons}
use Rattle.calculus.specs.Log.{Step}
use Rattle.calculus.proofs.Members.{Member}
use Rattle.racing_replays.specs.Replaying.{DoneStep, done_steps}
use Rattle.racing_replays.proofs.Lists.{AreSingle, tally, tally-in}

-- a step with its index
abbrev pub Placed : Type 0
Placed = ℕ × Step

-- steps with their indices, of which the first is j
abbrev pub numbered : ℕ → List Step → List Placed
numbered j [] = []
numbered j (s ∷ ss) = (j, s) ∷ numbered (suc j) ss

-- a done step with its index
abbrev pub placed : DoneStep → Placed
placed d = (d.index, d.step)

pub numbered-at : (j : ℕ) (mid : List Step) (u : Step) (rest : List Step) → Member (j + length mid, u) (numbered j (mid ++ u ∷ rest))
numbered-at j [] u rest = inl (ap (λ n. (n, u)) same)
  where
    same : j + 0 ≡ j
    same = omega arith
numbered-at j (v ∷ mid) u rest = inr (subst (λ n. Member (n, u) (numbered (suc j) (mid ++ u ∷ rest))) same (numbered-at (suc j) mid u rest))
  where
    same : suc j + length mid ≡ j + suc (length mid)
    same = omega arith

-- where a numbered step stands
pub record Stands (j : ℕ) (ss : List Step) (x : Placed) : Type 0 where
  pub mid : List Step
  pub rest : List Step
  pub is : ss ≡ mid ++ x.1 ∷ rest
  pub place : x.0 ≡ j + length mid

pub numbered-stands : (j : ℕ) (ss : List Step) (x : Placed) → Member x (numbered j ss) → Stands j ss x
numbered-stands j [] x m = absurd m
numbered-stands j (s ∷ ss) x (inl e) = record { mid = []; rest = ss; is = ap (λ u. u ∷ ss) (sym (ap (λ y. y.1) e)); place = ap (λ y. y.0) e ∙ same }
  where
    same : j ≡ j + 0
    same = omega arith
numbered-stands j (s ∷ ss) x (inr m) = let f = numbered-stands (suc j) ss x m in record { mid = s ∷ f.mid; rest = f.rest; is = ap (λ l. s ∷ l) f.is; place = omega (arith, f.place) }

numbered-from : (j : ℕ) (ss : List Step) (x : Placed) → Member x (numbered j ss) → j ≤ x.0
numbered-from j ss x m = omega (arith, (numbered-stands j ss x m).place)

pub numbered-single : (j : ℕ) (ss : List Step) → AreSingle (numbered j ss)
numbered-single j [] = tt
numbered-single j (s ∷ ss) = ((λ m. omega (arith, numbered-from (suc j) ss (j, s) m)), numbered-single (suc j) ss)

pub numbered-tally : (q : Step → Bool) (j : ℕ) (ss : List Step) → tally (λ x. cond (q x.1) 1 0) (numbered j ss) ≡ count_by q ss
numbered-tally q j [] = refl
numbered-tally q j (s ∷ ss) = omega (arith, numbered-tally q (suc j) ss, sum_by-cons (λ u. cond (q u) 1 0) s ss)

pub each-tally : (q : Step → Bool) (ds : List DoneStep) → tally (λ x. cond (q x.1) 1 0) (each placed ds) ≡ count_by q (done_steps ds)
each-tally q [] = refl
each-tally q (d ∷ ds) = omega (arith, each-tally q ds, sum_by-cons (λ u. cond (q u) 1 0) d.step (done_steps ds))

pub each-member : {A B : Type 0} (f : A → B) (y : B) (xs : List A) → Member y (each f xs) → (x : A) × (Member x xs × y ≡ f x)
each-member f y [] m = absurd m
each-member f y (x ∷ xs) (inl e) = (x, (inl refl, e))
each-member f y (x ∷ xs) (inr m) = let z = each-member f y xs m in (z.0, (inr z.1.0, z.1.1))

-- images of different members differ
pub each-single : {A B : Type 0} (f : A → B) (xs : List A) → AreSingle xs → ((x y : A) → Member x xs → Member y xs → f x ≡ f y → x ≡ y) → AreSingle (each f xs)
each-single f [] h g = tt
each-single {A} f (x ∷ xs) h g = (none, each-single f xs h.1 (λ y z m n e. g y z (inr m) (inr n) e))
  where
    none : Member (f x) (each f xs) → ⊥
    none m = let z = each-member f (f x) xs m in h.0 (subst (λ y. Member y xs) (sym (g x z.0 (inl refl) (inr z.1.0) z.1.1)) z.1.0)

-- what counts in the one list stands in the other
pub count-in : (q : Step → Bool) (xs ys : List Placed) → AreSingle xs → ((z : Placed) → q z.1 ≡ true → Member z xs → Member z ys) → tally (λ x. cond (q x.1) 1 0) xs ≤ tally (λ x. cond (q x.1) 1 0) ys
count-in q xs ys h f = tally-in (λ x. cond (q x.1) 1 0) xs ys h (λ z p m. f z (holds (q z.1) p) m)
  where
    holds : (c : Bool) → 1 ≤ cond c 1 0 → c ≡ true
    holds true p = refl
    holds false p = absurd (omega (arith, p))
