-- Small facts of lists.
use Rattle.std.proofs.Common.{◌≡◌, ℕ, Bool, true, false, cond, List, [], ◌∷◌, ◌++◌, map as each, refl, sym, ap, ◌∙◌, inl, inr, eqb, eqb-true, eq-eqb}
use Rattle.calculus.proofs.Members.{Member, Every}
use Rattle.hub_scenes.specs.Spaces.{IsIn}
use Rattle.hub_scenes.specs.Entries.{but_index}

pub has : {A : Type 0} (x : A) (xs : List A) → IsIn x xs → Member x xs
has x [] h = h
has x (y ∷ ys) (inl e) = inl e
has x (y ∷ ys) (inr h) = inr (has x ys h)

pub hold : {A : Type 0} (x : A) (xs : List A) → Member x xs → IsIn x xs
hold x [] h = h
hold x (y ∷ ys) (inl e) = inl e
hold x (y ∷ ys) (inr h) = inr (hold x ys h)

pub each-both : {A B : Type 0} (f : A → B) (xs ys : List A) → each f (xs ++ ys) ≡ each f xs ++ each f ys
each-both f [] ys = refl
each-both f (x ∷ xs) ys = ap (λ l. f x ∷ l) (each-both f xs ys)

pub each-twice : {A B C : Type 0} (g : B → C) (f : A → B) (h : A → C) → ((x : A) → g (f x) ≡ h x) → (xs : List A) → each g (each f xs) ≡ each h xs
each-twice g f h e [] = refl
each-twice g f h e (x ∷ xs) = ap (λ z. z ∷ each g (each f xs)) (e x) ∙ ap (λ l. h x ∷ l) (each-twice g f h e xs)

pub each-id : {A B : Type 0} (g : B → A) (f : A → B) → ((x : A) → g (f x) ≡ x) → (xs : List A) → each g (each f xs) ≡ xs
each-id g f e [] = refl
each-id g f e (x ∷ xs) = ap (λ z. z ∷ each g (each f xs)) (e x) ∙ ap (λ l. x ∷ l) (each-id g f e xs)

-- a member of the images is an image
pub image-of : {A B : Type 0} (f : A → B) (y : B) (xs : List A) → Member y (each f xs) → (x : A) × (Member x xs × y ≡ f x)
image-of f y [] m = absurd m
image-of f y (x ∷ xs) (inl e) = (x, (inl refl, e))
image-of f y (x ∷ xs) (inr m) = let z = image-of f y xs m in (z.0, (inr z.1.0, z.1.1))

pub image-in : {A B : Type 0} (f : A → B) (x : A) (xs : List A) → Member x xs → Member (f x) (each f xs)
image-in f x [] m = absurd m
image-in f x (y ∷ xs) (inl e) = inl (ap f e)
image-in f x (y ∷ xs) (inr m) = inr (image-in f x xs m)

-- rows of which each has a preimage in a list are images of some of it
pub images-of : {A B : Type 0} (f : A → B) (ys : List B) (xs : List A) → Every (λ y. Member y (each f xs)) ys → (zs : List A) × (Every (λ z. Member z xs) zs × ys ≡ each f zs)
images-of f [] xs h = ([], (tt, refl))
images-of f (y ∷ ys) xs h =
    let z = image-of f y xs h.0 in
    let zs = images-of f ys xs h.1 in
    (z.0 ∷ zs.0, ((z.1.0, zs.1.0), ap (λ w. w ∷ ys) z.1.1 ∙ ap (λ l. f z.0 ∷ l) zs.1.1))

-- one of these is taken out
pub record TakenOut {A : Type 0} (xs : List A) (x : A) (rest : List A) : Type 0 where
  pub pre : List A
  pub post : List A
  pub is : xs ≡ pre ++ x ∷ post
  pub left : rest ≡ pre ++ post

pub try-out : (i : ℕ) (js : List ℕ) → Member i js → TakenOut js i (but_index i js)
try-out i [] m = absurd m
try-out i (j ∷ js) m = go (try-out i js) (eqb i j) refl m
  where
    go : (Member i js → TakenOut js i (but_index i js)) → (b : Bool) → eqb i j ≡ b → Member i (j ∷ js) → TakenOut (j ∷ js) i (cond b js (j ∷ but_index i js))
    go next true e m = record { pre = []; post = js; is = ap (λ n. n ∷ js) (sym (eqb-true i j e)); left = refl }
    go next false e (inl s) = absurd (no (sym (eq-eqb i j s) ∙ e))
      where
        no : true ≡ false → ⊥
        no e = cc e
    go next false e (inr m) = let k = next m in record { pre = j ∷ k.pre; post = k.post; is = ap (λ l. j ∷ l) k.is; left = ap (λ l. j ∷ l) k.left }

pub no-test : (b : Bool) → (b ≡ true → ⊥) → b ≡ false
no-test true f = absurd (f refl)
no-test false f = refl
