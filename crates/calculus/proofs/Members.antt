-- Members of lists, and what is so of each.
use Rattle.std.proofs.Common.{◌≡◌, ℕ, zero, suc, Bool, true, false, cond, List, [], ◌∷◌, ◌++◌, take, drop, filter, reverse, map as each, refl, ap, sym, subst, inl, inr}
use Rattle.std.specs.Prelude.{◌⊎◌, ⊤, flat_map}
use Rattle.std.proofs.lemmas.Grind.{reverse_onto}

-- x stands in the list
abbrev pub Member : {A : Type 0} → A → List A → Type 0
Member x [] = ⊥
Member x (y ∷ ys) = (x ≡ y) ⊎ Member x ys

-- each member has P
abbrev pub Every : {A : Type 0} → (A → Type 0) → List A → Type 0
Every P [] = ⊤
Every P (x ∷ xs) = P x × Every P xs

pub every-append : {A : Type 0} (P : A → Type 0) (xs ys : List A) → Every P xs → Every P ys → Every P (xs ++ ys)
every-append P [] ys h k = k
every-append P (x ∷ xs) ys h k = (h.0, every-append P xs ys h.1 k)

pub every-each : {A B : Type 0} (P : B → Type 0) (Q : A → Type 0) (f : A → B) → ((x : A) → Q x → P (f x)) → (xs : List A) → Every Q xs → Every P (each f xs)
every-each P Q f g [] h = tt
every-each P Q f g (x ∷ xs) h = (g x h.0, every-each P Q f g xs h.1)

pub every-flat : {A B : Type 0} (P : B → Type 0) (Q : A → Type 0) (f : A → List B) → ((x : A) → Q x → Every P (f x)) → (xs : List A) → Every Q xs → Every P (flat_map f xs)
every-flat P Q f g [] h = tt
every-flat P Q f g (x ∷ xs) h = every-append P (f x) (flat_map f xs) (g x h.0) (every-flat P Q f g xs h.1)

pub every-up : {A : Type 0} (P Q : A → Type 0) → ((x : A) → P x → Q x) → (xs : List A) → Every P xs → Every Q xs
every-up P Q g [] h = tt
every-up P Q g (x ∷ xs) h = (g x h.0, every-up P Q g xs h.1)

pub every-left : {A : Type 0} (P : A → Type 0) (xs ys : List A) → Every P (xs ++ ys) → Every P xs
every-left P [] ys h = tt
every-left P (x ∷ xs) ys h = (h.0, every-left P xs ys h.1)

pub every-right : {A : Type 0} (P : A → Type 0) (xs ys : List A) → Every P (xs ++ ys) → Every P ys
every-right P [] ys h = h
every-right P (x ∷ xs) ys h = every-right P xs ys h.1

pub every-take : {A : Type 0} (P : A → Type 0) (n : ℕ) (xs : List A) → Every P xs → Every P (take n xs)
every-take P zero xs h = tt
every-take P (suc n) [] h = tt
every-take P (suc n) (x ∷ xs) h = (h.0, every-take P n xs h.1)

pub every-drop : {A : Type 0} (P : A → Type 0) (n : ℕ) (xs : List A) → Every P xs → Every P (drop n xs)
every-drop P zero xs h = h
every-drop P (suc n) [] h = tt
every-drop P (suc n) (x ∷ xs) h = every-drop P n xs h.1

pub every-filter : {A : Type 0} (P : A → Type 0) (f : A → Bool) (xs : List A) → Every P xs → Every P (filter f xs)
every-filter P f [] h = tt
every-filter P f (x ∷ xs) h =
    elim (f x) as (λ (b : Bool). Every P (cond b (x ∷ filter f xs) (filter f xs))) [ true ↦ (h.0, every-filter P f xs h.1) | false ↦ every-filter P f xs h.1 ]

pub every-reverse : {A : Type 0} (P : A → Type 0) (xs : List A) → Every P xs → Every P (reverse xs)
every-reverse P [] h = tt
every-reverse P (x ∷ xs) h = rw (reverse_onto xs x []) (every-append P (reverse xs) (x ∷ []) (every-reverse P xs h.1) (h.0, tt))

-- what holds of each member holds of one
pub every-at : {A : Type 0} (P : A → Type 0) (xs : List A) (x : A) → Every P xs → Member x xs → P x
every-at P [] x h m = absurd m
every-at P (y ∷ xs) x h (inl e) = subst P (sym e) h.0
every-at P (y ∷ xs) x h (inr m) = every-at P xs x h.1 m

pub each-there : {A : Type 0} (P Q : A → Type 0) (zs : List A) → ((z : A) → Member z zs → P z → Q z) → Every P zs → Every Q zs
each-there P Q [] f h = tt
each-there P Q (z ∷ zs) f h = (f z (inl refl) h.0, each-there P Q zs (λ y m. f y (inr m)) h.1)

pub member-split : {A : Type 0} (z : A) (xs ys : List A) → Member z (xs ++ ys) → Member z xs ⊎ Member z ys
member-split z [] ys m = inr m
member-split z (x ∷ xs) ys (inl e) = inl (inl e)
member-split z (x ∷ xs) ys (inr m) = go (member-split z xs ys m)
  where
    go : Member z xs ⊎ Member z ys → Member z (x ∷ xs) ⊎ Member z ys
    go (inl k) = inl (inr k)
    go (inr k) = inr k

pub member-left : {A : Type 0} (x : A) (xs ys : List A) → Member x xs → Member x (xs ++ ys)
member-left x [] ys h = absurd h
member-left x (y ∷ xs) ys (inl e) = inl e
member-left x (y ∷ xs) ys (inr h) = inr (member-left x xs ys h)

pub member-right : {A : Type 0} (x : A) (xs ys : List A) → Member x ys → Member x (xs ++ ys)
member-right x [] ys h = h
member-right x (y ∷ xs) ys h = inr (member-right x xs ys h)

pub member-each : {A B : Type 0} (f : A → B) (x : A) (xs : List A) → Member x xs → Member (f x) (each f xs)
member-each f x [] h = absurd h
member-each f x (y ∷ xs) (inl e) = inl (ap f e)
member-each f x (y ∷ xs) (inr h) = inr (member-each f x xs h)

pub member-flat : {A B : Type 0} (f : A → List B) (x : A) (y : B) (xs : List A) → Member x xs → Member y (f x) → Member y (flat_map f xs)
member-flat f x y [] h k = absurd h
member-flat f x y (z ∷ xs) (inl e) k = member-left y (f z) (flat_map f xs) (subst (λ w. Member y (f w)) e k)
member-flat f x y (z ∷ xs) (inr h) k = member-right y (f z) (flat_map f xs) (member-flat f x y xs h k)
