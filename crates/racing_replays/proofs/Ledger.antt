-- Which steps are done, and which ids they name.
use Rattle.std.proofs.Common.{◌≡◌, ℕ, Bool, true, false, ◌||◌, List, [], ◌∷◌, ◌++◌, refl, ap, subst, inl, inr}
use Rattle.std.specs.Prelude.{◌⊎◌, eqb, flat_map}
use Rattle.std.specs.Str.{bytes_eq}
use Rattle.std.proofs.lemmas.Bool.{eqb-true, eq-eqb}
use Rattle.calculus.specs.Steps.{is_one_of}
use Rattle.calculus.proofs.Members.{Member}
use Rattle.events.proofs.Counts.{bytes_same, same_bytes}
use Rattle.racing_replays.specs.Replaying.{DoneStep, is_done, any_among}

pub done-entry : (i : ℕ) (ds : List DoneStep) → is_done i ds ≡ true → (d : DoneStep) × (Member d ds × i ≡ d.index)
done-entry i [] e = cc
done-entry i (d ∷ ds) e = go (done-entry i ds) (eqb i d.index) refl e
  where
    go : (is_done i ds ≡ true → (f : DoneStep) × (Member f ds × i ≡ f.index)) → (b : Bool) → eqb i d.index ≡ b → b || is_done i ds ≡ true → (f : DoneStep) × (Member f (d ∷ ds) × i ≡ f.index)
    go next true k e = (d, (inl refl, eqb-true i d.index k))
    go next false k e = let f = next e in (f.0, (inr f.1.0, f.1.1))

pub entry-done : (d : DoneStep) (ds : List DoneStep) → Member d ds → is_done d.index ds ≡ true
entry-done d [] m = absurd m
entry-done d (f ∷ ds) (inl e) = ap (λ b. b || is_done d.index ds) (eq-eqb d.index f.index (ap (λ z. z.index) e))
entry-done d (f ∷ ds) (inr m) = go (eqb d.index f.index) (entry-done d ds m)
  where
    go : (b : Bool) → is_done d.index ds ≡ true → b || is_done d.index ds ≡ true
    go true h = refl
    go false h = h

pub one-here : (x y : List ℕ) (ys : List (List ℕ)) → x ≡ y → is_one_of x (y ∷ ys) ≡ true
one-here x y ys e = ap (λ b. b || is_one_of x ys) (same_bytes x y e)

pub one-next : (x y : List ℕ) (ys : List (List ℕ)) → is_one_of x ys ≡ true → is_one_of x (y ∷ ys) ≡ true
one-next x y ys h = go (bytes_eq x y)
  where
    go : (b : Bool) → b || is_one_of x ys ≡ true
    go true = refl
    go false = h

-- an id that is one of some is the first of them or one of the others
pub one-first : (x y : List ℕ) (ys : List (List ℕ)) → is_one_of x (y ∷ ys) ≡ true → (x ≡ y) ⊎ (is_one_of x ys ≡ true)
one-first x y ys h = go (bytes_eq x y) refl h
  where
    go : (b : Bool) → bytes_eq x y ≡ b → b || is_one_of x ys ≡ true → (x ≡ y) ⊎ (is_one_of x ys ≡ true)
    go true k h = inl (bytes_same x y k)
    go false k h = inr h

pub one-split : (x : List ℕ) (ys zs : List (List ℕ)) → is_one_of x (ys ++ zs) ≡ true → (is_one_of x ys ≡ true) ⊎ (is_one_of x zs ≡ true)
one-split x [] zs h = inr h
one-split x (y ∷ ys) zs h = go (one-split x ys zs) (one-first x y (ys ++ zs) h)
  where
    go : (is_one_of x (ys ++ zs) ≡ true → (is_one_of x ys ≡ true) ⊎ (is_one_of x zs ≡ true)) → (x ≡ y) ⊎ (is_one_of x (ys ++ zs) ≡ true) → (is_one_of x (y ∷ ys) ≡ true) ⊎ (is_one_of x zs ≡ true)
    go next (inl e) = inl (one-here x y ys e)
    go next (inr k) = end (next k)
      where
        end : (is_one_of x ys ≡ true) ⊎ (is_one_of x zs ≡ true) → (is_one_of x (y ∷ ys) ≡ true) ⊎ (is_one_of x zs ≡ true)
        end (inl i) = inl (one-next x y ys i)
        end (inr i) = inr i

pub one-left : (x : List ℕ) (ys zs : List (List ℕ)) → is_one_of x ys ≡ true → is_one_of x (ys ++ zs) ≡ true
one-left x [] zs h = cc
one-left x (y ∷ ys) zs h = go (one-left x ys zs) (one-first x y ys h)
  where
    go : (is_one_of x ys ≡ true → is_one_of x (ys ++ zs) ≡ true) → (x ≡ y) ⊎ (is_one_of x ys ≡ true) → is_one_of x (y ∷ ys ++ zs) ≡ true
    go next (inl e) = one-here x y (ys ++ zs) e
    go next (inr k) = one-next x y (ys ++ zs) (next k)

pub one-right : (x : List ℕ) (ys zs : List (List ℕ)) → is_one_of x zs ≡ true → is_one_of x (ys ++ zs) ≡ true
one-right x [] zs h = h
one-right x (y ∷ ys) zs h = one-next x y (ys ++ zs) (one-right x ys zs h)

pub one-flat : {A : Type 0} (x : List ℕ) (f : A → List (List ℕ)) (ds : List A) → is_one_of x (flat_map f ds) ≡ true → (d : A) × (Member d ds × is_one_of x (f d) ≡ true)
one-flat x f [] h = cc
one-flat {A} x f (d ∷ ds) h = go (one-flat x f ds) (one-split x (f d) (flat_map f ds) h)
  where
    go : (is_one_of x (flat_map f ds) ≡ true → (e : A) × (Member e ds × is_one_of x (f e) ≡ true)) → (is_one_of x (f d) ≡ true) ⊎ (is_one_of x (flat_map f ds) ≡ true) → (e : A) × (Member e (d ∷ ds) × is_one_of x (f e) ≡ true)
    go next (inl k) = (d, (inl refl, k))
    go next (inr k) = let e = next k in (e.0, (inr e.1.0, e.1.1))

pub flat-one : {A : Type 0} (x : List ℕ) (f : A → List (List ℕ)) (ds : List A) (d : A) → Member d ds → is_one_of x (f d) ≡ true → is_one_of x (flat_map f ds) ≡ true
flat-one x f [] d m h = absurd m
flat-one x f (e ∷ ds) d (inl k) h = one-left x (f e) (flat_map f ds) (subst (λ z. is_one_of x (f z) ≡ true) k h)
flat-one x f (e ∷ ds) d (inr m) h = one-right x (f e) (flat_map f ds) (flat-one x f ds d m h)

-- ids that have one in common
pub in-common : (xs ys : List (List ℕ)) → any_among xs ys ≡ true → (x : List ℕ) × (is_one_of x xs ≡ true × is_one_of x ys ≡ true)
in-common [] ys h = cc
in-common (x ∷ xs) ys h = go (in-common xs ys) (is_one_of x ys) refl h
  where
    go : (any_among xs ys ≡ true → (z : List ℕ) × (is_one_of z xs ≡ true × is_one_of z ys ≡ true)) → (b : Bool) → is_one_of x ys ≡ b → b || any_among xs ys ≡ true → (z : List ℕ) × (is_one_of z (x ∷ xs) ≡ true × is_one_of z ys ≡ true)
    go next true k h = (x, (one-here x x xs refl, k))
    go next false k h = let z = next h in (z.0, (one-next z.0 x xs z.1.0, z.1.1))

pub common-in : (x : List ℕ) (xs ys : List (List ℕ)) → is_one_of x xs ≡ true → is_one_of x ys ≡ true → any_among xs ys ≡ true
common-in x [] ys h k = cc
common-in x (z ∷ xs) ys h k = go (common-in x xs ys) (one-first x z xs h)
  where
    or : (b c : Bool) → c ≡ true → b || c ≡ true
    or true c e = refl
    or false c e = e

    go : (is_one_of x xs ≡ true → is_one_of x ys ≡ true → any_among xs ys ≡ true) → (x ≡ z) ⊎ (is_one_of x xs ≡ true) → is_one_of z ys || any_among xs ys ≡ true
    go next (inl e) = ap (λ b. b || any_among xs ys) (subst (λ y. is_one_of y ys ≡ true) e k)
    go next (inr i) = or (is_one_of z ys) (any_among xs ys) (next i k)
