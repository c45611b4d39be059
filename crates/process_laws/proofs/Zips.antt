-- Lists that are related one by one.
use Rattle.std.proofs.Common.{◌≡◌, Bool, true, false, cond, List, [], ◌∷◌, ◌++◌, map as each, refl, sym}
use Rattle.std.specs.Prelude.{flat_map}
use Rattle.std.specs.List.{AllZip}
use Rattle.std.proofs.lemmas.Bool.{false≢true}

module _ {A B : Type 0} (R : A → B → Type 0) where
  pub zip-append : (xs zs : List A) (ys ws : List B) → AllZip R xs ys → AllZip R zs ws → AllZip R (xs ++ zs) (ys ++ ws)
  zip-append [] zs [] ws h k = k
  zip-append [] zs (y ∷ ys) ws h k = absurd h
  zip-append (x ∷ xs) zs [] ws h k = absurd h
  zip-append (x ∷ xs) zs (y ∷ ys) ws h k = (h.0, zip-append xs zs ys ws h.1 k)

  -- either side of a choice that is the same on both sides
  pub zip-cond : (b c : Bool) (xs zs : List A) (ys ws : List B) → b ≡ c → (b ≡ true → AllZip R xs ys) → (b ≡ false → AllZip R zs ws) → AllZip R (cond b xs zs) (cond c ys ws)
  zip-cond true true xs zs ys ws e f g = f refl
  zip-cond false false xs zs ys ws e f g = g refl
  zip-cond true false xs zs ys ws e f g = absurd (false≢true (sym e))
  zip-cond false true xs zs ys ws e f g = absurd (false≢true e)

  -- what is related so is related otherwise
  pub zip-weaken : (S : A → B → Type 0) → ((x : A) (y : B) → R x y → S x y) → (xs : List A) (ys : List B) → AllZip R xs ys → AllZip S xs ys
  zip-weaken S f [] [] h = tt
  zip-weaken S f [] (y ∷ ys) h = absurd h
  zip-weaken S f (x ∷ xs) [] h = absurd h
  zip-weaken S f (x ∷ xs) (y ∷ ys) h = (f x y h.0, zip-weaken S f xs ys h.1)

module _ {A B C D : Type 0} (R : A → B → Type 0) (S : C → D → Type 0) where
  pub zip-map : (f : A → C) (g : B → D) → ((x : A) (y : B) → R x y → S (f x) (g y)) → (xs : List A) (ys : List B) → AllZip R xs ys → AllZip S (each f xs) (each g ys)
  zip-map f g k [] [] h = tt
  zip-map f g k [] (y ∷ ys) h = absurd h
  zip-map f g k (x ∷ xs) [] h = absurd h
  zip-map f g k (x ∷ xs) (y ∷ ys) h = (k x y h.0, zip-map f g k xs ys h.1)

  pub zip-flat : (f : A → List C) (g : B → List D) → ((x : A) (y : B) → R x y → AllZip S (f x) (g y)) → (xs : List A) (ys : List B) → AllZip R xs ys → AllZip S (flat_map f xs) (flat_map g ys)
  zip-flat f g k [] [] h = tt
  zip-flat f g k [] (y ∷ ys) h = absurd h
  zip-flat f g k (x ∷ xs) [] h = absurd h
  zip-flat f g k (x ∷ xs) (y ∷ ys) h = zip-append S (f x) (flat_map f xs) (g y) (flat_map g ys) (k x y h.0) (zip-flat f g k xs ys h.1)
