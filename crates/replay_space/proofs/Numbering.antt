-- Numbers of ids, and the lists under them.
use Rattle.std.proofs.Common.{◌≡◌, ◌<◌, ℕ, zero, suc, Bool, true, false, cond, List, [], ◌∷◌, ◌++◌, length, refl, sym, ◌∙◌, ap, arith, Some, None, set, inl, inr, ◌+◌, length-append}
use Rattle.std.specs.Prelude.{◌⊎◌, Option, slice_get}
use Rattle.std.specs.Str.{bytes_eq}
use Rattle.std.specs.Option.{unwrap_or}
use Rattle.std.specs.BTreeMap.{insert_entry}
use Rattle.std.proofs.lemmas.Slice.Eq.{bytes_eq-Decides}
use Rattle.std.proofs.lemmas.Option.{slice_get_within}
use Rattle.replay_space.specs.Rigs.{Numbered, number_of, list_of, used, AreLow, AreNumbered}
use Rattle.replay_space.proofs.Filed.{order, number-put}

-- the numbers of ids stay
abbrev pub Keeps : List Numbered → List Numbered → Type 0
Keeps es ds = (x : List ℕ) (n : ℕ) → number_of es x ≡ Some n → number_of ds x ≡ Some n

-- what stands in a list with one more thing
at-end : {A : Type 0} (ks : List A) (k : A) → slice_get (ks ++ k ∷ []) (length ks) ≡ Some k
at-end [] k = refl
at-end (y ∷ ks) k = at-end ks k

past-end : {A : Type 0} (ks : List A) (k : A) (n : ℕ) → length ks < n → slice_get (ks ++ k ∷ []) n ≡ None
past-end [] k zero h = absurd (omega (arith, h))
past-end [] k (suc n) h = refl
past-end (y ∷ ks) k zero h = absurd (omega (arith, h))
past-end (y ∷ ks) k (suc n) h = past-end ks k n (omega (arith, h))

before-end : {A : Type 0} (ks : List A) (k : A) (n : ℕ) → n < length ks → slice_get (ks ++ k ∷ []) n ≡ slice_get ks n
before-end [] k n h = absurd (omega (arith, h))
before-end (y ∷ ks) k zero h = refl
before-end (y ∷ ks) k (suc n) h = before-end ks k n (omega (arith, h))

-- ids with numbers have them for themselves
pub apart : (es : List Numbered) (ids : List (List ℕ)) → AreNumbered es ids → (x y : List ℕ) (n : ℕ) → number_of es x ≡ Some n → number_of es y ≡ Some n → x ≡ y
apart es ids a x y n e f = same (sym ((a x n).0 e) ∙ (a y n).0 f)
  where
    same : Some x ≡ Some y → x ≡ y
    same g = cc

trichotomy : (n m : ℕ) → (n < m) ⊎ ((n ≡ m) ⊎ (m < n))
trichotomy zero zero = inr (inl refl)
trichotomy zero (suc m) = inl (omega arith)
trichotomy (suc n) zero = inr (inr (omega arith))
trichotomy (suc n) (suc m) = go (trichotomy n m)
  where
    go : (n < m) ⊎ ((n ≡ m) ⊎ (m < n)) → (suc n < suc m) ⊎ ((suc n ≡ suc m) ⊎ (suc m < suc n))
    go (inl h) = inl (omega (arith, h))
    go (inr (inl h)) = inr (inl (ap suc h))
    go (inr (inr h)) = inr (inr (omega (arith, h)))

-- an id that has no number gets one
module _ (id : List ℕ) (m : ℕ) (es : List Numbered) (none : number_of es id ≡ None) where
  abbrev after : List Numbered
  after = insert_entry order es id m

  pub keeps-numbers : Keeps es after
  keeps-numbers x n e = number-put x id m es ∙ go (bytes_eq x id) refl
    where
      differs : None ≡ Some n → ⊥
      differs f = cc

      go : (b : Bool) → bytes_eq x id ≡ b → cond b (Some m) (number_of es x) ≡ Some n
      go true s = absurd (differs (sym none ∙ ap (number_of es) (sym ((bytes_eq-Decides x id).0 s)) ∙ e))
      go false s = e

  pub has-number : number_of after id ≡ Some m
  has-number = number-put id id m es ∙ ap (λ b. cond b (Some m) (number_of es id)) ((bytes_eq-Decides id id).1 refl)

  -- whose number is which
  old-or-new : (x : List ℕ) (n : ℕ) → number_of after x ≡ Some n → (b : Bool) → bytes_eq x id ≡ b → cond b (Some m) (number_of es x) ≡ Some n
  old-or-new x n e b s = ap (λ c. cond c (Some m) (number_of es x)) (sym s) ∙ sym (number-put x id m es) ∙ e

  pub numbered-more : (ids : List (List ℕ)) → m ≡ length ids → AreNumbered es ids → AreNumbered after (ids ++ id ∷ [])
  numbered-more ids place a x n = (there, back)
    where
      there : number_of after x ≡ Some n → slice_get (ids ++ id ∷ []) n ≡ Some x
      there e = go (bytes_eq x id) refl
        where
          go : (b : Bool) → bytes_eq x id ≡ b → slice_get (ids ++ id ∷ []) n ≡ Some x
          go true s = let mine : m ≡ n = cc (old-or-new x n e true s) in ap (slice_get (ids ++ id ∷ [])) (sym mine ∙ place) ∙ at-end ids id ∙ ap Some (sym ((bytes_eq-Decides x id).0 s))
          go false s = let old = (a x n).0 (old-or-new x n e false s) in before-end ids id n (slice_get_within ids n x old) ∙ old

      back : slice_get (ids ++ id ∷ []) n ≡ Some x → number_of after x ≡ Some n
      back e = go (trichotomy n (length ids))
        where
          nothing : None ≡ Some x → ⊥
          nothing f = cc

          is-id : Some id ≡ Some x → id ≡ x
          is-id f = cc

          go : (n < length ids) ⊎ ((n ≡ length ids) ⊎ (length ids < n)) → number_of after x ≡ Some n
          go (inl h) = keeps-numbers x n ((a x n).1 (sym (before-end ids id n h) ∙ e))
          go (inr (inl h)) = ap (number_of after) (sym (is-id (sym (at-end ids id) ∙ ap (slice_get (ids ++ id ∷ [])) (sym h) ∙ e))) ∙ has-number ∙ ap Some (place ∙ sym h)
          go (inr (inr h)) = absurd (nothing (sym (past-end ids id n h) ∙ e))

  module _ (ls : List (List ℕ)) (l : List ℕ) (low : AreLow es ls) (place : m ≡ length ls) where
    pub lists-low : AreLow after (ls ++ l ∷ [])
    lists-low x n e = go (bytes_eq x id) refl
      where
        long : length (ls ++ l ∷ []) ≡ length ls + 1
        long = length-append ls (l ∷ [])

        go : (b : Bool) → bytes_eq x id ≡ b → n < length (ls ++ l ∷ [])
        go true s = let mine : m ≡ n = cc (old-or-new x n e true s) in omega (arith, long, mine, place)
        go false s = omega (arith, long, low x n (old-or-new x n e false s))

    pub used-more : (x : List ℕ) → used after (ls ++ l ∷ []) x ≡ cond (bytes_eq x id) l (used es ls x)
    used-more x = ap (list_of (ls ++ l ∷ [])) (number-put x id m es) ∙ go (bytes_eq x id) (number_of es x) refl
      where
        go : (b : Bool) (o : Option ℕ) → number_of es x ≡ o → list_of (ls ++ l ∷ []) (cond b (Some m) o) ≡ cond b l (list_of ls o)
        go true o e = ap (λ n. unwrap_or (slice_get (ls ++ l ∷ []) n) []) place ∙ ap (λ k. unwrap_or k []) (at-end ls l)
        go false None e = refl
        go false (Some n) e = ap (λ k. unwrap_or k []) (before-end ls l n (low x n e))

-- what stands in a list after a write
set-here : {A : Type 0} (ls : List A) (n : ℕ) (v : A) → n < length ls → slice_get (set ls n v) n ≡ Some v
set-here [] n v h = absurd (omega (arith, h))
set-here (l ∷ ls) zero v h = refl
set-here (l ∷ ls) (suc n) v h = set-here ls n v (omega (arith, h))

set-there : {A : Type 0} (ls : List A) (n m : ℕ) (v : A) → (m ≡ n → ⊥) → slice_get (set ls n v) m ≡ slice_get ls m
set-there [] n m v d = refl
set-there (l ∷ ls) zero zero v d = absurd (d refl)
set-there (l ∷ ls) zero (suc m) v d = refl
set-there (l ∷ ls) (suc n) zero v d = refl
set-there (l ∷ ls) (suc n) (suc m) v d = set-there ls n m v (λ e. d (ap suc e))

-- the list of an id is written
pub used-set : (id : List ℕ) (n : ℕ) (es : List Numbered) (ls : List (List ℕ)) (l : List ℕ) → number_of es id ≡ Some n → ((x y : List ℕ) (m : ℕ) → number_of es x ≡ Some m → number_of es y ≡ Some m → x ≡ y) → n < length ls → (x : List ℕ) → used es (set ls n l) x ≡ cond (bytes_eq x id) l (used es ls x)
used-set id n es ls l e alone h x = go (bytes_eq x id) refl (number_of es x) refl
  where
    go : (b : Bool) → bytes_eq x id ≡ b → (o : Option ℕ) → number_of es x ≡ o → list_of (set ls n l) o ≡ cond b l (list_of ls o)
    go true s o f = ap (list_of (set ls n l)) (sym f ∙ ap (number_of es) ((bytes_eq-Decides x id).0 s) ∙ e) ∙ ap (λ k. unwrap_or k []) (set-here ls n l h)
    go false s None f = refl
    go false s (Some m) f = ap (λ k. unwrap_or k []) (set-there ls n m l differs)
      where
        differs : m ≡ n → ⊥
        differs g = clash (sym s ∙ (bytes_eq-Decides x id).1 (alone x id m f (e ∙ ap Some (sym g))))
          where
            clash : false ≡ true → ⊥
            clash k = cc
