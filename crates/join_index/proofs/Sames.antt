-- Groups with congruent channels are alike.
use Rattle.std.proofs.Common.{◌≡◌, ℕ, suc, Bool, true, false, ◌&&◌, cond, List, [], ◌∷◌, filter, length, eqb, refl, sym, ap, ◌∙◌, arith}
use Rattle.std.proofs.lemmas.Bool.Decides.{nat_tests}
use Rattle.calculus.specs.Congruence.{congruent}
use Rattle.calculus.proofs.Reflexive.{congruent_self}
use Rattle.calculus.proofs.Equivalence.{symmetric, transitive}
use Rattle.join_index.specs.Groups.{Channels, same_group}

and-left : (a b : Bool) → a && b ≡ true → a ≡ true
and-left true b e = refl
and-left false b e = cc

and-right : (a b : Bool) → a && b ≡ true → b ≡ true
and-right true b e = e
and-right false b e = cc

both : (a b : Bool) → a ≡ true → b ≡ true → a && b ≡ true
both a b e f = ap (λ x. x && b) e ∙ f

pub same_bool : (a b : Bool) → (a ≡ true → b ≡ true) → (b ≡ true → a ≡ true) → a ≡ b
same_bool true b f g = sym (f refl)
same_bool false true f g = g refl
same_bool false false f g = refl

pub same-self : (g : Channels) → same_group g g ≡ true
same-self [] = refl
same-self (c ∷ cs) = both (congruent c c) (same_group cs cs) (congruent_self c) (same-self cs)

pub same-back : (g h : Channels) → same_group g h ≡ true → same_group h g ≡ true
same-back [] [] e = refl
same-back [] (d ∷ ds) e = cc
same-back (c ∷ cs) [] e = cc
same-back (c ∷ cs) (d ∷ ds) e = both (congruent d c) (same_group ds cs) (symmetric c d (and-left (congruent c d) (same_group cs ds) e)) (same-back cs ds (and-right (congruent c d) (same_group cs ds) e))

pub same-through : (g h i : Channels) → same_group g h ≡ true → same_group h i ≡ true → same_group g i ≡ true
same-through [] [] i e f = f
same-through [] (d ∷ ds) i e f = cc
same-through (c ∷ cs) [] i e f = cc
same-through (c ∷ cs) (d ∷ ds) [] e f = cc
same-through (c ∷ cs) (d ∷ ds) (b ∷ bs) e f =
    both (congruent c b) (same_group cs bs) (transitive c d b (and-left (congruent c d) (same_group cs ds) e) (and-left (congruent d b) (same_group ds bs) f))
    (same-through cs ds bs (and-right (congruent c d) (same_group cs ds) e) (and-right (congruent d b) (same_group ds bs) f))

-- what is the same as one group is so as another that is the same
pub same-as : (g h x : Channels) → same_group g h ≡ true → same_group g x ≡ same_group h x
same-as g h x e = same_bool (same_group g x) (same_group h x) (same-through h g x (same-back g h e)) (same-through g h x e)

pub either-way : (g h : Channels) → same_group g h ≡ same_group h g
either-way g h = same_bool (same_group g h) (same_group h g) (same-back g h) (same-back h g)

-- groups of two lengths
two-lengths : (g h : Channels) → (length g ≡ length h → ⊥) → same_group g h ≡ false
two-lengths [] [] n = absurd (n refl)
two-lengths [] (d ∷ ds) n = refl
two-lengths (c ∷ cs) [] n = refl
two-lengths (c ∷ cs) (d ∷ ds) n = ap (λ b. congruent c d && b) (two-lengths cs ds (λ e. n (ap suc e))) ∙ none (congruent c d)
  where
    none : (b : Bool) → b && false ≡ false
    none true = refl
    none false = refl

pub unequal : (m n : ℕ) → (m ≡ n → ⊥) → eqb m n ≡ false
unequal m n h = grind (arith, nat_tests)

pub lengths-tell : (g h : Channels) → (length g ≡ length h → ⊥) → eqb (length g) (length h) ≡ same_group g h
lengths-tell g h n = unequal (length g) (length h) n ∙ sym (two-lengths g h n)

module _ {A : Type 0} where
  pub filter-alike : (f g : A → Bool) (xs : List A) → ((x : A) → f x ≡ g x) → filter f xs ≡ filter g xs
  filter-alike f g [] h = refl
  filter-alike f g (x ∷ xs) h = ap (λ b. cond b (x ∷ filter f xs) (filter f xs)) (h x) ∙ ap (λ l. cond (g x) (x ∷ l) l) (filter-alike f g xs h)

  pub filter-twice : (f g : A → Bool) (xs : List A) → filter f (filter g xs) ≡ filter (λ x. g x && f x) xs
  filter-twice f g [] = refl
  filter-twice f g (x ∷ xs) = go (g x) (f x) refl (filter-twice f g xs)
    where
      go : (b c : Bool) → f x ≡ c → filter f (filter g xs) ≡ filter (λ y. g y && f y) xs → filter f (cond b (x ∷ filter g xs) (filter g xs)) ≡ cond (b && c) (x ∷ filter (λ y. g y && f y) xs) (filter (λ y. g y && f y) xs)
      go true true d e = ap (λ c. cond c (x ∷ filter f (filter g xs)) (filter f (filter g xs))) d ∙ ap (λ l. x ∷ l) e
      go true false d e = ap (λ c. cond c (x ∷ filter f (filter g xs)) (filter f (filter g xs))) d ∙ e
      go false c d e = e

  pub filter-all : (f : A → Bool) (xs : List A) → ((x : A) → f x ≡ true) → filter f xs ≡ xs
  filter-all f [] h = refl
  filter-all f (x ∷ xs) h = ap (λ b. cond b (x ∷ filter f xs) (filter f xs)) (h x) ∙ ap (λ l. x ∷ l) (filter-all f xs h)
