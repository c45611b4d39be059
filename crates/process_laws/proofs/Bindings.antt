-- Lists of bindings that are congruent one by one.
use Rattle.std.proofs.Common.{◌≡◌, Bool, true, false, List, [], ◌∷◌, ◌++◌, map as each, refl, subst}
use Rattle.std.specs.Prelude.{flat_map}
use Rattle.calculus.specs.Tree.{Tree}
use Rattle.calculus.specs.CongruenceLaws.{AreCongruent}
use Rattle.calculus.specs.Matching.{Bindings, one_if, both_of, some_match, first_of_all}
use Rattle.process_laws.specs.MatchingLaws.{AreAlike, IsSameMatch}
use Rattle.process_laws.proofs.Zips.{zip-map, zip-flat}

congruent-append : (a c b d : List Tree) → AreCongruent a b → AreCongruent c d → AreCongruent (a ++ c) (b ++ d)
congruent-append [] c [] d h k = k
congruent-append [] c (u ∷ us) d h k = absurd h
congruent-append (t ∷ ts) c [] d h k = absurd h
congruent-append (t ∷ ts) c (u ∷ us) d h k = (h.0, congruent-append ts c us d h.1 k)

pub congruent-flat : (bs cs : List Bindings) → AreAlike bs cs → AreCongruent (flat_map (λ b. b) bs) (flat_map (λ b. b) cs)
congruent-flat [] [] h = tt
congruent-flat [] (c ∷ cs) h = absurd h
congruent-flat (b ∷ bs) [] h = absurd h
congruent-flat (b ∷ bs) (c ∷ cs) h = congruent-append b (flat_map (λ x. x) bs) c (flat_map (λ x. x) cs) h.0 (congruent-flat bs cs h.1)

pub both-alike : (xs zs ys ws : List Bindings) → AreAlike xs ys → AreAlike zs ws → AreAlike (both_of xs zs) (both_of ys ws)
both-alike xs zs ys ws h k =
    zip-flat AreCongruent AreCongruent (λ b. each (λ c. b ++ c) zs) (λ b. each (λ c. b ++ c) ws)
    (λ b d e. zip-map AreCongruent AreCongruent (λ c. b ++ c) (λ c. d ++ c) (λ c f g. congruent-append b c d f e g) zs ws k) xs ys h

itself : (b : Bool) → AreAlike (one_if b) (one_if b)
itself true = (tt, tt)
itself false = tt

pub one-alike : (b c : Bool) → b ≡ c → AreAlike (one_if b) (one_if c)
one-alike b c e = subst (λ x. AreAlike (one_if b) (one_if x)) e (itself b)

pub some-same : (xs ys : List Bindings) → AreAlike xs ys → some_match xs ≡ some_match ys
some-same [] [] h = refl
some-same [] (c ∷ cs) h = absurd h
some-same (b ∷ bs) [] h = absurd h
some-same (b ∷ bs) (c ∷ cs) h = refl

pub first-same : (xs ys : List Bindings) → AreAlike xs ys → IsSameMatch (first_of_all xs) (first_of_all ys)
first-same [] [] h = tt
first-same [] (c ∷ cs) h = absurd h
first-same (b ∷ bs) [] h = absurd h
first-same (b ∷ bs) (c ∷ cs) h = h.0
