-- What stands inside binders.
use Rattle.std.proofs.Common.{◌≡◌, List, [], ◌∷◌, ◌++◌, map, reverse, sym, ap, refl, ◌∙◌, subst, append_assoc}
use Rattle.std.proofs.lemmas.List.{map-append, reverse-append}
use Rattle.calculus.specs.Tree.{Tree}
use Rattle.calculus.specs.Variables.{Sense, bound}
use Rattle.calculus.specs.Written.{Written}
use Rattle.calculus.specs.Bare.{Names, bare_in}
use Rattle.calculus.specs.Form.{term, Fits}
use Rattle.calculus.specs.Form.{Scope as Senses}
use Rattle.calculus.proofs.Tails.{IsFine}
use Rattle.calculus.proofs.Binding.{no_bound}
use Rattle.calculus.proofs.FromFits.{formed, fine}
use Rattle.scope.specs.Binding.{Variable, Scope, inside}
use Rattle.source_laws.proofs.Scopes.{names_of, senses}

map-reverse : {A B : Type 0} (f : A → B) (xs : List A) → map f (reverse xs) ≡ reverse (map f xs)
map-reverse f [] = refl
map-reverse f (x ∷ xs) =
    ap (map f) (reverse-append (x ∷ []) xs) ∙ map-append f (reverse xs) (x ∷ []) ∙ ap (λ ys. ys ++ f x ∷ []) (map-reverse f xs) ∙ sym (reverse-append (f x ∷ []) (map f xs))

inside-map : {B : Type 0} (f : Variable → B) (vs : List Variable) (v : Scope) → reverse (map f vs) ++ map f v ≡ map f (inside vs v)
inside-map f vs v = ap (λ ys. ys ++ map f v) (sym (map-reverse f vs)) ∙ sym (map-append f (reverse vs) v)

-- the names of the variables inside
pub inside-names : (xs : Names) (vs : List Variable) (v : Scope) (w : Names) → xs ≡ names_of vs → reverse xs ++ (names_of v ++ w) ≡ names_of (inside vs v) ++ w
inside-names xs vs v w e = ap (λ ys. reverse ys ++ (names_of v ++ w)) e ∙ sym (append_assoc (reverse (names_of vs)) (names_of v) w) ∙ ap (λ ys. ys ++ w) (inside-map (λ x. x.0) vs v)

-- and what they stand for
pub inside-senses : (o : List Sense) (vs : List Variable) (v : Scope) → o ≡ senses vs → reverse o ++ senses v ≡ senses (inside vs v)
inside-senses o vs v e = ap (λ ys. reverse ys ++ senses v) e ∙ inside-map (λ x. x.1) vs v

-- a process binds nothing outside
pub term-bound : (v : Senses) (t : Tree) → Fits term v t → bound t ≡ []
term-bound v t h = no_bound IsFine term t tt (formed IsFine fine term v t h)

module _ (b : Written) (vs : List Variable) (v : Scope) (w : Names) (xs : Names) (e : xs ≡ names_of vs) (h : Fits term (senses (inside vs v)) (bare_in b (names_of (inside vs v) ++ w))) where
  -- a body that fits in its scope stands so under its binders
  same-body : bare_in b (names_of (inside vs v) ++ w) ≡ bare_in b (reverse xs ++ (names_of v ++ w))
  same-body = ap (bare_in b) (sym (inside-names xs vs v w e))

  pub body-bound : bound (bare_in b (reverse xs ++ (names_of v ++ w))) ≡ []
  body-bound = ap bound (sym same-body) ∙ term-bound (senses (inside vs v)) (bare_in b (names_of (inside vs v) ++ w)) h

  pub body-fits : (o : List Sense) → o ≡ senses vs → Fits term (reverse o ++ senses v) (bare_in b (reverse xs ++ (names_of v ++ w)))
  body-fits o d =
      subst (λ (y : Senses). Fits term y (bare_in b (reverse xs ++ (names_of v ++ w)))) (sym (inside-senses o vs v d)) (subst (Fits term (senses (inside vs v))) same-body h)
