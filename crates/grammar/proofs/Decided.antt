-- There is at most one place where a bound on the height is passed.
use Rattle.std.proofs.Common.{◌≡◌, ℕ, ◌+◌, ◌<◌, List, ◌++◌, subst, sym, ap, ◌∙◌, arith, take, length, append_assoc}
use Rattle.std.proofs.lemmas.List.{take-append-drop, take-take}
use Rattle.std.specs.Prelude.{drop as leave}
use Rattle.calculus.specs.Written.{Written}
use Rattle.tokens.specs.Token.{Notation, Token}
use Rattle.grammar.specs.declared.dialect.Dialect.{Dialect}
use Rattle.grammar.specs.Spells.{Spells}
use Rattle.grammar.specs.Places.{Begins, BeginsWithin, IsBeyondAt, PassesAt, EndsAt}

-- tokens with which a list begins, and what follows them
pub parted : (tokens : List Token) (j : ℕ) → take (j + 1) tokens ++ leave (j + 1) tokens ≡ tokens
parted tokens j = take-append-drop (j + 1) tokens

-- a text that is higher than the bound is no text within it
pub higher : (n : Notation) (d : Dialect) (free : ℕ) (tokens : List Token) (k : ℕ) (p : Written) (h : ℕ) → IsBeyondAt n d free tokens k → Spells n d tokens p h → free < h
higher n d free tokens k p h b s = b.none (leave (k + 1) tokens) p h (subst (λ (x : List Token). Spells n d x p h) (sym (parted tokens k)) s)

-- a text that begins with more tokens begins with fewer
fewer : (n : Notation) (d : Dialect) (tokens : List Token) (j k : ℕ) → j < k → (after : List Token) (p : Written) (h : ℕ) → Spells n d (take k tokens ++ after) p h
    → Spells n d (take (j + 1) tokens ++ (leave (j + 1) (take k tokens) ++ after)) p h
fewer n d tokens j k l after p h s =
    let e : take (j + 1) tokens ++ leave (j + 1) (take k tokens) ≡ take k tokens =
    ap (λ x. x ++ leave (j + 1) (take k tokens)) (sym (take-take (j + 1) k tokens (omega (arith, l)))) ∙ parted (take k tokens) j in
    let g : take (j + 1) tokens ++ (leave (j + 1) (take k tokens) ++ after) ≡ take k tokens ++ after =
    sym (append_assoc (take (j + 1) tokens) (leave (j + 1) (take k tokens)) after) ∙ ap (λ x. x ++ after) e in
    subst (λ (x : List Token). Spells n d x p h) (sym g) s

-- nothing within the bound begins with more tokens
later : (n : Notation) (d : Dialect) (free : ℕ) (tokens : List Token) (j k : ℕ) → IsBeyondAt n d free tokens j → BeginsWithin n d free (take k tokens) → j < k → ⊥
later n d free tokens j k b t l =
    let y : free < t.2 = b.none (leave (j + 1) (take k tokens) ++ t.0) t.1 t.2 (fewer n d tokens j k l t.0 t.1 t.2 t.4) in
    let z = t.3 in
    omega (arith, y, z)

-- nothing at all begins with more tokens than a text ends at
ended : (n : Notation) (d : Dialect) (free : ℕ) (tokens : List Token) (j k : ℕ) → EndsAt n d free tokens j → j < length tokens → Begins n d (take k tokens) → j < k → ⊥
ended n d free tokens j k b w t l = b.none w (leave (j + 1) (take k tokens) ++ t.0) t.1 t.2 (fewer n d tokens j k l t.0 t.1 t.2 t.3)

pub one_place : (n : Notation) (d : Dialect) (free : ℕ) (tokens : List Token) (j k : ℕ) → PassesAt n d free tokens j → PassesAt n d free tokens k → j ≡ k
one_place n d free tokens j k a b =
    let x : j < k → ⊥ = later n d free tokens j k a.at b.first in
    let y : k < j → ⊥ = later n d free tokens k j b.at a.first in
    omega (arith, x, y)

pub one_end : (n : Notation) (d : Dialect) (free : ℕ) (tokens : List Token) (j k : ℕ) → EndsAt n d free tokens j → EndsAt n d free tokens k → j ≡ k
one_end n d free tokens j k a b =
    let v = a.within in
    let w = b.within in
    let f = a.first in
    let g = b.first in
    let x : j < k → ⊥ = λ l. ended n d free tokens j k a (omega (arith, l, w)) (g.0, g.1, g.2, g.4) l in
    let y : k < j → ⊥ = λ l. ended n d free tokens k j b (omega (arith, l, v)) (f.0, f.1, f.2, f.4) l in
    omega (arith, x, y)

-- a bound is passed, or a text ends
pub apart : (n : Notation) (d : Dialect) (free : ℕ) (tokens : List Token) (j k : ℕ) → PassesAt n d free tokens j → EndsAt n d free tokens k → ⊥
apart n d free tokens j k a b =
    let p = a.at in
    let x : j < k → ⊥ = later n d free tokens j k p b.first in
    let v = p.within in
    let y : k < j + 1 → ⊥ = λ l. ended n d free tokens k (j + 1) b (omega (arith, l, v)) p.some l in
    omega (arith, x, y)
