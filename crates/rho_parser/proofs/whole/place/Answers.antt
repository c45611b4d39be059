use Rattle.std.proofs.Common.{◌≡◌, ◌∙◌, ℕ, zero, suc, ◌-◌, ◌≤◌, ◌<◌, List, [], ◌∷◌, length, get_or, refl, ap, arith}
use Rattle.rho_lexer.specs.declared.token.Token.{Token}
use Rattle.rho_parser.specs.Parsed.{place_of}
use Rattle.rho_parser.proofs.whole.place.Goals as goal

-- the place of a token that is there
there : (ts : List Token) (k : ℕ) (d : Token) → k < length ts → (get_or ts k d).start ≡ place_of ts k
there [] k d h = absurd (omega (arith, h))
there (t ∷ ts) zero d h = refl
there (t ∷ ts) (suc k) d h = there ts k d (omega (arith, h))

-- beyond the last one
beyond : (ts : List Token) (k : ℕ) → length ts ≤ k → 0 ≡ place_of ts k
beyond [] k h = refl
beyond (t ∷ ts) zero h = absurd (omega (arith, h))
beyond (t ∷ ts) (suc k) h = beyond ts k (omega (arith, h))

pub returns-in-Some : goal.returns-in-Some
returns-in-Some c =
    let l = c.in-Some.ensures.lookup in
    ap (λ t. t.start) l.1 ∙ there c.args.tokens.now (length c.args.tokens.now - c.args.left) c.in-Some.token.now l.3.0

pub returns-in-None : goal.returns-in-None
returns-in-None c = beyond c.args.tokens.now (length c.args.tokens.now - c.args.left) c.in-None.ensures.lookup.3
