-- Each list of tokens spells at most one process.
use Rattle.std.proofs.Common.{◌≡◌, ℕ, List, [], ◌∷◌, subst, sym, refl, ap, ◌∙◌, arith}
use Rattle.calculus.specs.Written.{Written}
use Rattle.tokens.specs.Token.{Notation, Token}
use Rattle.grammar.specs.declared.dialect.Dialect.{Dialect}
use Rattle.grammar.specs.declared.mark.Mark.TheVariants as marks
use Rattle.grammar.specs.Grammar.{rule}
use Rattle.grammar.specs.Productions.{Prod}
use Rattle.grammar.specs.Rules.{Sort, Rule, done, sign, opens, next, opens_next, holds, integer, at, under, last}
use Rattle.grammar.specs.Spells.{Reads, of_done, of_sign, of_opens, of_next, of_opens_next, of_text, of_integer, of_at, of_under, of_last, Spells}
use Rattle.grammar.specs.Terminals.{Terminal, text, number, mark}
use Rattle.grammar.specs.Values.{Spelt, spelt, processes}
use Rattle.grammar.proofs.Clean.{Clean, clean_rule, follows}
use Rattle.grammar.proofs.First.{Ends}
use Rattle.grammar.proofs.Picks.{picks}

-- how a reading of a rule comes about
abbrev Comes : Dialect → Rule → List Terminal → Spelt → List Terminal → Type 0
Comes d (done w) ts v rest = (v ≡ w) × (rest ≡ ts)
Comes d (sign m r) ts v rest = (us : List Terminal) × (ts ≡ mark m ∷ us) × Reads d r us v rest
Comes d (opens m h r) ts v rest = (us : List Terminal) × (ts ≡ mark m ∷ us) × Reads d r us v rest
Comes d (next test r) ts v rest = Reads d r ts v rest
Comes d (opens_next test r) ts v rest = Reads d r ts v rest
Comes d (holds k f) ts v rest = (w : List ℕ) × (us : List Terminal) × (ts ≡ text k w ∷ us) × Reads d (f w) us v rest
Comes d (integer most f) ts v rest = (n : ℕ) × (us : List Terminal) × (ts ≡ number n ∷ us) × Reads d (f n) us v rest
Comes d (at s f) ts v rest = (p : Prod s) × (a : Spelt) × (mid : List Terminal) × Reads d (rule d p) ts a mid × Reads d (f a) mid v rest
Comes d (under s f) ts v rest = (p : Prod s) × (a : Spelt) × (mid : List Terminal) × Reads d (rule d p) ts a mid × Reads d (f a) mid v rest
Comes d (last s) ts v rest = (p : Prod s) × Reads d (rule d p) ts v rest

comes : {d : Dialect} {r : Rule} {ts rest : List Terminal} {v : Spelt} → Reads d r ts v rest → Comes d r ts v rest
comes of_done = (refl, refl)
comes (of_sign {ts = ts} k) = (ts, refl, k)
comes (of_opens {ts = ts} k) = (ts, refl, k)
comes (of_next e k) = k
comes (of_opens_next e k) = k
comes (of_text {w = w} {ts = ts} k) = (w, ts, refl, k)
comes (of_integer {n = n} {ts = ts} e k) = (n, ts, refl, k)
comes (of_at {mid = mid} {a = a} p g k) = (p, a, mid, g, k)
comes (of_under {mid = mid} {a = a} p g k) = (p, a, mid, g, k)
comes (of_last p g) = (p, g)

-- one value and one rest
abbrev Same : Spelt → Spelt → List Terminal → List Terminal → Type 0
Same v w rest us = (v ≡ w) × (rest ≡ us)

-- the front of the terminals is read by a rule in one way, up to what ends it
once : {d : Dialect} {r : Rule} {ts rest : List Terminal} {v : Spelt} → Reads d r ts v rest → (s : Sort) → Clean s r → Ends s rest
    → (w : Spelt) (us : List Terminal) → Reads d r ts w us → Ends s us → Same v w rest us
once of_done s c l w us h e = let i = comes h in (sym i.0, sym i.1)
once {d = d} (of_sign {r = r} {ts = ts} k) s c l w us h e =
    let i = comes h in
    let q : i.0 ≡ ts = cc (i.1) in
    once k s c l w us (subst (λ (x : List Terminal). Reads d r x w us) q i.2) e
once {d = d} (of_opens {r = r} {ts = ts} k) s c l w us h e =
    let i = comes h in
    let q : i.0 ≡ ts = cc (i.1) in
    once k s c l w us (subst (λ (x : List Terminal). Reads d r x w us) q i.2) e
once (of_next t k) s c l w us h e = once k s c l w us (comes h) e
once (of_opens_next t k) s c l w us h e = once k s c l w us (comes h) e
once {d = d} (of_text {w = x} {f = f} {ts = ts} k) s c l w us h e =
    let i = comes h in
    let p : i.0 ≡ x = cc (i.2) in
    let q : i.1 ≡ ts = cc (i.2) in
    once k s (c x) l w us (subst (λ (y : List Terminal). Reads d (f x) y w us) q (subst (λ (y : List ℕ). Reads d (f y) i.1 w us) p i.3)) e
once {d = d} (of_integer {n = x} {f = f} {ts = ts} t k) s c l w us h e =
    let i = comes h in
    let p : i.0 ≡ x = cc (i.2) in
    let q : i.1 ≡ ts = cc (i.2) in
    once k s (c x) l w us (subst (λ (y : List Terminal). Reads d (f x) y w us) q (subst (λ (y : ℕ). Reads d (f y) i.1 w us) p i.3)) e
once {d = d} {ts = ts} {rest = rest} {v = v} (of_at {s = q} {f = f} {mid = mid} {a = a} p g k) s c l w us h e =
    let i = comes h in
    let first = follows s q k (c.0 a) l in
    let second = follows s q i.4 (c.0 i.1) e in
    let x : i.0 ≡ p = sym (picks i.0 i.3 second) ∙ picks p g first in
    let y = once g q (clean_rule d p) first i.1 i.2 (subst (λ (z : Prod q). Reads d (rule d z) ts i.1 i.2) x i.3) second in
    once k s (c.1 a) l w us (subst (λ (z : List Terminal). Reads d (f a) z w us) (sym y.1) (subst (λ (z : Spelt). Reads d (f z) i.2 w us) (sym y.0) i.4)) e
once {d = d} {ts = ts} {rest = rest} {v = v} (of_under {s = q} {f = f} {mid = mid} {a = a} p g k) s c l w us h e =
    let i = comes h in
    let first = follows s q k (c.0 a) l in
    let second = follows s q i.4 (c.0 i.1) e in
    let x : i.0 ≡ p = sym (picks i.0 i.3 second) ∙ picks p g first in
    let y = once g q (clean_rule d p) first i.1 i.2 (subst (λ (z : Prod q). Reads d (rule d z) ts i.1 i.2) x i.3) second in
    once k s (c.1 a) l w us (subst (λ (z : List Terminal). Reads d (f a) z w us) (sym y.1) (subst (λ (z : Spelt). Reads d (f z) i.2 w us) (sym y.0) i.4)) e
once {d = d} {ts = ts} {rest = rest} (of_last {s = q} p g) s c l w us h e =
    let i = comes h in
    let first : Ends q rest = (omega (arith, l.0, c.0), omega (arith, l.1, c.1)) in
    let second : Ends q us = (omega (arith, e.0, c.0), omega (arith, e.1, c.1)) in
    let x : i.0 ≡ p = sym (picks i.0 i.1 second) ∙ picks p g first in
    once g q (clean_rule d p) first w us (subst (λ (z : Prod q). Reads d (rule d z) ts w us) x i.1) second

pub one_reading : (n : Notation) (d : Dialect) (ts : List Token) (p q : Written) (h k : ℕ) → Spells n d ts p h → Spells n d ts q k → (p ≡ q) × (h ≡ k)
one_reading n d ts p q h k a b =
    let s = once a (Sort.Par processes) (omega arith, omega arith) (omega arith, omega arith) (spelt q k) (mark marks.End ∷ []) b (omega arith, omega arith) in
    (ap (λ x. x.tree) s.0, ap (λ x. x.height) s.0)
