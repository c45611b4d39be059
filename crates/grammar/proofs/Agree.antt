-- Descent comes to one thing, unless memory runs out.
use Rattle.std.proofs.Common.{◌≡◌, ℕ, ◌<◌, ◌≤◌, List, ◌∷◌, Bool, true, false, subst, sym, refl, ap, ◌∙◌, arith, ◌⊎◌, inl, inr}
use Rattle.grammar.specs.declared.dialect.Dialect.{Dialect}
use Rattle.grammar.specs.declared.fault.Fault.{Fault}
use Rattle.grammar.specs.declared.mark.Mark.{Mark}
use Rattle.grammar.specs.Choice.{sees_text}
use Rattle.grammar.specs.Descent.{Outcome, read, fault, IsSure, sees_integer, Stuck, Full, Runs, runs_done, runs_sign, no_sign, runs_opens, no_opens, runs_next, no_next, runs_opens_next, no_opens_next, runs_text, no_text, runs_integer, no_integer, runs_at, no_at, runs_under, no_under, runs_last, no_memory}
use Rattle.grammar.specs.Rules.{Rule}
use Rattle.grammar.specs.Terminals.{Holding, Terminal, text, number, mark, sees}
use Rattle.grammar.specs.Values.{Spelt}

self : (m : Mark) (ts us : List Terminal) → ts ≡ mark m ∷ us → sees m ts ≡ true
self m ts us e = ap (sees m) e ∙ grind arith

self_text : (k : Holding) (w : List ℕ) (ts us : List Terminal) → ts ≡ text k w ∷ us → sees_text k ts ≡ true
self_text k w ts us e = ap (sees_text k) e ∙ grind arith

self_integer : (most n : ℕ) (ts us : List Terminal) → ts ≡ number n ∷ us → n ≤ most → sees_integer most ts ≡ true
self_integer most n ts us e h = ap (sees_integer most) e ∙ grind (arith, h)

-- what is seen isn't missed
missed : (b : Bool) (ts us : List Terminal) (e : Fault) → b ≡ true → Stuck b ts e us → ⊥
missed b ts us e h n = absurd (let x : true ≡ false = sym h ∙ n.no in cc (x))

-- two faults at one place
both : (b : Bool) (ts : List Terminal) (e c : Fault) (us vs : List Terminal) → Stuck b ts e us → Stuck b ts c vs → fault e us ≡ fault c vs
both b ts e c us vs p q = cc (p.is, p.same, q.is, q.same)

stuck : (b : Bool) (h free : ℕ) (ts : List Terminal) (e c : Fault) (us vs : List Terminal) → Stuck b ts e us ⊎ Full b h free ts e us
    → Stuck b ts c vs ⊎ Full b h free ts c vs → fault e us ≡ fault c vs
stuck b h free ts e c us vs (inl p) (inl q) = both b ts e c us vs p q
stuck b h free ts e c us vs (inl p) (inr q) = absurd (missed b ts us e q.yes p)
stuck b h free ts e c us vs (inr p) (inl q) = absurd (missed b ts vs c p.yes q)
stuck b h free ts e c us vs (inr p) (inr q) = cc (p.is, p.same, q.is, q.same)

full : (b : Bool) (h free : ℕ) (ts us : List Terminal) (e : Fault) → b ≡ true → h < free → Stuck b ts e us ⊎ Full b h free ts e us → ⊥
full b h free ts us e s r (inl n) = missed b ts us e s n
full b h free ts us e s r (inr n) = omega (arith, r, n.room)

rest_same : (m : Mark) (ts us vs : List Terminal) → ts ≡ mark m ∷ us → ts ≡ mark m ∷ vs → us ≡ vs
rest_same m ts us vs a b = cc (a, b)

-- a value isn't a fault
clash : (v : Spelt) (us ts : List Terminal) (e : Fault) → read v us ≡ fault e ts → ⊥
clash v us ts e h = absurd (cc (h))

pub same : {d : Dialect} {free : ℕ} {r : Rule} {ts : List Terminal} {out out' : Outcome} → Runs d free r ts out → Runs d free r ts out'
    → IsSure out → IsSure out' → out ≡ out'
same h no_memory a b = absurd (b refl)
same no_memory h a b = absurd (a refl)
same runs_done runs_done a b = refl
same {d = d} {free = free} (runs_sign {r = r} {ts = ts} {us = us} t h) (runs_sign {us = vs} {out = out'} t' h') a b =
    same h (subst (λ (x : List Terminal). Runs d free r x out') (rest_same _ ts vs us t'.is t.is) h') a b
same (runs_sign {ts = ts} {us = us} t h) (no_sign n) a b = absurd (missed _ ts _ _ (self _ ts us t.is) n)
same (no_sign n) (runs_sign {ts = ts} {us = us} t h) a b = absurd (missed _ ts _ _ (self _ ts us t.is) n)
same (no_sign p) (no_sign q) a b = both _ _ _ _ _ _ p q
same {d = d} {free = free} (runs_opens {r = r} {ts = ts} {us = us} t h) (runs_opens {us = vs} {out = out'} t' h') a b =
    same h (subst (λ (x : List Terminal). Runs d free r x out') (rest_same _ ts vs us t'.is t.is) h') a b
same (runs_opens {h = k} {ts = ts} {us = us} t h) (no_opens n) a b = absurd (full _ k _ ts _ _ (self _ ts us t.is) t.room n)
same (no_opens n) (runs_opens {h = k} {ts = ts} {us = us} t h) a b = absurd (full _ k _ ts _ _ (self _ ts us t.is) t.room n)
same (no_opens {h = k} p) (no_opens q) a b = stuck _ k _ _ _ _ _ _ p q
same (runs_next t h) (runs_next t' h') a b = same h h' a b
same (runs_next {ts = ts} t h) (no_next n) a b = absurd (missed _ ts _ _ t n)
same (no_next n) (runs_next {ts = ts} t h) a b = absurd (missed _ ts _ _ t n)
same (no_next p) (no_next q) a b = both _ _ _ _ _ _ p q
same (runs_opens_next t f h) (runs_opens_next t' f' h') a b = same h h' a b
same (runs_opens_next {ts = ts} t f h) (no_opens_next n) a b = absurd (full _ 0 _ ts _ _ t f n)
same (no_opens_next n) (runs_opens_next {ts = ts} t f h) a b = absurd (full _ 0 _ ts _ _ t f n)
same (no_opens_next p) (no_opens_next q) a b = stuck _ 0 _ _ _ _ _ _ p q
same {d = d} {free = free} (runs_text {f = f} {ts = ts} {us = us} {w = w} t h) (runs_text {us = vs} {out = out'} {w = w'} t' h') a b =
    let e : w' ≡ w = cc (t.is, t'.is) in
    let g : vs ≡ us = cc (t.is, t'.is) in
    same h (subst (λ (x : List Terminal). Runs d free (f w) x out') g (subst (λ (x : List ℕ). Runs d free (f x) vs out') e h')) a b
same (runs_text {ts = ts} {us = us} {w = w} t h) (no_text n) a b = absurd (missed _ ts _ _ (self_text _ w ts us t.is) n)
same (no_text n) (runs_text {ts = ts} {us = us} {w = w} t h) a b = absurd (missed _ ts _ _ (self_text _ w ts us t.is) n)
same (no_text p) (no_text q) a b = both _ _ _ _ _ _ p q
same {d = d} {free = free} (runs_integer {f = f} {ts = ts} {us = us} {n = w} t h) (runs_integer {us = vs} {out = out'} {n = w'} t' h') a b =
    let e : w' ≡ w = cc (t.is, t'.is) in
    let g : vs ≡ us = cc (t.is, t'.is) in
    same h (subst (λ (x : List Terminal). Runs d free (f w) x out') g (subst (λ (x : ℕ). Runs d free (f x) vs out') e h')) a b
same (runs_integer {ts = ts} {us = us} {n = w} t h) (no_integer n) a b = absurd (missed _ ts _ _ (self_integer _ w ts us t.is t.fits) n)
same (no_integer n) (runs_integer {ts = ts} {us = us} {n = w} t h) a b = absurd (missed _ ts _ _ (self_integer _ w ts us t.is t.fits) n)
same (no_integer p) (no_integer q) a b = both _ _ _ _ _ _ p q
same {d = d} {free = free} (runs_at {f = f} {us = us} {a = x} g h) (runs_at {us = vs} {out = out'} {a = y} g' h') a b =
    let e : read x us ≡ read y vs = same g g' tt tt in
    let p : y ≡ x = cc (e) in
    let q : vs ≡ us = cc (e) in
    same h (subst (λ (z : List Terminal). Runs d free (f x) z out') q (subst (λ (z : Spelt). Runs d free (f z) vs out') p h')) a b
same (runs_at {us = us} {a = x} g h) (no_at {us = vs} {e = e} g') a b = absurd (clash x us vs e (same g g' tt b))
same (no_at {us = vs} {e = e} g) (runs_at {us = us} {a = x} g' h') a b = absurd (clash x us vs e (sym (same g g' a tt)))
same (no_at g) (no_at g') a b = same g g' a b
same {d = d} {free = free} (runs_under {f = f} {us = us} {a = x} g h) (runs_under {us = vs} {out = out'} {a = y} g' h') a b =
    let e : read x us ≡ read y vs = same g g' tt tt in
    let p : y ≡ x = cc (e) in
    let q : vs ≡ us = cc (e) in
    same h (subst (λ (z : List Terminal). Runs d free (f x) z out') q (subst (λ (z : Spelt). Runs d free (f z) vs out') p h')) a b
same (runs_under {us = us} {a = x} g h) (no_under {us = vs} {e = e} g') a b = absurd (clash x us vs e (same g g' tt b))
same (no_under {us = vs} {e = e} g) (runs_under {us = us} {a = x} g' h') a b = absurd (clash x us vs e (sym (same g g' a tt)))
same (no_under g) (no_under g') a b = same g g' a b
same (runs_last h) (runs_last h') a b = same h h' a b
