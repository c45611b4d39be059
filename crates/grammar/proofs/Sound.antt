-- What descent reads is spelt.
use Rattle.std.proofs.Common.{◌≡◌, ℕ, List, ◌∷◌, Bool, true, subst, sym}
use Rattle.std.specs.Prelude.{⊤}
use Rattle.grammar.specs.declared.dialect.Dialect.{Dialect}
use Rattle.grammar.specs.Choice.{choose}
use Rattle.grammar.specs.Descent.{Outcome, read, fault, shows, Runs, runs_done, runs_sign, no_sign, runs_opens, no_opens, runs_next, no_next, runs_opens_next, no_opens_next, runs_text, no_text, runs_integer, no_integer, runs_at, no_at, runs_under, no_under, runs_last, no_memory}
use Rattle.grammar.specs.Grammar.{rule}
use Rattle.grammar.specs.Rules.{Rule, sign, opens, next, opens_next, holds, integer, at, under, last}
use Rattle.grammar.specs.Spells.{Reads, of_done, of_sign, of_opens, of_next, of_opens_next, of_text, of_integer, of_at, of_under, of_last}
use Rattle.grammar.specs.Terminals.{Terminal}
use Rattle.grammar.specs.Values.{Spelt}

-- what comes out, if it is a value, is spelt by the rule
abbrev pub IsSpelt : Dialect → Rule → List Terminal → Outcome → Type 0
IsSpelt d r ts (read v us) = Reads d r ts v us
IsSpelt d r ts (fault e us) = ⊤

-- a step in front of what was read
before : (d : Dialect) (r q : Rule) (ts us : List Terminal) (out : Outcome) → ((v : Spelt) (rest : List Terminal) → Reads d r us v rest → Reads d q ts v rest)
    → IsSpelt d r us out → IsSpelt d q ts out
before d r q ts us (read v rest) f h = f v rest h
before d r q ts us (fault e rest) f h = tt

-- a test that the next terminal passes
tested : (d : Dialect) (test : Terminal → Bool) (r : Rule) (ts : List Terminal) (v : Spelt) (rest : List Terminal) → shows test ts ≡ true
    → Reads d r ts v rest → Reads d (next test r) ts v rest × Reads d (opens_next test r) ts v rest
tested d test r (t ∷ ts) v rest e h = (of_next e h, of_opens_next e h)
tested d test r _ v rest e h = absurd (cc (e))

pub sound : {d : Dialect} {free : ℕ} {r : Rule} {ts : List Terminal} {out : Outcome} → Runs d free r ts out → IsSpelt d r ts out
sound runs_done = of_done
sound {d = d} (runs_sign {m = m} {r = r} {ts = ts} {us = us} {out = out} t h) =
    before d r (sign m r) ts us out (λ v rest s. subst (λ (x : List Terminal). Reads d (sign m r) x v rest) (sym t.is) (of_sign s)) (sound h)
sound (no_sign n) = tt
sound {d = d} (runs_opens {m = m} {h = k} {r = r} {ts = ts} {us = us} {out = out} t h) =
    before d r (opens m k r) ts us out (λ v rest s. subst (λ (x : List Terminal). Reads d (opens m k r) x v rest) (sym t.is) (of_opens s)) (sound h)
sound (no_opens n) = tt
sound {d = d} (runs_next {test = test} {r = r} {ts = ts} {out = out} t h) =
    before d r (next test r) ts ts out (λ v rest s. (tested d test r ts v rest t s).0) (sound h)
sound (no_next n) = tt
sound {d = d} (runs_opens_next {test = test} {r = r} {ts = ts} {out = out} t f h) =
    before d r (opens_next test r) ts ts out (λ v rest s. (tested d test r ts v rest t s).1) (sound h)
sound (no_opens_next n) = tt
sound {d = d} (runs_text {k = k} {f = f} {ts = ts} {us = us} {out = out} {w = w} t h) =
    before d (f w) (holds k f) ts us out (λ v rest s. subst (λ (x : List Terminal). Reads d (holds k f) x v rest) (sym t.is) (of_text s)) (sound h)
sound (no_text n) = tt
sound {d = d} (runs_integer {most = most} {f = f} {ts = ts} {us = us} {out = out} {n = n} t h) =
    before d (f n) (integer most f) ts us out (λ v rest s. subst (λ (x : List Terminal). Reads d (integer most f) x v rest) (sym t.is) (of_integer t.fits s)) (sound h)
sound (no_integer n) = tt
sound {d = d} (runs_at {s = s} {f = f} {ts = ts} {us = us} {out = out} {a = a} g h) =
    before d (f a) (at s f) ts us out (λ v rest k. of_at (choose s ts) (sound g) k) (sound h)
sound (no_at h) = tt
sound {d = d} (runs_under {s = s} {f = f} {ts = ts} {us = us} {out = out} {a = a} g h) =
    before d (f a) (under s f) ts us out (λ v rest k. of_under (choose s ts) (sound g) k) (sound h)
sound (no_under h) = tt
sound {d = d} (runs_last {s = s} {ts = ts} {out = out} h) =
    before d (rule d (choose s ts)) (last s) ts ts out (λ v rest k. of_last (choose s ts) k) (sound h)
sound no_memory = tt
