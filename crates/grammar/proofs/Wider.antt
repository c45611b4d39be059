-- Where no room was missing, more of it changes nothing.
use Rattle.std.proofs.Common.{◌≡◌, ℕ, ◌-◌, ◌≤◌, max, List, [], ◌∷◌, arith, inl, inr}
use Rattle.std.specs.Prelude.{⊤}
use Rattle.calculus.specs.Written.{Written}
use Rattle.grammar.specs.declared.dialect.Dialect.{Dialect}
use Rattle.grammar.specs.declared.fault.Fault.TheVariants.{Syntax, TooDeep}
use Rattle.grammar.specs.declared.mark.Mark.TheVariants as marks
use Rattle.grammar.specs.Descent.{Outcome, read, fault, Runs, runs_done, runs_sign, no_sign, runs_opens, no_opens, runs_next, no_next, runs_opens_next, no_opens_next, runs_text, no_text, runs_integer, no_integer, runs_at, no_at, runs_under, no_under, runs_last, no_memory}
use Rattle.grammar.specs.Rules.{Par, Rule, last}
use Rattle.grammar.specs.Spells.{Reads}
use Rattle.grammar.specs.Terminals.{Terminal, mark}
use Rattle.grammar.specs.Values.{spelt, processes}
use Rattle.grammar.proofs.Agree.{same}
use Rattle.grammar.proofs.Complete.{reaches}

-- no room was missing
abbrev pub Fits : Outcome → Type 0
Fits (read v us) = ⊤
Fits (fault e us) = e ≡ TooDeep → ⊥

pub wider : {d : Dialect} {free : ℕ} {r : Rule} {ts : List Terminal} {out : Outcome} → Runs d free r ts out → Fits out → (room : ℕ) → free ≤ room → Runs d room r ts out
wider runs_done f n l = runs_done
wider (runs_sign t h) f n l = runs_sign t (wider h f n l)
wider (no_sign s) f n l = no_sign s
wider (runs_opens t h) f n l = runs_opens (record { is = t.is; room = omega (arith, t.room, l) }) (wider h f n l)
wider (no_opens (inl s)) f n l = no_opens (inl s)
wider (no_opens (inr s)) f n l = absurd (f s.is)
wider (runs_next t h) f n l = runs_next t (wider h f n l)
wider (no_next s) f n l = no_next s
wider (runs_opens_next t z h) f n l = runs_opens_next t (omega (arith, z, l)) (wider h f n l)
wider (no_opens_next (inl s)) f n l = no_opens_next (inl s)
wider (no_opens_next (inr s)) f n l = absurd (f s.is)
wider (runs_text t h) f n l = runs_text t (wider h f n l)
wider (no_text s) f n l = no_text s
wider (runs_integer t h) f n l = runs_integer t (wider h f n l)
wider (no_integer s) f n l = no_integer s
wider (runs_at g h) f n l = runs_at (wider g tt n l) (wider h f n l)
wider (no_at g) f n l = no_at (wider g f n l)
wider (runs_under g h) f n l = runs_under (wider g tt (n - 1) (omega (arith, l))) (wider h f n l)
wider (no_under g) f n l = no_under (wider g f (n - 1) (omega (arith, l)))
wider (runs_last h) f n l = runs_last (wider h f n l)
wider no_memory f n l = no_memory

-- what is spelt within the free height is read
pub complete : (d : Dialect) (ts : List Terminal) (p : Written) (h free : ℕ) → Reads d (last (Par processes)) ts (spelt p h) (mark marks.End ∷ []) → h ≤ free
    → Runs d free (last (Par processes)) ts (read (spelt p h) (mark marks.End ∷ []))
complete d ts p h free s l = reaches s (Par processes) (omega arith, omega arith) (omega arith, omega arith) 0 (omega arith) free l

-- where descent meets a fault of syntax, nothing is spelt
pub nothing : (d : Dialect) (free : ℕ) (ts us : List Terminal) → Runs d free (last (Par processes)) ts (fault Syntax us)
    → (p : Written) (h : ℕ) → Reads d (last (Par processes)) ts (spelt p h) (mark marks.End ∷ []) → ⊥
nothing d free ts us k p h s =
    let a = complete d ts p h (max free h) s (omega arith) in
    let b = wider k (λ e. absurd (cc (e))) (max free h) (omega arith) in
    let e : read (spelt p h) (mark marks.End ∷ []) ≡ fault Syntax us = same a b tt (λ e. absurd (cc (e))) in
    absurd (cc (e))
