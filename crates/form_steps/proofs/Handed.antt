-- What was read, or a fault in its place, that is handed on.
use Rattle.std.proofs.Common.{◌≡◌, ◌-◌, ◌≤◌, ℕ, List, Result, Ok, Err, subst, sym, arith}
use Rattle.std.specs.Prelude.{IfOk, MatchResult}
use Rattle.std.specs.declared.alloc.Global.{Global}
use Rattle.std.specs.declared.vec.Vec.{Vec}
use Rattle.grammar.specs.declared.dialect.Dialect.TheVariants.{Tutorial}
use Rattle.grammar.specs.declared.fault.Fault.{Fault}
use Rattle.grammar.specs.declared.fault.Fault.TheVariants.{NoMemory}
use Rattle.grammar.specs.declared.mark.Mark.{Mark}
use Rattle.grammar.specs.Choice.{choose}
use Rattle.grammar.specs.Descent.{Outcome, read, fault, Runs, no_at, no_under, no_memory, runs_at, runs_done, runs_under}
use Rattle.grammar.specs.Grammar.{rule}
use Rattle.grammar.specs.Rules.{Sort, Rule, at, done, sign, under}
use Rattle.grammar.specs.Terminals.{Terminal}
use Rattle.grammar.specs.Values.{Spelt}
use Rattle.form_parts.specs.declared.part.Part.{Part}
use Rattle.token_cursor.specs.Reading.{Gives, Makes, Turns}
use Rattle.token_cursor.proofs.Steps.{faulty}

-- where a value was read, the rule goes on with it
pub as_read : {T : Type 0} {free : ℕ} {r : Rule} {ts us : List Terminal} {res : Result T Fault} (after : T → Rule) (x : T) → res ≡ Ok x
    → Turns free r after ts res us → (out : Outcome) → Runs Tutorial free (after x) us out → Runs Tutorial free r ts out
as_read {T} {free} {r} {ts} {us} {res} after x e t = subst (λ (y : Result T Fault). Turns free r after ts y us) e t

-- where a fault was met, it is the rule's
pub as_fault : {T : Type 0} {free : ℕ} {r : Rule} {ts us : List Terminal} {res : Result T Fault} (after : T → Rule) (d : Fault) → res ≡ Err d
    → Turns free r after ts res us → Runs Tutorial free r ts (fault d us)
as_fault {T} {free} {r} {ts} {us} {res} after d e t = subst (λ (y : Result T Fault). Turns free r after ts y us) e t

-- what is known of a value that was read
pub if_read : {T : Type 0} {res : Result T Fault} (P : T → Type 0) (x : T) → res ≡ Ok x → IfOk res P → P x
if_read {T} {res} P x e h = subst (λ (y : Result T Fault). IfOk y P) e h

-- a list that is made of what was read, unless memory runs out
pub listed : {T : Type 0} {free : ℕ} {r : Rule} {ts us : List Terminal} (after : List T → ℕ → Rule) (xs : List T) (h : ℕ) (res : Result (Part (Vec T Global)) Fault)
    → MatchResult res (λ p. p.value.items ≡ xs) (λ e. e ≡ NoMemory) → IfOk res (λ p. p.height ≡ h)
    → ((out : Outcome) → Runs Tutorial free (after xs h) us out → Runs Tutorial free r ts out) → Turns free r (λ ps. after ps.value.items ps.height) ts res us
listed {T} {free} {r} {ts} {us} after xs h (Ok p) e g t = λ out k.
    t out (subst (λ (n : ℕ). Runs Tutorial free (after xs n) us out) g (subst (λ (x : List T). Runs Tutorial free (after x p.height) us out) e k))
listed after xs h (Err d) e g t = faulty d NoMemory e no_memory

-- a height that is small enough
pub made_room : {T : Type 0} {h n : ℕ} (res : Result (Part T) Fault) → IfOk res (λ p. p.height ≡ h) → h ≤ n → IfOk res (λ p. p.height ≤ n)
made_room (Ok p) e l = omega (arith, e, l)
made_room (Err d) e l = e

-- a tree and a height are those that the rule says
pub tree_as : {A : Type 0} {free : ℕ} {us : List Terminal} {out : Outcome} (after : A → ℕ → Rule) (v w : A) (h k : ℕ) → w ≡ v → k ≡ h
    → Runs Tutorial free (after w k) us out → Runs Tutorial free (after v h) us out
tree_as {A} {free} {us} {out} after v w h k e g r =
    subst (λ (n : ℕ). Runs Tutorial free (after v n) us out) g
    (subst (λ (x : A). Runs Tutorial free (after x k) us out) e r)

-- a constituent under no form, and one under a form
pub at_read : {T : Type 0} {free : ℕ} {ts : List Terminal} (s : Sort) (us : List Terminal) (of : T → Spelt) (f : Spelt → Rule) (res : Result T Fault)
    → Gives free s of ts res us → Turns free (at s f) (λ x. f (of x)) ts res us
at_read s us of f (Ok x) g = λ out h. runs_at g h
at_read s us of f (Err d) g = no_at g

pub under_read : {T : Type 0} {ts : List Terminal} (free : ℕ) (s : Sort) (us : List Terminal) (of : T → Spelt) (f : Spelt → Rule) (res : Result T Fault)
    → Makes (free - 1) (rule Tutorial (choose s ts)) of ts res us → Turns free (under s f) (λ x. f (of x)) ts res us
under_read free s us of f (Ok x) g = λ out h. runs_under g h
under_read free s us of f (Err d) g = no_under g

-- what goes on goes on after more of the rule
pub resume : {T : Type 0} {free : ℕ} {r s : Rule} {ts ms : List Terminal} (us : List Terminal) (after : T → Rule) (res : Result T Fault)
    → ((out : Outcome) → Runs Tutorial free s ms out → Runs Tutorial free r ts out) → Turns free s after ms res us → Turns free r after ts res us
resume us after (Ok x) k t = λ out h. k out (t out h)
resume us after (Err d) k t = k (fault d us) t

-- what follows comes to what follows by the rule
pub then_on : {T : Type 0} {free : ℕ} {us : List Terminal} (r : Rule) (ts : List Terminal) (before after : T → Rule) (res : Result T Fault)
    → ((x : T) (out : Outcome) → Runs Tutorial free (after x) us out → Runs Tutorial free (before x) us out) → Turns free r before ts res us → Turns free r after ts res us
then_on r ts before after (Ok x) k t = λ out h. t out (k x out h)
then_on r ts before after (Err d) k t = t

-- a constituent under a form, after what is held before it
pub both_ok : {A T : Type 0} {free : ℕ} {s : Sort} {ts us : List Terminal} (of : T → Spelt) (f : A → Spelt → Rule) (a : A) (second : Result T Fault) (p : A × T)
    → (p.0 ≡ a) × (second ≡ Ok p.1) → Makes (free - 1) (rule Tutorial (choose s ts)) of ts second us
    → (out : Outcome) → Runs Tutorial free (f p.0 (of p.1)) us out → Runs Tutorial free (under s (f a)) ts out
both_ok {A} {T} {free} {s} {ts} {us} of f a second p e g =
    let x : Makes (free - 1) (rule Tutorial (choose s ts)) of ts (Ok p.1) us = subst (λ (y : Result T Fault). Makes (free - 1) (rule Tutorial (choose s ts)) of ts y us) e.1 g in
    λ out h. runs_under x (subst (λ (b : A). Runs Tutorial free (f b (of p.1)) us out) e.0 h)

-- where that failed
pub both_failed : {A T : Type 0} {free : ℕ} {s : Sort} {ts us : List Terminal} (of : T → Spelt) (f : A → Spelt → Rule) (a : A) (second : Result T Fault) (d : Fault)
    → second ≡ Err d → Makes (free - 1) (rule Tutorial (choose s ts)) of ts second us → Runs Tutorial free (under s (f a)) ts (fault d us)
both_failed {A} {T} {free} {s} {ts} {us} of f a second d e g =
    let x : Makes (free - 1) (rule Tutorial (choose s ts)) of ts (Err d) us = subst (λ (y : Result T Fault). Makes (free - 1) (rule Tutorial (choose s ts)) of ts y us) e g in
    no_under x

-- and either
pub both_read : {A T : Type 0} {ts : List Terminal} (free : ℕ) (s : Sort) (us : List Terminal) (of : T → Spelt) (f : A → Spelt → Rule) (a : A) (second : Result T Fault) (res : Result (A × T) Fault)
    → MatchResult res (λ p. (p.0 ≡ a) × (second ≡ Ok p.1)) (λ e. second ≡ Err e)
    → Makes (free - 1) (rule Tutorial (choose s ts)) of ts second us → Turns free (under s (f a)) (λ p. f p.0 (of p.1)) ts res us
both_read free s us of f a second (Ok p) e g = both_ok of f a second p e g
both_read free s us of f a second (Err d) e g = both_failed of f a second d e g

-- the mark is this one
pub mark_as : {T : Type 0} (free : ℕ) (r : Rule) (ts us : List Terminal) (after : T → Rule) (res : Result T Fault) (m n : Mark) → m ≡ n
    → Turns free r (λ x. sign n (after x)) ts res us → Turns free r (λ x. sign m (after x)) ts res us
mark_as {T} free r ts us after res m n e t = subst (λ (k : Mark). Turns free r (λ (x : T). sign k (after x)) ts res us) (sym e) t

-- nothing more is wanted
pub makes : {T : Type 0} {free : ℕ} {r : Rule} {ts : List Terminal} (us : List Terminal) (of : T → Spelt) (res : Result T Fault) → Turns free r (λ x. done (of x)) ts res us → Makes free r of ts res us
makes us of (Ok x) t = t (read (of x) us) runs_done
makes us of (Err d) t = t
