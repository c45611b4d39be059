-- What was read, and is held together with what was read before it.
use Rattle.std.proofs.Common.{◌≡◌, ◌<◌, ℕ, Result, Ok, Err, true, List, subst, ap, arith, zero, suc}
use Rattle.std.proofs.lemmas.Bool.{false≢true}
use Rattle.std.specs.Prelude.{IfOk, MatchResult}
use Rattle.grammar.specs.declared.dialect.Dialect.TheVariants.{Tutorial}
use Rattle.grammar.specs.declared.fault.Fault.{Fault}
use Rattle.grammar.specs.declared.mark.Mark.{Mark}
use Rattle.grammar.specs.Descent.{Runs, Takes}
use Rattle.grammar.specs.Rules.{Rule, Separator, separator_mark}
use Rattle.grammar.specs.Terminals.{Terminal, sees}
use Rattle.form_steps.proofs.Handed.{as_fault, as_read, if_read}
use Rattle.form_parts.specs.declared.part.Part.{Part}
use Rattle.token_cursor.specs.Reading.{Turns, sees_bind}

-- what is known of what was read is known of what is kept of it
pub kept : {T : Type 0} (P : T → Type 0) (read res : Result T Fault) → IfOk res (λ x. read ≡ Ok x) → IfOk read P → IfOk res P
kept P read (Ok x) e h = if_read P x e h
kept P read (Err d) e h = e

-- a rule goes on with both as it does with the second
pub both_turns : {A T : Type 0} (free : ℕ) (r : Rule) (ts us : List Terminal) (f : A → T → Rule) (a : A) (second : Result T Fault) (res : Result (A × T) Fault)
    → MatchResult res (λ p. (p.0 ≡ a) × (second ≡ Ok p.1)) (λ e. second ≡ Err e)
    → Turns free r (f a) ts second us → Turns free r (λ p. f p.0 p.1) ts res us
both_turns {A} {T} free r ts us f a second (Ok p) e t = λ out h. as_read (f a) p.1 e.1 t out (subst (λ (b : A). Runs Tutorial free (f b p.1) us out) e.0 h)
both_turns free r ts us f a second (Err d) e t = as_fault (f a) d e t

-- the heights of both
pub both_room : {A T : Type 0} (n : ℕ) (a : Part A) (second : Result (Part T) Fault) (res : Result (Part A × Part T) Fault)
    → MatchResult res (λ p. (p.0 ≡ a) × (second ≡ Ok p.1)) (λ e. second ≡ Err e)
    → a.height < n → IfOk second (λ p. p.height < n) → IfOk res (λ p. (p.0.height < n) × (p.1.height < n))
both_room {A} {T} n a second (Ok p) e l h =
    let i : p.0.height ≡ a.height = ap (λ (x : Part A). x.height) e.0 in
    let k : p.1.height < n = if_read (λ (x : Part T). x.height < n) p.1 e.1 h in
    (omega (arith, i, l), k)
both_room n a second (Err d) e l h = tt

-- where a bind follows, its separator is next
pub bind_mark : (m : Separator) (left : ℕ) (ts : List Terminal) → sees_bind m left ts ≡ true → sees (separator_mark m) ts ≡ true
bind_mark m zero ts e = absurd (false≢true e)
bind_mark m (suc left) ts e = e

-- the mark that is taken is this one
pub takes_as : {ts us : List Terminal} (m n : Mark) → m ≡ n → Takes m ts us → Takes n ts us
takes_as {ts} {us} m n e t = subst (λ (k : Mark). Takes k ts us) e t
