use Rattle.std.proofs.Common.{◌≡◌, ◌≤◌, ℕ, List, Result, Ok, Err, subst, arith}
use Rattle.std.specs.Prelude.{IfOk, MatchResult}
use Rattle.calculus.specs.Meaning.{pat_written}
use Rattle.calculus.specs.declared.process.Pat.{Pat}
use Rattle.calculus.specs.declared.process.Proc.{Proc}
use Rattle.grammar.specs.Descent.{no_at, runs_at}
use Rattle.grammar.specs.Rules.{Sort, at, done}
use Rattle.grammar.specs.Terminals.{Terminal}
use Rattle.grammar.specs.Values.{closed_of}
use Rattle.grammar.specs.declared.fault.Fault.{Fault}
use Rattle.grammar.specs.declared.fault.Fault.TheVariants.{NoMemory}
use Rattle.token_cursor.specs.Reading.{Gives, Makes, of_pat, of_proc}
use Rattle.form_parts.specs.declared.part.Part.{Part}
use Rattle.form_steps.proofs.Turning.{built}
use Rattle.form_ends.proofs.form_end.closed_form.Goals as goal

-- a form that was read
closes : {free : ℕ} {s : Sort} {ts : List Terminal} (us : List Terminal) (form : Result (Part Proc) Fault) (p : Part Proc) (res : Result (Part Pat) Fault) → form ≡ Ok p
    → MatchResult res (λ q. pat_written q.value ≡ (closed_of (of_proc p)).tree) (λ e. e ≡ NoMemory) → IfOk res (λ q. q.height ≡ p.height)
    → Gives free s of_proc ts form us → Makes free (at s (λ a. done (closed_of a))) of_pat ts res us
closes {free} {s} {ts} us form p res i e g h =
    let r : Gives free s of_proc ts (Ok p) us = subst (λ (x : Result (Part Proc) Fault). Gives free s of_proc ts x us) i h in
    runs_at r (built pat_written (closed_of (of_proc p)) res e g)

-- a form that was not
fails : {free : ℕ} {s : Sort} {ts : List Terminal} (us : List Terminal) (form : Result (Part Proc) Fault) (e : Fault) → form ≡ Err e
    → Gives free s of_proc ts form us → Makes free (at s (λ a. done (closed_of a))) of_pat ts (Err e) us
fails {free} {s} {ts} us form e i h =
    let r : Gives free s of_proc ts (Err e) us = subst (λ (x : Result (Part Proc) Fault). Gives free s of_proc ts x us) i h in
    no_at r

-- its height
fits : (form : Result (Part Proc) Fault) (p : Part Proc) (res : Result (Part Pat) Fault) (n : ℕ) → form ≡ Ok p → IfOk res (λ q. q.height ≡ p.height)
    → IfOk form (λ q. q.height ≤ n) → IfOk res (λ q. q.height ≤ n)
fits form p (Ok q) n i g h =
    let r : p.height ≤ n = subst (λ (x : Result (Part Proc) Fault). IfOk x (λ (y : Part Proc). y.height ≤ n)) i h in
    omega (arith, r, g)
fits form p (Err e) n i g h = g

pub returns-in-Ok-clause-reads : goal.returns-in-Ok-clause-reads
returns-in-Ok-clause-reads c = λ free s ts us h. closes us c.args.form _ _ c.in-Ok.is c.closed.ensures.tree c.closed.ensures.height h

pub returns-in-Err-clause-reads : goal.returns-in-Err-clause-reads
returns-in-Err-clause-reads c = λ free s ts us h. fails us c.args.form _ c.in-Err.is h

pub returns-in-Ok-clause-room : goal.returns-in-Ok-clause-room
returns-in-Ok-clause-room c = λ n h. fits c.args.form _ _ n c.in-Ok.is c.closed.ensures.height h
