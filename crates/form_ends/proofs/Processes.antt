-- The steps of the cycle over processes.
use Rattle.std.proofs.Common.{◌≡◌, map, ℕ, ◌≤◌, arith, List, [], Result, Ok, Err, subst, Option, Some, None}
use Rattle.std.specs.Prelude.{IfOk}
use Rattle.std.specs.declared.alloc.Global.{Global}
use Rattle.std.specs.declared.vec.Vec.{Vec}
use Rattle.calculus.specs.Meaning.{case_written}
use Rattle.calculus.specs.Written.{Written}
use Rattle.calculus.specs.declared.plain.BinaryOp.{BinaryOp}
use Rattle.calculus.specs.declared.process.Case.{Case}
use Rattle.grammar.specs.declared.dialect.Dialect.TheVariants.{Tutorial}
use Rattle.grammar.specs.declared.fault.Fault.{Fault}
use Rattle.grammar.specs.declared.mark.Mark.{Mark}
use Rattle.grammar.specs.Descent.{Outcome, read, Runs, runs_done, runs_last}
use Rattle.grammar.specs.Rules.{Rule, last, opens, under}
use Rattle.grammar.specs.Terminals.{Terminal}
use Rattle.grammar.specs.Values.{Spelt, operation}
use Rattle.token_cursor.specs.Levels.{GoesOn, operand_of, tail_of}
use Rattle.token_cursor.specs.declared.level.Level.{Level}
use Rattle.form_parts.specs.declared.part.Part.{Part}
use Rattle.form_steps.proofs.Turning.{as_rule}
use Rattle.token_cursor.proofs.Steps.{rows}

-- no case
pub no_cases_yet : {free : ℕ} {ts : List Terminal} {out : Outcome} (tail : List Written → ℕ → Rule) (h : ℕ) (cs : Part (Vec Case Global))
    → map case_written cs.value.items ≡ [] → cs.height ≡ h
    → Runs Tutorial free (tail (map case_written cs.value.items) cs.height) ts out → Runs Tutorial free (tail [] h) ts out
no_cases_yet tail h cs e g r = rows tail [] (map case_written cs.value.items) h cs.height e g r

-- an operator of the level is next
pub goes_on : {free : ℕ} {ts : List Terminal} {out : Outcome} (l : Level) (a : Spelt) (o : Option (Mark × BinaryOp)) (m : Mark) (op : BinaryOp) → GoesOn l ts o → o ≡ Some (m, op)
    → Runs Tutorial free (opens m a.height (under (operand_of l) (λ b. last (tail_of l (operation op a b))))) ts out → Runs Tutorial free (last (tail_of l a)) ts out
goes_on {free} {ts} {out} l a o m op g e h = runs_last (as_rule _ _ ((subst (GoesOn l ts) e g) a) h)

-- a height that is small enough
pub fits : {T : Type 0} {n free : ℕ} (res : Result (Part T) Fault) → IfOk res (λ p. p.height ≡ n) → n ≤ free → IfOk res (λ p. p.height ≤ free)
fits (Ok p) e l = omega (arith, e, l)
fits (Err d) e l = e

-- no operator of the level is next
pub stops : {free : ℕ} {ts : List Terminal} (l : Level) (a : Spelt) (o : Option (Mark × BinaryOp)) → GoesOn l ts o → o ≡ None → Runs Tutorial free (last (tail_of l a)) ts (read a ts)
stops {free} {ts} l a o g e = runs_last (as_rule _ _ ((subst (GoesOn l ts) e g) a) runs_done)
