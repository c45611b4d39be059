-- What follows what was read, or the fault that takes its place.
use Rattle.std.proofs.Common.{◌≡◌, ◌<◌, ◌≤◌, ◌+◌, ◌*◌, ℕ, List, Result, Ok, Err, arith, ltb, ltb-true, true}
use Rattle.std.specs.declared.alloc.Global.{Global}
use Rattle.std.specs.declared.vec.Vec.{Vec}
use Rattle.calculus.specs.declared.process.Proc.{Proc}
use Rattle.form_ends.specs.Reading.{Appends}
use Rattle.form_parts.specs.declared.part.Part.{Part}
use Rattle.grammar.specs.Choice.{choose}
use Rattle.grammar.specs.Descent.{Outcome, Runs, fault, no_at, runs_at, runs_last}
use Rattle.grammar.specs.Grammar.{rule}
use Rattle.grammar.specs.Productions.{Prod}
use Rattle.grammar.specs.Rules.{Rule, Sort, last}
use Rattle.grammar.specs.Terminals.{Terminal, sees}
use Rattle.grammar.specs.declared.dialect.Dialect.TheVariants.{Tutorial}
use Rattle.grammar.specs.declared.fault.Fault.{Fault}
use Rattle.grammar.specs.declared.mark.Mark.TheVariants as marks
use Rattle.token_cursor.specs.Reading.{Makes, Turns, of_proc}

-- a fault takes the place of the parts that were read before it
pub no_more : {T : Type 0} (before : Result (Part (Vec T Global)) Fault) (d : Fault) → Appends before (Err d) (Err d)
no_more before d = λ xs e free r ts us after h. h

-- the target of calls, where no operator stands before it
pub target_read : {free : ℕ} {r : Rule} {t0 ts : List Terminal} (us : List Terminal) (target : Result (Part Proc) Fault)
    → ((out : Outcome) → Runs Tutorial free (last Sort.Meth) ts out → Runs Tutorial free r t0 out)
    → Makes free (rule Tutorial (choose Sort.Drop ts)) of_proc ts target us
    → Turns free r (λ p. last (Sort.MethTail (of_proc p))) t0 target us
target_read us (Ok p) k g = λ out h. k out (runs_last (runs_at g h))
target_read us (Err d) k g = k (fault d us) (runs_last (no_at g))

-- any name, where `_` is next
pub pattern_name_any : {free : ℕ} {ts : List Terminal} {out : Outcome} → sees marks.Underscore ts ≡ true → Runs Tutorial free (rule Tutorial Prod.pname_any) ts out → Runs Tutorial free (rule Tutorial (choose Sort.PName ts)) ts out
pattern_name_any u r = rw u r

-- no more tokens are left after two steps than before them, nor where fewer are
pub down : {a b c : ℕ} → b ≤ a → c ≤ b → c ≤ a
down l k = omega (arith, l, k)

pub falls : {a b : ℕ} → b < a → b ≤ a
falls l = omega (arith, l)

pub under : {a b c : ℕ} → b < a → c ≤ b → c < a
under l k = omega (arith, l, k)

pub beneath : {a b c : ℕ} → b ≤ a → c < b → c < a
beneath l k = omega (arith, l, k)

-- what is called is measured by less: it has a lower rank where no more tokens are left, and any where fewer are
pub lower : {t : ℕ} (m a b : ℕ) → 128 * m + b ≡ t → ltb a b ≡ true → 128 * m + a < t
lower m a b e r = let l : a < b = ltb-true _ _ r in omega (arith, e, l)

pub ranked : {m n t : ℕ} (a b : ℕ) → 128 * m + b ≡ t → n ≤ m → ltb a b ≡ true → 128 * n + a < t
ranked a b e k r = let l : a < b = ltb-true _ _ r in omega (arith, e, k, l)

pub sunk : {m n t : ℕ} (a b : ℕ) → 128 * m + b ≡ t → n < m → ltb a 128 ≡ true → 128 * n + a < t
sunk a b e k r = let l : a < 128 = ltb-true _ _ r in omega (arith, e, k, l)
