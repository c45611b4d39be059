-- The steps of descent at the key of a form.
use Rattle.std.proofs.Common.{◌≡◌, ℕ, List, Result, Ok, Err, subst, sym, true, false}
use Rattle.std.proofs.lemmas.Bool.{false≢true}
use Rattle.std.specs.Prelude.{MatchResult}
use Rattle.form_steps.specs.Parts.{after_key, form_sort, has_parenthesis, key_mark}
use Rattle.form_steps.specs.declared.step.FormKey.{FormKey}
use Rattle.form_steps.specs.declared.step.FormKey.TheVariants as keys
use Rattle.grammar.specs.declared.dialect.Dialect.TheVariants.{Tutorial}
use Rattle.grammar.specs.declared.fault.Fault.{Fault}
use Rattle.grammar.specs.declared.mark.Mark.{Mark}
use Rattle.grammar.specs.declared.mark.Mark.TheVariants as marks
use Rattle.grammar.specs.Choice.{choose}
use Rattle.grammar.specs.Descent.{Outcome, fault, Runs, TakesOpening, no_memory, no_opens, no_sign, runs_last, runs_opens, runs_sign}
use Rattle.grammar.specs.Grammar.{rule}
use Rattle.grammar.specs.Rules.{Rule, Sort, last, sign}
use Rattle.grammar.specs.Terminals.{Terminal, sees}
use Rattle.token_cursor.specs.Meaning.{Refused}
use Rattle.token_cursor.specs.Reading.{Turns}

-- the key is missing, or there is no room for the form
key_missing : {free : ℕ} {ts us : List Terminal} {e : Fault} (k : FormKey) → Refused (sees (key_mark k) ts) 0 free ts e us
    → Runs Tutorial free (rule Tutorial (choose (form_sort k) ts)) ts (fault e us)
key_missing keys.New h = no_opens h
key_missing keys.If h = no_opens h
key_missing keys.Contract h = no_opens h
key_missing keys.For h = no_opens h
key_missing keys.Match h = no_opens h

-- the key of a form that no parenthesis follows
key_alone : {free : ℕ} {ts us : List Terminal} {out : Outcome} (k : FormKey) → has_parenthesis k ≡ false → TakesOpening (key_mark k) 0 free ts us
    → Runs Tutorial free (after_key k) us out → Runs Tutorial free (rule Tutorial (choose (form_sort k) ts)) ts out
key_alone keys.New e o h = runs_opens o h
key_alone keys.If e o h = absurd (false≢true (sym e))
key_alone keys.Contract e o h = runs_opens o h
key_alone keys.For e o h = absurd (false≢true (sym e))
key_alone keys.Match e o h = runs_opens o h

-- a key that no parenthesis follows, or a fault in its place
pub key_only : {T : Type 0} (free : ℕ) (ts us : List Terminal) (k : FormKey) (res : Result T Fault) → has_parenthesis k ≡ false
    → MatchResult res (λ _. TakesOpening (key_mark k) 0 free ts us) (λ e. Refused (sees (key_mark k) ts) 0 free ts e us) → Turns free (rule Tutorial (choose (form_sort k) ts)) (λ _. after_key k) ts res us
key_only free ts us k (Ok x) e o = λ out h. key_alone k e o h
key_only free ts us k (Err d) e o = key_missing k o

-- the binds are what is left of a receive
binds_on : {free : ℕ} {us : List Terminal} {out : Outcome} → Runs Tutorial free (sign marks.Open (after_key keys.For)) us out → Runs Tutorial free (sign marks.Open (last Sort.Bind)) us out
binds_on (runs_sign t h) = runs_sign t (runs_last h)
binds_on (no_sign s) = no_sign s
binds_on no_memory = no_memory

-- the key of a form that a parenthesis follows
key_opened : {free : ℕ} {ts us : List Terminal} {out : Outcome} (k : FormKey) → has_parenthesis k ≡ true → TakesOpening (key_mark k) 0 free ts us
    → Runs Tutorial free (sign marks.Open (after_key k)) us out → Runs Tutorial free (rule Tutorial (choose (form_sort k) ts)) ts out
key_opened keys.New e o h = absurd (false≢true e)
key_opened keys.If e o h = runs_opens o h
key_opened keys.Contract e o h = absurd (false≢true e)
key_opened keys.For e o h = runs_opens o (binds_on h)
key_opened keys.Match e o h = absurd (false≢true e)

key_read : {T : Type 0} (free : ℕ) (ts us : List Terminal) (k : FormKey) (res : Result T Fault) → has_parenthesis k ≡ true
    → MatchResult res (λ _. TakesOpening (key_mark k) 0 free ts us) (λ e. Refused (sees (key_mark k) ts) 0 free ts e us) → Turns free (rule Tutorial (choose (form_sort k) ts)) (λ _. sign marks.Open (after_key k)) ts res us
key_read free ts us k (Ok x) e o = λ out h. key_opened k e o h
key_read free ts us k (Err d) e o = key_missing k o

-- and the parenthesis after it
pub key_before : {T : Type 0} (free : ℕ) (ts us vs : List Terminal) (k : FormKey) (first res : Result T Fault) → has_parenthesis k ≡ true
    → MatchResult first (λ _. TakesOpening (key_mark k) 0 free ts us) (λ e. Refused (sees (key_mark k) ts) 0 free ts e us)
    → ((f : ℕ) (r : Rule) (xs : List Terminal) (g : T → Rule) → Turns f r (λ x. sign marks.Open (g x)) xs first us → Turns f r g xs res vs)
    → Turns free (rule Tutorial (choose (form_sort k) ts)) (λ _. after_key k) ts res vs
key_before free ts us vs k first res e o t = t free (rule Tutorial (choose (form_sort k) ts)) ts (λ _. after_key k) (key_read free ts us k first e o)

-- the mark that was taken is the key
pub opened_by : {T : Type 0} (free : ℕ) (ts us : List Terminal) (m : Mark) (k : FormKey) (res : Result T Fault) → m ≡ key_mark k
    → MatchResult res (λ _. TakesOpening m 0 free ts us) (λ e. Refused (sees m ts) 0 free ts e us) → MatchResult res (λ _. TakesOpening (key_mark k) 0 free ts us) (λ e. Refused (sees (key_mark k) ts) 0 free ts e us)
opened_by {T} free ts us m k res e o = subst (λ (x : Mark). MatchResult res (λ _. TakesOpening x 0 free ts us) (λ e. Refused (sees x ts) 0 free ts e us)) e o
