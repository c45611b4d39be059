-- What the methods of the cycle and the leaves beside it promise.
use Rattle.std.specs.Prelude.{ℕ, ◌≡◌, ◌++◌, ◌∷◌, [], List, map, max, Ok, Result}
use Rattle.std.specs.declared.alloc.Global.{Global}
use Rattle.std.specs.declared.vec.Vec.{Vec}
use Rattle.calculus.specs.Meaning.{case_written, declared, pair_of, pat_written, proc_written}
use Rattle.calculus.specs.Written.{Written}
use Rattle.calculus.specs.declared.plain.Decl.{Decl}
use Rattle.calculus.specs.declared.plain.Kind.{Kind}
use Rattle.calculus.specs.declared.process.Bind.{Bind}
use Rattle.calculus.specs.declared.process.Case.{Case}
use Rattle.calculus.specs.declared.process.Pat.{Pat}
use Rattle.calculus.specs.declared.process.Proc.{Proc}
use Rattle.form_ends.specs.declared.form_begin.FormStep.{FormStep}
use Rattle.form_ends.specs.declared.form_begin.FormStep.TheVariants as forms
use Rattle.form_steps.specs.Handing.{HandsOnPart}
use Rattle.form_steps.specs.Parts.{after_key}
use Rattle.form_steps.specs.declared.step.FormKey.TheVariants as keys
use Rattle.grammar.specs.declared.dialect.Dialect.TheVariants.{Tutorial}
use Rattle.grammar.specs.declared.fault.Fault.{Fault}
use Rattle.grammar.specs.declared.mark.Mark.TheVariants as marks
use Rattle.grammar.specs.Grammar.{arrow_mark, rule}
use Rattle.grammar.specs.Productions.{Prod}
use Rattle.grammar.specs.Rules.{Sort, Rule, done, last, round, sign, under}
use Rattle.grammar.specs.Terminals.{Terminal}
use Rattle.grammar.specs.Values.{Side, Spelt, bind_of, new_of, opened, receive_of, tuple_of}
use Rattle.form_parts.specs.declared.part.Part.{Part}
use Rattle.token_cursor.specs.Reading.{Turns, of_bind}

-- one more case is read, whatever the target is
abbrev pub ReadsCase : ℕ → Part (Vec Case Global) → List Terminal → Result (Part (Vec Case Global)) Fault → List Terminal → Type 0
ReadsCase free cases ts result us = (t : Spelt)
    → Turns free (rule Tutorial (Prod.case t (map case_written cases.value.items) cases.height)) (λ c. last (Sort.CaseTail t (map case_written c.value.items) c.height)) ts result us

-- after the first member of a tuple and a comma
abbrev pub after_first : Side → Spelt → Rule
after_first side a = under (Sort.Row side round) (λ r. done (opened (tuple_of side a.tree r.tree) (max a.height r.height)))

-- a further bind of this kind, and what follows it
abbrev pub bind_then : Kind → (Spelt → Rule) → Rule
bind_then k after = under Sort.Left (λ l. sign (arrow_mark k) (under Sort.Name (λ n. after (bind_of l n))))

-- a further bind is read, whatever follows it
abbrev pub ReadsBind : ℕ → Kind → List Terminal → Result (Part Bind) Fault → List Terminal → Type 0
ReadsBind free k ts result us = (after : Spelt → Rule) → Turns free (bind_then k after) (λ b. after (of_bind b)) ts result us

-- a key, a colon and a value, and what follows them
abbrev pub pair_then : Side → (Written → ℕ → Rule) → Rule
pair_then side after = under (Sort.Par side) (λ k. sign marks.Colon (under (Sort.Par side) (λ v. after (pair_of (k.tree, v.tree)) (max k.height v.height))))

-- a pair is read, whatever follows it
abbrev pub ReadsPair : {T : Type 0} → ℕ → Side → (T × T → Written) → List Terminal → Result (Part (T × T)) Fault → List Terminal → Type 0
ReadsPair free side of ts result us = (after : Written → ℕ → Rule) → Turns free (pair_then side after) (λ p. after (of p.value) p.height) ts result us

-- the pair of two processes, and of two patterns
abbrev pub process_pair : Proc × Proc → Written
process_pair p = pair_of (proc_written p.0, proc_written p.1)

abbrev pub pattern_pair : Pat × Pat → Written
pattern_pair p = pair_of (pat_written p.0, pat_written p.1)

-- the brace after the body of a receive
abbrev pub received : Kind → List Written → ℕ → Spelt → Rule
received k bs h p = sign marks.CloseBrace (done (opened (receive_of k bs p.tree) (max h p.height)))

-- one more part follows those that were read before
abbrev pub Appends : {T : Type 0} → Result (Part (Vec T Global)) Fault → Result (Part T) Fault → Result (Part (Vec T Global)) Fault → Type 0
Appends {T} before next result = (xs : Part (Vec T Global)) → before ≡ Ok xs → HandsOnPart next (λ x. xs.value.items ++ (x ∷ [])) (max xs.height) result (λ ys. ys.items)

-- the process after the names of a `new`
abbrev pub after_in : Vec Decl Global → Rule
after_in ds = under Sort.One (λ p. done (opened (new_of (map declared ds.items) p.tree) p.height))

-- after the step that begins a form with a key
abbrev pub after_form_step : FormStep → Rule
after_form_step (forms.New ds) = after_in ds
after_form_step forms.If = after_key keys.If
after_form_step forms.Contract = after_key keys.Contract
after_form_step forms.For = after_key keys.For
after_form_step forms.Match = after_key keys.Match
