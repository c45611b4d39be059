-- What was read, or a fault in its place, that a loop carries on.
use Rattle.std.proofs.Common.{◌≡◌, ◌∙◌, max, ◌++◌, ◌∷◌, [], ℕ, List, Result, Ok, Err, true, is_ok, is_err, ap, refl, subst, sym}
use Rattle.std.proofs.lemmas.Bool.{false≢true}
use Rattle.std.specs.Prelude.{IsOk, OnOk}
use Rattle.std.specs.declared.alloc.Global.{Global}
use Rattle.std.specs.declared.vec.Vec.{Vec}
use Rattle.form_ends.specs.Reading.{Appends}
use Rattle.form_steps.specs.Handing.{HandsOnPart}
use Rattle.form_steps.proofs.Handed.{resume}
use Rattle.grammar.specs.declared.dialect.Dialect.TheVariants.{Tutorial}
use Rattle.grammar.specs.declared.fault.Fault.{Fault}
use Rattle.grammar.specs.Descent.{Outcome, Runs}
use Rattle.grammar.specs.Rules.{Rule}
use Rattle.grammar.specs.Terminals.{Terminal}
use Rattle.form_parts.specs.declared.part.Part.{Part}
use Rattle.token_cursor.specs.Reading.{Turns}

-- a rule goes on after more was read, where it went on after what was read before
pub carried : {T : Type 0} (free : ℕ) (r : Rule) (t0 ts us : List Terminal) (after : T → Rule) (before res : Result T Fault)
    → IsOk before → Turns free r after t0 before ts → ((x : T) → before ≡ Ok x → Turns free (after x) after ts res us) → Turns free r after t0 res us
carried free r t0 ts us after (Ok x) res k t s = resume us after res t (s x refl)
carried free r t0 ts us after (Err d) res k t s = absurd (false≢true k)

-- it goes on as this says, where it did as that says
pub closed : {T : Type 0} {free : ℕ} {us : List Terminal} {P : Type 0} (r : Rule) (t0 : List Terminal) (before after : T → Rule) (res : Result T Fault)
    → OnOk res P → ((x : T) → P → (out : Outcome) → Runs Tutorial free (after x) us out → Runs Tutorial free (before x) us out)
    → Turns free r before t0 res us → Turns free r after t0 res us
closed r t0 before after (Ok x) p k t = λ out h. t out (k x p out h)
closed r t0 before after (Err d) p k t = t

-- the terminals are the same
pub stayed : {T : Type 0} {ts us : List Terminal} (free : ℕ) (r : Rule) (t0 : List Terminal) (after : T → Rule) (res : Result T Fault) → us ≡ ts
    → Turns free r after t0 res ts → Turns free r after t0 res us
stayed {T} {ts} {us} free r t0 after res e t = subst (λ (x : List Terminal). Turns free r after t0 res x) (sym e) t

-- where a fault was met nothing is known of a value
pub unread : {T : Type 0} (P : Type 0) (res : Result T Fault) → is_err res ≡ true → OnOk res P
unread P (Ok x) e = absurd (false≢true e)
unread P (Err d) e = tt

-- what is known of the tokens is known where a value was read
pub known : {T : Type 0} {P : Type 0} (res : Result T Fault) → P → OnOk res P
known (Ok x) p = p
known (Err d) p = tt

-- what was read is one value
pub same_value : {A : Type 0} {res : Result A Fault} (a b : A) → res ≡ Ok a → res ≡ Ok b → a ≡ b
same_value a b e g = cc

pub appends : {T : Type 0} (before : Result (Part (Vec T Global)) Fault) (next : Result (Part T) Fault) (res : Result (Part (Vec T Global)) Fault) (parts : Part (Vec T Global)) → before ≡ Ok parts
    → HandsOnPart next (λ x. parts.value.items ++ (x ∷ [])) (max parts.height) res (λ ys. ys.items) → Appends before next res
appends {T} before next res parts e m = λ xs g. subst (λ (q : Part (Vec T Global)). HandsOnPart next (λ x. q.value.items ++ (x ∷ [])) (max q.height) res (λ ys. ys.items)) (same_value parts xs e g) m

-- and is none where a fault was met
pub appends_none : {T : Type 0} (before : Result (Part (Vec T Global)) Fault) (next : Result (Part T) Fault) (res : Result (Part (Vec T Global)) Fault) (d : Fault) → before ≡ Err d → Appends before next res
appends_none before next res d e = λ xs g. absurd (false≢true (ap is_ok (sym e ∙ g)))

-- a fault is no value
pub never : {A P : Type 0} {res : Result A Fault} {a : A} (d : Fault) → res ≡ Err d → res ≡ Ok a → P
never d e g = absurd (false≢true (ap is_ok (sym e ∙ g)))
