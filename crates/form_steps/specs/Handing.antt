-- What the steps promise that are given what was read, or the fault in its place, and hand on a result.
use Rattle.std.specs.Prelude.{ℕ, List, Result}
use Rattle.grammar.specs.declared.fault.Fault.{Fault}
use Rattle.grammar.specs.declared.mark.Mark.{Mark}
use Rattle.grammar.specs.Rules.{Rule, sign}
use Rattle.grammar.specs.Terminals.{Terminal}
use Rattle.grammar.specs.Values.{Spelt}
use Rattle.form_parts.specs.declared.part.Part.{Part}
use Rattle.token_cursor.specs.Cursors.{ahead}
use Rattle.token_cursor.specs.Reading.{Makes, Turns}
use Rattle.token_cursor.specs.declared.cursor.Cursor.{Cursor}

-- a rule that goes on with this of what was read goes on with that of the result
abbrev pub HandsOn : {S T A : Type 0} → Result S Fault → (S → A) → Result T Fault → (T → A) → Type 0
HandsOn {A = A} read of result made = (free : ℕ) (r : Rule) (ts us : List Terminal) (after : A → Rule)
    → Turns free r (λ x. after (of x)) ts read us → Turns free r (λ y. after (made y)) ts result us

-- a rule that goes on with this value and this height after a part goes on with those of the result
abbrev pub HandsOnPart : {S T A : Type 0} → Result (Part S) Fault → (S → A) → (ℕ → ℕ) → Result (Part T) Fault → (T → A) → Type 0
HandsOnPart {A = A} read value height result made = (free : ℕ) (r : Rule) (ts us : List Terminal) (after : A → ℕ → Rule)
    → Turns free r (λ p. after (value p.value) (height p.height)) ts read us → Turns free r (λ q. after (made q.value) q.height) ts result us

-- a rule that goes on so after what was read comes to the result
abbrev pub Completes : {S T : Type 0} → Result S Fault → (S → Rule) → (T → Spelt) → Result T Fault → Type 0
Completes read after of result = (free : ℕ) (r : Rule) (ts us : List Terminal) → Turns free r after ts read us → Makes free r of ts result us

-- a rule that goes on so after what was read up to the cursor comes to the result
abbrev pub CompletesAt : {S T : Type 0} → Cursor → Result S Fault → (S → Rule) → (T → Spelt) → Result T Fault → Cursor → Type 0
CompletesAt old read after of result new = (free : ℕ) (r : Rule) (ts : List Terminal) → Turns free r after ts read (ahead old) → Makes free r of ts result (ahead new)

-- a rule that goes on as the first says after what was read up to the cursor goes on as the second says after the result
abbrev pub ContinuesFrom : {S T : Type 0} → Cursor → Result S Fault → (S → Rule) → Result T Fault → (T → Rule) → Cursor → Type 0
ContinuesFrom old read before result after new = (free : ℕ) (r : Rule) (ts : List Terminal) → Turns free r before ts read (ahead old) → Turns free r after ts result (ahead new)

-- this mark is taken after what was read
abbrev pub TakesMarkAfter : {T : Type 0} → Cursor → Result T Fault → Mark → Result T Fault → Cursor → Type 0
TakesMarkAfter {T = T} old read m result new = (free : ℕ) (r : Rule) (ts : List Terminal) (after : T → Rule) → Turns free r (λ x. sign m (after x)) ts read (ahead old) → Turns free r after ts result (ahead new)
