-- What begins with the mark that opens a form, or takes nothing.
use Rattle.std.proofs.Common.{◌≡◌, ◌<◌, ◌≤◌, ℕ, Result, Ok, Err, subst, sym, arith, length}
use Rattle.std.specs.Prelude.{IfOk, List, MatchResult, string_bytes}
use Rattle.std.specs.declared.alloc.Global.{Global}
use Rattle.std.specs.declared.string.String.{String}
use Rattle.form_steps.specs.Opening.{Begins, OpensWith}
use Rattle.form_steps.proofs.Handed.{if_read}
use Rattle.grammar.specs.declared.dialect.Dialect.TheVariants.{Tutorial}
use Rattle.grammar.specs.declared.fault.Fault.{Fault}
use Rattle.grammar.specs.declared.mark.Mark.{Mark}
use Rattle.grammar.specs.Descent.{Outcome, Runs, Stuck, Takes, TakesOpening, TakesText, no_memory, no_opens, no_sign, runs_opens, runs_sign, runs_text}
use Rattle.calculus.specs.Written.{Written}
use Rattle.form_parts.specs.declared.part.Part.{Part}
use Rattle.form_steps.proofs.Turning.{tails}
use Rattle.grammar.specs.declared.fault.Fault.TheVariants.{NoMemory}
use Rattle.grammar.specs.Values.{Spelt, spelt}
use Rattle.grammar.specs.Choice.{sees_text}
use Rattle.grammar.specs.Rules.{Rule, holds, opens, sign}
use Rattle.grammar.specs.Terminals.{Holding, Terminal, sees}
use Rattle.token_cursor.specs.Cursors.{Shortens, ahead}
use Rattle.token_cursor.specs.Meaning.{Missing, Refused}
use Rattle.token_cursor.specs.Reading.{Turns}
use Rattle.token_cursor.proofs.Steps.{faulty, lacks}
use Rattle.token_cursor.specs.declared.cursor.Cursor.{Cursor}

-- what was made goes on after the mark
pub opens_reads : {T : Type 0} (after : T → Rule) (free : ℕ) (m : Mark) (made : T) (ts us : List Terminal) (res : Result T Fault)
    → MatchResult res (λ x. (x ≡ made) × TakesOpening m 0 free ts us) (λ e. Refused (sees m ts) 0 free ts e us) → Turns free (opens m 0 (after made)) after ts res us
opens_reads {T} after free m made ts us (Ok x) o = λ out h. runs_opens o.1 (subst (λ (y : T). Runs Tutorial free (after y) us out) o.0 h)
opens_reads after free m made ts us (Err d) o = no_opens o

-- there is room for it
pub opens_room : {T : Type 0} (room : T → Type 0) (free : ℕ) (m : Mark) (made : T) (ts us : List Terminal) (res : Result T Fault)
    → MatchResult res (λ x. (x ≡ made) × TakesOpening m 0 free ts us) (λ e. Refused (sees m ts) 0 free ts e us) → (0 < free → room made) → IfOk res room
opens_room {T} room free m made ts us (Ok x) o l = subst (λ (y : T). room y) (sym o.0) (l o.1.room)
opens_room room free m made ts us (Err d) o l = tt

-- what was opened is what was made
pub made_so : {T : Type 0} (free : ℕ) (m : Mark) (made : T) (ts us : List Terminal) (res : Result T Fault)
    → MatchResult res (λ x. (x ≡ made) × TakesOpening m 0 free ts us) (λ e. Refused (sees m ts) 0 free ts e us) → IfOk res (λ x. x ≡ made)
made_so free m made ts us (Ok x) o = o.0
made_so free m made ts us (Err d) o = tt

-- no more tokens are left, read or not
pub no_more : {T : Type 0} {a b : ℕ} (res : Result T Fault) → MatchResult res (λ _. a < b) (λ _. a ≤ b) → a ≤ b
no_more (Ok x) s = omega (arith, s)
no_more (Err d) s = s

-- what is known of the first holds of what it hands on
pub same_holds : {T : Type 0} (P : T → Type 0) (first res : Result T Fault) → IfOk res (λ x. first ≡ Ok x) → IfOk first P → IfOk res P
same_holds P first (Ok y) e h = if_read P y e h
same_holds P first (Err d) e h = tt

-- what two steps pass together
both_pass : {T : Type 0} (passes : ℕ → ℕ → T → Type 0) (a b c : ℕ) (made : T) (first res : Result T Fault) → IfOk first (λ x. x ≡ made) → MatchResult first (λ _. b < a) (λ _. b ≤ a)
    → MatchResult res (λ _. c < b) (λ _. c ≤ b) → IfOk res (λ x. first ≡ Ok x) → (c < a → passes c a made) → MatchResult res (passes c a) (λ _. c ≤ a)
both_pass {T} passes a b c made first (Ok y) m s k e p =
    let l : b ≤ a = no_more first s in let d : c < a = omega (arith, l, k) in subst (λ (x : T). passes c a x) (sym (if_read (λ x. x ≡ made) y e m)) (p d)
both_pass passes a b c made first (Err d) m s k e p = let l : b ≤ a = no_more first s in omega (arith, l, k)

-- orders of numbers
pub level : (n : ℕ) → n ≤ n
level n = omega arith

-- fewer tokens were left before the mark
pub fallen : {T : Type 0} (passes : ℕ → ℕ → T → Type 0) (a b c : ℕ) (made : T) (res : Result T Fault) → IfOk res (λ x. x ≡ made) → MatchResult res (λ _. c < b) (λ _. c ≤ b) → b ≤ a
    → (c < a → passes c a made) → MatchResult res (passes c a) (λ _. c ≤ a)
fallen {T} passes a b c made (Ok x) m s l p = let d : c < a = omega (arith, l, s) in subst (λ (y : T). passes c a y) (sym m) (p d)
fallen passes a b c made (Err d) m s l p = omega (arith, l, s)

-- the step that was made goes on after the mark
pub opens_so : {T : Type 0} (after : T → Rule) (room : ℕ → T → Type 0) (passes : ℕ → ℕ → T → Type 0) (free : ℕ) (m : Mark) (made : T) (old new : Cursor) (res : Result T Fault)
    → OpensWith old made m free res new → Shortens old res new → (0 < free → room free made)
    → (length new.rest.now < length old.rest.now → passes (length new.rest.now) (length old.rest.now) made) → Begins after room passes free (opens m 0 (after made)) old res new
opens_so after room passes free m made old new res o s l p = record {
  reads = opens_reads after free m made (ahead old) (ahead new) res o;
  enough = opens_room (room free) free m made (ahead old) (ahead new) res o l;
  shorter = fallen passes (length old.rest.now) (length old.rest.now) (length new.rest.now) made res (made_so free m made (ahead old) (ahead new) res o) s (level (length old.rest.now)) p;
}

-- the same where a second mark is taken after it
pub opens_two_so : {T : Type 0} (after : T → Rule) (room : ℕ → T → Type 0) (passes : ℕ → ℕ → T → Type 0) (free : ℕ) (m n : Mark) (made : T) (old new : Cursor) (us : List Terminal) (b : ℕ) (first res : Result T Fault)
    → MatchResult first (λ x. (x ≡ made) × TakesOpening m 0 free (ahead old) us) (λ e. Refused (sees m (ahead old)) 0 free (ahead old) e us)
    → MatchResult first (λ _. b < length old.rest.now) (λ _. b ≤ length old.rest.now)
    → ((f : ℕ) (r : Rule) (ts : List Terminal) (g : T → Rule) → Turns f r (λ x. sign n (g x)) ts first us → Turns f r g ts res (ahead new))
    → IfOk res (λ x. first ≡ Ok x) → MatchResult res (λ _. length new.rest.now < b) (λ _. length new.rest.now ≤ b) → (0 < free → room free made)
    → (length new.rest.now < length old.rest.now → passes (length new.rest.now) (length old.rest.now) made) → Begins after room passes free (opens m 0 (sign n (after made))) old res new
opens_two_so {T} after room passes free m n made old new us b first res o s t e k l p = record {
  reads = t free (opens m 0 (sign n (after made))) (ahead old) after (opens_reads (λ (x : T). sign n (after x)) free m made (ahead old) us first o);
  enough = same_holds (room free) first res e (opens_room (room free) free m made (ahead old) us first o l);
  shorter = both_pass passes (length old.rest.now) b (length new.rest.now) made first res (made_so free m made (ahead old) us first o) s k e p;
}

-- a step that takes nothing
pub stays_so : {T : Type 0} {free : ℕ} {r : Rule} (after : T → Rule) (room : ℕ → T → Type 0) (passes : ℕ → ℕ → T → Type 0) (c : Cursor) (x : T)
    → ((out : Outcome) → Runs Tutorial free (after x) (ahead c) out → Runs Tutorial free r (ahead c) out) → room free x → passes (length c.rest.now) (length c.rest.now) x
    → Begins after room passes free r c (Ok x) c
stays_so after room passes c x k l p = record { reads = k; enough = l; shorter = p }

-- the rule is this one
pub begins_as : {T : Type 0} {free : ℕ} {after : T → Rule} {room : ℕ → T → Type 0} {passes : ℕ → ℕ → T → Type 0} {old new : Cursor} {res : Result T Fault} (r q : Rule) → Begins after room passes free q old res new → r ≡ q
    → Begins after room passes free r old res new
begins_as {T} {free} {after} {room} {passes} {old} {new} {res} r q b e = subst (λ (x : Rule). Begins after room passes free x old res new) (sym e) b

pub least : (n : ℕ) → 0 ≤ n
least n = omega arith

pub falls : {a b : ℕ} → a < b → a ≤ b
falls l = omega (arith, l)

pub below : {a b c : ℕ} → c ≤ b → b < a → c < a
below k l = omega (arith, k, l)

-- the terminals are those before
pub unmoved : {free : ℕ} {r : Rule} {out : Outcome} (ts us : List Terminal) → us ≡ ts → Runs Tutorial free r us out → Runs Tutorial free r ts out
unmoved {free} {r} {out} ts us e h = subst (λ (x : List Terminal). Runs Tutorial free r x out) e h

pub down : {a b c : ℕ} → c ≤ b → b ≤ a → c ≤ a
down k l = omega (arith, k, l)

-- a text that was taken, or a fault in its place
pub text_read : (free : ℕ) (k : Holding) (g : List ℕ → Rule) (ts us : List Terminal) (res : Result (String Global) Fault) → MatchResult res (λ w. TakesText k (string_bytes w) ts us) (λ e. Missing (sees_text k ts) ts e us)
    → Turns free (holds k g) (λ w. g (string_bytes w)) ts res us
text_read free k g ts us (Ok w) r = λ out h. runs_text r h
text_read free k g ts us (Err e) r = lacks e r

pub under_first : {a b c : ℕ} → c < b → b ≤ a → c < a
under_first k l = omega (arith, k, l)

-- the rule goes on after the mark that opens a form, or stops there
pub open_read : {T : Type 0} (free : ℕ) (m : Mark) (g : Rule) (ts us : List Terminal) (res : Result T Fault) → MatchResult res (λ _. TakesOpening m 0 free ts us) (λ e. Refused (sees m ts) 0 free ts e us)
    → Turns free (opens m 0 g) (λ _. g) ts res us
open_read free m g ts us (Ok x) o = λ out h. runs_opens o h
open_read free m g ts us (Err d) o = no_opens o

-- fewer tokens are left after two marks
pub both_shorten : {T U : Type 0} (a b c : ℕ) (first : Result T Fault) (res : Result U Fault) → MatchResult first (λ _. b < a) (λ _. b ≤ a) → MatchResult res (λ _. c < b) (λ _. c ≤ b)
    → MatchResult res (λ _. c < a) (λ _. c ≤ a)
both_shorten a b c first (Ok x) s k = under_first k (no_more first s)
both_shorten a b c first (Err d) s k = down k (no_more first s)

-- the rule goes on after a mark, or stops there
pub sign_read : {T : Type 0} (free : ℕ) (m : Mark) (g : Rule) (ts us : List Terminal) (res : Result T Fault) → MatchResult res (λ _. Takes m ts us) (λ e. Stuck (sees m ts) ts e us)
    → Turns free (sign m g) (λ _. g) ts res us
sign_read free m g ts us (Ok x) t = λ out h. runs_sign t h
sign_read free m g ts us (Err d) t = no_sign t

-- where a value is let go with a fault
pub given_up : {T : Type 0} (P : T → Type 0) (Q : Type 0) (res : Result T Fault) (e : Fault) → res ≡ Err e → Q → MatchResult res P (λ _. Q)
given_up {T} P Q res e i q = subst (λ (x : Result T Fault). MatchResult x P (λ _. Q)) (sym i) q

-- a fault is no value
pub none_read : {T : Type 0} (P : T → Type 0) (res : Result T Fault) (e : Fault) → res ≡ Err e → IfOk res P
none_read {T} P res e i = subst (λ (x : Result T Fault). IfOk x P) (sym i) tt

-- the rule goes on with what was made of what was read, unless memory ran out
pub made_on : {T : Type 0} {free : ℕ} {r : Rule} {ts us : List Terminal} (written : T → Written) (tail : Spelt → Rule) (v : Spelt) (res : Result (Part T) Fault)
    → MatchResult res (λ p. written p.value ≡ v.tree) (λ e. e ≡ NoMemory) → IfOk res (λ p. p.height ≡ v.height)
    → ((out : Outcome) → Runs Tutorial free (tail v) us out → Runs Tutorial free r ts out) → Turns free r (λ p. tail (spelt (written p.value) p.height)) ts res us
made_on written tail v (Ok p) e g k = λ out h. k out (tails tail v (spelt (written p.value) p.height) e g h)
made_on written tail v (Err d) e g k = faulty d NoMemory e no_memory

-- and is no higher than was asked
pub made_under : {T : Type 0} {h n : ℕ} (res : Result (Part T) Fault) → IfOk res (λ p. p.height ≡ h) → h < n → IfOk res (λ p. p.height < n)
made_under (Ok p) e l = omega (arith, e, l)
made_under (Err d) e l = e
