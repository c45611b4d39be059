-- The steps of descent up to the first constituent of a form.
use Rattle.std.proofs.Common.{◌≡◌, ◌<◌, max, ℕ, List, Result, Ok, Err, Option, None, Some, subst, sym, ap, arith, refl, not, ◌&&◌, Bool, true, false}
use Rattle.std.specs.Prelude.{IfOk, MatchResult}
use Rattle.calculus.specs.Written.{Written}
use Rattle.form_steps.specs.Parts.{keyed_part, part_or, unkeyed_part}
use Rattle.form_steps.specs.Steps.{form_of_pattern, type_or, typed_pattern}
use Rattle.form_steps.specs.declared.step.FormKey.{FormKey}
use Rattle.calculus.specs.declared.plain.Simple.{Simple}
use Rattle.grammar.specs.declared.dialect.Dialect.TheVariants.{Tutorial}
use Rattle.grammar.specs.declared.fault.Fault.{Fault}
use Rattle.grammar.specs.declared.fault.Fault.TheVariants.{NoMemory}
use Rattle.grammar.specs.declared.mark.Mark.TheVariants as marks
use Rattle.std.proofs.lemmas.Bool.{false≢true}
use Rattle.grammar.specs.Choice.{after, choose, sees_number, sees_prefix}
use Rattle.grammar.specs.Descent.{Outcome, fault, Runs, shows, runs_under, no_under, runs_last, runs_opens_next, no_memory}
use Rattle.grammar.specs.Grammar.{rule}
use Rattle.grammar.specs.Productions.{Prod}
use Rattle.grammar.specs.Rules.{Sort, Rule, round, done, last, opens_next, under}
use Rattle.grammar.specs.Terminals.{Terminal, sees}
use Rattle.grammar.specs.Values.{Side, Spelt, spelt, opened, send_of}
use Rattle.rho_lexer.specs.declared.token.Token.{Token}
use Rattle.form_parts.specs.declared.part.Part.{Part}
use Rattle.token_cursor.specs.Meaning.{view}
use Rattle.token_cursor.specs.Reading.{Makes, sees_member}
use Rattle.token_cursor.proofs.Fronts.{no_fresh}
use Rattle.token_cursor.proofs.Steps.{ends, faulty}

-- the value that is made of the parts, unless memory runs out
pub built : {T : Type 0} {free : ℕ} {ts : List Terminal} (f : T → Written) (v : Spelt) (res : Result (Part T) Fault)
    → MatchResult res (λ p. f p.value ≡ v.tree) (λ e. e ≡ NoMemory) → IfOk res (λ p. p.height ≡ v.height)
    → Makes free (done v) (λ p. spelt (f p.value) p.height) ts res ts
built f v (Ok p) e g = ends v (spelt (f p.value) p.height) e g
built f v (Err d) e g = faulty d NoMemory e no_memory

-- a tail, at what was read, is the tail that the production says
pub tails : {free : ℕ} {us : List Terminal} {out : Outcome} (tail : Spelt → Rule) (v w : Spelt) → w.tree ≡ v.tree → w.height ≡ v.height
    → Runs Tutorial free (tail w) us out → Runs Tutorial free (tail v) us out
tails {free} {us} {out} tail v w e g r =
    subst (λ (x : ℕ). Runs Tutorial free (tail (spelt v.tree x)) us out) g
    (subst (λ (x : Written). Runs Tutorial free (tail (spelt x w.height)) us out) e r)

-- the production that is chosen is this one
pub chosen : {free : ℕ} {s : Sort} {ts : List Terminal} {out : Outcome} (p q : Prod s) → p ≡ q → Runs Tutorial free (rule Tutorial q) ts out → Runs Tutorial free (rule Tutorial p) ts out
chosen {free} {s} {ts} {out} p q e h = subst (λ (x : Prod s). Runs Tutorial free (rule Tutorial x) ts out) (sym e) h

-- the rule is this one
pub as_rule : {free : ℕ} {ts : List Terminal} {out : Outcome} (r q : Rule) → r ≡ q → Runs Tutorial free q ts out → Runs Tutorial free r ts out
as_rule {free} {ts} {out} r q e h = subst (λ (x : Rule). Runs Tutorial free x ts out) (sym e) h

-- and opens a form
pub opened_next : {free : ℕ} {r : Rule} {out : Outcome} {test : Terminal → Bool} {xs ys : List Token} → shows test (view xs) ≡ true → 0 < free → ys ≡ xs
    → Runs Tutorial free r (view ys) out → Runs Tutorial free (opens_next test r) (view xs) out
opened_next {free} {r} {out} {test} {xs} {ys} s z e h = runs_opens_next s z (subst (λ (x : List Token). Runs Tutorial free r (view x) out) e h)

-- memory ran out
pub forgets : {free : ℕ} {r : Rule} {ts us : List Terminal} (e : Fault) → e ≡ NoMemory → Runs Tutorial free r ts (fault e us)
forgets {free} {r} {ts} {us} e m = subst (λ (x : Fault). Runs Tutorial free r ts (fault x us)) (sym m) no_memory

-- the mark of a send that is next
pub sent_as : {free : ℕ} {ts : List Terminal} {out : Outcome} (side : Side) (n : Spelt) (q : Bool) → q ≡ sees marks.DoubleBang ts
    → Runs Tutorial free (rule Tutorial (Prod.sent side n q)) ts out → Runs Tutorial free (rule Tutorial (choose (Sort.Sent side n) ts)) ts out
sent_as {free} {ts} {out} side n true e h = let f : sees marks.DoubleBang ts ≡ true = sym e in rw f h
sent_as {free} {ts} {out} side n false e h = let f : sees marks.DoubleBang ts ≡ false = sym e in rw f h

pub sent_tail_as : {free : ℕ} {ts : List Terminal} {out : Outcome} (side : Side) (n : Spelt) (q : Bool) → q ≡ sees marks.DoubleBang ts
    → Runs Tutorial free (rule Tutorial (Prod.sent_tail side n q)) ts out → Runs Tutorial free (rule Tutorial (choose (Sort.SentTail side n) ts)) ts out
sent_tail_as {free} {ts} {out} side n true e h = let f : sees marks.DoubleBang ts ≡ true = sym e in rw f h
sent_tail_as {free} {ts} {out} side n false e h = let f : sees marks.DoubleBang ts ≡ false = sym e in rw f h

-- what follows a `*`: a quoted process, or a word
pub drops_quote : {free : ℕ} {ts : List Terminal} {out : Outcome} → sees marks.At ts ≡ true
    → Runs Tutorial free (rule Tutorial Prod.dropped_quote) ts out → Runs Tutorial free (last Sort.Dropped) ts out
drops_quote e h = runs_last (rw e h)

pub drops_word : {free : ℕ} {out : Outcome} (xs : List Token) → sees marks.At (view xs) ≡ false
    → Runs Tutorial free (rule Tutorial Prod.dropped_word) (view xs) out → Runs Tutorial free (last Sort.Dropped) (view xs) out
drops_word xs e h = let n = no_fresh xs in runs_last (rw (e, n) h)

-- a constituent, and what is made of it
pub under_as : {free : ℕ} {s : Sort} {f g : Spelt → Rule} {ts : List Terminal} {out : Outcome} → ((a : Spelt) → f a ≡ g a)
    → Runs Tutorial free (under s f) ts out → Runs Tutorial free (under s g) ts out
under_as {free} {out = out} e (runs_under {us = us} {a = a} h k) = runs_under h (subst (λ (r : Rule). Runs Tutorial free r us out) (e a) k)
under_as e (no_under h) = no_under h
under_as e no_memory = no_memory

-- a channel of height 0 adds nothing to that of a send
pub flat_channel : {free : ℕ} {ts : List Terminal} {out : Outcome} (side : Side) (q : Bool) (t : Written) (n : ℕ) → n ≡ 0
    → Runs Tutorial free (under (Sort.Row side round) (λ r. done (opened (send_of side q t r.tree) (max n r.height)))) ts out
    → Runs Tutorial free (under (Sort.Row side round) (λ r. done (opened (send_of side q t r.tree) r.height))) ts out
flat_channel side q t n e h = under_as (λ r. ap (λ k. done (opened (send_of side q t r.tree) k)) (zero_max n r.height e)) h
  where
    zero_max : (n k : ℕ) → n ≡ 0 → max n k ≡ k
    zero_max n k e = omega (arith, e)

-- no keyed form is next
pub unkeyed : (ts : List Terminal) (k : Option FormKey) → k ≡ None → ((p : Prod Sort.POne) → keyed_part ts p ≡ part_or k p) → choose Sort.POne ts ≡ unkeyed_part ts
unkeyed ts k e f = subst (λ (x : Option FormKey). keyed_part ts (unkeyed_part ts) ≡ part_or x (unkeyed_part ts)) e (f (unkeyed_part ts))

-- no simple type is next, or this one
pub untyped : (ts : List Terminal) (k : Option Simple) → k ≡ None → ((p : Prod Sort.PAtom) → typed_pattern ts p ≡ type_or k p) → typed_pattern ts (form_of_pattern ts) ≡ form_of_pattern ts
untyped ts k e f = subst (λ (x : Option Simple). typed_pattern ts (form_of_pattern ts) ≡ type_or x (form_of_pattern ts)) e (f (form_of_pattern ts))

pub typed : (ts : List Terminal) (s : Simple) (k : Option Simple) → k ≡ Some s → ((p : Prod Sort.PAtom) → typed_pattern ts p ≡ type_or k p) → typed_pattern ts (form_of_pattern ts) ≡ Prod.patom_type s
typed ts s k e f = subst (λ (x : Option Simple). typed_pattern ts (form_of_pattern ts) ≡ type_or x (form_of_pattern ts)) e (f (form_of_pattern ts))

-- where both tests pass, the first does
first : (x y : Bool) → (x && y) ≡ true → x ≡ true
first true y e = refl
first false y e = absurd (false≢true e)

-- where a member follows a comma, the comma is next
pub sees_comma : (ts : List Terminal) → sees_member ts ≡ true → sees marks.Comma ts ≡ true
sees_comma ts m = first (sees marks.Comma ts) (not (sees marks.Ellipsis (after ts))) m

-- where a `-` is no part of an integer, it is next
pub sees_minus : (ts : List Terminal) → sees_prefix ts ≡ true → sees marks.Minus ts ≡ true
sees_minus ts m = first (sees marks.Minus ts) (not (sees_number (after ts))) m
