-- The production that the next terminals choose.
use Rattle.std.proofs.Common.{◌≡◌, ℕ, List, Result, Ok, Err, true, false, refl}
use Rattle.std.proofs.lemmas.Bool.{false≢true}
use Rattle.std.specs.Prelude.{IsOk, OnOk}
use Rattle.calculus.specs.Written.{Written}
use Rattle.grammar.specs.declared.dialect.Dialect.TheVariants.{Tutorial}
use Rattle.grammar.specs.declared.fault.Fault.{Fault}
use Rattle.grammar.specs.declared.mark.Mark.TheVariants as marks
use Rattle.grammar.specs.Choice.{choose}
use Rattle.grammar.specs.Descent.{Outcome, Runs, Takes, runs_last, runs_sign}
use Rattle.grammar.specs.Grammar.{rule}
use Rattle.grammar.specs.Productions.{Prod}
use Rattle.grammar.specs.Rules.{Bracket, Rule, Sort, closing, done, last}
use Rattle.grammar.specs.Terminals.{Terminal, sees}
use Rattle.grammar.specs.Values.{Side, Spelt}
use Rattle.rho_lexer.specs.declared.token.Token.{Token}
use Rattle.form_ends.specs.Reading.{after_first}
use Rattle.form_ends.proofs.Carried.{closed, stayed}
use Rattle.token_cursor.specs.Meaning.{view}
use Rattle.token_cursor.specs.Reading.{Turns}
use Rattle.token_cursor.proofs.Fronts.{no_fresh}

pub either_on : {free : ℕ} {ts : List Terminal} {out : Outcome} (a : Spelt) → sees marks.Either ts ≡ true → Runs Tutorial free (rule Tutorial (Prod.palt_more a)) ts out → Runs Tutorial free (last (Sort.PAltTail a)) ts out
either_on a s r = runs_last (rw s r)

pub either_off : {free : ℕ} {ts : List Terminal} {out : Outcome} (a : Spelt) → sees marks.Either ts ≡ false → Runs Tutorial free (done a) ts out → Runs Tutorial free (last (Sort.PAltTail a)) ts out
either_off a s r = runs_last (rw s r)

pub both_on : {free : ℕ} {ts : List Terminal} {out : Outcome} (a : Spelt) → sees marks.Both ts ≡ true → Runs Tutorial free (rule Tutorial (Prod.pand_more a)) ts out → Runs Tutorial free (last (Sort.PAndTail a)) ts out
both_on a s r = runs_last (rw s r)

pub both_off : {free : ℕ} {ts : List Terminal} {out : Outcome} (a : Spelt) → sees marks.Both ts ≡ false → Runs Tutorial free (done a) ts out → Runs Tutorial free (last (Sort.PAndTail a)) ts out
both_off a s r = runs_last (rw s r)

pub cases_end : {free : ℕ} {ts : List Terminal} {out : Outcome} (t : Spelt) (cs : List Written) (h : ℕ) → sees marks.CloseBrace ts ≡ true → Runs Tutorial free (rule Tutorial (Prod.case_end t cs h)) ts out → Runs Tutorial free (last (Sort.CaseTail t cs h)) ts out
cases_end t cs h s r = runs_last (rw s r)

pub cases_go_on : {free : ℕ} {ts : List Terminal} {out : Outcome} (t : Spelt) (cs : List Written) (h : ℕ) → sees marks.CloseBrace ts ≡ false → Runs Tutorial free (rule Tutorial (Prod.case_more t cs h)) ts out → Runs Tutorial free (last (Sort.CaseTail t cs h)) ts out
cases_go_on t cs h s r = runs_last (rw s r)

pub group_on : {free : ℕ} {ts : List Terminal} {out : Outcome} (side : Side) (a : Spelt) → sees marks.Comma ts ≡ true → Runs Tutorial free (rule Tutorial (Prod.group_tuple side a)) ts out → Runs Tutorial free (last (Sort.Group side a)) ts out
group_on side a s r = runs_last (rw s r)

pub group_off : {free : ℕ} {ts : List Terminal} {out : Outcome} (side : Side) (a : Spelt) → sees marks.Comma ts ≡ false → Runs Tutorial free (rule Tutorial (Prod.group_close side a)) ts out → Runs Tutorial free (last (Sort.Group side a)) ts out
group_off side a s r = runs_last (rw s r)

-- a group that ends, and one that goes on as a tuple, after its first member that was read
pub group_ended : {T : Type 0} {ts us : List Terminal} (free : ℕ) (r : Rule) (t0 : List Terminal) (side : Side) (of : T → Spelt) (inner : Result T Fault) → us ≡ ts → OnOk inner (sees marks.Comma ts ≡ false)
    → Turns free r (λ a. last (Sort.Group side (of a))) t0 inner ts → Turns free r (λ a. rule Tutorial (Prod.group_close side (of a))) t0 inner us
group_ended free r t0 side of inner m s t = stayed free r t0 (λ a. rule Tutorial (Prod.group_close side (of a))) inner m
    (closed r t0 (λ a. last (Sort.Group side (of a))) (λ a. rule Tutorial (Prod.group_close side (of a))) inner s (λ a c out h. group_off side (of a) c h) t)

pub group_tupled : {T : Type 0} {free : ℕ} {t0 ts us : List Terminal} {out : Outcome} (r : Rule) (side : Side) (of : T → Spelt) (inner : Result T Fault) → IsOk inner → sees marks.Comma ts ≡ true → Takes marks.Comma ts us
    → Turns free r (λ a. last (Sort.Group side (of a))) t0 inner ts → ((a : T) → inner ≡ Ok a → Runs Tutorial free (after_first side (of a)) us out) → Runs Tutorial free r t0 out
group_tupled r side of (Ok a) k s m t h = t _ (group_on side (of a) s (runs_sign m (h a refl)))
group_tupled r side of (Err d) k s m t h = absurd (false≢true k)

pub name_at : {free : ℕ} {ts : List Terminal} {out : Outcome} → sees marks.At ts ≡ true → Runs Tutorial free (rule Tutorial Prod.name_quote) ts out → Runs Tutorial free (rule Tutorial (choose Sort.Name ts)) ts out
name_at s r = rw s r

pub name_plain : {free : ℕ} {out : Outcome} (xs : List Token) → sees marks.At (view xs) ≡ false → Runs Tutorial free (rule Tutorial Prod.name_word) (view xs) out → Runs Tutorial free (rule Tutorial (choose Sort.Name (view xs))) (view xs) out
name_plain xs s r = let n = no_fresh xs in rw (s, n) r

pub pattern_name_at : {free : ℕ} {ts : List Terminal} {out : Outcome} → sees marks.Underscore ts ≡ false → sees marks.At ts ≡ true → Runs Tutorial free (rule Tutorial Prod.pname_quote) ts out → Runs Tutorial free (rule Tutorial (choose Sort.PName ts)) ts out
pattern_name_at u s r = rw (u, s) r

pub pattern_name_plain : {free : ℕ} {ts : List Terminal} {out : Outcome} → sees marks.Underscore ts ≡ false → sees marks.At ts ≡ false → Runs Tutorial free (rule Tutorial Prod.pname_word) ts out → Runs Tutorial free (rule Tutorial (choose Sort.PName ts)) ts out
pattern_name_plain u s r = rw (u, s) r

pub row_empty : {free : ℕ} {ts : List Terminal} {out : Outcome} (side : Side) (b : Bracket) → sees (closing b) ts ≡ true → Runs Tutorial free (rule Tutorial (Prod.row_none side b)) ts out → Runs Tutorial free (rule Tutorial (choose (Sort.Row side b) ts)) ts out
row_empty side b s r = rw s r

pub sequence_empty : {free : ℕ} {ts : List Terminal} {out : Outcome} (b : Bracket) → sees (closing b) ts ≡ true → Runs Tutorial free (rule Tutorial (Prod.seq_none b)) ts out → Runs Tutorial free (rule Tutorial (choose (Sort.Seq b) ts)) ts out
sequence_empty b s r = rw s r

pub sequence_rest : {free : ℕ} {ts : List Terminal} {out : Outcome} (b : Bracket) → sees (closing b) ts ≡ false → sees marks.Ellipsis ts ≡ true → Runs Tutorial free (rule Tutorial (Prod.seq_rest b)) ts out → Runs Tutorial free (rule Tutorial (choose (Sort.Seq b) ts)) ts out
sequence_rest b c s r = rw (c, s) r
