-- What the methods of a cursor promise: of the cursor before, the result and the cursor after.
use Rattle.std.specs.Prelude.{ℕ, ◌≡◌, ◌<◌, ◌≤◌, Bool, true, cond, List, MatchResult, Option, Result, length, string_bytes}
use Rattle.std.specs.declared.alloc.Global.{Global}
use Rattle.std.specs.declared.string.String.{String}
use Rattle.calculus.specs.Meaning.{rest_written}
use Rattle.calculus.specs.Written.{Written}
use Rattle.calculus.specs.declared.plain.Rest.{Rest}
use Rattle.grammar.specs.declared.dialect.Dialect.TheVariants.{Tutorial}
use Rattle.grammar.specs.declared.fault.Fault.{Fault}
use Rattle.grammar.specs.declared.mark.Mark.{Mark}
use Rattle.grammar.specs.declared.mark.Mark.TheVariants as marks
use Rattle.grammar.specs.Choice.{choose, sees_text}
use Rattle.grammar.specs.Descent.{Outcome, Runs, Stuck, Takes, TakesInteger, TakesOpening, TakesText, sees_integer, shows}
use Rattle.grammar.specs.Grammar.{rule}
use Rattle.grammar.specs.Productions.{Prod}
use Rattle.grammar.specs.Rules.{Rule, Sort, at, done, sign}
use Rattle.grammar.specs.Terminals.{Holding, Terminal, sees}
use Rattle.grammar.specs.Values.{Spelt, no_rest}
use Rattle.token_cursor.specs.Meaning.{Missing, Refused, view}
use Rattle.token_cursor.specs.Reading.{Gives, Makes, Turns, after_uri}
use Rattle.token_cursor.specs.declared.cursor.Cursor.{Cursor}

-- the terminals that are left
abbrev pub ahead : Cursor → List Terminal
ahead c = view c.rest.now

-- fewer tokens are left where it was read, no more where it was not
abbrev pub Shortens : {T : Type 0} → Cursor → Result T Fault → Cursor → Type 0
Shortens old result new = MatchResult result (λ _. length new.rest.now < length old.rest.now) (λ _. length new.rest.now ≤ length old.rest.now)

-- as many are left as this says of what was read, no more where it was not
abbrev pub ShortensAs : {T : Type 0} → (ℕ → ℕ → T → Type 0) → Cursor → Result T Fault → Cursor → Type 0
ShortensAs passes old result new = MatchResult result (passes (length new.rest.now) (length old.rest.now)) (λ _. length new.rest.now ≤ length old.rest.now)

-- the mark that is next is taken; where another terminal is next, that is the fault
abbrev pub ReadsMark : {T : Type 0} → Cursor → Mark → Result T Fault → Cursor → Type 0
ReadsMark old m result new = MatchResult result (λ _. Takes m (ahead old) (ahead new)) (λ e. Stuck (sees m (ahead old)) (ahead old) e (ahead new))

-- the result is what was made, once the mark that is next is taken; where another terminal is next, that is the fault
abbrev pub ReadsMarkAfter : {T : Type 0} → Cursor → T → Mark → Result T Fault → Cursor → Type 0
ReadsMarkAfter old made m result new = MatchResult result (λ v. (v ≡ made) × Takes m (ahead old) (ahead new)) (λ e. Stuck (sees m (ahead old)) (ahead old) e (ahead new))

-- the mark is taken and opens a form, to whose left a part of height h stands; it is a fault too where there is no room for the form
abbrev pub ReadsOpening : {T : Type 0} → Cursor → Mark → ℕ → ℕ → Result T Fault → Cursor → Type 0
ReadsOpening old m h free result new = MatchResult result (λ _. TakesOpening m h free (ahead old) (ahead new)) (λ e. Refused (sees m (ahead old)) h free (ahead old) e (ahead new))

-- a text of this kind is taken
abbrev pub ReadsText : Cursor → Holding → Result (String Global) Fault → Cursor → Type 0
ReadsText old k result new = MatchResult result (λ w. TakesText k (string_bytes w) (ahead old) (ahead new)) (λ e. Missing (sees_text k (ahead old)) (ahead old) e (ahead new))

-- an Int of at most this value is taken
abbrev pub ReadsInteger : Cursor → ℕ → Result ℕ Fault → Cursor → Type 0
ReadsInteger old most result new = MatchResult result (λ n. TakesInteger most n (ahead old) (ahead new)) (λ e. Stuck (sees_integer most (ahead old)) (ahead old) e (ahead new))

-- the next terminal passes the test, and stays
abbrev pub StaysBefore : {T : Type 0} → Cursor → (Terminal → Bool) → Result T Fault → Cursor → Type 0
StaysBefore old test result new = MatchResult result (λ _. (shows test (ahead old) ≡ true) × (new.rest.now ≡ old.rest.now)) (λ e. Stuck (shows test (ahead old)) (ahead old) e (ahead new))

-- and a form is opened at it
abbrev pub OpensBefore : {T : Type 0} → Cursor → (Terminal → Bool) → ℕ → Result T Fault → Cursor → Type 0
OpensBefore old test free result new = MatchResult result (λ _. (shows test (ahead old) ≡ true) × (0 < free) × (new.rest.now ≡ old.rest.now)) (λ e. Refused (shows test (ahead old)) 0 free (ahead old) e (ahead new))

-- the rule of the sort's production that the next terminals choose
abbrev pub rule_at : Cursor → Sort → Rule
rule_at c s = rule Tutorial (choose s (ahead c))

-- the result and what is left are what the sort comes to, where so many forms may be opened
abbrev pub ReadsWithin : {T : Type 0} → ℕ → Cursor → Sort → (T → Spelt) → Result T Fault → Cursor → Type 0
ReadsWithin free old s of result new = Gives free s of (ahead old) result (ahead new)

-- what the sort comes to, however many forms may be opened
abbrev pub ReadsSort : {T : Type 0} → Cursor → Sort → (T → Spelt) → Result T Fault → Cursor → Type 0
ReadsSort old s of result new = (free : ℕ) → ReadsWithin free old s of result new

-- what this production of a sort comes to, however many forms may be opened
abbrev pub Reads : {s : Sort} {T : Type 0} → Cursor → Prod s → (T → Spelt) → Result T Fault → Cursor → Type 0
Reads old p of result new = (free : ℕ) → Makes free (rule Tutorial p) of (ahead old) result (ahead new)

-- the rule goes on as the other says after what was read, where so many forms may be opened
abbrev pub ContinuesWithin : {T : Type 0} → ℕ → Cursor → Rule → (T → Rule) → Result T Fault → Cursor → Type 0
ContinuesWithin free old r after result new = Turns free r after (ahead old) result (ahead new)

-- the sort goes on so after its beginning
abbrev pub BeginsWithin : {T : Type 0} → ℕ → Cursor → Sort → (T → Rule) → Result T Fault → Cursor → Type 0
BeginsWithin free old s after result new = ContinuesWithin free old (rule_at old s) after result new

-- the rule goes on so, however many forms may be opened
abbrev pub Continues : {T : Type 0} → Cursor → Rule → (T → Rule) → Result T Fault → Cursor → Type 0
Continues old r after result new = (free : ℕ) → ContinuesWithin free old r after result new

-- the URI that may follow a declared name is read, whichever names stand before
abbrev pub ReadsDeclaredUri : Cursor → Result (Option (String Global)) Fault → Cursor → Type 0
ReadsDeclaredUri old result new = (free : ℕ) (ds : List (List ℕ × Option (List ℕ))) (w : List ℕ) → BeginsWithin free old (Sort.DeclUri ds w) (after_uri ds w) result new

-- dots, a remainder and this mark, whose value is made of the remainder
abbrev pub rest_rule : Mark → (Written → Spelt) → Rule
rest_rule m f = sign marks.Ellipsis (at Sort.Remainder (λ r. sign m (done (f r.tree))))

-- dots, "@" and a remainder
abbrev pub name_rest_rule : (Written → Spelt) → Rule
name_rest_rule f = sign marks.Ellipsis (sign marks.At (at Sort.Remainder (λ r. done (f r.tree))))

-- the remainder that may follow members, also after a comma where `more` goes on, and this mark
abbrev pub end_rule : Mark → (Written → Spelt) → Rule → List Terminal → Rule
end_rule m f more ts = cond (sees marks.Comma ts) (sign marks.Comma more) (cond (sees marks.Ellipsis ts) (rest_rule m f) (sign m (done (f no_rest))))

-- the remainder that may follow patterns of names, also after a comma where `more` goes on
abbrev pub names_end_rule : (Written → Spelt) → Rule → List Terminal → Rule
names_end_rule f more ts = cond (sees marks.Ellipsis ts) (name_rest_rule f) (cond (sees marks.Comma ts) (sign marks.Comma more) (done (f no_rest)))

-- the value that is made of a remainder
abbrev pub value_of : (Written → Spelt) → Rest → Rule
value_of f r = done (f (rest_written r))

-- where a remainder comes next, the rule reads it
abbrev pub IsRest : ℕ → Rule → Rule → Type 0
IsRest free rest more = (us : List Terminal) (out : Outcome) → sees marks.Ellipsis us ≡ true → Runs Tutorial free rest us out → Runs Tutorial free more us out

-- dots, a remainder and this mark are read
abbrev pub ReadsRest : Cursor → Mark → Result Rest Fault → Cursor → Type 0
ReadsRest old m result new = (free : ℕ) (f : Written → Spelt) → ContinuesWithin free old (rest_rule m f) (value_of f) result new

-- dots, "@" and a remainder are read
abbrev pub ReadsNameRest : Cursor → Result Rest Fault → Cursor → Type 0
ReadsNameRest old result new = (free : ℕ) (f : Written → Spelt) → ContinuesWithin free old (name_rest_rule f) (value_of f) result new

-- the remainder that may follow members, also after a comma, and this mark are read
abbrev pub ReadsEnd : Cursor → Mark → Result Rest Fault → Cursor → Type 0
ReadsEnd old m result new = (free : ℕ) (f : Written → Spelt) (more : Rule) → IsRest free (rest_rule m f) more
    → ContinuesWithin free old (end_rule m f more (ahead old)) (value_of f) result new

-- the remainder that may follow patterns of names, also after a comma, is read
abbrev pub ReadsNamesEnd : Cursor → Result Rest Fault → Cursor → Type 0
ReadsNamesEnd old result new = (free : ℕ) (f : Written → Spelt) (more : Rule) → IsRest free (name_rest_rule f) more
    → ContinuesWithin free old (names_end_rule f more (ahead old)) (value_of f) result new
