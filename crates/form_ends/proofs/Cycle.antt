-- The steps of descent of the forms that hold further processes.
use Rattle.std.proofs.Common.{◌≡◌, ◌-◌, zero, suc, not, refl, Option, arith, max, map, ◌++◌, ℕ, List, ◌∷◌, [], Result, Ok, Err, None, Some, subst, sym, ◌∙◌, Bool, true, false}
use Rattle.std.specs.Prelude.{IfOk, MatchResult}
use Rattle.std.proofs.lemmas.List.{map-append}
use Rattle.calculus.specs.Written.{Written}
use Rattle.calculus.specs.declared.process.Proc.{Proc}
use Rattle.grammar.specs.declared.dialect.Dialect.TheVariants.{Tutorial}
use Rattle.grammar.specs.declared.fault.Fault.{Fault}
use Rattle.grammar.specs.declared.fault.Fault.TheVariants.{NoMemory}
use Rattle.grammar.specs.declared.mark.Mark.TheVariants as marks
use Rattle.std.proofs.lemmas.Bool.{false≢true}
use Rattle.calculus.specs.declared.plain.Kind.{Kind}
use Rattle.rho_lexer.specs.declared.token.Token.{Token}
use Rattle.grammar.specs.Choice.{choose}
use Rattle.grammar.specs.Descent.{Outcome, read, fault, Runs, Takes, shows, runs_sign, runs_next, runs_at, no_at, runs_last, no_memory}
use Rattle.grammar.specs.Grammar.{rule}
use Rattle.grammar.specs.Productions.{Prod}
use Rattle.grammar.specs.declared.mark.Mark.{Mark}
use Rattle.grammar.specs.Rules.{Bracket, Separator, Sort, Rule, at, last, next, sign}
use Rattle.grammar.specs.Terminals.{Terminal, mark, sees}
use Rattle.grammar.specs.Values.{Side, Spelt, spelt}
use Rattle.token_cursor.specs.Levels.{inner_of, level_or_prefix, operand_of, sort_of, tail_of}
use Rattle.token_cursor.specs.declared.level.Level.{Level}
use Rattle.token_cursor.specs.declared.level.Level.TheVariants as levels
use Rattle.form_parts.specs.declared.part.Part.{Part}
use Rattle.token_cursor.specs.Meaning.{view}
use Rattle.form_steps.specs.Parts.{form_sort}
use Rattle.form_steps.specs.declared.step.FormKey.{FormKey}
use Rattle.token_cursor.specs.Reading.{Makes, Turns, of_proc, sees_bind, sees_member}
use Rattle.form_steps.proofs.Handed.{at_read}
use Rattle.form_steps.proofs.Turning.{as_rule, chosen, tails}
use Rattle.token_cursor.proofs.Steps.{comma, faulty}

-- a tail goes on with the value that is made, unless memory runs out
pub turned : {T : Type 0} (free : ℕ) (ts : List Terminal) (tail : Spelt → Rule) (f : T → Written) (v : Spelt) (res : Result (Part T) Fault)
    → MatchResult res (λ p. f p.value ≡ v.tree) (λ e. e ≡ NoMemory) → IfOk res (λ p. p.height ≡ v.height)
    → Turns free (tail v) (λ p. tail (spelt (f p.value) p.height)) ts res ts
turned free ts tail f v (Ok p) e g = λ out h. tails tail v (spelt (f p.value) p.height) e g h
turned free ts tail f v (Err d) e g = faulty d NoMemory e no_memory

-- a tail goes on with one more tree at the end
pub appended : {T : Type 0} (free : ℕ) (r : Rule) (ts us : List Terminal) (f : T → Written) (tail : List Written → ℕ → Rule) (xs : List T) (h : ℕ) (res : Result (Part T) Fault)
    → Turns free r (λ p. tail (map f xs ++ (f p.value ∷ [])) (max h p.height)) ts res us
    → Turns free r (λ p. tail (map f (xs ++ (p.value ∷ []))) (max h p.height)) ts res us
appended {T} free r ts us f tail xs h (Ok p) t = λ out k. t out (subst (λ (qs : List Written). Runs Tutorial free (tail qs (max h p.height)) us out) (map-append f xs (p.value ∷ [])) k)
appended free r ts us f tail xs h (Err d) t = t

-- a first constituent, and one more
pub begun : {T : Type 0} {free : ℕ} {ts : List Terminal} (s : Sort) (us : List Terminal) (f : T → Written) (tail : List Written → ℕ → Rule) (res : Result (Part T) Fault)
    → Makes free (rule Tutorial (choose s ts)) (λ p. spelt (f p.value) p.height) ts res us
    → Turns free (at s (λ a. tail (a.tree ∷ []) a.height)) (λ p. tail (map f (p.value ∷ [])) p.height) ts res us
begun s us f tail (Ok p) g = λ out h. runs_at g h
begun s us f tail (Err d) g = no_at g

pub grown : {T : Type 0} {free : ℕ} {ts : List Terminal} (s : Sort) (us : List Terminal) (f : T → Written) (tail : List Written → ℕ → Rule) (xs : List T) (h : ℕ) (res : Result (Part T) Fault)
    → Makes free (rule Tutorial (choose s ts)) (λ p. spelt (f p.value) p.height) ts res us
    → Turns free (at s (λ a. tail (map f xs ++ (a.tree ∷ [])) (max h a.height))) (λ p. tail (map f (xs ++ (p.value ∷ []))) (max h p.height)) ts res us
grown {T} {free} {ts} s us f tail xs h res g = appended free (at s (λ a. tail (map f xs ++ (a.tree ∷ [])) (max h a.height))) ts us f tail xs h res (at_read s us (λ p. spelt (f p.value) p.height) (λ a. tail (map f xs ++ (a.tree ∷ [])) (max h a.height)) res g)

not_true : (b : Bool) → not b ≡ true → b ≡ false
not_true false e = refl
not_true true e = absurd (false≢true e)

member_next : {ts us : List Terminal} → sees_member ts ≡ true → Takes marks.Comma ts us → sees marks.Ellipsis us ≡ false
member_next {ts} {us} m t = not_true (sees marks.Ellipsis us) (sym (comma t) ∙ m)

-- a comma and a pattern of a name
pub left_on : {free : ℕ} {out : Outcome} (ps : List Written) (h : ℕ) (ts us : List Terminal) → sees_member ts ≡ true → Takes marks.Comma ts us
    → Runs Tutorial free (rule Tutorial (Prod.left_more ps h)) us out → Runs Tutorial free (rule Tutorial (choose (Sort.LeftTail ps h) ts)) ts out
left_on {free} {out} ps h ts us m t r =
    let e : sees marks.Ellipsis us ≡ false = member_next m t in
    let q : Runs Tutorial free (rule Tutorial (choose (Sort.LeftTail ps h) (mark marks.Comma ∷ us))) (mark marks.Comma ∷ us) out = runs_sign (record { is = refl }) (runs_last (rw e r)) in
    subst (λ (x : List Terminal). Runs Tutorial free (rule Tutorial (choose (Sort.LeftTail ps h) x)) x out) (sym t.is) q

-- a comma and a pattern
pub sequence_on : {free : ℕ} {out : Outcome} (b : Bracket) (ps : List Written) (h : ℕ) (ts us : List Terminal) → sees_member ts ≡ true → Takes marks.Comma ts us
    → Runs Tutorial free (rule Tutorial (Prod.seq_more b ps h)) us out → Runs Tutorial free (rule Tutorial (choose (Sort.SeqTail b ps h) ts)) ts out
sequence_on {free} {out} b ps h ts us m t r =
    let e : sees marks.Ellipsis us ≡ false = member_next m t in
    let q : Runs Tutorial free (rule Tutorial (choose (Sort.SeqTail b ps h) (mark marks.Comma ∷ us))) (mark marks.Comma ∷ us) out = runs_sign (record { is = refl }) (runs_last (rw e r)) in
    subst (λ (x : List Terminal). Runs Tutorial free (rule Tutorial (choose (Sort.SeqTail b ps h) x)) x out) (sym t.is) q

-- a comma and a pair of patterns
pub pairs_on : {free : ℕ} {out : Outcome} (ps : List Written) (h : ℕ) (ts us : List Terminal) → sees_member ts ≡ true → Takes marks.Comma ts us
    → Runs Tutorial free (rule Tutorial (Prod.ppairs_more ps h)) us out → Runs Tutorial free (rule Tutorial (choose (Sort.PPairs ps h) ts)) ts out
pairs_on {free} {out} ps h ts us m t r =
    let e : sees marks.Ellipsis us ≡ false = member_next m t in
    let q : Runs Tutorial free (rule Tutorial (choose (Sort.PPairs ps h) (mark marks.Comma ∷ us))) (mark marks.Comma ∷ us) out = runs_sign (record { is = refl }) (runs_last (rw e r)) in
    subst (λ (x : List Terminal). Runs Tutorial free (rule Tutorial (choose (Sort.PPairs ps h) x)) x out) (sym t.is) q

-- the next terminal passes a test, and stays
pub passed : {free : ℕ} {r : Rule} {out : Outcome} {test : Terminal → Bool} {xs ys : List Token} → shows test (view xs) ≡ true → ys ≡ xs
    → Runs Tutorial free r (view ys) out → Runs Tutorial free (next test r) (view xs) out
passed {free} {r} {out} {test} {xs} {ys} s e h = runs_next s (subst (λ (x : List Token). Runs Tutorial free r (view x) out) e h)

-- a further bind
pub binds_on : {free : ℕ} {ts : List Terminal} {out : Outcome} (k : Kind) (m : Separator) (left : ℕ) (bs : List Written) (h : ℕ) → sees_bind m left ts ≡ true
    → Runs Tutorial free (rule Tutorial (Prod.binds_more k m (left - 1) bs h)) ts out → Runs Tutorial free (rule Tutorial (choose (Sort.BindsTail k m left bs h) ts)) ts out
binds_on k m zero bs h e r = absurd (false≢true e)
binds_on {free} {ts} {out} k m (suc left) bs h e r =
    let p : choose (Sort.BindsTail k m (suc left) bs h) ts ≡ Prod.binds_more k m left bs h = rw e refl in
    let i : suc left - 1 ≡ left = omega arith in
    chosen _ _ p (subst (λ (n : ℕ). Runs Tutorial free (rule Tutorial (Prod.binds_more k m n bs h)) ts out) i r)

-- no further bind
pub binds_off : {free : ℕ} {ts : List Terminal} {out : Outcome} (k : Kind) (m : Separator) (left : ℕ) (bs : List Written) (h : ℕ) → sees_bind m left ts ≡ false
    → Runs Tutorial free (last (Sort.Body k bs h)) ts out → Runs Tutorial free (rule Tutorial (choose (Sort.BindsTail k m left bs h) ts)) ts out
binds_off k m zero bs h e r = r
binds_off k m (suc left) bs h e r = rw e r

-- an operand, and what follows it on a level
pub chain : {free : ℕ} {ts us : List Terminal} {out : Outcome} (l : Level) (a : Spelt) → Runs Tutorial free (rule Tutorial (choose (operand_of l) ts)) ts (read a us)
    → Runs Tutorial free (last (tail_of l a)) us out → Runs Tutorial free (rule Tutorial (choose (sort_of l) ts)) ts out
chain levels.Or a g h = runs_at g h
chain levels.And a g h = runs_at g h
chain levels.Eq a g h = runs_at g h
chain levels.Cmp a g h = runs_at g h
chain levels.Sum a g h = runs_at g h
chain levels.Mul a g h = runs_at g h

-- no operand
pub no_chain : {free : ℕ} {ts us : List Terminal} {e : Fault} (l : Level) → Runs Tutorial free (rule Tutorial (choose (operand_of l) ts)) ts (fault e us)
    → Runs Tutorial free (rule Tutorial (choose (sort_of l) ts)) ts (fault e us)
no_chain levels.Or g = no_at g
no_chain levels.And g = no_at g
no_chain levels.Eq g = no_at g
no_chain levels.Cmp g = no_at g
no_chain levels.Sum g = no_at g
no_chain levels.Mul g = no_at g

-- an operand of a level
pub operand_as : {free : ℕ} {ts : List Terminal} {out : Outcome} (l : Level) (o : Option Level) → o ≡ inner_of l
    → Runs Tutorial free (rule Tutorial (choose (level_or_prefix o) ts)) ts out → Runs Tutorial free (rule Tutorial (choose (operand_of l) ts)) ts out
operand_as {free} {ts} {out} l o e h = subst (λ (x : Option Level). Runs Tutorial free (rule Tutorial (choose (level_or_prefix x) ts)) ts out) e h

-- an operand where no level is tighter
pub prefix_as : {free : ℕ} {ts : List Terminal} {out : Outcome} (o : Option Level) → o ≡ None
    → Runs Tutorial free (rule Tutorial (choose Sort.Pre ts)) ts out → Runs Tutorial free (rule Tutorial (choose (level_or_prefix o) ts)) ts out
prefix_as {free} {ts} {out} o e h = subst (λ (x : Option Level). Runs Tutorial free (rule Tutorial (choose (level_or_prefix x) ts)) ts out) (sym e) h

-- the operators of a level, where it is one
pub level_as : {free : ℕ} {ts : List Terminal} {out : Outcome} (l : Level) (o : Option Level) → o ≡ Some l
    → Runs Tutorial free (rule Tutorial (choose (sort_of l) ts)) ts out → Runs Tutorial free (rule Tutorial (choose (level_or_prefix o) ts)) ts out
level_as {free} {ts} {out} l o e h = subst (λ (x : Option Level). Runs Tutorial free (rule Tutorial (choose (level_or_prefix x) ts)) ts out) (sym e) h

-- the terminals are the same
pub unmoved : {free : ℕ} {r : Rule} {ts us : List Terminal} {out : Outcome} → us ≡ ts → Runs Tutorial free r us out → Runs Tutorial free r ts out
unmoved {free} {r} {ts} {us} {out} e h = subst (λ (x : List Terminal). Runs Tutorial free r x out) e h

-- the same of a sort
pub unmoved_tail : {free : ℕ} {ts us : List Terminal} {out : Outcome} (s : Sort) → us ≡ ts → Runs Tutorial free (rule Tutorial (choose s us)) us out → Runs Tutorial free (rule Tutorial (choose s ts)) ts out
unmoved_tail {free} {ts} {us} {out} s e h = subst (λ (x : List Terminal). Runs Tutorial free (rule Tutorial (choose s x)) x out) e h

-- a mark is this one
pub signed : {free : ℕ} {r : Rule} {us : List Terminal} {out : Outcome} {m n : Mark} → m ≡ n → Runs Tutorial free (sign m r) us out → Runs Tutorial free (sign n r) us out
signed {free} {r} {us} {out} e h = subst (λ (k : Mark). Runs Tutorial free (sign k r) us out) e h

-- no further member, and nothing was taken
pub row_ends : {free : ℕ} {ts us : List Terminal} {out : Outcome} (side : Side) (b : Bracket) (ps : List Written) (h : ℕ) → sees marks.Comma ts ≡ false → us ≡ ts
    → Runs Tutorial free (rule Tutorial (Prod.row_end side b ps h)) us out → Runs Tutorial free (rule Tutorial (choose (Sort.RowTail side b ps h) ts)) ts out
row_ends side b ps h e m r = rw e (unmoved m r)

-- what comes last is read by its own production
pub unlast : {free : ℕ} {s : Sort} {ts : List Terminal} {out : Outcome} → Runs Tutorial free (last s) ts out → Runs Tutorial free (rule Tutorial (choose s ts)) ts out
unlast (runs_last h) = h
unlast no_memory = no_memory

-- what follows a first bind is what follows any, where fifteen more may stand
pub first_on : {free : ℕ} {ts : List Terminal} {out : Outcome} (k : Kind) (b : Spelt) (m : Separator) → rule Tutorial (choose (Sort.FirstTail k b) ts) ≡ rule Tutorial (choose (Sort.BindsTail k m 15 (b.tree ∷ []) b.height) ts)
    → Runs Tutorial free (last (Sort.BindsTail k m 15 (b.tree ∷ []) b.height)) ts out → Runs Tutorial free (last (Sort.FirstTail k b)) ts out
first_on k b m e h = runs_last (as_rule _ _ e (unlast h))

-- the step that begins is this one
pub at_step : {S : Type 0} {free : ℕ} {r : Rule} {ts us : List Terminal} (after : S → Rule) (x y : S) → x ≡ y → ((out : Outcome) → Runs Tutorial free (after x) us out → Runs Tutorial free r ts out)
    → (out : Outcome) → Runs Tutorial free (after y) us out → Runs Tutorial free r ts out
at_step {S} {free} {r} {ts} {us} after x y e h = λ out k. h out (subst (λ (z : S). Runs Tutorial free (after z) us out) (sym e) k)

-- the form that is read is this one
pub form_as : {free : ℕ} {ts : List Terminal} (us : List Terminal) (res : Result (Part Proc) Fault) (k j : FormKey) → k ≡ j
    → Makes free (rule Tutorial (choose (form_sort j) ts)) of_proc ts res us → Makes free (rule Tutorial (choose (form_sort k) ts)) of_proc ts res us
form_as {free} {ts} us res k j e h = subst (λ (x : FormKey). Makes free (rule Tutorial (choose (form_sort x) ts)) of_proc ts res us) (sym e) h
