-- The steps of descent along a chain that leans to the left.
use Rattle.std.proofs.Common.{◌≡◌, ◌-◌, ◌+◌, ℕ, List, Option, None, Some, Result, Ok, Err, true, false, max, string_bytes, subst, sym}
use Rattle.std.specs.Prelude.{IfOk, MatchResult}
use Rattle.std.specs.declared.alloc.Global.{Global}
use Rattle.std.specs.declared.string.String.{String}
use Rattle.std.specs.declared.vec.Vec.{Vec}
use Rattle.calculus.specs.Written.{Written}
use Rattle.calculus.specs.declared.plain.BinaryOp.{BinaryOp}
use Rattle.calculus.specs.declared.process.Pat.{Pat}
use Rattle.calculus.specs.declared.process.Proc.{Proc}
use Rattle.form_ends.specs.Chains.{after_call, inner_joint, joined, joint_mark, joint_operand, joint_or_not, joint_sort, joint_tail}
use Rattle.form_ends.specs.declared.joint.Joint.{Joint}
use Rattle.form_ends.specs.declared.joint.Joint.TheVariants as joints
use Rattle.form_ends.proofs.Choices.{both_off, both_on, either_off, either_on}
use Rattle.form_ends.proofs.Cycle.{chain, no_chain, operand_as, turned}
use Rattle.form_steps.specs.Handing.{HandsOn}
use Rattle.form_steps.proofs.Handed.{resume, under_read}
use Rattle.grammar.specs.declared.dialect.Dialect.TheVariants.{Tutorial}
use Rattle.grammar.specs.declared.fault.Fault.{Fault}
use Rattle.grammar.specs.declared.fault.Fault.TheVariants.{NoMemory}
use Rattle.grammar.specs.declared.mark.Mark.{Mark}
use Rattle.grammar.specs.Choice.{choose}
use Rattle.grammar.specs.Descent.{Outcome, read, fault, Runs, no_at, runs_at, runs_done}
use Rattle.grammar.specs.Grammar.{rule}
use Rattle.grammar.specs.Rules.{Rule, Sort, last, opens, round, under}
use Rattle.grammar.specs.Terminals.{Terminal, sees}
use Rattle.grammar.specs.Values.{Spelt, method_of, opened, operation, processes, spelt}
use Rattle.form_parts.specs.declared.part.Part.{Part}
use Rattle.token_cursor.specs.Levels.{inner_of, level_or_prefix, operand_of, sort_of, tail_of}
use Rattle.token_cursor.specs.Reading.{Makes, Turns, of_pat, of_proc, of_row}
use Rattle.token_cursor.specs.declared.level.Level.{Level}

-- a value is made of what was read, unless memory runs out, and what follows it goes on with it
pub made_on : {T : Type 0} {free : ℕ} {r : Rule} {ts us : List Terminal} (f : T → Written) (after : Spelt → Rule) (v : Spelt) (res : Result (Part T) Fault)
    → MatchResult res (λ p. f p.value ≡ v.tree) (λ e. e ≡ NoMemory) → IfOk res (λ p. p.height ≡ v.height)
    → ((out : Outcome) → Runs Tutorial free (after v) us out → Runs Tutorial free r ts out)
    → Turns free r (λ p. after (spelt (f p.value) p.height)) ts res us
made_on {T} {free} {r} {ts} {us} f after v res e g k = resume us (λ (p : Part T). after (spelt (f p.value) p.height)) res k (turned free us after f v res e g)

-- the first operand of a level
pub level_begun : {free : ℕ} {ts : List Terminal} (us : List Terminal) (l : Level) (o : Option Level) (res : Result (Part Proc) Fault) → o ≡ inner_of l
    → Makes free (rule Tutorial (choose (level_or_prefix o) ts)) of_proc ts res us
    → Turns free (rule Tutorial (choose (sort_of l) ts)) (λ p. last (tail_of l (of_proc p))) ts res us
level_begun us l o (Ok p) e g = λ out h. chain l (of_proc p) (operand_as l o e g) h
level_begun us l o (Err d) e g = no_chain l (operand_as l o e g)

-- an operator and its right operand
pub level_gone_on : {free : ℕ} {r : Rule} {t0 ts : List Terminal} (us : List Terminal) (l : Level) (o : Option Level) (a : Part Proc) (op : BinaryOp) (right res : Result (Part Proc) Fault) → o ≡ inner_of l
    → ((out : Outcome) → Runs Tutorial free (under (operand_of l) (λ b. last (tail_of l (operation op (of_proc a) b)))) ts out → Runs Tutorial free r t0 out)
    → Makes (free - 1) (rule Tutorial (choose (level_or_prefix o) ts)) of_proc ts right us
    → HandsOn right (λ b. operation op (of_proc a) (of_proc b)) res of_proc
    → Turns free r (λ p. last (tail_of l (of_proc p))) t0 res us
level_gone_on {free} {r} {t0} {ts} us l o a op right res e k g h =
    resume us (λ p. last (tail_of l (of_proc p))) res k
    (h free _ ts us (λ v. last (tail_of l v)) (under_read free (operand_of l) us of_proc (λ b. last (tail_of l (operation op (of_proc a) b))) right (operand_as l o e g)))

-- the name of a method and its arguments
pub call_gone_on : {free : ℕ} {r : Rule} {t0 ts : List Terminal} (us : List Terminal) (a : Part Proc) (w : String Global) (args : Result (Part (Vec Proc Global)) Fault) (res : Result (Part Proc) Fault)
    → ((out : Outcome) → Runs Tutorial free (after_call a w) ts out → Runs Tutorial free r t0 out)
    → Makes (free - 1) (rule Tutorial (choose (Sort.Row processes round) ts)) of_row ts args us
    → HandsOn args (λ x. opened (method_of (string_bytes w) (of_proc a).tree (of_row x).tree) (max a.height x.height)) res of_proc
    → Turns free r (λ p. last (Sort.MethTail (of_proc p))) t0 res us
call_gone_on {free} {r} {t0} {ts} us a w args res k g h =
    resume us (λ p. last (Sort.MethTail (of_proc p))) res k
    (h free _ ts us (λ v. last (Sort.MethTail v)) (under_read free (Sort.Row processes round) us of_row (λ x. last (Sort.MethTail (opened (method_of (string_bytes w) (of_proc a).tree x.tree) (max a.height x.height)))) args g))

-- a pattern that may be joined to others
joint_chain : {free : ℕ} {ts us : List Terminal} {out : Outcome} (j : Joint) (a : Spelt) → Runs Tutorial free (rule Tutorial (choose (joint_operand j) ts)) ts (read a us)
    → Runs Tutorial free (last (joint_tail j a)) us out → Runs Tutorial free (rule Tutorial (choose (joint_sort j) ts)) ts out
joint_chain joints.Either a g h = runs_at g h
joint_chain joints.Both a g h = runs_at g h

no_joint_chain : {free : ℕ} {ts us : List Terminal} {e : Fault} (j : Joint) → Runs Tutorial free (rule Tutorial (choose (joint_operand j) ts)) ts (fault e us)
    → Runs Tutorial free (rule Tutorial (choose (joint_sort j) ts)) ts (fault e us)
no_joint_chain joints.Either g = no_at g
no_joint_chain joints.Both g = no_at g

joint_operand_as : {free : ℕ} {ts : List Terminal} {out : Outcome} (j : Joint) (o : Option Joint) → o ≡ inner_joint j
    → Runs Tutorial free (rule Tutorial (choose (joint_or_not o) ts)) ts out → Runs Tutorial free (rule Tutorial (choose (joint_operand j) ts)) ts out
joint_operand_as {free} {ts} {out} j o e h = subst (λ (x : Option Joint). Runs Tutorial free (rule Tutorial (choose (joint_or_not x) ts)) ts out) e h

pub joints_begun : {free : ℕ} {ts : List Terminal} (us : List Terminal) (j : Joint) (o : Option Joint) (res : Result (Part Pat) Fault) → o ≡ inner_joint j
    → Makes free (rule Tutorial (choose (joint_or_not o) ts)) of_pat ts res us
    → Turns free (rule Tutorial (choose (joint_sort j) ts)) (λ p. last (joint_tail j (of_pat p))) ts res us
joints_begun us j o (Ok p) e g = λ out h. joint_chain j (of_pat p) (joint_operand_as j o e g) h
joints_begun us j o (Err d) e g = no_joint_chain j (joint_operand_as j o e g)

-- what joins them, and a further pattern
pub joints_gone_on : {free : ℕ} {r : Rule} {t0 ts : List Terminal} (us : List Terminal) (j : Joint) (o : Option Joint) (a : Part Pat) (right res : Result (Part Pat) Fault) → o ≡ inner_joint j
    → ((out : Outcome) → Runs Tutorial free (under (joint_operand j) (λ b. last (joint_tail j (joined j (of_pat a) b)))) ts out → Runs Tutorial free r t0 out)
    → Makes (free - 1) (rule Tutorial (choose (joint_or_not o) ts)) of_pat ts right us
    → HandsOn right (λ b. joined j (of_pat a) (of_pat b)) res of_pat
    → Turns free r (λ p. last (joint_tail j (of_pat p))) t0 res us
joints_gone_on {free} {r} {t0} {ts} us j o a right res e k g h =
    resume us (λ p. last (joint_tail j (of_pat p))) res k
    (h free _ ts us (λ v. last (joint_tail j v)) (under_read free (joint_operand j) us of_pat (λ b. last (joint_tail j (joined j (of_pat a) b))) right (joint_operand_as j o e g)))

joint_marked : {free : ℕ} {ts : List Terminal} {out : Outcome} (j : Joint) (a : Spelt) → sees (joint_mark j) ts ≡ true
    → Runs Tutorial free (opens (joint_mark j) a.height (under (joint_operand j) (λ b. last (joint_tail j (joined j a b))))) ts out → Runs Tutorial free (last (joint_tail j a)) ts out
joint_marked joints.Either a s h = either_on a s h
joint_marked joints.Both a s h = both_on a s h

joint_unmarked : {free : ℕ} {ts : List Terminal} (j : Joint) (a : Spelt) → sees (joint_mark j) ts ≡ false → Runs Tutorial free (last (joint_tail j a)) ts (read a ts)
joint_unmarked joints.Either a s = either_off a s runs_done
joint_unmarked joints.Both a s = both_off a s runs_done

-- its mark is next, or not
pub joint_on : {free : ℕ} {ts : List Terminal} {out : Outcome} (j : Joint) (m : Mark) (a : Spelt) → m ≡ joint_mark j → sees m ts ≡ true
    → Runs Tutorial free (opens m a.height (under (joint_operand j) (λ b. last (joint_tail j (joined j a b))))) ts out → Runs Tutorial free (last (joint_tail j a)) ts out
joint_on {free} {ts} {out} j m a e s h = joint_marked j a (subst (λ (k : Mark). sees k ts ≡ true) e s) (subst (λ (k : Mark). Runs Tutorial free (opens k a.height (under (joint_operand j) (λ b. last (joint_tail j (joined j a b))))) ts out) e h)

pub joint_off : {free : ℕ} {ts : List Terminal} (j : Joint) (m : Mark) (a : Spelt) → m ≡ joint_mark j → sees m ts ≡ false → Runs Tutorial free (last (joint_tail j a)) ts (read a ts)
joint_off {free} {ts} j m a e s = joint_unmarked j a (subst (λ (k : Mark). sees k ts ≡ false) e s)

-- a pattern that nothing joins, and one that this joins
pub not_as : {free : ℕ} {ts : List Terminal} {out : Outcome} (o : Option Joint) → o ≡ None
    → Runs Tutorial free (rule Tutorial (choose Sort.PNot ts)) ts out → Runs Tutorial free (rule Tutorial (choose (joint_or_not o) ts)) ts out
not_as {free} {ts} {out} o e h = subst (λ (x : Option Joint). Runs Tutorial free (rule Tutorial (choose (joint_or_not x) ts)) ts out) (sym e) h

pub joint_as : {free : ℕ} {ts : List Terminal} {out : Outcome} (j : Joint) (o : Option Joint) → o ≡ Some j
    → Runs Tutorial free (rule Tutorial (choose (joint_sort j) ts)) ts out → Runs Tutorial free (rule Tutorial (choose (joint_or_not o) ts)) ts out
joint_as {free} {ts} {out} j o e h = subst (λ (x : Option Joint). Runs Tutorial free (rule Tutorial (choose (joint_or_not x) ts)) ts out) (sym e) h

-- the height of two patterns that are joined
pub join_height : (j : Joint) (a b : Part Pat) (res : Result (Part Pat) Fault) → IfOk res (λ p. p.height ≡ max a.height b.height + 1) → IfOk res (λ p. p.height ≡ (joined j (of_pat a) (of_pat b)).height)
join_height joints.Either a b res h = h
join_height joints.Both a b res h = h
