-- The steps of descent, as the parser takes them.
use Rattle.std.proofs.Common.{◌≡◌, not, refl, Option, map, ◌++◌, inl, inr, ℕ, List, ◌∷◌, [], Result, Ok, Err, subst, sym, ap, ◌∙◌, Bool, true, false}
use Rattle.std.specs.Prelude.{IfOk, MatchResult, cond}
use Rattle.std.specs.Result.{IsErrAnd}
use Rattle.std.specs.declared.alloc.Global.{Global}
use Rattle.std.specs.declared.vec.Vec.{Vec}
use Rattle.std.proofs.lemmas.List.{map-append}
use Rattle.calculus.specs.Meaning.{declared}
use Rattle.calculus.specs.Written.{Written}
use Rattle.calculus.specs.declared.plain.Decl.{Decl}
use Rattle.grammar.specs.declared.dialect.Dialect.TheVariants.{Tutorial}
use Rattle.grammar.specs.declared.fault.Fault.{Fault}
use Rattle.grammar.specs.declared.fault.Fault.TheVariants.{NoMemory}
use Rattle.grammar.specs.declared.mark.Mark.{Mark}
use Rattle.grammar.specs.declared.mark.Mark.TheVariants as marks
use Rattle.std.proofs.lemmas.Bool.{false≢true}
use Rattle.grammar.specs.Choice.{after, choose, sees_text}
use Rattle.grammar.specs.Descent.{Outcome, read, fault, Runs, Stuck, Takes, runs_at, runs_done, runs_last, runs_sign, no_at, no_sign, no_text, no_memory}
use Rattle.grammar.specs.Grammar.{rule}
use Rattle.grammar.specs.Productions.{Prod}
use Rattle.grammar.specs.Rules.{Bracket, Sort, Rule, at, done, last, holds, sign}
use Rattle.grammar.specs.Terminals.{Holding, Terminal, sees}
use Rattle.grammar.specs.Values.{Spelt, spelt}
use Rattle.form_parts.specs.declared.part.Part.{Part}
use Rattle.token_cursor.specs.Cursors.{end_rule, rest_rule}
use Rattle.token_cursor.specs.Meaning.{Missing}
use Rattle.token_cursor.specs.Reading.{Makes, Turns, sees_member}

-- a fault is a fault of the same kind
pub faulty : {free : ℕ} {r : Rule} {ts us : List Terminal} (d e : Fault) → d ≡ e → Runs Tutorial free r ts (fault e us) → Runs Tutorial free r ts (fault d us)
faulty {free} {r} {ts} {us} d e g h = subst (λ (x : Fault). Runs Tutorial free r ts (fault x us)) (sym g) h

-- at the exit of a `?`
pub exit : {T : Type 0} {free : ℕ} {r : Rule} {ts us : List Terminal} (of : T → Spelt) (res : Result T Fault) (e : Fault) → IsErrAnd res (λ y. y ≡ e)
    → Runs Tutorial free r ts (fault e us) → Makes free r of ts res us
exit of (Ok p) e g h = absurd g
exit of (Err d) e g h = faulty d e g h

-- and where the rule goes on
pub leave : {T : Type 0} {free : ℕ} {r : Rule} {ts us : List Terminal} (after : T → Rule) (res : Result T Fault) (e : Fault) → IsErrAnd res (λ y. y ≡ e)
    → Runs Tutorial free r ts (fault e us) → Turns free r after ts res us
leave after (Ok p) e g h = absurd g
leave after (Err d) e g h = faulty d e g h

-- where a value is let go with a fault
pub gives_up : {T : Type 0} {free : ℕ} {r : Rule} {ts us : List Terminal} (of : T → Spelt) (res : Result T Fault) (e : Fault) → res ≡ Err e
    → Runs Tutorial free r ts (fault e us) → Makes free r of ts res us
gives_up {T} {free} {r} {ts} {us} of res e g h = subst (λ (x : Result T Fault). Makes free r of ts x us) (sym g) h

-- and where the rule goes on
pub turns_back : {T : Type 0} {free : ℕ} {r : Rule} {ts us : List Terminal} (after : T → Rule) (res : Result T Fault) (e : Fault) → res ≡ Err e
    → Runs Tutorial free r ts (fault e us) → Turns free r after ts res us
turns_back {T} {free} {r} {ts} {us} after res e g h = subst (λ (x : Result T Fault). Turns free r after ts x us) (sym g) h

-- a text that isn't next, or for which there is no memory
pub lacks : {free : ℕ} {k : Holding} {f : List ℕ → Rule} {ts us : List Terminal} (e : Fault) → Missing (sees_text k ts) ts e us → Runs Tutorial free (holds k f) ts (fault e us)
lacks e (inl s) = no_text s
lacks {free} {k} {f} {ts} {us} e (inr m) = faulty e NoMemory m no_memory

-- the value that is spelt
pub ends : {free : ℕ} {ts : List Terminal} (v w : Spelt) → w.tree ≡ v.tree → w.height ≡ v.height → Runs Tutorial free (done v) ts (read w ts)
ends {free} {ts} v w e g =
    subst (λ (x : Written). Runs Tutorial free (done v) ts (read (spelt x w.height) ts)) (sym e)
    (subst (λ (x : ℕ). Runs Tutorial free (done v) ts (read (spelt v.tree x) ts)) (sym g) runs_done)

-- the same of a list of trees and a height
pub rows : {free : ℕ} {us : List Terminal} {out : Outcome} (tail : List Written → ℕ → Rule) (ps qs : List Written) (h k : ℕ) → qs ≡ ps → k ≡ h
    → Runs Tutorial free (tail qs k) us out → Runs Tutorial free (tail ps h) us out
rows {free} {us} {out} tail ps qs h k e g r =
    subst (λ (x : ℕ). Runs Tutorial free (tail ps x) us out) g
    (subst (λ (x : List Written). Runs Tutorial free (tail x k) us out) e r)

-- what was read goes on after more of the rule
pub carry : {T : Type 0} {free : ℕ} {r s : Rule} {ts ms : List Terminal} (after : T → Rule) (us : List Terminal) (res : Result T Fault)
    → ((out : Outcome) → Runs Tutorial free s ms out → Runs Tutorial free r ts out) → Turns free s after ms res us → Turns free r after ts res us
carry after us (Ok p) k t = λ out h. k out (t out h)
carry after us (Err e) k t = k (fault e us) t

-- the value that is made of the parts is one that is spelt, unless memory runs out
pub built_as : {T : Type 0} {free : ℕ} {ts : List Terminal} (f : T → Written) (v w : Spelt) (res : Result (Part T) Fault) → w.tree ≡ v.tree → w.height ≡ v.height
    → MatchResult res (λ p. f p.value ≡ w.tree) (λ e. e ≡ NoMemory) → IfOk res (λ p. p.height ≡ w.height)
    → Makes free (done v) (λ p. spelt (f p.value) p.height) ts res ts
built_as f v w (Ok p) i j e g = ends v (spelt (f p.value) p.height) (e ∙ i) (g ∙ j)
built_as f v w (Err d) i j e g = faulty d NoMemory e no_memory

-- a value is read as an equal one
pub reads_as : {free : ℕ} {r : Rule} {ts us : List Terminal} (v w : Spelt) → w.tree ≡ v.tree → w.height ≡ v.height
    → Runs Tutorial free r ts (read v us) → Runs Tutorial free r ts (read w us)
reads_as {free} {r} {ts} {us} v w e g h =
    subst (λ (x : Written). Runs Tutorial free r ts (read (spelt x w.height) us)) (sym e)
    (subst (λ (x : ℕ). Runs Tutorial free r ts (read (spelt v.tree x) us)) (sym g) h)

-- names, and one more of them
pub declares : (free : ℕ) (ts : List Terminal) (ds : List Decl) (d : Decl) (res : Result (Vec Decl Global) Fault)
    → MatchResult res (λ r. r.items ≡ ds ++ (d ∷ [])) (λ e. e ≡ NoMemory)
    → Turns free (last (Sort.DeclTail (map declared ds ++ (declared d ∷ [])))) (λ r. last (Sort.DeclTail (map declared r.items))) ts res ts
declares free ts ds d (Ok r) e = λ out h. subst (λ (x : List (List ℕ × Option (List ℕ))). Runs Tutorial free (last (Sort.DeclTail x)) ts out) (ap (map declared) e ∙ map-append declared ds (d ∷ [])) h
declares free ts ds d (Err f) e = faulty f NoMemory e no_memory

-- no names were read before
pub names_as : {free : ℕ} {ts : List Terminal} {out : Outcome} {xs : List (List ℕ × Option (List ℕ))} → xs ≡ [] → Runs Tutorial free (rule Tutorial (Prod.decl xs)) ts out → Runs Tutorial free (rule Tutorial (Prod.decl [])) ts out
names_as {free} {ts} {out} e h = subst (λ (x : List (List ℕ × Option (List ℕ))). Runs Tutorial free (rule Tutorial (Prod.decl x)) ts out) e h

-- a comma that is next is taken
pub comma : {ts us : List Terminal} → Takes marks.Comma ts us → sees_member ts ≡ not (sees marks.Ellipsis us)
comma {ts} {us} t = ap sees_member t.is

not_false : (b : Bool) → not b ≡ false → b ≡ true
not_false true e = refl
not_false false e = absurd (false≢true (sym e))

-- where no member follows a comma, a remainder does
pub rest_next : {ts us : List Terminal} → sees_member ts ≡ false → Takes marks.Comma ts us → sees marks.Ellipsis us ≡ true
rest_next {ts} {us} m t = not_false (sees marks.Ellipsis us) (sym (comma t) ∙ m)

-- what follows a comma that no member follows
pub left_closed : {free : ℕ} {ts : List Terminal} {out : Outcome} (ps : List Written) (h : ℕ) → sees marks.Ellipsis ts ≡ true
    → Runs Tutorial free (rule Tutorial (Prod.left_end_rest ps h)) ts out → Runs Tutorial free (last (Sort.LeftNext ps h)) ts out
left_closed ps h e r = runs_last (rw e r)

pub sequence_closed : {free : ℕ} {ts : List Terminal} {out : Outcome} (b : Bracket) (ps : List Written) (h : ℕ) → sees marks.Ellipsis ts ≡ true
    → Runs Tutorial free (rule Tutorial (Prod.seq_end_rest b ps h)) ts out → Runs Tutorial free (last (Sort.SeqNext b ps h)) ts out
sequence_closed b ps h e r = runs_last (rw e r)

pub pairs_closed : {free : ℕ} {ts : List Terminal} {out : Outcome} (ps : List Written) (h : ℕ) → sees marks.Ellipsis ts ≡ true
    → Runs Tutorial free (rule Tutorial (Prod.ppairs_rest ps h)) ts out → Runs Tutorial free (last (Sort.PPairsNext ps h)) ts out
pairs_closed ps h e r = runs_last (rw e r)

-- the value is what was made, once the mark after it is taken
pub closes : {T : Type 0} {free : ℕ} {m : Mark} {ts : List Terminal} (us : List Terminal) (of : T → Spelt) (made : T) (w : Spelt) (res : Result T Fault)
    → MatchResult res (λ v. (v ≡ made) × Takes m ts us) (λ e. Stuck (sees m ts) ts e us) → (of made).tree ≡ w.tree → (of made).height ≡ w.height
    → Makes free (sign m (done w)) of ts res us
closes {T} us of made w (Ok v) r e g = runs_sign r.1 (ends w (of v) (ap (λ (x : T). (of x).tree) r.0 ∙ e) (ap (λ (x : T). (of x).height) r.0 ∙ g))
closes us of made w (Err d) r e g = no_sign r

-- the same where the mark is an equal one
pub closes_as : {T : Type 0} {free : ℕ} {n m : Mark} {ts : List Terminal} (us : List Terminal) (of : T → Spelt) (made : T) (w : Spelt) (res : Result T Fault) → n ≡ m
    → MatchResult res (λ v. (v ≡ made) × Takes n ts us) (λ e. Stuck (sees n ts) ts e us) → (of made).tree ≡ w.tree → (of made).height ≡ w.height
    → Makes free (sign m (done w)) of ts res us
closes_as {T} {free} {n} {m} {ts} us of made w res q r e g = subst (λ (k : Mark). Makes free (sign k (done w)) of ts res us) q (closes us of made w res r e g)

-- and where the rule goes on
pub closes_on : {T : Type 0} (free : ℕ) (m : Mark) (ts us : List Terminal) (after : T → Rule) (made : T) (res : Result T Fault)
    → MatchResult res (λ v. (v ≡ made) × Takes m ts us) (λ e. Stuck (sees m ts) ts e us) → Turns free (sign m (after made)) after ts res us
closes_on {T} free m ts us after made (Ok v) r = λ out h. runs_sign r.1 (subst (λ (x : T). Runs Tutorial free (after x) us out) r.0 h)
closes_on free m ts us after made (Err d) r = no_sign r

-- what was made is as high as it was
pub made_height : {T : Type 0} (m : Mark) (ts us : List Terminal) (h : ℕ) (made : Part T) (res : Result (Part T) Fault)
    → MatchResult res (λ v. (v ≡ made) × Takes m ts us) (λ e. Stuck (sees m ts) ts e us) → made.height ≡ h → IfOk res (λ p. p.height ≡ h)
made_height {T} m ts us h made (Ok v) r g = ap (λ (p : Part T). p.height) r.0 ∙ g
made_height m ts us h made (Err d) r g = tt

-- a constituent that was read, and where the rule goes on
pub reads_at : {T : Type 0} {free : ℕ} (s : Sort) {ts : List Terminal} (us : List Terminal) (of : T → Spelt) (g : Spelt → Rule) (res : Result T Fault)
    → Makes free (rule Tutorial (choose s ts)) of ts res us → Turns free (at s g) (λ x. g (of x)) ts res us
reads_at s us of g (Ok x) m = λ out h. runs_at m h
reads_at s us of g (Err e) m = no_at m

-- the rule of the production that two tests choose
pub chosen : {s : Sort} {free : ℕ} {ts : List Terminal} {out : Outcome} (p q r : Prod s) (a b : Bool)
    → Runs Tutorial free (cond a (rule Tutorial p) (cond b (rule Tutorial q) (rule Tutorial r))) ts out → Runs Tutorial free (rule Tutorial (cond a p (cond b q r))) ts out
chosen p q r true b h = h
chosen p q r false true h = h
chosen p q r false false h = h

-- a remainder and an equal mark
pub rest_as : {free : ℕ} {n m : Mark} {ts : List Terminal} {out : Outcome} (f : Written → Spelt) → n ≡ m
    → Runs Tutorial free (rest_rule n f) ts out → Runs Tutorial free (rest_rule m f) ts out
rest_as {free} {n} {m} {ts} {out} f q r = subst (λ (k : Mark). Runs Tutorial free (rest_rule k f) ts out) q r

-- the end of a row and an equal mark
pub end_as : {free : ℕ} {n m : Mark} {ts : List Terminal} {out : Outcome} (us : List Terminal) (f : Written → Spelt) (more : Rule) → n ≡ m
    → Runs Tutorial free (end_rule n f more us) ts out → Runs Tutorial free (end_rule m f more us) ts out
end_as {free} {n} {m} {ts} {out} us f more q r = subst (λ (k : Mark). Runs Tutorial free (end_rule k f more us) ts out) q r
