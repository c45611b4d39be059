-- Descent with fuel, by which examples are computed.
use Rattle.std.proofs.Common.{◌≡◌, ℕ, zero, suc, ◌+◌, ◌-◌, List, [], ◌∷◌, Bool, true, false, nat_eq, leb, subst, refl, ap, arith, inl, inr}
use Rattle.std.specs.Prelude.{Option, Some, None}
use Rattle.calculus.specs.Written.{Written}
use Rattle.grammar.specs.declared.dialect.Dialect.{Dialect}
use Rattle.grammar.specs.declared.fault.Fault.{Fault}
use Rattle.grammar.specs.declared.fault.Fault.TheVariants.{Syntax, TooDeep}
use Rattle.grammar.specs.declared.mark.Mark.{Mark}
use Rattle.grammar.specs.declared.mark.Mark.TheVariants as marks
use Rattle.grammar.specs.Choice.{after, choose, holding_code}
use Rattle.grammar.specs.Descent.{Outcome, read, fault, shows, Runs, runs_done, runs_sign, no_sign, runs_opens, no_opens, runs_next, no_next, runs_opens_next, no_opens_next, runs_text, no_text, runs_integer, no_integer, runs_at, no_at, runs_under, no_under, runs_last}
use Rattle.grammar.specs.Grammar.{rule}
use Rattle.grammar.specs.Rules.{Par, Rule, done, sign, opens, next, opens_next, holds, integer, at, under, last}
use Rattle.grammar.specs.Terminals.{Holding, Terminal, text, number, mark, sees}
use Rattle.grammar.specs.Spells.{Reads}
use Rattle.grammar.specs.Values.{Spelt, spelt, processes}
use Rattle.grammar.proofs.Marks.{same_code}
use Rattle.grammar.proofs.Sound.{sound}
use Rattle.grammar.proofs.Wider.{nothing}

-- an outcome, if the fuel sufficed
abbrev Answer : Type 0
Answer = Option Outcome

-- what a rule comes to under a free height
abbrev Reader : Type 0
Reader = ℕ → Rule → List Terminal → Answer

-- the rule on what is left, where a test passed, and a fault where it didn't
abbrev guarded : Reader → ℕ → Rule → List Terminal → List Terminal → Fault → Bool → Answer
guarded f free r us ts e true = f free r us
guarded f free r us ts e false = Some (fault e ts)

-- the same where a form is opened, for which there is room or not
abbrev opening : Reader → ℕ → Rule → List Terminal → List Terminal → Bool → Bool → Answer
opening f free r us ts room true = guarded f free r us ts TooDeep room
opening f free r us ts room false = Some (fault Syntax ts)

-- what follows a constituent
abbrev then : Reader → ℕ → (Spelt → Rule) → Answer → Answer
then f free g (Some (read a mid)) = f free (g a) mid
then f free g (Some (fault e us)) = Some (fault e us)
then f free g None = None

-- one step of descent
abbrev step : Reader → Dialect → Reader
step f d free (done v) ts = Some (read v ts)
step f d free (sign m r) ts = guarded f free r (after ts) ts Syntax (sees m ts)
step f d free (opens m h r) ts = opening f free r (after ts) ts (leb (h + 1) free) (sees m ts)
step f d free (next test r) ts = guarded f free r ts ts Syntax (shows test ts)
step f d free (opens_next test r) ts = opening f free r ts ts (leb 1 free) (shows test ts)
step f d free (holds k g) (text j w ∷ ts) = guarded f free (g w) ts (text j w ∷ ts) Syntax (nat_eq (holding_code j) (holding_code k))
step f d free (holds k g) ts = Some (fault Syntax ts)
step f d free (integer most g) (number i ∷ ts) = guarded f free (g i) ts (number i ∷ ts) Syntax (leb i most)
step f d free (integer most g) ts = Some (fault Syntax ts)
step f d free (at s g) ts = then f free g (f free (rule d (choose s ts)) ts)
step f d free (under s g) ts = then f free g (f (free - 1) (rule d (choose s ts)) ts)
step f d free (last s) ts = f free (rule d (choose s ts)) ts

-- descent with this much fuel
abbrev pub descend : ℕ → Dialect → Reader
descend zero d free r ts = None
descend (suc n) d free r ts = step (descend n d) d free r ts

-- whatever it comes to is an outcome of descent
abbrev IsTrue : Dialect → Reader → Type 0
IsTrue d f = (free : ℕ) (r : Rule) (ts : List Terminal) (out : Outcome) → f free r ts ≡ Some out → Runs d free r ts out

seen : (m : Mark) (ts : List Terminal) → sees m ts ≡ true → ts ≡ mark m ∷ after ts
seen m (mark k ∷ ts) e = ap (λ x. mark x ∷ ts) (same_code k m e)
seen m _ e = absurd (cc (e))

same_holding : (j k : Holding) → nat_eq (holding_code j) (holding_code k) ≡ true → j ≡ k
same_holding j k h = grind (arith, h)

turned : (d : Dialect) (free : ℕ) (r : Rule) (ts : List Terminal) (a b : Outcome) → Some a ≡ Some b → Runs d free r ts a → Runs d free r ts b
turned d free r ts a b e h = let g : a ≡ b = cc (e) in subst (λ x. Runs d free r ts x) g h

-- where a test decides
passed : (d : Dialect) (f : Reader) → IsTrue d f → (free : ℕ) (r q : Rule) (us ts : List Terminal) (c : Fault) (b : Bool) (out : Outcome)
    → (b ≡ true → Runs d free r us out → Runs d free q ts out) → (b ≡ false → Runs d free q ts (fault c ts))
    → guarded f free r us ts c b ≡ Some out → Runs d free q ts out
passed d f s free r q us ts c true out hit miss e = hit refl (s free r us out e)
passed d f s free r q us ts c false out hit miss e = turned d free q ts _ _ e (miss refl)

passed_opening : (d : Dialect) (f : Reader) → IsTrue d f → (free : ℕ) (r q : Rule) (us ts : List Terminal) (room b : Bool) (out : Outcome)
    → (room ≡ true → b ≡ true → Runs d free r us out → Runs d free q ts out) → (room ≡ false → b ≡ true → Runs d free q ts (fault TooDeep ts))
    → (b ≡ false → Runs d free q ts (fault Syntax ts)) → opening f free r us ts room b ≡ Some out → Runs d free q ts out
passed_opening d f s free r q us ts room true out hit full miss e = passed d f s free r q us ts TooDeep room out (λ x. hit x refl) (λ x. full x refl) e
passed_opening d f s free r q us ts room false out hit full miss e = turned d free q ts _ _ e (miss refl)

-- after a constituent
joined : (d : Dialect) (f : Reader) → IsTrue d f → (less free : ℕ) (r q : Rule) (g : Spelt → Rule) (ts : List Terminal) (out : Outcome)
    → ((a : Spelt) (mid : List Terminal) → Runs d less r ts (read a mid) → Runs d free (g a) mid out → Runs d free q ts out)
    → ((e : Fault) (us : List Terminal) → Runs d less r ts (fault e us) → Runs d free q ts (fault e us))
    → (x : Answer) → f less r ts ≡ x → then f free g x ≡ Some out → Runs d free q ts out
joined d f s less free r q g ts out hit miss (Some (read a mid)) e h = hit a mid (s less r ts (read a mid) e) (s free (g a) mid out h)
joined d f s less free r q g ts out hit miss (Some (fault c us)) e h = turned d free q ts _ _ h (miss c us (s less r ts (fault c us) e))
joined d f s less free r q g ts out hit miss None e h = absurd (cc (h))

step_true : (d : Dialect) (f : Reader) → IsTrue d f → IsTrue d (step f d)
step_true d f s free (done v) ts out e = turned d free _ ts _ _ e runs_done
step_true d f s free (sign m r) ts out e = passed d f s free r _ (after ts) ts Syntax _ out (λ x h. runs_sign (record { is = seen m ts x }) h) (λ x. no_sign (record { no = x; is = refl; same = refl })) e
step_true d f s free (opens m i r) ts out e = passed_opening d f s free r _ (after ts) ts _ _ out
    (λ z x h. runs_opens (record { is = seen m ts x; room = grind (arith, z) }) h)
    (λ z x. no_opens (inr (record { yes = x; room = grind (arith, z); is = refl; same = refl })))
    (λ x. no_opens (inl (record { no = x; is = refl; same = refl }))) e
step_true d f s free (next test r) ts out e = passed d f s free r _ ts ts Syntax _ out (λ x h. runs_next x h) (λ x. no_next (record { no = x; is = refl; same = refl })) e
step_true d f s free (opens_next test r) ts out e = passed_opening d f s free r _ ts ts _ _ out
    (λ z x h. runs_opens_next x (grind (arith, z)) h)
    (λ z x. no_opens_next (inr (record { yes = x; room = grind (arith, z); is = refl; same = refl })))
    (λ x. no_opens_next (inl (record { no = x; is = refl; same = refl }))) e
step_true d f s free (holds k g) (text j w ∷ ts) out e = passed d f s free (g w) _ ts _ Syntax _ out
    (λ x h. runs_text (record { is = ap (λ y. text y w ∷ ts) (same_holding j k x) }) h) (λ x. no_text (record { no = x; is = refl; same = refl })) e
step_true d f s free (holds k g) _ out e = turned d free _ _ _ _ e (no_text (record { no = refl; is = refl; same = refl }))
step_true d f s free (integer most g) (number i ∷ ts) out e = passed d f s free (g i) _ ts _ Syntax _ out
    (λ x h. runs_integer (record { is = refl; fits = grind (arith, x) }) h) (λ x. no_integer (record { no = x; is = refl; same = refl })) e
step_true d f s free (integer most g) _ out e = turned d free _ _ _ _ e (no_integer (record { no = refl; is = refl; same = refl }))
step_true d f s free (at q g) ts out e = joined d f s free free _ _ g ts out (λ a mid h k. runs_at h k) (λ c us h. no_at h) _ refl e
step_true d f s free (under q g) ts out e = joined d f s (free - 1) free _ _ g ts out (λ a mid h k. runs_under h k) (λ c us h. no_under h) _ refl e
step_true d f s free (last q) ts out e = runs_last (s free _ ts out e)

pub descended : (n : ℕ) (d : Dialect) → IsTrue d (descend n d)
descended zero d free r ts out e = absurd (cc (e))
descended (suc n) d free r ts out e = step_true d (descend n d) (descended n d) free r ts out e

-- a text that is read so is spelt
pub read_so : (d : Dialect) (r : Rule) (ts : List Terminal) (v : Spelt) (rest : List Terminal) → descend 6000 d 200 r ts ≡ Some (read v rest) → Reads d r ts v rest
read_so d r ts v rest e = sound (descended 6000 d 200 r ts (read v rest) e)

-- descent stops so
pub stops_so : (d : Dialect) (free : ℕ) (r : Rule) (ts : List Terminal) (c : Fault) (us : List Terminal) → descend 6000 d free r ts ≡ Some (fault c us) → Runs d free r ts (fault c us)
stops_so d free r ts c us e = descended 6000 d free r ts (fault c us) e

-- and a text where it stops so for a fault of syntax spells nothing
pub refused_so : (d : Dialect) (ts us : List Terminal) → descend 6000 d 200 (last (Par processes)) ts ≡ Some (fault Syntax us)
    → Runs d 200 (last (Par processes)) ts (fault Syntax us) × ((p : Written) (h : ℕ) → Reads d (last (Par processes)) ts (spelt p h) (mark marks.End ∷ []) → ⊥)
refused_so d ts us e = let k = stops_so d 200 _ ts Syntax us e in (k, nothing d 200 ts us k)
