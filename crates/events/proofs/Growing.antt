-- Lists of entries with one more at their end.
use Rattle.std.proofs.Common.{◌≡◌, ℕ, suc, ◌+◌, Bool, true, false, cond, List, [], ◌∷◌, ◌++◌, refl, sym, ap, subst, ◌∙◌, arith, append_assoc, append-nil}
use Rattle.std.specs.Prelude.{Option, Some, None}
use Rattle.std.specs.Str.{bytes_eq}
use Rattle.events.specs.Events.{AreFresh}
use Rattle.events.proofs.Keeping.{fresh-first}
use Rattle.calculus.specs.Rows.{Row}
use Rattle.calculus.specs.Runs.{Deploy}
use Rattle.events.specs.Entries.{Space, first_space, Making, Entry, space_after, after, after_all, steps_in, steps_of, price_in, prices_of, faults_in, faults_of, line_in, lines_of, entries_on, first_fault, verdict_or}
use Rattle.events.specs.Allowed.{IsAllowed, AreAllowedFrom}
use Rattle.events.specs.EntryLaws.{EntriesTellTheirSteps, FirstFaultsStand, FreshDigestsWereFresh, OneMoreEntryAddsUp, OneMoreIsAllowed}

pub after-both : (es fs : List Entry) (space : Space) → after_all space (es ++ fs) ≡ after_all (after_all space es) fs
after-both [] fs space = refl
after-both (e ∷ es) fs space = after-both es fs (after space e)

pub steps-both : (es fs : List Entry) → steps_of (es ++ fs) ≡ steps_of es ++ steps_of fs
steps-both [] fs = refl
steps-both (e ∷ es) fs = ap (λ l. steps_in e.making ++ l) (steps-both es fs) ∙ sym (append_assoc (steps_in e.making) (steps_of es) (steps_of fs))

pub prices-both : (es fs : List Entry) → prices_of (es ++ fs) ≡ prices_of es + prices_of fs
prices-both [] fs = omega arith
prices-both (e ∷ es) fs = omega (arith, prices-both es fs)

pub faults-both : (es fs : List Entry) → faults_of (es ++ fs) ≡ faults_of es ++ faults_of fs
faults-both [] fs = refl
faults-both (e ∷ es) fs = ap (λ l. faults_in e.making ++ l) (faults-both es fs) ∙ sym (append_assoc (faults_in e.making) (faults_of es) (faults_of fs))

pub steps-more : (es : List Entry) (e : Entry) → steps_of (es ++ e ∷ []) ≡ steps_of es ++ steps_in e.making
steps-more es e = steps-both es (e ∷ []) ∙ ap (λ l. steps_of es ++ l) (append-nil (steps_in e.making))

pub prices-more : (es : List Entry) (e : Entry) → prices_of (es ++ e ∷ []) ≡ prices_of es + price_in e.making
prices-more es e = omega (arith, prices-both es (e ∷ []))

pub faults-more : (es : List Entry) (e : Entry) → faults_of (es ++ e ∷ []) ≡ faults_of es ++ faults_in e.making
faults-more es e = faults-both es (e ∷ []) ∙ ap (λ l. faults_of es ++ l) (append-nil (faults_in e.making))

lines-both : (es fs : List Entry) → lines_of (es ++ fs) ≡ lines_of es ++ lines_of fs
lines-both [] fs = refl
lines-both (e ∷ es) fs = ap (λ l. line_in e.making ++ l) (lines-both es fs) ∙ sym (append_assoc (line_in e.making) (lines_of es) (lines_of fs))

pub on-both : (x : List ℕ) (es fs : List Entry) → entries_on x (es ++ fs) ≡ entries_on x es ++ entries_on x fs
on-both x [] fs = refl
on-both x (e ∷ es) fs = go (bytes_eq x e.operation.id) (on-both x es fs)
  where
    go : (b : Bool) → entries_on x (es ++ fs) ≡ entries_on x es ++ entries_on x fs
        → cond b (e ∷ entries_on x (es ++ fs)) (entries_on x (es ++ fs)) ≡ cond b (e ∷ entries_on x es) (entries_on x es) ++ entries_on x fs
    go true h = ap (λ l. e ∷ l) h
    go false h = h

pub one_more_entry_adds_up : OneMoreEntryAddsUp
one_more_entry_adds_up es e = record {
  steps = steps-more es e;
  prices = prices-more es e;
  faults = faults-more es e;
  lines = lines-both es (e ∷ []) ∙ ap (λ l. lines_of es ++ l) (append-nil (line_in e.making));
  own = λ x. on-both x es (e ∷ []);
}

pub first_faults_stand : FirstFaultsStand
first_faults_stand i [] gs = ap (λ n. first_fault n gs) (omega arith)
first_faults_stand i (Some f ∷ fs) gs = refl
first_faults_stand i (None ∷ fs) gs = first_faults_stand (suc i) fs gs ∙ ap (λ n. verdict_or (first_fault (suc i) fs) (first_fault n gs)) (omega arith)

made-by : (space : Space) (o : Row) (x : Option Making) → (space_after space o x).made ≡ space.made ++ steps_in x
made-by space o None = sym (append-nil space.made)
made-by space o (Some a) = refl

-- the steps made after entries
pub made-after : (es : List Entry) (space : Space) → (after_all space es).made ≡ space.made ++ steps_of es
made-after [] space = sym (append-nil space.made)
made-after (e ∷ es) space = made-after es (after space e) ∙ ap (λ l. l ++ steps_of es) (made-by space e.operation e.making) ∙ append_assoc space.made (steps_in e.making) (steps_of es)

printed-by : (space : Space) (o : Row) (x : Option Making) → (space_after space o x).output ≡ space.output ++ line_in x
printed-by space o None = sym (append-nil space.output)
printed-by space o (Some a) = refl

-- what was printed after entries
output-after : (es : List Entry) (space : Space) → (after_all space es).output ≡ space.output ++ lines_of es
output-after [] space = sym (append-nil space.output)
output-after (e ∷ es) space = output-after es (after space e) ∙ ap (λ l. l ++ lines_of es) (printed-by space e.operation e.making) ∙ append_assoc space.output (line_in e.making) (lines_of es)

pub entries_tell_their_steps : EntriesTellTheirSteps
entries_tell_their_steps deploy source es space a = (ap (λ x. x.made) a.is ∙ made-after es (first_space deploy source), ap (λ x. x.output) a.is ∙ output-after es (first_space deploy source))

pub fresh_digests_were_fresh : FreshDigestsWereFresh
fresh_digests_were_fresh deploy space e f = fresh-first deploy space.made (steps_of (e ∷ [])) (subst (AreFresh deploy) (made-after (e ∷ []) space) f)

allowed-more : (deploy : Deploy) (es : List Entry) (space : Space) (e : Entry) → AreAllowedFrom deploy space es → IsAllowed deploy (after_all space es) e → AreAllowedFrom deploy space (es ++ e ∷ [])
allowed-more deploy [] space e h i = (i, tt)
allowed-more deploy (f ∷ es) space e h i = (h.0, allowed-more deploy es (after space f) e h.1 i)

pub one_more_is_allowed : OneMoreIsAllowed
one_more_is_allowed deploy source es space e h i = record {
  begins = h.begins;
  allowed = allowed-more deploy es (first_space deploy source) e h.allowed (subst (λ x. IsAllowed deploy x e) h.is i);
  is = ap (λ x. after x e) h.is ∙ sym (after-both es (e ∷ []) (first_space deploy source));
}
