-- The steps of descent through lists of constituents, from one to the next.
use Rattle.std.proofs.Common.{◌≡◌, refl, max, map, ◌++◌, ℕ, List, ◌∷◌, [], Result, Ok, true, false}
use Rattle.std.specs.Prelude.{IsOk, OnOk}
use Rattle.std.specs.declared.alloc.Global.{Global}
use Rattle.std.specs.declared.vec.Vec.{Vec}
use Rattle.calculus.specs.Meaning.{name_pat_written, pat_written, row_of}
use Rattle.calculus.specs.Written.{Written}
use Rattle.calculus.specs.declared.process.NamePat.{NamePat}
use Rattle.calculus.specs.declared.process.Pat.{Pat}
use Rattle.form_steps.specs.Handing.{HandsOnPart}
use Rattle.form_steps.proofs.Handed.{makes, mark_as, resume}
use Rattle.grammar.specs.declared.dialect.Dialect.TheVariants.{Tutorial}
use Rattle.grammar.specs.declared.fault.Fault.{Fault}
use Rattle.grammar.specs.declared.mark.Mark.{Mark}
use Rattle.grammar.specs.declared.mark.Mark.TheVariants as marks
use Rattle.grammar.specs.Choice.{choose, sees_name_pattern}
use Rattle.grammar.specs.Descent.{Outcome, read, Runs, Takes, runs_sign, runs_last}
use Rattle.grammar.specs.Grammar.{one_of, rule}
use Rattle.grammar.specs.Productions.{Prod}
use Rattle.grammar.specs.Rules.{Bracket, Sort, Rule, at, closing, done, last, sign}
use Rattle.grammar.specs.Terminals.{Terminal, sees}
use Rattle.grammar.specs.Values.{Side, Spelt, par_of, patterns, spelt}
use Rattle.form_parts.specs.declared.part.Part.{Part}
use Rattle.token_cursor.specs.Reading.{Makes, Turns, sees_member}
use Rattle.token_cursor.proofs.Steps.{ends}
use Rattle.form_ends.proofs.Carried.{carried, closed}
use Rattle.form_ends.proofs.Cycle.{begun, grown, left_on, row_ends, sequence_on, unmoved}
use Rattle.form_ends.specs.Reading.{Appends}

-- a first constituent, from which a list begins
first_read : {T : Type 0} {free : ℕ} {ts : List Terminal} (vs : List Terminal) (first : Result (Part T) Fault) (s : Sort) (f : T → Written) (tail : List Written → ℕ → Rule) (res : Result (Part (Vec T Global)) Fault)
    → Makes free (rule Tutorial (choose s ts)) (λ p. spelt (f p.value) p.height) ts first vs
    → HandsOnPart first (λ x. x ∷ []) (λ h. h) res (λ q. q.items)
    → Turns free (at s (λ a. tail (a.tree ∷ []) a.height)) (λ q. tail (map f q.value.items) q.height) ts res vs
first_read {T} {free} {ts} vs first s f tail res g m = m free (at s (λ a. tail (a.tree ∷ []) a.height)) ts vs (λ ps k. tail (map f ps) k) (begun s vs f tail first g)

-- one more constituent of a list
more_read : {T : Type 0} {free : ℕ} {ts us : List Terminal} (vs : List Terminal) (next : Result (Part T) Fault) (s : Sort) (r : Rule) (f : T → Written) (tail : List Written → ℕ → Rule) (xs : List T) (h : ℕ) (res : Result (Part (Vec T Global)) Fault)
    → ((out : Outcome) → Runs Tutorial free (at s (λ a. tail (map f xs ++ (a.tree ∷ [])) (max h a.height))) us out → Runs Tutorial free r ts out)
    → Makes free (rule Tutorial (choose s us)) (λ p. spelt (f p.value) p.height) us next vs
    → HandsOnPart next (λ x. xs ++ (x ∷ [])) (max h) res (λ q. q.items)
    → Turns free r (λ q. tail (map f q.value.items) q.height) ts res vs
more_read {T} {free} {ts} {us} vs next s r f tail xs h res k g m =
    resume vs (λ (q : Part (Vec T Global)). tail (map f q.value.items) q.height) res k
    (m free (at s (λ a. tail (map f xs ++ (a.tree ∷ [])) (max h a.height))) us vs (λ ps n. tail (map f ps) n) (grown s vs f tail xs h next g))

-- the first part of what stands in parallel, and a further one
pub par_first : {T : Type 0} {free : ℕ} {ts : List Terminal} (vs : List Terminal) (first : Result (Part T) Fault) (side : Side) (f : T → Written) (res : Result (Part (Vec T Global)) Fault)
    → Makes free (rule Tutorial (choose (one_of side) ts)) (λ p. spelt (f p.value) p.height) ts first vs
    → HandsOnPart first (λ x. x ∷ []) (λ h. h) res (λ q. q.items)
    → Turns free (rule Tutorial (Prod.par side)) (λ q. last (Sort.ParTail side (map f q.value.items) q.height)) ts res vs
par_first vs first side f res g m = first_read vs first (one_of side) f (λ ps k. last (Sort.ParTail side ps k)) res g m

pub par_more : {T : Type 0} {free : ℕ} {ts us : List Terminal} (vs : List Terminal) (next : Result (Part T) Fault) (side : Side) (f : T → Written) (xs : List T) (h : ℕ) (res : Result (Part (Vec T Global)) Fault)
    → sees marks.Bar ts ≡ true → Takes marks.Bar ts us
    → Makes free (rule Tutorial (choose (one_of side) us)) (λ p. spelt (f p.value) p.height) us next vs
    → HandsOnPart next (λ x. xs ++ (x ∷ [])) (max h) res (λ q. q.items)
    → Turns free (last (Sort.ParTail side (map f xs) h)) (λ q. last (Sort.ParTail side (map f q.value.items) q.height)) ts res vs
par_more vs next side f xs h res s t g m = more_read vs next (one_of side) (last (Sort.ParTail side (map f xs) h)) f (λ ps k. last (Sort.ParTail side ps k)) xs h res (λ out k. runs_last (rw s (runs_sign t k))) g m

-- the first member of a row, and a further one
pub row_first : {T : Type 0} {free : ℕ} {ts : List Terminal} (vs : List Terminal) (first : Result (Part T) Fault) (side : Side) (b : Bracket) (f : T → Written) (res : Result (Part (Vec T Global)) Fault)
    → sees (closing b) ts ≡ false
    → Makes free (rule Tutorial (choose (Sort.Par side) ts)) (λ p. spelt (f p.value) p.height) ts first vs
    → HandsOnPart first (λ x. x ∷ []) (λ h. h) res (λ q. q.items)
    → Turns free (rule Tutorial (choose (Sort.Row side b) ts)) (λ q. last (Sort.RowTail side b (map f q.value.items) q.height)) ts res vs
row_first {T = T} {free = free} {ts = ts} vs first side b f res s g m =
    resume vs (λ (q : Part (Vec T Global)). last (Sort.RowTail side b (map f q.value.items) q.height)) res (λ out k. rw s k) (first_read vs first (Sort.Par side) f (λ ps k. last (Sort.RowTail side b ps k)) res g m)

pub row_more : {T : Type 0} {free : ℕ} {ts us : List Terminal} (vs : List Terminal) (next : Result (Part T) Fault) (side : Side) (b : Bracket) (f : T → Written) (xs : List T) (h : ℕ) (res : Result (Part (Vec T Global)) Fault)
    → sees marks.Comma ts ≡ true → Takes marks.Comma ts us
    → Makes free (rule Tutorial (choose (Sort.Par side) us)) (λ p. spelt (f p.value) p.height) us next vs
    → HandsOnPart next (λ x. xs ++ (x ∷ [])) (max h) res (λ q. q.items)
    → Turns free (last (Sort.RowTail side b (map f xs) h)) (λ q. last (Sort.RowTail side b (map f q.value.items) q.height)) ts res vs
row_more vs next side b f xs h res s t g m = more_read vs next (Sort.Par side) (last (Sort.RowTail side b (map f xs) h)) f (λ ps k. last (Sort.RowTail side b ps k)) xs h res (λ out k. runs_last (rw s (runs_sign t k))) g m

-- the first pattern of what a bind takes, and a further one
pub left_first : {free : ℕ} {ts : List Terminal} (vs : List Terminal) (first : Result (Part NamePat) Fault) (res : Result (Part (Vec NamePat Global)) Fault)
    → sees_name_pattern ts ≡ true
    → Makes free (rule Tutorial (choose Sort.PName ts)) (λ p. spelt (name_pat_written p.value) p.height) ts first vs
    → HandsOnPart first (λ x. x ∷ []) (λ h. h) res (λ q. q.items)
    → Turns free (rule Tutorial (choose Sort.Left ts)) (λ q. last (Sort.LeftTail (map name_pat_written q.value.items) q.height)) ts res vs
left_first vs first res s g m =
    resume vs (λ (q : Part (Vec NamePat Global)). last (Sort.LeftTail (map name_pat_written q.value.items) q.height)) res (λ out k. rw s k) (first_read vs first Sort.PName name_pat_written (λ ps k. last (Sort.LeftTail ps k)) res g m)

pub left_next : {free : ℕ} {ts us : List Terminal} (vs : List Terminal) (next : Result (Part NamePat) Fault) (xs : List NamePat) (h : ℕ) (res : Result (Part (Vec NamePat Global)) Fault)
    → sees_member ts ≡ true → Takes marks.Comma ts us
    → Makes free (rule Tutorial (choose Sort.PName us)) (λ p. spelt (name_pat_written p.value) p.height) us next vs
    → HandsOnPart next (λ x. xs ++ (x ∷ [])) (max h) res (λ q. q.items)
    → Turns free (last (Sort.LeftTail (map name_pat_written xs) h)) (λ q. last (Sort.LeftTail (map name_pat_written q.value.items) q.height)) ts res vs
left_next {ts = ts} {us = us} vs next xs h res s t g m = more_read vs next Sort.PName (last (Sort.LeftTail (map name_pat_written xs) h)) name_pat_written (λ ps k. last (Sort.LeftTail ps k)) xs h res (λ out k. runs_last (left_on (map name_pat_written xs) h ts us s t k)) g m

-- the first pattern of a sequence, and a further one
pub sequence_first : {free : ℕ} {ts : List Terminal} (vs : List Terminal) (first : Result (Part Pat) Fault) (b : Bracket) (res : Result (Part (Vec Pat Global)) Fault)
    → sees (closing b) ts ≡ false → sees marks.Ellipsis ts ≡ false
    → Makes free (rule Tutorial (choose (Sort.Par patterns) ts)) (λ p. spelt (pat_written p.value) p.height) ts first vs
    → HandsOnPart first (λ x. x ∷ []) (λ h. h) res (λ q. q.items)
    → Turns free (rule Tutorial (choose (Sort.Seq b) ts)) (λ q. last (Sort.SeqTail b (map pat_written q.value.items) q.height)) ts res vs
sequence_first vs first b res s e g m =
    resume vs (λ (q : Part (Vec Pat Global)). last (Sort.SeqTail b (map pat_written q.value.items) q.height)) res (λ out k. rw (s, e) k) (first_read vs first (Sort.Par patterns) pat_written (λ ps k. last (Sort.SeqTail b ps k)) res g m)

pub sequence_next : {free : ℕ} {ts us : List Terminal} (vs : List Terminal) (next : Result (Part Pat) Fault) (b : Bracket) (xs : List Pat) (h : ℕ) (res : Result (Part (Vec Pat Global)) Fault)
    → sees_member ts ≡ true → Takes marks.Comma ts us
    → Makes free (rule Tutorial (choose (Sort.Par patterns) us)) (λ p. spelt (pat_written p.value) p.height) us next vs
    → HandsOnPart next (λ x. xs ++ (x ∷ [])) (max h) res (λ q. q.items)
    → Turns free (last (Sort.SeqTail b (map pat_written xs) h)) (λ q. last (Sort.SeqTail b (map pat_written q.value.items) q.height)) ts res vs
sequence_next {ts = ts} {us = us} vs next b xs h res s t g m = more_read vs next (Sort.Par patterns) (last (Sort.SeqTail b (map pat_written xs) h)) pat_written (λ ps k. last (Sort.SeqTail b ps k)) xs h res (λ out k. runs_last (sequence_on b (map pat_written xs) h ts us s t k)) g m

-- lists that a loop carries on, by one more constituent
pub par_goes_on : {T : Type 0} {free : ℕ} {ts us : List Terminal} (r : Rule) (t0 vs : List Terminal) (parts : Result (Part (Vec T Global)) Fault) (next : Result (Part T) Fault) (res : Result (Part (Vec T Global)) Fault) (side : Side) (f : T → Written)
    → IsOk parts → sees marks.Bar ts ≡ true → Takes marks.Bar ts us
    → Turns free r (λ q. last (Sort.ParTail side (map f q.value.items) q.height)) t0 parts ts
    → Makes free (rule Tutorial (choose (one_of side) us)) (λ p. spelt (f p.value) p.height) us next vs
    → Appends parts next res
    → Turns free r (λ q. last (Sort.ParTail side (map f q.value.items) q.height)) t0 res vs
par_goes_on {T} r t0 vs parts next res side f k s t i g m = carried _ r t0 _ vs (λ (q : Part (Vec T Global)). last (Sort.ParTail side (map f q.value.items) q.height)) parts res k i (λ x e. par_more vs next side f x.value.items x.height res s t g (m x e))

pub row_goes_on : {T : Type 0} {free : ℕ} {ts us : List Terminal} (r : Rule) (t0 vs : List Terminal) (parts : Result (Part (Vec T Global)) Fault) (next : Result (Part T) Fault) (res : Result (Part (Vec T Global)) Fault) (side : Side) (b : Bracket) (f : T → Written)
    → IsOk parts → sees marks.Comma ts ≡ true → Takes marks.Comma ts us
    → Turns free r (λ q. last (Sort.RowTail side b (map f q.value.items) q.height)) t0 parts ts
    → Makes free (rule Tutorial (choose (Sort.Par side) us)) (λ p. spelt (f p.value) p.height) us next vs
    → Appends parts next res
    → Turns free r (λ q. last (Sort.RowTail side b (map f q.value.items) q.height)) t0 res vs
row_goes_on {T} r t0 vs parts next res side b f k s t i g m = carried _ r t0 _ vs (λ (q : Part (Vec T Global)). last (Sort.RowTail side b (map f q.value.items) q.height)) parts res k i (λ x e. row_more vs next side b f x.value.items x.height res s t g (m x e))

pub left_goes_on : {free : ℕ} {ts us : List Terminal} (r : Rule) (t0 vs : List Terminal) (parts : Result (Part (Vec NamePat Global)) Fault) (next : Result (Part NamePat) Fault) (res : Result (Part (Vec NamePat Global)) Fault)
    → IsOk parts → sees_member ts ≡ true → Takes marks.Comma ts us
    → Turns free r (λ q. last (Sort.LeftTail (map name_pat_written q.value.items) q.height)) t0 parts ts
    → Makes free (rule Tutorial (choose Sort.PName us)) (λ p. spelt (name_pat_written p.value) p.height) us next vs
    → Appends parts next res
    → Turns free r (λ q. last (Sort.LeftTail (map name_pat_written q.value.items) q.height)) t0 res vs
left_goes_on r t0 vs parts next res k s t i g m = carried _ r t0 _ vs (λ (q : Part (Vec NamePat Global)). last (Sort.LeftTail (map name_pat_written q.value.items) q.height)) parts res k i (λ x e. left_next vs next x.value.items x.height res s t g (m x e))

pub sequence_goes_on : {free : ℕ} {ts us : List Terminal} (r : Rule) (t0 vs : List Terminal) (parts : Result (Part (Vec Pat Global)) Fault) (next : Result (Part Pat) Fault) (res : Result (Part (Vec Pat Global)) Fault) (b : Bracket)
    → IsOk parts → sees_member ts ≡ true → Takes marks.Comma ts us
    → Turns free r (λ q. last (Sort.SeqTail b (map pat_written q.value.items) q.height)) t0 parts ts
    → Makes free (rule Tutorial (choose (Sort.Par patterns) us)) (λ p. spelt (pat_written p.value) p.height) us next vs
    → Appends parts next res
    → Turns free r (λ q. last (Sort.SeqTail b (map pat_written q.value.items) q.height)) t0 res vs
sequence_goes_on r t0 vs parts next res b k s t i g m = carried _ r t0 _ vs (λ (q : Part (Vec Pat Global)). last (Sort.SeqTail b (map pat_written q.value.items) q.height)) parts res k i (λ x e. sequence_next vs next b x.value.items x.height res s t g (m x e))

-- and their ends
pub par_ended : {T : Type 0} (free : ℕ) (r : Rule) (t0 us : List Terminal) (parts : Result (Part (Vec T Global)) Fault) (side : Side) (f : T → Written)
    → OnOk parts (sees marks.Bar us ≡ false)
    → Turns free r (λ q. last (Sort.ParTail side (map f q.value.items) q.height)) t0 parts us
    → Turns free r (λ q. done (spelt (par_of side (map f q.value.items)) q.height)) t0 parts us
par_ended {T} free r t0 us parts side f e i = closed r t0 (λ (q : Part (Vec T Global)). last (Sort.ParTail side (map f q.value.items) q.height)) (λ (q : Part (Vec T Global)). done (spelt (par_of side (map f q.value.items)) q.height)) parts e (λ q s out h. runs_last (rw s h)) i

pub row_ended : {T : Type 0} {free : ℕ} {r : Rule} {t0 : List Terminal} (us vs : List Terminal) (parts res : Result (Part (Vec T Global)) Fault) (side : Side) (b : Bracket) (f : T → Written) (m : Mark)
    → m ≡ closing b → OnOk parts (sees marks.Comma us ≡ false)
    → Turns free r (λ q. last (Sort.RowTail side b (map f q.value.items) q.height)) t0 parts us
    → ((n : ℕ) (q : Rule) (xs : List Terminal) (next : Part (Vec T Global) → Rule) → Turns n q (λ x. sign m (next x)) xs parts us → Turns n q next xs res vs)
    → Makes free r (λ q. spelt (row_of (map f q.value.items)) q.height) t0 res vs
row_ended {T} {free} {r} {t0} us vs parts res side b f m e s i t =
    makes vs (λ (q : Part (Vec T Global)). spelt (row_of (map f q.value.items)) q.height) res
    (t free r t0 (λ q. done (spelt (row_of (map f q.value.items)) q.height))
    (mark_as free r t0 us (λ (q : Part (Vec T Global)). done (spelt (row_of (map f q.value.items)) q.height)) parts m (closing b) e
    (closed r t0 (λ (q : Part (Vec T Global)). last (Sort.RowTail side b (map f q.value.items) q.height)) (λ (q : Part (Vec T Global)). sign (closing b) (done (spelt (row_of (map f q.value.items)) q.height))) parts s (λ q z out h. runs_last (row_ends side b (map f q.value.items) q.height z refl h)) i)))
