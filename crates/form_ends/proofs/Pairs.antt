-- The steps of descent through the pairs of a map.
use Rattle.std.proofs.Common.{◌≡◌, ◌-◌, ◌∙◌, ap, refl, subst, max, map, ◌++◌, ℕ, List, ◌∷◌, [], Result, Ok, Err, true, false}
use Rattle.std.proofs.lemmas.Bool.{false≢true}
use Rattle.std.proofs.lemmas.List.{map-append}
use Rattle.std.specs.Prelude.{IsOk, OnOk}
use Rattle.std.specs.declared.alloc.Global.{Global}
use Rattle.std.specs.declared.vec.Vec.{Vec}
use Rattle.calculus.specs.Meaning.{pair_of, pat_written, proc_written}
use Rattle.calculus.specs.Written.{Written}
use Rattle.calculus.specs.declared.process.Pat.{Pat}
use Rattle.calculus.specs.declared.process.Proc.{Proc}
use Rattle.form_steps.specs.Handing.{HandsOnPart}
use Rattle.form_steps.proofs.Handed.{resume, under_read}
use Rattle.grammar.specs.declared.dialect.Dialect.TheVariants.{Tutorial}
use Rattle.grammar.specs.declared.fault.Fault.{Fault}
use Rattle.grammar.specs.declared.mark.Mark.TheVariants as marks
use Rattle.grammar.specs.Choice.{choose}
use Rattle.grammar.specs.Descent.{Outcome, fault, Runs, Takes, runs_last, runs_sign}
use Rattle.grammar.specs.Grammar.{rule}
use Rattle.grammar.specs.Productions.{Prod}
use Rattle.grammar.specs.Rules.{Sort, Rule, last, sign, under}
use Rattle.grammar.specs.Terminals.{Terminal, sees}
use Rattle.grammar.specs.Values.{Side, patterns, processes, spelt}
use Rattle.form_parts.specs.declared.part.Part.{Part}
use Rattle.token_cursor.specs.Reading.{Makes, Turns, of_pat, of_proc, pairs_written, pat_pairs_written, sees_member}
use Rattle.form_ends.specs.Reading.{Appends, ReadsPair, pair_then, pattern_pair, process_pair}
use Rattle.form_ends.proofs.Carried.{carried, closed, stayed}
use Rattle.form_ends.proofs.Cycle.{pairs_on}

-- what follows a key and a colon
abbrev pub value_then : {T : Type 0} → Side → (T → Written) → (Written → ℕ → Rule) → Part T → Rule
value_then side f after k = under (Sort.Par side) (λ v. after (pair_of (f k.value, v.tree)) (max k.height v.height))

-- a key and a colon
key_read : {T : Type 0} {ts : List Terminal} (free : ℕ) (us vs : List Terminal) (found : Result (Part T) Fault) (side : Side) (f : T → Written) (after : Written → ℕ → Rule) (key : Result (Part T) Fault)
    → Makes (free - 1) (rule Tutorial (choose (Sort.Par side) ts)) (λ p. spelt (f p.value) p.height) ts found us
    → ((n : ℕ) (r : Rule) (xs : List Terminal) (next : Part T → Rule) → Turns n r (λ x. sign marks.Colon (next x)) xs found us → Turns n r next xs key vs)
    → Turns free (pair_then side after) (value_then side f after) ts key vs
key_read {T} {ts} free us vs found side f after key g m =
    m free (pair_then side after) ts (value_then side f after)
    (under_read free (Sort.Par side) us (λ (p : Part T). spelt (f p.value) p.height) (λ k. sign marks.Colon (under (Sort.Par side) (λ v. after (pair_of (k.tree, v.tree)) (max k.height v.height)))) found g)

-- a pair that was read, or not
pub pair_read : {T : Type 0} {ts vs : List Terminal} (free : ℕ) (us ws : List Terminal) (found value : Result (Part T) Fault) (res : Result (Part (T × T)) Fault) (side : Side) (f : T → Written) (key : Part T)
    → Makes (free - 1) (rule Tutorial (choose (Sort.Par side) ts)) (λ p. spelt (f p.value) p.height) ts found us
    → ((n : ℕ) (r : Rule) (xs : List Terminal) (next : Part T → Rule) → Turns n r (λ x. sign marks.Colon (next x)) xs found us → Turns n r next xs (Ok key) vs)
    → Makes (free - 1) (rule Tutorial (choose (Sort.Par side) vs)) (λ p. spelt (f p.value) p.height) vs value ws
    → HandsOnPart value (λ x. (key.value, x)) (max key.height) res (λ p. p)
    → ReadsPair free side (λ q. pair_of (f q.0, f q.1)) ts res ws
pair_read {T} {ts} {vs} free us ws found value res side f key g m h k = λ after.
    resume ws (λ (q : Part (T × T)). after (pair_of (f q.value.0, f q.value.1)) q.height) res (key_read free us vs found side f after (Ok key) g m)
    (k free (value_then side f after key) vs ws (λ q n. after (pair_of (f q.0, f q.1)) n)
    (under_read free (Sort.Par side) ws (λ (p : Part T). spelt (f p.value) p.height) (λ v. after (pair_of (f key.value, v.tree)) (max key.height v.height)) value h))

-- where there was no key or no colon
pub no_pair : {T : Type 0} {free : ℕ} {ts vs : List Terminal} (us : List Terminal) (found : Result (Part T) Fault) (side : Side) (f : T → Written) (after : Written → ℕ → Rule) (e : Fault)
    → Makes (free - 1) (rule Tutorial (choose (Sort.Par side) ts)) (λ p. spelt (f p.value) p.height) ts found us
    → ((n : ℕ) (r : Rule) (xs : List Terminal) (next : Part T → Rule) → Turns n r (λ x. sign marks.Colon (next x)) xs found us → Runs Tutorial n r xs (fault e vs))
    → Runs Tutorial free (pair_then side after) ts (fault e vs)
no_pair {free = free} {vs = vs} us found side f after e g m = key_read free us vs found side f after (Err e) g m

-- the pairs that were read
abbrev pub pairs_of : {T : Type 0} → (T → Written) → List (T × T) → List Written
pairs_of f ps = map pair_of (map (λ q. (f q.0, f q.1)) ps)

-- and one more
pushed : {T : Type 0} (f : T → Written) (ps : List (T × T)) (p : T × T) → pairs_of f (ps ++ (p ∷ [])) ≡ pairs_of f ps ++ (pair_of (f p.0, f p.1) ∷ [])
pushed f ps p = ap (map pair_of) (map-append (λ q. (f q.0, f q.1)) ps (p ∷ [])) ∙ map-append pair_of (map (λ q. (f q.0, f q.1)) ps) ((f p.0, f p.1) ∷ [])

pair_appended : {T : Type 0} (free : ℕ) (ts us : List Terminal) (r : Rule) (f : T → Written) (tail : List Written → ℕ → Rule) (xs : List (T × T)) (h : ℕ) (res : Result (Part (T × T)) Fault)
    → Turns free r (λ p. tail (pairs_of f xs ++ (pair_of (f p.value.0, f p.value.1) ∷ [])) (max h p.height)) ts res us
    → Turns free r (λ p. tail (pairs_of f (xs ++ (p.value ∷ []))) (max h p.height)) ts res us
pair_appended {T} free ts us r f tail xs h (Ok p) t = λ out k. t out (subst (λ (qs : List Written). Runs Tutorial free (tail qs (max h p.height)) us out) (pushed f xs p.value) k)
pair_appended free ts us r f tail xs h (Err d) t = t

-- a list of a first pair, whose key was read
pub paired_first : {T : Type 0} (value : Result (Part T) Fault) (pair : Result (Part (T × T)) Fault) (res : Result (Part (Vec (T × T) Global)) Fault) (read key : Part T) → read ≡ key
    → HandsOnPart value (λ x. (read.value, x)) (max read.height) pair (λ p. p)
    → HandsOnPart pair (λ x. x ∷ []) (λ h. h) res (λ q. q.items)
    → HandsOnPart value (λ x. (key.value, x) ∷ []) (max key.height) res (λ q. q.items)
paired_first {T} value pair res read key e m n = subst (λ (k : Part T). HandsOnPart value (λ x. (k.value, x) ∷ []) (max k.height) res (λ q. q.items)) e
    (λ free r ts us after t. n free r ts us after (m free r ts us (λ q h. after (q ∷ []) h) t))

-- the first pair
first_pair : {T : Type 0} {free : ℕ} {ts us : List Terminal} (vs : List Terminal) (value : Result (Part T) Fault) (side : Side) (r : Rule) (f : T → Written) (tail : List Written → ℕ → Rule) (key : Part T) (res : Result (Part (Vec (T × T) Global)) Fault)
    → ((out : Outcome) → Runs Tutorial free (under (Sort.Par side) (λ v. tail (pair_of (f key.value, v.tree) ∷ []) (max key.height v.height))) us out → Runs Tutorial free r ts out)
    → Makes (free - 1) (rule Tutorial (choose (Sort.Par side) us)) (λ p. spelt (f p.value) p.height) us value vs
    → HandsOnPart value (λ x. (key.value, x) ∷ []) (max key.height) res (λ q. q.items)
    → Turns free r (λ q. tail (pairs_of f q.value.items) q.height) ts res vs
first_pair {T} {free} {ts} {us} vs value side r f tail key res k g m =
    resume vs (λ (q : Part (Vec (T × T) Global)). tail (pairs_of f q.value.items) q.height) res k
    (m free _ us vs (λ ps h. tail (pairs_of f ps) h)
    (under_read free (Sort.Par side) vs (λ (p : Part T). spelt (f p.value) p.height) (λ v. tail (pair_of (f key.value, v.tree) ∷ []) (max key.height v.height)) value g))

-- a further one
more_pairs : {T : Type 0} {free : ℕ} {ts us : List Terminal} (vs : List Terminal) (next : Result (Part (T × T)) Fault) (side : Side) (r : Rule) (f : T → Written) (tail : List Written → ℕ → Rule) (xs : List (T × T)) (h : ℕ) (res : Result (Part (Vec (T × T) Global)) Fault)
    → ((out : Outcome) → Runs Tutorial free (pair_then side (λ w n. tail (pairs_of f xs ++ (w ∷ [])) (max h n))) us out → Runs Tutorial free r ts out)
    → ReadsPair free side (λ q. pair_of (f q.0, f q.1)) us next vs
    → HandsOnPart next (λ x. xs ++ (x ∷ [])) (max h) res (λ q. q.items)
    → Turns free r (λ q. tail (pairs_of f q.value.items) q.height) ts res vs
more_pairs {T} {free} {ts} {us} vs next side r f tail xs h res k g m =
    resume vs (λ (q : Part (Vec (T × T) Global)). tail (pairs_of f q.value.items) q.height) res k
    (m free _ us vs (λ ps n. tail (pairs_of f ps) n) (pair_appended free us vs _ f tail xs h next (g (λ w n. tail (pairs_of f xs ++ (w ∷ [])) (max h n)))))

-- pairs of processes
pub block_first : {ts us : List Terminal} (free : ℕ) (r : Rule) (t0 vs : List Terminal) (first value : Result (Part Proc) Fault) (res : Result (Part (Vec (Proc × Proc) Global)) Fault)
    → IsOk first → sees marks.Colon ts ≡ true → Takes marks.Colon ts us
    → Turns free r (λ a. last (Sort.BraceTail (of_proc a))) t0 first ts
    → Makes (free - 1) (rule Tutorial (choose (Sort.Par processes) us)) of_proc us value vs
    → ((k : Part Proc) → first ≡ Ok k → HandsOnPart value (λ x. (k.value, x) ∷ []) (max k.height) res (λ q. q.items))
    → Turns free r (λ q. last (Sort.Pairs (pairs_written q.value.items) q.height)) t0 res vs
block_first free r t0 vs (Ok key) value res i s t g m n = first_pair vs value processes r proc_written (λ ps k. last (Sort.Pairs ps k)) key res (λ out k. g out (runs_last (rw s (runs_sign t k)))) m (n key refl)
block_first free r t0 vs (Err d) value res i s t g m n = absurd (false≢true i)

pub block_more : {ts us : List Terminal} (free : ℕ) (vs : List Terminal) (next : Result (Part (Proc × Proc)) Fault) (xs : List (Proc × Proc)) (h : ℕ) (res : Result (Part (Vec (Proc × Proc) Global)) Fault)
    → sees marks.Comma ts ≡ true → Takes marks.Comma ts us
    → ReadsPair free processes process_pair us next vs
    → HandsOnPart next (λ x. xs ++ (x ∷ [])) (max h) res (λ q. q.items)
    → Turns free (last (Sort.Pairs (pairs_written xs) h)) (λ q. last (Sort.Pairs (pairs_written q.value.items) q.height)) ts res vs
block_more free vs next xs h res s t g m = more_pairs vs next processes (last (Sort.Pairs (pairs_written xs) h)) proc_written (λ ps k. last (Sort.Pairs ps k)) xs h res (λ out k. runs_last (rw s (runs_sign t k))) g m

pub block_goes_on : {ts us : List Terminal} (free : ℕ) (r : Rule) (t0 vs : List Terminal) (pairs : Result (Part (Vec (Proc × Proc) Global)) Fault) (next : Result (Part (Proc × Proc)) Fault) (res : Result (Part (Vec (Proc × Proc) Global)) Fault)
    → IsOk pairs → sees marks.Comma ts ≡ true → Takes marks.Comma ts us
    → Turns free r (λ q. last (Sort.Pairs (pairs_written q.value.items) q.height)) t0 pairs ts
    → ReadsPair free processes process_pair us next vs
    → Appends pairs next res
    → Turns free r (λ q. last (Sort.Pairs (pairs_written q.value.items) q.height)) t0 res vs
block_goes_on free r t0 vs pairs next res k s t i g m = carried free r t0 _ vs (λ (q : Part (Vec (Proc × Proc) Global)). last (Sort.Pairs (pairs_written q.value.items) q.height)) pairs res k i (λ x e. block_more free vs next x.value.items x.height res s t g (m x e))

pub block_ended : (free : ℕ) (r : Rule) (t0 us : List Terminal) (pairs : Result (Part (Vec (Proc × Proc) Global)) Fault)
    → OnOk pairs (sees marks.Comma us ≡ false)
    → Turns free r (λ q. last (Sort.Pairs (pairs_written q.value.items) q.height)) t0 pairs us
    → Turns free r (λ q. rule Tutorial (Prod.pairs_end (pairs_written q.value.items) q.height)) t0 pairs us
block_ended free r t0 us pairs e i = closed r t0 (λ (q : Part (Vec (Proc × Proc) Global)). last (Sort.Pairs (pairs_written q.value.items) q.height)) (λ (q : Part (Vec (Proc × Proc) Global)). rule Tutorial (Prod.pairs_end (pairs_written q.value.items) q.height)) pairs e (λ q s out h. runs_last (rw s h)) i

-- no pair follows the first process
pub block_closed : {ts us : List Terminal} (free : ℕ) (r : Rule) (t0 : List Terminal) (first : Result (Part Proc) Fault) → us ≡ ts → OnOk first (sees marks.Colon ts ≡ false)
    → Turns free r (λ a. last (Sort.BraceTail (of_proc a))) t0 first ts → Turns free r (λ a. rule Tutorial (Prod.brace_close (of_proc a))) t0 first us
block_closed free r t0 first m s t = stayed free r t0 (λ a. rule Tutorial (Prod.brace_close (of_proc a))) first m
    (closed r t0 (λ a. last (Sort.BraceTail (of_proc a))) (λ a. rule Tutorial (Prod.brace_close (of_proc a))) first s (λ a c out h. runs_last (rw c h)) t)

-- pairs of patterns
pub pattern_block_first : {ts us : List Terminal} (free : ℕ) (r : Rule) (t0 vs : List Terminal) (first value : Result (Part Pat) Fault) (res : Result (Part (Vec (Pat × Pat) Global)) Fault)
    → IsOk first → sees marks.Colon ts ≡ true → Takes marks.Colon ts us
    → Turns free r (λ a. last (Sort.PBraceTail (of_pat a))) t0 first ts
    → Makes (free - 1) (rule Tutorial (choose (Sort.Par patterns) us)) of_pat us value vs
    → ((k : Part Pat) → first ≡ Ok k → HandsOnPart value (λ x. (k.value, x) ∷ []) (max k.height) res (λ q. q.items))
    → Turns free r (λ q. last (Sort.PPairs (pat_pairs_written q.value.items) q.height)) t0 res vs
pattern_block_first free r t0 vs (Ok key) value res i s t g m n = first_pair vs value patterns r pat_written (λ ps k. last (Sort.PPairs ps k)) key res (λ out k. g out (runs_last (rw s (runs_sign t k)))) m (n key refl)
pattern_block_first free r t0 vs (Err d) value res i s t g m n = absurd (false≢true i)

pub pattern_block_more : {ts us : List Terminal} (free : ℕ) (vs : List Terminal) (next : Result (Part (Pat × Pat)) Fault) (xs : List (Pat × Pat)) (h : ℕ) (res : Result (Part (Vec (Pat × Pat) Global)) Fault)
    → sees_member ts ≡ true → Takes marks.Comma ts us
    → ReadsPair free patterns pattern_pair us next vs
    → HandsOnPart next (λ x. xs ++ (x ∷ [])) (max h) res (λ q. q.items)
    → Turns free (last (Sort.PPairs (pat_pairs_written xs) h)) (λ q. last (Sort.PPairs (pat_pairs_written q.value.items) q.height)) ts res vs
pattern_block_more {ts = ts} {us = us} free vs next xs h res s t g m = more_pairs vs next patterns (last (Sort.PPairs (pat_pairs_written xs) h)) pat_written (λ ps k. last (Sort.PPairs ps k)) xs h res (λ out k. runs_last (pairs_on (pat_pairs_written xs) h ts us s t k)) g m

pub pattern_block_goes_on : {ts us : List Terminal} (free : ℕ) (r : Rule) (t0 vs : List Terminal) (pairs : Result (Part (Vec (Pat × Pat) Global)) Fault) (next : Result (Part (Pat × Pat)) Fault) (res : Result (Part (Vec (Pat × Pat) Global)) Fault)
    → IsOk pairs → sees_member ts ≡ true → Takes marks.Comma ts us
    → Turns free r (λ q. last (Sort.PPairs (pat_pairs_written q.value.items) q.height)) t0 pairs ts
    → ReadsPair free patterns pattern_pair us next vs
    → Appends pairs next res
    → Turns free r (λ q. last (Sort.PPairs (pat_pairs_written q.value.items) q.height)) t0 res vs
pattern_block_goes_on free r t0 vs pairs next res k s t i g m = carried free r t0 _ vs (λ (q : Part (Vec (Pat × Pat) Global)). last (Sort.PPairs (pat_pairs_written q.value.items) q.height)) pairs res k i (λ x e. pattern_block_more free vs next x.value.items x.height res s t g (m x e))

pub pattern_block_closed : {ts us : List Terminal} (free : ℕ) (r : Rule) (t0 : List Terminal) (first : Result (Part Pat) Fault) → us ≡ ts → OnOk first (sees marks.Colon ts ≡ false)
    → Turns free r (λ a. last (Sort.PBraceTail (of_pat a))) t0 first ts → Turns free r (λ a. rule Tutorial (Prod.pbrace_close (of_pat a))) t0 first us
pattern_block_closed free r t0 first m s t = stayed free r t0 (λ a. rule Tutorial (Prod.pbrace_close (of_pat a))) first m
    (closed r t0 (λ a. last (Sort.PBraceTail (of_pat a))) (λ a. rule Tutorial (Prod.pbrace_close (of_pat a))) first s (λ a c out h. runs_last (rw c h)) t)
