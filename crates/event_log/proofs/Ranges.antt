-- Steps that were read take as many data as a step may, and there are no more than a text may have.
use Rattle.std.proofs.Common.{◌≡◌, ◌≤◌, ℕ, zero, suc, ◌-◌, Bool, true, false, cond, ◌&&◌, List, [], ◌∷◌, length, map, refl, ap, sym, ◌∙◌, subst, arith}
use Rattle.std.specs.Prelude.{Result, Ok, Err, leb, codes, All}
use Rattle.std.proofs.lemmas.Bool.{leb-true}
use Rattle.std.proofs.lemmas.List.{length-map}
use Rattle.std.proofs.lemmas.List.Elements.{All-nil, All-cons, All-head, All-tail}
use Rattle.calculus.specs.declared.ids.Digest.{Digest}
use Rattle.calculus.specs.Log.{Header, Step}
use Rattle.event_log.specs.declared.fault.LogFault.{LogFault}
use Rattle.event_log.specs.declared.fault.LogFault.TheVariants.{Bad, TooLong}
use Rattle.event_log.specs.declared.log.LogStep.{LogStep}
use Rattle.event_log.specs.Reading.{◌>>=◌, Read, field, number_of_4, name, version, header, count, data_count, data_ids, step, steps, repeated, end, log_of}
use Rattle.event_log.specs.View.{step_of, TakesInRange}
use Rattle.event_log.proofs.Texts.{bind-inv}
use Rattle.event_log.specs.ReadableLaws.{ReadLogsAreWritable}

inside : {A : Type 0} (p q : A) → (let r : Result A LogFault = Ok p in r) ≡ Ok q → p ≡ q
inside p q e = cc e

both-true : (p q : Bool) → (p && q) ≡ true → (p ≡ true) × (q ≡ true)
both-true true true e = (refl, refl)
both-true true false e = cc e
both-true false q e = cc e

-- 1 to 16
abbrev IsCount : ℕ → Type 0
IsCount k = (1 ≤ k) × (k ≤ 16)

-- so many data a step takes
abbrev TakesSome : Step → Type 0
TakesSome s = IsCount (length s.data_ids)

count-of-data : (n k : ℕ) (bs r : List ℕ) → data_count n bs ≡ Ok (k, r) → IsCount k
count-of-data n k [] r e = cc e
count-of-data n k (b ∷ bs) r e = go (leb 1 b && leb b 16) refl e
  where
    go : (c : Bool) → (leb 1 b && leb b 16) ≡ c → cond {A = Read ℕ} c (Ok (b, bs)) (Err (Bad (n - length (b ∷ bs)))) ≡ Ok (k, r) → IsCount k
    go true d e =
        let t = both-true (leb 1 b) (leb b 16) d in
        let same : b ≡ k = ap (λ z. z.0) (inside (b, bs) (k, r) e) in
        subst IsCount same (leb-true 1 b t.0, leb-true b 16 t.1)
    go false d e = cc e

ids-number : (n k : ℕ) (bs : List ℕ) (xs : List (List ℕ)) (r : List ℕ) → data_ids n k bs ≡ Ok (xs, r) → length xs ≡ k
ids-number n zero bs xs r e =
    let none : [] ≡ xs = ap (λ z. z.0) (inside ([], bs) (xs, r) e) in
    sym (ap length none)
ids-number n (suc k) bs xs r e =
    let a = bind-inv (field n 32 bs) _ (xs, r) e in
    let b = bind-inv (repeated (field n 32) k a.0.1) _ (xs, r) a.2 in
    let all : a.0.0 ∷ b.0.0 ≡ xs = ap (λ z. z.0) (inside (a.0.0 ∷ b.0.0, b.0.1) (xs, r) b.2) in
    sym (ap length all) ∙ ap suc (ids-number n k a.0.1 b.0.0 b.0.1 b.1)

step-takes : (n : ℕ) (bs r : List ℕ) (s : Step) → step n bs ≡ Ok (s, r) → TakesSome s
step-takes n bs r s e =
    let a = bind-inv (field n 32 bs) _ (s, r) e in
    let b = bind-inv (data_count n a.0.1) _ (s, r) a.2 in
    let c = bind-inv (data_ids n b.0.0 b.0.1) _ (s, r) b.2 in
    let d = bind-inv (number_of_4 n c.0.1) _ (s, r) c.2 in
    let made = inside (record { receiver = a.0.0; data_ids = c.0.0; repeat = d.0.0 }, d.0.1) (s, r) d.2 in
    let whole : record { receiver = a.0.0; data_ids = c.0.0; repeat = d.0.0 } ≡ s = ap (λ z. z.0) made in
    let number : b.0.0 ≡ length s.data_ids = sym (ids-number n b.0.0 b.0.1 c.0.0 c.0.1 c.1) ∙ ap length (ap (λ (x : Step). x.data_ids) whole) in
    subst IsCount number (count-of-data n b.0.0 a.0.1 b.0.1 b.1)

-- steps that were read, so many
record Taking (k : ℕ) (ss : List Step) : Type 0 where
  pub number : length ss ≡ k
  pub takes : All TakesSome ss

steps-take : (n k : ℕ) (bs : List ℕ) (ss : List Step) (r : List ℕ) → steps n k bs ≡ Ok (ss, r) → Taking k ss
steps-take n zero bs ss r e =
    let none : [] ≡ ss = ap (λ z. z.0) (inside ([], bs) (ss, r) e) in
    subst (Taking 0) none (record { number = refl; takes = All-nil TakesSome })
steps-take n (suc k) bs ss r e =
    let a = bind-inv (step n bs) _ (ss, r) e in
    let b = bind-inv (repeated (step n) k a.0.1) _ (ss, r) a.2 in
    let all : a.0.0 ∷ b.0.0 ≡ ss = ap (λ z. z.0) (inside (a.0.0 ∷ b.0.0, b.0.1) (ss, r) b.2) in
    let more = steps-take n k a.0.1 b.0.0 b.0.1 b.1 in
    subst (Taking (suc k)) all (record { number = ap suc more.number; takes = All-cons TakesSome a.0.0 b.0.0 (step-takes n bs a.0.1 a.0.0 a.1) more.takes })

few-counted : (n k : ℕ) (bs r : List ℕ) → count n bs ≡ Ok (k, r) → k ≤ 1048608
few-counted n k bs r e =
    let a = bind-inv (number_of_4 n bs) _ (k, r) e in
    go a.0 (leb a.0.0 1048608) refl a.2
  where
    go : (v : ℕ × List ℕ) (b : Bool) → leb v.0 1048608 ≡ b → cond {A = Read ℕ} b (Ok v) (Err (TooLong v.0)) ≡ Ok (k, r) → k ≤ 1048608
    go v true f e = subst (λ x. x ≤ 1048608) (ap (λ z. z.0) (inside v (k, r) e)) (leb-true v.0 1048608 f)
    go v false f e = cc e

ended : {A : Type 0} (n : ℕ) (x y : A) (bs : List ℕ) → end n x bs ≡ Ok y → x ≡ y
ended n x y [] e = inside x y e
ended n x y (b ∷ bs) e = cc e

-- a log that was read
record InRange (ss : List Step) : Type 0 where
  pub few : length ss ≤ 1048608
  pub takes : All TakesSome ss

read-in-range : (bytes : List ℕ) (h : Header) (ss : List Step) → log_of bytes ≡ Ok (h, ss) → InRange ss
unfolding log_of
read-in-range bytes h ss e =
    let n : ℕ = length bytes in
    let c = bind-inv (name n (codes "RHOLOG") bytes >>= version n >>= header n) _ (h, ss) e in
    let d = bind-inv (count n c.0.1) _ (h, ss) c.2 in
    let f = bind-inv (steps n d.0.0 d.0.1) _ (h, ss) d.2 in
    let all : f.0.0 ≡ ss = ap (λ z. z.1) (ended n (c.0.0, f.0.0) (h, ss) f.0.1 f.2) in
    let t = steps-take n d.0.0 d.0.1 f.0.0 f.0.1 f.1 in
    let few : d.0.0 ≤ 1048608 = few-counted n d.0.0 c.0.1 d.0.1 d.1 in
    subst InRange all (record { few = subst (λ k. k ≤ 1048608) (sym t.number) few; takes = t.takes })

takes-in-range : (ss : List LogStep) → All TakesSome (map step_of ss) → All TakesInRange ss
takes-in-range [] h = All-nil TakesInRange
takes-in-range (s ∷ ss) h =
    let number = length-map s.taken.items (λ (id : Digest). id.0) in
    let first = All-head TakesSome (step_of s) (map step_of ss) h in
    All-cons TakesInRange s ss (omega (arith, number, first.0), omega (arith, number, first.1)) (takes-in-range ss (All-tail TakesSome (step_of s) (map step_of ss) h))

pub read_logs_are_writable : ReadLogsAreWritable
read_logs_are_writable bytes log e =
    let in_range = read-in-range bytes _ _ e in
    record { steps = omega (arith, length-map log.steps.items step_of, in_range.few); taken = takes-in-range log.steps.items in_range.takes }
