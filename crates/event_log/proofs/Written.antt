-- What is written is read.
use Rattle.std.proofs.Common.{◌≡◌, ◌≤◌, ◌<◌, ℕ, suc, ◌-◌, ◌^◌, Bool, true, false, cond, ◌&&◌, List, [], ◌∷◌, ◌++◌, length, map as each, refl, ap, sym, ◌∙◌, subst, arith, append_assoc, length-append}
use Rattle.std.specs.Prelude.{Result, Ok, Err, leb, take, drop}
use Rattle.std.specs.Int.{w32, w64, from_be_bytes, to_be_bytes}
use Rattle.std.proofs.lemmas.Nat.{from_be_bytes-to_be_bytes_4, from_be_bytes-to_be_bytes_8}
use Rattle.calculus.specs.Bytes.{be32, be64, joined}
use Rattle.calculus.proofs.BytesLemmas.{to_be_bytes-be32, to_be_bytes-be64}
use Rattle.calculus.specs.Log.{Header, Step, step_text, log_text}
use Rattle.event_log.specs.declared.fault.LogFault.{LogFault}
use Rattle.event_log.specs.declared.fault.LogFault.TheVariants.{Short, Bad, TooLong}
use Rattle.event_log.specs.Reading.{◌>>=◌, Read, field, number_of_4, number_of_8, header, count, data_count, data_ids, step, steps, repeated, end, log_of}
use Rattle.event_log.specs.Laws.{AreIds, IsStep, AreSteps, IsHeader, WrittenLogsAreRead}

take-first : (a r : List ℕ) → take (length a) (a ++ r) ≡ a
take-first [] r = refl
take-first (x ∷ a) r = ap (λ l. x ∷ l) (take-first a r)

drop-first : (a r : List ℕ) → drop (length a) (a ++ r) ≡ r
drop-first [] r = refl
drop-first (x ∷ a) r = drop-first a r

is-within : (m n : ℕ) → m ≤ n → leb m n ≡ true
is-within m n h = grind arith

-- a field that stands there is read
field-there : (n k : ℕ) (a r : List ℕ) → length a ≡ k → field n k (a ++ r) ≡ Ok (a, r)
field-there n k a r e = subst (λ j. field n j (a ++ r) ≡ Ok (a, r)) e (go (leb (length a) (length (a ++ r))) (is-within (length a) (length (a ++ r)) (omega (arith, length-append a r))))
  where
    go : (b : Bool) → b ≡ true → cond {A = Read (List ℕ)} b (Ok (take (length a) (a ++ r), drop (length a) (a ++ r))) (Err (Short n)) ≡ Ok (a, r)
    go true h = cc (take-first a r, drop-first a r)
    go false h = cc h

-- a number that stands there is read
number-4-there : (n m : ℕ) (r : List ℕ) → m < 2 ^ 32 → number_of_4 n (be32 m ++ r) ≡ Ok (m, r)
unfolding be32
number-4-there n m r h =
    let same : to_be_bytes w32 m ≡ be32 m = to_be_bytes-be32 m h in
    let back : from_be_bytes w32 (be32 m) ≡ m = ap (from_be_bytes w32) (sym same) ∙ from_be_bytes-to_be_bytes_4 m h in
    ap (λ x. x >>= (λ v. Ok (from_be_bytes w32 v.0, v.1))) (field-there n 4 (be32 m) r refl) ∙ cc back

number-8-there : (n m : ℕ) (r : List ℕ) → m < 2 ^ 64 → number_of_8 n (be64 m ++ r) ≡ Ok (m, r)
unfolding be64
number-8-there n m r h =
    let same : to_be_bytes w64 m ≡ be64 m = to_be_bytes-be64 m h in
    let back : from_be_bytes w64 (be64 m) ≡ m = ap (from_be_bytes w64) (sym same) ∙ from_be_bytes-to_be_bytes_8 m h in
    ap (λ x. x >>= (λ v. Ok (from_be_bytes w64 v.0, v.1))) (field-there n 8 (be64 m) r refl) ∙ cc back

-- ids that stand there are read
ids-there : (n : ℕ) (xs : List (List ℕ)) (r : List ℕ) → AreIds xs → data_ids n (length xs) (joined xs ++ r) ≡ Ok (xs, r)
ids-there n [] r h = refl
ids-there n (x ∷ xs) r h =
    ap (λ l. repeated (field n 32) (suc (length xs)) l) (append_assoc x (joined xs) r)
    ∙ ap (λ v. v >>= (λ a. repeated (field n 32) (length xs) a.1 >>= (λ b. Ok (a.0 ∷ b.0, b.1)))) (field-there n 32 x (joined xs ++ r) h.0)
    ∙ ap (λ v. v >>= (λ b. Ok (x ∷ b.0, b.1))) (ids-there n xs r h.1)

in-range : (k : ℕ) → 1 ≤ k → k ≤ 16 → (leb 1 k && leb k 16) ≡ true
in-range k h g = cc (is-within 1 k h, is-within k 16 g)

-- a step from its last part on, from its data on, from their number on, and from its receiver on
abbrev fourth : List ℕ → List (List ℕ) → ℕ × List ℕ → Read Step
fourth x xs d = Ok (record { receiver = x; data_ids = xs; repeat = d.0 }, d.1)

abbrev third : ℕ → List ℕ → List (List ℕ) × List ℕ → Read Step
third n x c = number_of_4 n c.1 >>= fourth x c.0

abbrev second : ℕ → List ℕ → ℕ × List ℕ → Read Step
second n x b = data_ids n b.0 b.1 >>= third n x

abbrev first : ℕ → List ℕ × List ℕ → Read Step
first n a = data_count n a.1 >>= second n a.0

-- a number of data in range is read
data-count-there : (n k : ℕ) (r : List ℕ) → 1 ≤ k → k ≤ 16 → data_count n (k ∷ r) ≡ Ok (k, r)
data-count-there n k r h g = go (leb 1 k && leb k 16) (in-range k h g)
  where
    go : (b : Bool) → b ≡ true → cond {A = Read ℕ} b (Ok (k, r)) (Err (Bad (n - length (k ∷ r)))) ≡ Ok (k, r)
    go true e = refl
    go false e = cc e

-- a step that stands there is read
step-there : (n : ℕ) (s : Step) (r : List ℕ) → IsStep s → step n (step_text s ++ r) ≡ Ok (s, r)
step-there n s r h =
    ap (step n) (append_assoc s.receiver (length s.data_ids ∷ (joined s.data_ids ++ be32 s.repeat)) r)
    ∙ ap (λ v. v >>= first n) (field-there n 32 s.receiver (length s.data_ids ∷ ((joined s.data_ids ++ be32 s.repeat) ++ r)) h.receiver)
    ∙ ap (λ v. v >>= second n s.receiver) (data-count-there n (length s.data_ids) ((joined s.data_ids ++ be32 s.repeat) ++ r) h.some h.few)
    ∙ ap (λ l. data_ids n (length s.data_ids) l >>= third n s.receiver) (append_assoc (joined s.data_ids) (be32 s.repeat) r)
    ∙ ap (λ v. v >>= third n s.receiver) (ids-there n s.data_ids (be32 s.repeat ++ r) h.ids)
    ∙ ap (λ v. v >>= fourth s.receiver s.data_ids) (number-4-there n s.repeat r h.repeat)

-- steps that stand there are read
steps-there : (n : ℕ) (ss : List Step) (r : List ℕ) → AreSteps ss → steps n (length ss) (joined (each step_text ss) ++ r) ≡ Ok (ss, r)
steps-there n [] r h = refl
steps-there n (s ∷ ss) r h =
    ap (λ l. repeated (step n) (suc (length ss)) l) (append_assoc (step_text s) (joined (each step_text ss)) r)
    ∙ ap (λ v. v >>= (λ a. repeated (step n) (length ss) a.1 >>= (λ b. Ok (a.0 ∷ b.0, b.1)))) (step-there n s (joined (each step_text ss) ++ r) h.0)
    ∙ ap (λ v. v >>= (λ b. Ok (s ∷ b.0, b.1))) (steps-there n ss r h.1)

-- a header from its limit on, and so back to its base
abbrev with_limit : List ℕ → List ℕ → List ℕ → ℕ × List ℕ → Read Header
with_limit x y z d = Ok (record { base = x; source = y; prices = z; limit = d.0 }, d.1)

abbrev with_prices : ℕ → List ℕ → List ℕ → List ℕ × List ℕ → Read Header
with_prices n x y c = number_of_8 n c.1 >>= with_limit x y c.0

abbrev with_source : ℕ → List ℕ → List ℕ × List ℕ → Read Header
with_source n x b = field n 32 b.1 >>= with_prices n x b.0

abbrev with_base : ℕ → List ℕ × List ℕ → Read Header
with_base n a = field n 32 a.1 >>= with_source n a.0

-- a header that stands there is read
header-there : (n : ℕ) (h : Header) (r : List ℕ) → IsHeader h → header n ((h.base ++ (h.source ++ (h.prices ++ be64 h.limit))) ++ r) ≡ Ok (h, r)
header-there n h r k =
    ap (header n) (append_assoc h.base (h.source ++ (h.prices ++ be64 h.limit)) r)
    ∙ ap (λ v. v >>= with_base n) (field-there n 32 h.base ((h.source ++ (h.prices ++ be64 h.limit)) ++ r) k.base)
    ∙ ap (λ l. field n 32 l >>= with_source n h.base) (append_assoc h.source (h.prices ++ be64 h.limit) r)
    ∙ ap (λ v. v >>= with_source n h.base) (field-there n 32 h.source ((h.prices ++ be64 h.limit) ++ r) k.source)
    ∙ ap (λ l. field n 32 l >>= with_prices n h.base h.source) (append_assoc h.prices (be64 h.limit) r)
    ∙ ap (λ v. v >>= with_prices n h.base h.source) (field-there n 32 h.prices (be64 h.limit ++ r) k.prices)
    ∙ ap (λ v. v >>= with_limit h.base h.source h.prices) (number-8-there n h.limit r k.limit)

-- a number of steps in range is read
count-there : (n k : ℕ) (r : List ℕ) → k ≤ 1048608 → count n (be32 k ++ r) ≡ Ok (k, r)
count-there n k r h = ap (λ v. v >>= checked) (number-4-there n k r (omega (arith, h))) ∙ go (leb k 1048608) (is-within k 1048608 h)
  where
    checked : ℕ × List ℕ → Read ℕ
    checked c = cond (leb c.0 1048608) (Ok c) (Err (TooLong c.0))

    go : (b : Bool) → b ≡ true → cond {A = Read ℕ} b (Ok (k, r)) (Err (TooLong k)) ≡ Ok (k, r)
    go true e = refl
    go false e = cc e

-- a log from its end on, from its steps on, and from their number on
abbrev with_end : ℕ → Header → List Step × List ℕ → Result (Header × List Step) LogFault
with_end n h s = end n (h, s.0) s.1

abbrev with_steps : ℕ → Header → ℕ × List ℕ → Result (Header × List Step) LogFault
with_steps n h c = steps n c.0 c.1 >>= with_end n h

abbrev with_count : ℕ → Header × List ℕ → Result (Header × List Step) LogFault
with_count n h = count n h.1 >>= with_steps n h.0

ends : (l : List ℕ) → l ++ [] ≡ l
ends [] = refl
ends (x ∷ l) = ap (λ m. x ∷ m) (ends l)

pub written_logs_are_read : WrittenLogsAreRead
unfolding log_of
written_logs_are_read h ss k g few =
    ap (λ v. v >>= with_count (length (log_text h ss))) (header-there (length (log_text h ss)) h (be32 (length ss) ++ joined (each step_text ss)) k)
    ∙ ap (λ v. v >>= with_steps (length (log_text h ss)) h) (count-there (length (log_text h ss)) (length ss) (joined (each step_text ss)) few)
    ∙ ap (λ l. steps (length (log_text h ss)) (length ss) l >>= with_end (length (log_text h ss)) h) (sym (ends (joined (each step_text ss))))
    ∙ ap (λ v. v >>= with_end (length (log_text h ss)) h) (steps-there (length (log_text h ss)) ss [] g)
