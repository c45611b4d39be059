-- Reading the text of a log from the left, up to its first fault.
use Rattle.std.specs.Prelude.{ℕ, zero, suc, ◌-◌, cond, eqb, leb, ◌&&◌, List, [], ◌∷◌, length, take, drop, codes, Result, Ok, Err}
use Rattle.std.specs.Int.{w32, w64, from_be_bytes}
use Rattle.calculus.specs.Log.{Header, Step}
use Rattle.event_log.specs.declared.fault.LogFault.{LogFault}
use Rattle.event_log.specs.declared.fault.LogFault.TheVariants.{Short, Bad, Version, TooLong}

infixl 10 ◌>>=◌
-- one thing and, where it is not refused, the next
abbrev pub ◌>>=◌ : {A B : Type 0} → Result A LogFault → (A → Result B LogFault) → Result B LogFault
(Ok x) >>= f = f x
(Err e) >>= f = Err e

-- what is read, and the bytes that are left
abbrev pub Read : Type 0 → Type 0
Read A = Result (A × List ℕ) LogFault

-- a field of k bytes of a text of n bytes
abbrev pub field : ℕ → ℕ → List ℕ → Read (List ℕ)
field n k bs = cond (leb k (length bs)) (Ok (take k bs, drop k bs)) (Err (Short n))

-- a number of four bytes, the high one first
abbrev pub number_of_4 : ℕ → List ℕ → Read ℕ
number_of_4 n bs = field n 4 bs >>= (λ r. Ok (from_be_bytes w32 r.0, r.1))

-- a number of eight bytes, the high one first
abbrev pub number_of_8 : ℕ → List ℕ → Read ℕ
number_of_8 n bs = field n 8 bs >>= (λ r. Ok (from_be_bytes w64 r.0, r.1))

-- the bytes of the name that are still to come, one by one
abbrev pub name : ℕ → List ℕ → List ℕ → Result (List ℕ) LogFault
name n [] bs = Ok bs
name n (w ∷ ws) [] = Err (Short n)
name n (w ∷ ws) (b ∷ bs) = cond (eqb b w) (name n ws bs) (Err (Bad (n - length (b ∷ bs))))

-- the version, which is 1
abbrev pub version : ℕ → List ℕ → Result (List ℕ) LogFault
version n [] = Err (Short n)
version n (b ∷ bs) = cond (eqb b 1) (Ok bs) (Err (Version b))

-- a header without its name and version
abbrev pub header : ℕ → List ℕ → Read Header
header n bs = field n 32 bs >>= (λ a. field n 32 a.1 >>= (λ b. field n 32 b.1 >>= (λ c. number_of_8 n c.1 >>= (λ d.
    Ok (record { base = a.0; source = b.0; prices = c.0; limit = d.0 }, d.1)))))

-- the number of steps
abbrev pub count : ℕ → List ℕ → Read ℕ
count n bs = number_of_4 n bs >>= (λ r. cond (leb r.0 1048608) (Ok r) (Err (TooLong r.0)))

-- the number of data of a step
abbrev pub data_count : ℕ → List ℕ → Read ℕ
data_count n [] = Err (Short n)
data_count n (b ∷ bs) = cond (leb 1 b && leb b 16) (Ok (b, bs)) (Err (Bad (n - length (b ∷ bs))))

-- k things, one after another
abbrev pub repeated : {A : Type 0} → (List ℕ → Read A) → ℕ → List ℕ → Read (List A)
repeated one zero bs = Ok ([], bs)
repeated one (suc k) bs = one bs >>= (λ a. repeated one k a.1 >>= (λ b. Ok (a.0 ∷ b.0, b.1)))

-- k ids
abbrev pub data_ids : ℕ → ℕ → List ℕ → Read (List (List ℕ))
data_ids n k bs = repeated (field n 32) k bs

-- a step
abbrev pub step : ℕ → List ℕ → Read Step
step n bs = field n 32 bs >>= (λ a. data_count n a.1 >>= (λ b. data_ids n b.0 b.1 >>= (λ c. number_of_4 n c.1 >>= (λ d.
    Ok (record { receiver = a.0; data_ids = c.0; repeat = d.0 }, d.1)))))

-- k steps
abbrev pub steps : ℕ → ℕ → List ℕ → Read (List Step)
steps n k bs = repeated (step n) k bs

-- the end of the text
abbrev pub end : {A : Type 0} → ℕ → A → List ℕ → Result A LogFault
end n x [] = Ok x
end n x (b ∷ bs) = Err (Bad (n - length (b ∷ bs)))

-- the log of a text of n bytes, or its first fault
abbrev pub log_in : ℕ → List ℕ → Result (Header × List Step) LogFault
log_in n bs = name n (codes "RHOLOG") bs >>= version n >>= header n >>= (λ h. count n h.1 >>= (λ c. steps n c.0 c.1 >>= (λ s. end n (h.0, s.0) s.1)))

-- the log of a text, or its first fault
unfoldable pub log_of : List ℕ → Result (Header × List Step) LogFault
log_of bytes = log_in (length bytes) bytes
