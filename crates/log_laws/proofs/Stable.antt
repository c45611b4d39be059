-- What is read of bytes is read of a front of them too, or that front ends early. So a proper prefix of a log's text ends early.
use Rattle.std.proofs.Common.{◌≡◌, ◌≤◌, ℕ, zero, suc, ◌-◌, Bool, true, false, cond, ◌&&◌, List, [], ◌∷◌, ◌++◌, length, refl, ap, sym, ◌∙◌, arith, length-append}
use Rattle.std.specs.Prelude.{Result, Ok, Err, leb, eqb, take, drop, codes}
use Rattle.std.specs.Int.{w32, w64, from_be_bytes}
use Rattle.std.proofs.lemmas.Bool.{leb-true, le-leb}
use Rattle.std.proofs.lemmas.List.{take-append-le, drop-append-le}
use Rattle.calculus.specs.Log.{Header, Step}
use Rattle.event_log.specs.declared.fault.LogFault.{LogFault}
use Rattle.event_log.specs.declared.fault.LogFault.TheVariants.{Short, Bad, Version, TooLong}
use Rattle.event_log.specs.Reading.{◌>>=◌, Read, field, number_of_4, number_of_8, name, version, header, count, data_count, data_ids, step, steps, repeated, end, log_in, log_of}
use Rattle.event_log.proofs.Texts.{bind-inv}
use Rattle.event_log.proofs.Written.{written_logs_are_read}
use Rattle.log_laws.specs.Laws.{CutLogsAreShort}

inside : {A : Type 0} (p q : A) → (let r : Result A LogFault = Ok p in r) ≡ Ok q → p ≡ q
inside p q e = cc e

-- of bytes that `left` follows, where a and r are read of all: a is read of them too, and `left` follows what it leaves, or they end early
data Front {A : Type 0} (n : ℕ) (left : List ℕ) (a : A) (r : List ℕ) (v : Read A) : Type 0 where
  same : (s : List ℕ) → v ≡ Ok (a, s) → r ≡ s ++ left → Front n left a r v
  early : v ≡ Err (Short n) → Front n left a r v

moved : {A : Type 0} (n : ℕ) (left : List ℕ) (a : A) (r : List ℕ) (w v : Read A) → w ≡ v → Front n left a r v → Front n left a r w
moved n left a r w v e (same s t u) = same s (e ∙ t) u
moved n left a r w v e (early t) = early (e ∙ t)

-- nothing more is read
done : {A : Type 0} (n : ℕ) (x b : A) (bs left r : List ℕ) → (let v : Read A = Ok (x, bs ++ left) in v) ≡ Ok (b, r) → Front n left b r (Ok (x, bs))
done {A} n x b bs left r e =
    let both = inside (x, bs ++ left) (b, r) e in
    let one : x ≡ b = ap (λ z. z.0) both in
    let rest : bs ++ left ≡ r = ap (λ z. z.1) both in
    same bs (ap (λ (z : A). Ok (z, bs)) one) (sym rest)

-- one thing and then the next
module _ {A B : Type 0} (n : ℕ) (f g : List ℕ → Read A) (next on : A × List ℕ → Read B) where
  bound : ((bs left : List ℕ) (a : A) (r : List ℕ) → f (bs ++ left) ≡ Ok (a, r) → Front n left a r (g bs))
      → ((a : A) (bs left : List ℕ) (b : B) (r : List ℕ) → next (a, bs ++ left) ≡ Ok (b, r) → Front n left b r (on (a, bs)))
      → (bs left : List ℕ) (b : B) (r : List ℕ) → (f (bs ++ left) >>= next) ≡ Ok (b, r) → Front n left b r (g bs >>= on)
  bound h k bs left b r e =
      let v = bind-inv (f (bs ++ left)) next (b, r) e in
      go v.0 v.2 (h bs left v.0.0 v.0.1 v.1)
    where
      go : (v : A × List ℕ) → next v ≡ Ok (b, r) → Front n left v.0 v.1 (g bs) → Front n left b r (g bs >>= on)
      go v q (same s t u) = moved n left b r (g bs >>= on) (on (v.0, s)) (ap (λ z. z >>= on) t) (k v.0 s left b r (sym (ap (λ z. next (v.0, z)) u) ∙ q))
      go v q (early t) = early (ap (λ z. z >>= on) t)

field-stays : (n m k : ℕ) (bs left a r : List ℕ) → field m k (bs ++ left) ≡ Ok (a, r) → Front n left a r (field n k bs)
field-stays n m k bs left a r e = go (leb k (length bs)) refl
  where
    go : (b : Bool) → leb k (length bs) ≡ b → Front n left a r (cond {A = Read (List ℕ)} b (Ok (take k bs, drop k bs)) (Err (Short n)))
    go true d =
        let few : k ≤ length bs = leb-true k (length bs) d in
        let all : leb k (length (bs ++ left)) ≡ true = le-leb k (length (bs ++ left)) (omega (arith, few, length-append bs left)) in
        let is : field m k (bs ++ left) ≡ Ok (take k (bs ++ left), drop k (bs ++ left)) = ap (λ (c : Bool). cond {A = Read (List ℕ)} c (Ok (take k (bs ++ left), drop k (bs ++ left))) (Err (Short m))) all in
        let both = inside (take k (bs ++ left), drop k (bs ++ left)) (a, r) (sym is ∙ e) in
        let one : take k bs ≡ a = sym (take-append-le k bs left few) ∙ ap (λ z. z.0) both in
        let rest : r ≡ drop k bs ++ left = sym (ap (λ z. z.1) both) ∙ drop-append-le k bs left few in
        same (drop k bs) (ap (λ (z : List ℕ). Ok (z, drop k bs)) one) rest
    go false d = early refl

abbrev as_4 : List ℕ × List ℕ → Read ℕ
as_4 r = Ok (from_be_bytes w32 r.0, r.1)

number-4-stays : (n m : ℕ) (bs left : List ℕ) (a : ℕ) (r : List ℕ) → number_of_4 m (bs ++ left) ≡ Ok (a, r) → Front n left a r (number_of_4 n bs)
number-4-stays n m = bound n (field m 4) (field n 4) as_4 as_4 (field-stays n m 4) (λ x bs left b r e. done n (from_be_bytes w32 x) b bs left r e)

abbrev as_8 : List ℕ × List ℕ → Read ℕ
as_8 r = Ok (from_be_bytes w64 r.0, r.1)

number-8-stays : (n m : ℕ) (bs left : List ℕ) (a : ℕ) (r : List ℕ) → number_of_8 m (bs ++ left) ≡ Ok (a, r) → Front n left a r (number_of_8 n bs)
number-8-stays n m = bound n (field m 8) (field n 8) as_8 as_8 (field-stays n m 8) (λ x bs left b r e. done n (from_be_bytes w64 x) b bs left r e)

data-count-stays : (n m : ℕ) (bs left : List ℕ) (k : ℕ) (r : List ℕ) → data_count m (bs ++ left) ≡ Ok (k, r) → Front n left k r (data_count n bs)
data-count-stays n m [] left k r e = early refl
data-count-stays n m (b ∷ bs) left k r e = go (leb 1 b && leb b 16) e
  where
    go : (c : Bool) → cond {A = Read ℕ} c (Ok (b, bs ++ left)) (Err (Bad (m - length (b ∷ (bs ++ left))))) ≡ Ok (k, r) → Front n left k r (cond {A = Read ℕ} c (Ok (b, bs)) (Err (Bad (n - length (b ∷ bs)))))
    go true e = done n b k bs left r e
    go false e = cc e

-- a thing before those that follow it
abbrev put : {A : Type 0} → A → List A × List ℕ → Read (List A)
put a b = Ok (a ∷ b.0, b.1)

abbrev others : {A : Type 0} → (List ℕ → Read A) → ℕ → A × List ℕ → Read (List A)
others one k a = repeated one k a.1 >>= put a.0

-- things one after another
module _ {A : Type 0} (n : ℕ) (f g : List ℕ → Read A) (h : (bs left : List ℕ) (a : A) (r : List ℕ) → f (bs ++ left) ≡ Ok (a, r) → Front n left a r (g bs)) where
  repeated-stays : (k : ℕ) (bs left : List ℕ) (xs : List A) (r : List ℕ) → repeated f k (bs ++ left) ≡ Ok (xs, r) → Front n left xs r (repeated g k bs)
  repeated-stays zero bs left xs r e = done n [] xs bs left r e
  repeated-stays (suc k) bs left xs r e =
      bound n f g (others f k) (others g k) h (λ a. bound n (repeated f k) (repeated g k) (put a) (put a) (repeated-stays k) (λ ys cs more zs q t. done n (a ∷ ys) zs cs more q t)) bs left xs r e

-- a step from its last part on, from its data on, from their number on, and from its receiver on
abbrev fourth : List ℕ → List (List ℕ) → ℕ × List ℕ → Read Step
fourth x xs d = Ok (record { receiver = x; data_ids = xs; repeat = d.0 }, d.1)

abbrev third : ℕ → List ℕ → List (List ℕ) × List ℕ → Read Step
third n x c = number_of_4 n c.1 >>= fourth x c.0

abbrev second : ℕ → List ℕ → ℕ × List ℕ → Read Step
second n x b = data_ids n b.0 b.1 >>= third n x

abbrev first : ℕ → List ℕ × List ℕ → Read Step
first n a = data_count n a.1 >>= second n a.0

step-stays : (n m : ℕ) (bs left : List ℕ) (s : Step) (r : List ℕ) → step m (bs ++ left) ≡ Ok (s, r) → Front n left s r (step n bs)
step-stays n m =
    bound n (field m 32) (field n 32) (first m) (first n) (field-stays n m 32) (λ x.
    bound n (data_count m) (data_count n) (second m x) (second n x) (data-count-stays n m) (λ k.
    bound n (data_ids m k) (data_ids n k) (third m x) (third n x) (repeated-stays n (field m 32) (field n 32) (field-stays n m 32) k) (λ xs.
    bound n (number_of_4 m) (number_of_4 n) (fourth x xs) (fourth x xs) (number-4-stays n m) (λ d bs left s r e.
    done n (record { receiver = x; data_ids = xs; repeat = d }) s bs left r e))))

-- a header from its limit on, and so back to its base
abbrev with_limit : List ℕ → List ℕ → List ℕ → ℕ × List ℕ → Read Header
with_limit x y z d = Ok (record { base = x; source = y; prices = z; limit = d.0 }, d.1)

abbrev with_prices : ℕ → List ℕ → List ℕ → List ℕ × List ℕ → Read Header
with_prices n x y c = number_of_8 n c.1 >>= with_limit x y c.0

abbrev with_source : ℕ → List ℕ → List ℕ × List ℕ → Read Header
with_source n x b = field n 32 b.1 >>= with_prices n x b.0

abbrev with_base : ℕ → List ℕ × List ℕ → Read Header
with_base n a = field n 32 a.1 >>= with_source n a.0

header-stays : (n m : ℕ) (bs left : List ℕ) (h : Header) (r : List ℕ) → header m (bs ++ left) ≡ Ok (h, r) → Front n left h r (header n bs)
header-stays n m =
    bound n (field m 32) (field n 32) (with_base m) (with_base n) (field-stays n m 32) (λ x.
    bound n (field m 32) (field n 32) (with_source m x) (with_source n x) (field-stays n m 32) (λ y.
    bound n (field m 32) (field n 32) (with_prices m x y) (with_prices n x y) (field-stays n m 32) (λ z.
    bound n (number_of_8 m) (number_of_8 n) (with_limit x y z) (with_limit x y z) (number-8-stays n m) (λ d bs left h r e.
    done n (record { base = x; source = y; prices = z; limit = d }) h bs left r e))))

abbrev checked : ℕ × List ℕ → Read ℕ
checked c = cond (leb c.0 1048608) (Ok c) (Err (TooLong c.0))

checked-stays : (n a : ℕ) (bs left : List ℕ) (k : ℕ) (r : List ℕ) → checked (a, bs ++ left) ≡ Ok (k, r) → Front n left k r (checked (a, bs))
checked-stays n a bs left k r e = go (leb a 1048608) e
  where
    go : (c : Bool) → cond {A = Read ℕ} c (Ok (a, bs ++ left)) (Err (TooLong a)) ≡ Ok (k, r) → Front n left k r (cond {A = Read ℕ} c (Ok (a, bs)) (Err (TooLong a)))
    go true e = done n a k bs left r e
    go false e = cc e

count-stays : (n m : ℕ) (bs left : List ℕ) (k : ℕ) (r : List ℕ) → count m (bs ++ left) ≡ Ok (k, r) → Front n left k r (count n bs)
count-stays n m = bound n (number_of_4 m) (number_of_4 n) checked checked (number-4-stays n m) (checked-stays n)

-- the same of what is left alone
data Rest (n : ℕ) (left r : List ℕ) (v : Result (List ℕ) LogFault) : Type 0 where
  kept : (s : List ℕ) → v ≡ Ok s → r ≡ s ++ left → Rest n left r v
  ended : v ≡ Err (Short n) → Rest n left r v

name-stays : (n m : ℕ) (ws bs left r : List ℕ) → name m ws (bs ++ left) ≡ Ok r → Rest n left r (name n ws bs)
name-stays n m [] bs left r e = kept bs refl (sym (inside (bs ++ left) r e))
name-stays n m (w ∷ ws) [] left r e = ended refl
name-stays n m (w ∷ ws) (b ∷ bs) left r e = go (name-stays n m ws bs left r) (eqb b w) e
  where
    go : (name m ws (bs ++ left) ≡ Ok r → Rest n left r (name n ws bs)) → (c : Bool)
        → cond {A = Result (List ℕ) LogFault} c (name m ws (bs ++ left)) (Err (Bad (m - length (b ∷ (bs ++ left))))) ≡ Ok r
        → Rest n left r (cond {A = Result (List ℕ) LogFault} c (name n ws bs) (Err (Bad (n - length (b ∷ bs)))))
    go next true e = next e
    go next false e = cc e

version-stays : (n m : ℕ) (bs left r : List ℕ) → version m (bs ++ left) ≡ Ok r → Rest n left r (version n bs)
version-stays n m [] left r e = ended refl
version-stays n m (b ∷ bs) left r e = go (eqb b 1) e
  where
    go : (c : Bool) → cond {A = Result (List ℕ) LogFault} c (Ok (bs ++ left)) (Err (Version b)) ≡ Ok r → Rest n left r (cond {A = Result (List ℕ) LogFault} c (Ok bs) (Err (Version b)))
    go true e = kept bs refl (sym (inside (bs ++ left) r e))
    go false e = cc e

kept-rest : (n : ℕ) (left r q : List ℕ) (v : Result (List ℕ) LogFault) (on : List ℕ → Result (List ℕ) LogFault) → Rest n left r v → ((s : List ℕ) → r ≡ s ++ left → Rest n left q (on s)) → Rest n left q (v >>= on)
kept-rest n left r q v on (ended t) k = ended (ap (λ z. z >>= on) t)
kept-rest n left r q v on (kept s t u) k = go (ap (λ z. z >>= on) t) (k s u)
  where
    go : (v >>= on) ≡ on s → Rest n left q (on s) → Rest n left q (v >>= on)
    go e (kept x y z) = kept x (e ∙ y) z
    go e (ended y) = ended (e ∙ y)

kept-front : {A : Type 0} (n : ℕ) (left r q : List ℕ) (a : A) (v : Result (List ℕ) LogFault) (on : List ℕ → Read A) → Rest n left r v → ((s : List ℕ) → r ≡ s ++ left → Front n left a q (on s)) → Front n left a q (v >>= on)
kept-front n left r q a v on (ended t) k = early (ap (λ z. z >>= on) t)
kept-front n left r q a v on (kept s t u) k = moved n left a q (v >>= on) (on s) (ap (λ z. z >>= on) t) (k s u)

-- what ends early behind a front ends early
ends-by : {A B : Type 0} (n : ℕ) (left : List ℕ) (a : A) (r : List ℕ) (v : Read A) (on : A × List ℕ → Result B LogFault) → Front n left a r v → ((s : List ℕ) → r ≡ s ++ left → on (a, s) ≡ Err (Short n)) → (v >>= on) ≡ Err (Short n)
ends-by n left a r v on (same s t u) k = ap (λ z. z >>= on) t ∙ k s u
ends-by n left a r v on (early t) k = ap (λ z. z >>= on) t

end-none : {A : Type 0} (n : ℕ) (x y : A) (bs : List ℕ) → end n x bs ≡ Ok y → length bs ≡ 0
end-none n x y [] e = refl
end-none n x y (b ∷ bs) e = cc e

-- a log from its end on, from its steps on, and from their number on
abbrev with_end : ℕ → Header → List Step × List ℕ → Result (Header × List Step) LogFault
with_end n h s = end n (h, s.0) s.1

abbrev with_steps : ℕ → Header → ℕ × List ℕ → Result (Header × List Step) LogFault
with_steps n h c = steps n c.0 c.1 >>= with_end n h

abbrev with_count : ℕ → Header × List ℕ → Result (Header × List Step) LogFault
with_count n h = count n h.1 >>= with_steps n h.0

steps-stays : (n m k : ℕ) (bs left : List ℕ) (ss : List Step) (r : List ℕ) → steps m k (bs ++ left) ≡ Ok (ss, r) → Front n left ss r (steps n k bs)
steps-stays n m k = repeated-stays n (step m) (step n) (step-stays n m) k

counted : (n m : ℕ) (h : Header) (bs left : List ℕ) (y : Header × List Step) → 1 ≤ length left → with_count m (h, bs ++ left) ≡ Ok y → with_count n (h, bs) ≡ Err (Short n)
counted n m h bs left y some e =
    let d = bind-inv (count m (bs ++ left)) (with_steps m h) y e in
    let f = bind-inv (steps m d.0.0 d.0.1) (with_end m h) y d.2 in
    let none : length f.0.1 ≡ 0 = end-none m (h, f.0.0) y f.0.1 f.2 in
    ends-by n left d.0.0 d.0.1 (count n bs) (with_steps n h) (count-stays n m bs left d.0.0 d.0.1 d.1) (λ s u.
    ends-by n left f.0.0 f.0.1 (steps n d.0.0 s) (with_end n h) (steps-stays n m d.0.0 s left f.0.0 f.0.1 (sym (ap (λ z. steps m d.0.0 z) u) ∙ f.1)) (λ t v.
    absurd (omega (arith, some, none, ap length v, length-append t left))))

log-cut : (n m : ℕ) (bs left : List ℕ) (y : Header × List Step) → 1 ≤ length left → log_in m (bs ++ left) ≡ Ok y → log_in n bs ≡ Err (Short n)
log-cut n m bs left y some e =
    let w = codes "RHOLOG" in
    let c = bind-inv (name m w (bs ++ left) >>= version m >>= header m) (with_count m) y e in
    let b = bind-inv (name m w (bs ++ left) >>= version m) (header m) c.0 c.1 in
    let a = bind-inv (name m w (bs ++ left)) (version m) b.0 b.1 in
    let named = name-stays n m w bs left a.0 a.1 in
    let versioned = kept-rest n left a.0 b.0 (name n w bs) (version n) named (λ s u. version-stays n m s left b.0 (sym (ap (version m) u) ∙ a.2)) in
    let headed = kept-front n left b.0 c.0.1 c.0.0 (name n w bs >>= version n) (header n) versioned (λ s u. header-stays n m s left c.0.0 c.0.1 (sym (ap (header m) u) ∙ b.2)) in
    ends-by n left c.0.0 c.0.1 (name n w bs >>= version n >>= header n) (with_count n) headed (λ s u. counted n m c.0.0 s left y some (sym (ap (λ z. with_count m (c.0.0, z)) u) ∙ c.2))

pub opened : (bs : List ℕ) → log_of bs ≡ log_in (length bs) bs
unfolding log_of
opened bs = refl

pub cut_logs_are_short : CutLogsAreShort
cut_logs_are_short bs left g some =
    let read : log_in (length (bs ++ left)) (bs ++ left) ≡ Ok (g.header, g.steps) = sym (opened (bs ++ left)) ∙ sym (ap log_of g.is) ∙ written_logs_are_read g.header g.steps g.log.header g.log.steps g.log.few in
    opened bs ∙ log-cut (length bs) (length (bs ++ left)) bs left (g.header, g.steps) some read
