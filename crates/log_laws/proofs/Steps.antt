-- What comes of reading a step, and so many steps.
use Rattle.std.proofs.Common.{◌≡◌, ◌≤◌, ◌<◌, ℕ, zero, suc, ◌^◌, List, [], ◌∷◌, ◌++◌, length, map as each, refl, sym, ◌∙◌, arith, append_assoc, append-nil}
use Rattle.std.specs.Prelude.{⊤, Ok}
use Rattle.calculus.specs.Bytes.{be32, joined}
use Rattle.calculus.specs.Log.{Step, step_text}
use Rattle.event_log.specs.Reading.{◌>>=◌, Read, field, number_of_4, data_count, data_ids, step, steps}
use Rattle.event_log.specs.Laws.{AreBytes, AreIds, IsStep, AreSteps}
use Rattle.log_laws.proofs.Lists.{same-front, same-four, zeros, length-zeros, bytes-zeros, bytes-append, bytes-none_32}
use Rattle.log_laws.proofs.Outcomes.{Outcome, stands, Splits, With, followed, Lists, SoMany, blanks, length-blanks, are-blanks, bytes-blanks, same-behind, listed}
use Rattle.log_laws.proofs.Fields.{Long, itself, field-outcome, Fits_4, number-4-outcome, IsCount, alone, data-count-outcome, lists-ids, ids-outcome}

-- the text of a step behind its receiver, behind the number of its data, behind these, and behind its repeat number
abbrev from_count : Step → List ℕ
from_count s = length s.data_ids ∷ (joined s.data_ids ++ be32 s.repeat)

abbrev from_data : Step → List ℕ
from_data s = joined s.data_ids ++ be32 s.repeat

abbrev from_repeat : Step → List ℕ
from_repeat s = be32 s.repeat

abbrev nothing : Step → List ℕ
nothing s = []

abbrev of_step : List ℕ → List (List ℕ) → ℕ → Step
of_step x xs m = record { receiver = x; data_ids = xs; repeat = m }

abbrev receiver_of : Step → List ℕ
receiver_of s = s.receiver

abbrev count_of : Step → ℕ
count_of s = length s.data_ids

abbrev data_of : Step → List (List ℕ)
data_of s = s.data_ids

abbrev repeat_of : Step → ℕ
repeat_of s = s.repeat

-- steps with these parts
abbrev Received : List ℕ → Step → Type 0
Received x = With IsStep receiver_of x

abbrev Counted : List ℕ → ℕ → Step → Type 0
Counted x k = With (Received x) count_of k

abbrev Taking : List ℕ → ℕ → List (List ℕ) → Step → Type 0
Taking x k xs = With (Counted x k) data_of xs

is-step : (x : List ℕ) (xs : List (List ℕ)) (m : ℕ) → length x ≡ 32 → AreIds xs → 1 ≤ length xs → length xs ≤ 16 → m < 2 ^ 32 → IsStep (of_step x xs m)
is-step x xs m h k l g f = record { receiver = h; ids = k; some = l; few = g; repeat = f }

small : 0 < 2 ^ 32
small = omega arith

-- so many blank ids
blank-ids : ℕ → List (List ℕ)
blank-ids k = blanks (Long 32) itself AreIds joined lists-ids k

length-blank_ids : (k : ℕ) → length (blank-ids k) ≡ k
unfolding blank-ids
length-blank_ids k = length-blanks (Long 32) itself AreIds joined lists-ids k

are-blank_ids : (k : ℕ) → AreIds (blank-ids k)
unfolding blank-ids
are-blank_ids k = are-blanks (Long 32) itself AreIds joined lists-ids k

bytes-blank_ids : (k : ℕ) → AreBytes (joined (blank-ids k) ++ be32 0)
unfolding blank-ids
bytes-blank_ids k = bytes-append (joined (blanks (Long 32) itself AreIds joined lists-ids k)) (be32 0) (bytes-blanks (Long 32) itself AreIds joined lists-ids k) bytes-none_32

is-counted : (x : List ℕ) (k : ℕ) → length x ≡ 32 → IsCount k → IsStep (of_step x (blank-ids k) 0)
is-counted x k h c = is-step x (blank-ids k) 0 h (are-blank_ids k) (omega (arith, length-blank_ids k, c.0)) (omega (arith, length-blank_ids k, c.1)) small

one : IsCount 1
one = (omega arith, omega arith)

count-bytes : (k : ℕ) → IsCount k → AreBytes (length (blank-ids k) ∷ (joined (blank-ids k) ++ be32 0))
count-bytes k c = (omega (arith, length-blank_ids k, c.1), bytes-blank_ids k)

receiver-splits : Splits (Long 32) itself IsStep step_text receiver_of from_count
receiver-splits = record {
  splits = λ s. refl;
  firsts = λ s h. h.receiver;
  same = λ a b x y h k q. same-front a b x y (h ∙ sym k) q;
  made = λ x h. of_step x (blank-ids 1) 0;
  made_is = λ x h. is-counted x 1 h one;
  made_first = λ x h. refl;
  made_bytes = λ x h. count-bytes 1 one;
}

same-count : (a b : ℕ) (x y : List ℕ) → IsCount a → IsCount b → alone a ++ x ≡ alone b ++ y → (a ≡ b) × (x ≡ y)
same-count a b x y h k q =
    let t : a ∷ x ≡ b ∷ y = q in
    (cc t, cc t)

count-of-step : (s : Step) → IsStep s → IsCount (length s.data_ids)
count-of-step s h = (h.some, h.few)

count-splits : (x : List ℕ) → length x ≡ 32 → Splits IsCount alone (Received x) from_count count_of from_data
count-splits x hx = record {
  splits = λ s. refl;
  firsts = λ s h. count-of-step s h.0;
  same = same-count;
  made = λ k h. of_step x (blank-ids k) 0;
  made_is = λ k h. (is-counted x k hx h, refl);
  made_first = λ k h. length-blank_ids k;
  made_bytes = λ k h. bytes-blank_ids k;
}

-- ids of one number at the front of equal lists
same-ids : (k : ℕ) (xs ys : List (List ℕ)) (x y : List ℕ) → SoMany AreIds k xs → SoMany AreIds k ys → joined xs ++ x ≡ joined ys ++ y → (xs ≡ ys) × (x ≡ y)
same-ids k [] [] x y h g q = (refl, q)
same-ids k [] (b ∷ ys) x y h g q = absurd (omega (arith, h.1, g.1))
same-ids k (a ∷ xs) [] x y h g q = absurd (omega (arith, h.1, g.1))
same-ids zero (a ∷ xs) (b ∷ ys) x y h g q = absurd (omega (arith, h.1))
same-ids (suc k) (a ∷ xs) (b ∷ ys) x y h g q =
    let s : a ++ (joined xs ++ x) ≡ b ++ (joined ys ++ y) = sym (append_assoc a (joined xs) x) ∙ q ∙ append_assoc b (joined ys) y in
    let t = same-front a b (joined xs ++ x) (joined ys ++ y) (h.0.0 ∙ sym g.0.0) s in
    let u = same-ids k xs ys x y (h.0.1, omega (arith, h.1)) (g.0.1, omega (arith, g.1)) t.1 in
    (cc (t.0, u.0), u.1)

data-splits : (x : List ℕ) (k : ℕ) → length x ≡ 32 → IsCount k → Splits (SoMany AreIds k) joined (Counted x k) from_data data_of from_repeat
data-splits x k hx hk = record {
  splits = λ s. refl;
  firsts = λ s h. (h.0.0.ids, h.1);
  same = same-ids k;
  made = λ xs h. of_step x xs 0;
  made_is = λ xs h. ((is-step x xs 0 hx h.0 (omega (arith, h.1, hk.0)) (omega (arith, h.1, hk.1)) small, refl), h.1);
  made_first = λ xs h. refl;
  made_bytes = λ xs h. bytes-none_32;
}

of-parts : (x : List ℕ) (k : ℕ) (xs : List (List ℕ)) (m : ℕ) → length x ≡ 32 → IsCount k → SoMany AreIds k xs → m < 2 ^ 32 → IsStep (of_step x xs m)
of-parts x k xs m hx hk h f = is-step x xs m hx h.0 (omega (arith, h.1, hk.0)) (omega (arith, h.1, hk.1)) f

repeat-splits : (x : List ℕ) (k : ℕ) (xs : List (List ℕ)) → length x ≡ 32 → IsCount k → SoMany AreIds k xs → Splits Fits_4 be32 (Taking x k xs) from_repeat repeat_of nothing
repeat-splits x k xs hx hk hxs = record {
  splits = λ s. sym (append-nil (be32 s.repeat));
  firsts = λ s h. h.0.0.0.repeat;
  same = λ a b r q h g e. same-four a b r q h g e;
  made = λ m h. of_step x xs m;
  made_is = λ m h. (((of-parts x k xs m hx hk hxs h, refl), hxs.1), refl);
  made_first = λ m h. refl;
  made_bytes = λ m h. tt;
}

-- a step from its last part on, from its data on, from their number on, and from its receiver on
abbrev fourth : List ℕ → List (List ℕ) → ℕ × List ℕ → Read Step
fourth x xs d = Ok (record { receiver = x; data_ids = xs; repeat = d.0 }, d.1)

abbrev third : ℕ → List ℕ → List (List ℕ) × List ℕ → Read Step
third n x c = number_of_4 n c.1 >>= fourth x c.0

abbrev second : ℕ → List ℕ → ℕ × List ℕ → Read Step
second n x b = data_ids n b.0 b.1 >>= third n x

abbrev first : ℕ → List ℕ × List ℕ → Read Step
first n a = data_count n a.1 >>= second n a.0

pub step-outcome : (n : ℕ) (bs : List ℕ) → AreBytes bs → Outcome ⊤ IsStep step_text n bs (step n bs)
step-outcome n bs ok =
    followed ⊤ (Long 32) itself IsStep step_text receiver_of from_count receiver-splits n bs (field n 32 bs) (first n) ok (field-outcome ⊤ n 32 bs) (λ x r hx okx.
    followed ⊤ IsCount alone (Received x) from_count count_of from_data (count-splits x hx) n r (data_count n r) (second n x) okx (data-count-outcome n r) (λ k s hk okk.
    followed ⊤ (SoMany AreIds k) joined (Counted x k) from_data data_of from_repeat (data-splits x k hx hk) n s (data_ids n k s) (third n x) okk (ids-outcome n k s okk) (λ xs t hxs okxs.
    followed ⊤ Fits_4 be32 (Taking x k xs) from_repeat repeat_of nothing (repeat-splits x k xs hx hk hxs) n t (number_of_4 n t) (fourth x xs) okxs (number-4-outcome ⊤ n t okxs) (λ m u hm okm.
    stands (of_step x xs m) u ((((of-parts x k xs m hx hk hxs hm, refl), hxs.1), refl), refl) refl refl))))

-- steps at the front of equal lists leave the same
same-step : (s t : Step) (x y : List ℕ) → IsStep s → IsStep t → step_text s ++ x ≡ step_text t ++ y → x ≡ y
same-step s t x y h k q =
    let a : s.receiver ++ (from_count s ++ x) ≡ t.receiver ++ (from_count t ++ y) = sym (append_assoc s.receiver (from_count s) x) ∙ q ∙ append_assoc t.receiver (from_count t) y in
    let b = same-front s.receiver t.receiver (from_count s ++ x) (from_count t ++ y) (h.receiver ∙ sym k.receiver) a in
    let f : length s.data_ids ∷ ((joined s.data_ids ++ be32 s.repeat) ++ x) ≡ length t.data_ids ∷ ((joined t.data_ids ++ be32 t.repeat) ++ y) = b.1 in
    let number : length s.data_ids ≡ length t.data_ids = cc f in
    let c : (joined s.data_ids ++ be32 s.repeat) ++ x ≡ (joined t.data_ids ++ be32 t.repeat) ++ y = cc f in
    let d : joined s.data_ids ++ (be32 s.repeat ++ x) ≡ joined t.data_ids ++ (be32 t.repeat ++ y) = sym (append_assoc (joined s.data_ids) (be32 s.repeat) x) ∙ c ∙ append_assoc (joined t.data_ids) (be32 t.repeat) y in
    let e = same-ids (length t.data_ids) s.data_ids t.data_ids (be32 s.repeat ++ x) (be32 t.repeat ++ y) (h.ids, number) (k.ids, refl) d in
    (same-four s.repeat t.repeat x y h.repeat k.repeat e.1).1

-- a step of zeros with one datum
blank-step : Step
blank-step = of_step (zeros 32) (blank-ids 1) 0

is-blank_step : IsStep blank-step
unfolding blank-step
is-blank_step = is-counted (zeros 32) 1 (length-zeros 32) one

bytes-blank_step : AreBytes (step_text blank-step)
unfolding blank-step
bytes-blank_step = bytes-append (zeros 32) (length (blank-ids 1) ∷ (joined (blank-ids 1) ++ be32 0)) (bytes-zeros 32) (count-bytes 1 one)

-- the texts of steps
abbrev pub step_texts : List Step → List ℕ
step_texts ss = joined (each step_text ss)

lists-steps : Lists IsStep step_text AreSteps step_texts
lists-steps = record {
  none = tt;
  more = λ x xs h k. (h, k);
  head = λ x xs h. h.0;
  tail = λ x xs h. h.1;
  empty = refl;
  joins = λ x xs. refl;
  same = same-step;
  blank = blank-step;
  blank_is = is-blank_step;
  blank_bytes = bytes-blank_step;
}

pub steps-outcome : (n k : ℕ) (bs : List ℕ) → AreBytes bs → Outcome ⊤ (SoMany AreSteps k) step_texts n bs (steps n k bs)
steps-outcome n k bs ok = listed IsStep step_text AreSteps step_texts lists-steps ⊤ n (step n) (step-outcome n) k bs ok

-- as many steps of one number at the front of equal lists leave the same
pub same-steps : (ss ts : List Step) (x y : List ℕ) → AreSteps ss → AreSteps ts → length ss ≡ length ts → step_texts ss ++ x ≡ step_texts ts ++ y → x ≡ y
same-steps ss ts x y h k e q = same-behind IsStep step_text AreSteps step_texts lists-steps ss ts x y h k e q

-- so many steps of zeros
pub record Blanks (k : ℕ) : Type 0 where
  pub all : List Step
  pub are : AreSteps all
  pub number : length all ≡ k
  pub bytes : AreBytes (step_texts all)

pub blank-steps : (k : ℕ) → Blanks k
blank-steps k = record {
  all = blanks IsStep step_text AreSteps step_texts lists-steps k;
  are = are-blanks IsStep step_text AreSteps step_texts lists-steps k;
  number = length-blanks IsStep step_text AreSteps step_texts lists-steps k;
  bytes = bytes-blanks IsStep step_text AreSteps step_texts lists-steps k;
}
