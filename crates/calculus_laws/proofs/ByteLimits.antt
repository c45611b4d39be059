-- Strings at the limits of codes.
use Rattle.std.proofs.Common.{◌≡◌, ℕ, zero, suc, ◌+◌, ◌*◌, ◌≤◌, ◌<◌, true, false, List, [], ◌∷◌, ◌++◌, length, refl, ap, ◌∙◌, arith, length-append}
use Rattle.std.specs.Prelude.{ltb}
use Rattle.std.proofs.lemmas.Bool.{lt-ltb, le-ltb}
use Rattle.calculus.specs.declared.fault.FaultKind.TheVariants as fault
use Rattle.calculus.specs.declared.plain.Rights.TheVariants as rights
use Rattle.calculus.specs.Tree.{par, row, str, send, match, case, bundle, Tree, none, also}
use Rattle.calculus.specs.Shape.{leaf, one, two, many, only}
use Rattle.calculus.specs.Code.{code}
use Rattle.calculus.specs.Size.{height}
use Rattle.calculus.specs.Examples.{num, nil, word, the_var, a_var, sent, sends_around, prices}
use Rattle.calculus.specs.Outcome.{Prices, Answer, gives, fails, Outcome, free, pure, charged, after, in_order, within_limits}
use Rattle.calculus.specs.Values.{value}
use Rattle.calculus.specs.Rows.{Row, row_length}
use Rattle.calculus.specs.Seeds.{digest_of, Split, Body}
use Rattle.calculus.specs.Unfolding.{Product, a_row, row_limits, opened, send_offered, unfold_within, cases_tried, unfold_in}
use Rattle.calculus.proofs.Formed.{length-code}
use Rattle.calculus.proofs.Tails.{length-be32, length-text}
use Rattle.calculus.proofs.Opened.{computing}

-- the code of a process of one part has four bytes more than the part's
pub length-only : (t : Tree) → length (code (only t)) ≡ 4 + length (code t)
length-only t = omega (arith, length-code par (also t none), length-be32 1, length-append (code t) [])

-- a string in a process has nine bytes more in its code
pub length-word : (s : List ℕ) → length (code (word s)) ≡ 9 + length s
length-word s = omega (arith, length-only (leaf (str s)), length-code (str s) none, length-text s)

-- a process is within the limits
pub fits : (t : Tree) → ltb 400 (height t) ≡ false → length (code t) ≤ 1048576 → within_limits t ≡ gives t
fits t e h = rw (e, le-ltb 1048576 (length (code t)) h) refl

-- a process is too big
pub too-big : (t : Tree) → ltb 400 (height t) ≡ false → 1048576 < length (code t) → within_limits t ≡ fails fault.TooBig
too-big t e h = rw (e, lt-ltb 1048576 (length (code t)) h) refl

pub value-word : (p : Prices) (s : List ℕ) → 9 + length s ≤ 1048576 → value p (word s) ≡ pure (word s)
unfolding computing
value-word p s h = ap (λ a. record { price = 0; answer = a }) (fits (word s) refl (omega (arith, h, length-word s)))

pub value-too-big : (p : Prices) (s : List ℕ) → 1048576 < 9 + length s → value p (word s) ≡ record { price = 0; answer = fails fault.TooBig }
unfolding computing
value-too-big p s h = ap (λ a. record { price = 0; answer = a }) (too-big (word s) refl (omega (arith, h, length-word s)))

-- a process of one send on a closed channel, as what its argument's value makes of it
abbrev send_of : Tree → Outcome Tree → Outcome (List Product)
send_of c o = after (after (value prices c) (λ v. after (in_order (o ∷ [])) (λ vs. send_offered prices (digest_of (Split [] 0)) false (opened v) vs))) (λ rs. pure (rs ++ []))

-- what is offered, or a fault, after this price for the bytes of a row
abbrev priced : Answer (List Product) → ℕ → Outcome (List Product)
priced a n = after (after (pure nil) (λ v. after (pure nil) (λ w. charged (3 + n) (free a)))) (λ rs. pure (rs ++ []))

no-price : (n : ℕ) → 0 * n ≡ 0
no-price n = omega arith

-- a send of a closed argument that is its own value
unfold-send : (c x : Tree) → value prices x ≡ pure x → unfold_in prices 9 (only (sent c (x ∷ []))) [] ≡ send_of c (pure x)
unfolding computing
unfold-send c x e = ap (send_of c) e

-- the row of `@Nil!(x)`
abbrev row_of_send : Tree → Row
row_of_send x = record { id = digest_of (Split [] 0); part = sent nil (x ∷ []) }

send-nil : (x : Tree) → value prices x ≡ pure x → unfold_in prices 9 (only (sent nil (x ∷ []))) [] ≡ priced (row_limits (row_of_send x)) 0
unfolding computing
send-nil x e = unfold-send nil x e ∙ ap (priced (row_limits (row_of_send x))) (no-price (row_length (row_of_send x)))

length-row : (x : Tree) → row_length (row_of_send x) ≡ 42 + length (code x)
length-row x = omega (arith, length-append (code nil) (0 ∷ code (many row (x ∷ []))), length-code par none, length-be32 0, length-code row (also x none), length-be32 1, length-append (code x) [])

row-fits : (r : Row) → ltb 400 (height r.part) ≡ false → row_length r ≤ 1048576 → row_limits r ≡ gives (a_row r ∷ [])
row-fits r e h = rw (e, le-ltb 1048576 (row_length r) h) refl

row-too-big : (r : Row) → ltb 400 (height r.part) ≡ false → 1048576 < row_length r → row_limits r ≡ fails fault.TooBig
row-too-big r e h = rw (e, lt-ltb 1048576 (row_length r) h) refl

pub send-fits : (s : List ℕ) → length s ≡ 1048525 → unfold_in prices 9 (only (sent nil (word s ∷ []))) [] ≡ record { price = 3; answer = gives (a_row (row_of_send (word s)) ∷ []) }
send-fits s h = send-nil (word s) (value-word prices s (omega (arith, h))) ∙ ap (λ a. priced a 0) (row-fits (row_of_send (word s)) refl (omega (arith, h, length-row (word s), length-word s)))

pub send-too-big : (s : List ℕ) → length s ≡ 1048526 → unfold_in prices 9 (only (sent nil (word s ∷ []))) [] ≡ record { price = 3; answer = fails fault.TooBig }
send-too-big s h = send-nil (word s) (value-word prices s (omega (arith, h))) ∙ ap (λ a. priced a 0) (row-too-big (row_of_send (word s)) refl (omega (arith, h, length-row (word s), length-word s)))

pub send-not-writable : (s : List ℕ) → length s ≡ 1048526 → unfold_in prices 9 (only (sent (only (one (bundle rights.Read) (num 1))) (word s ∷ []))) [] ≡ record { price = 3; answer = fails fault.NotWritable }
unfolding computing
send-not-writable s h =
    unfold-send (only (one (bundle rights.Read) (num 1))) (word s) (value-word prices s (omega (arith, h)))
    ∙ ap (priced (fails fault.NotWritable)) (no-price (row_length (record { id = digest_of (Split [] 0); part = sent (num 1) (word s ∷ []) })))

-- each send adds 14 bytes to the code of what it sends
length-send : (t : Tree) → length (code (only (sent nil (t ∷ [])))) ≡ 14 + length (code t)
length-send t = omega (arith, length-only (sent nil (t ∷ [])), length-code (send false) (also nil (also (many row (t ∷ [])) none)), length-append (code nil) (code (many row (t ∷ [])) ++ []), length-append (code (many row (t ∷ []))) [], length-code par none, length-be32 0, length-code row (also t none), length-be32 1, length-append (code t) [])

length-sends : (n : ℕ) (t : Tree) → length (code (sends_around n t)) ≡ 14 * n + length (code t)
length-sends zero t = omega arith
length-sends (suc n) t = omega (arith, length-send (sends_around n t), length-sends n t)

value-sent : (t : Tree) → ltb 400 (height (only (sent nil (t ∷ [])))) ≡ false → length (code (only (sent nil (t ∷ [])))) ≤ 1048576 → value prices (only (sent nil (t ∷ []))) ≡ pure (only (sent nil (t ∷ [])))
unfolding computing
value-sent t e h = ap (λ a. record { price = 0; answer = a }) (fits (only (sent nil (t ∷ []))) e h)

small : (n m k : ℕ) → n ≡ 14 * 400 + m → m ≡ 9 + k → k ≡ 1042967 → n ≤ 1048576
small n m k e f h = omega (arith, e, f, h)

row-too-deep : (r : Row) → ltb 400 (height r.part) ≡ true → row_limits r ≡ fails fault.TooDeep
row-too-deep r e = rw e refl

pub send-too-deep : (s : List ℕ) → length s ≡ 1042967 → unfold_in prices 9 (sends_around 401 (word s)) [] ≡ record { price = 3; answer = fails fault.TooDeep }
send-too-deep s h =
    send-nil (sends_around 400 (word s)) (value-sent (sends_around 399 (word s)) refl (small (length (code (sends_around 400 (word s)))) (length (code (word s))) (length s) (length-sends 400 (word s)) (length-word s) h))
    ∙ ap (λ a. priced a 0) (row-too-deep (row_of_send (sends_around 400 (word s))) refl)

-- `match t { x => bundle {x} }`
abbrev pub match_bundling : Tree → Tree
match_bundling t = only (two match t (many row (two case a_var (only (one (bundle rights.Both) (the_var 0))) ∷ [])))

-- its work, as what the target's value makes of it
abbrev match_of : Outcome Tree → Outcome (List Product)
match_of o = after (after o (λ v. cases_tried prices (unfold_in prices 8) (digest_of (Body (digest_of (Split [] 0)))) v (two case a_var (only (one (bundle rights.Both) (the_var 0))) ∷ []))) (λ rs. pure (rs ++ []))

-- and as what the limits make of its body
abbrev body_of : Answer Tree → Outcome (List Product)
body_of a = after (after (pure nil) (λ v. charged 1 (unfold_within (unfold_in prices 8) (digest_of (Body (digest_of (Split [] 0)))) a))) (λ rs. pure (rs ++ []))

length-bundle : (t : Tree) → length (code (only (one (bundle rights.Both) t))) ≡ 6 + length (code t)
length-bundle t = omega (arith, length-only (one (bundle rights.Both) t), length-code (bundle rights.Both) (also t none), length-append (code t) [])

match-is : (t : Tree) → unfold_in prices 9 (match_bundling t) [] ≡ match_of (value prices t)
unfolding computing
match-is t = refl

body-is : (s : List ℕ) → match_of (pure (word s)) ≡ body_of (within_limits (only (one (bundle rights.Both) (word s))))
unfolding computing
body-is s = refl

body-at : (s : List ℕ) → 9 + length s ≤ 1048576 → unfold_in prices 9 (match_bundling (word s)) [] ≡ body_of (within_limits (only (one (bundle rights.Both) (word s))))
body-at s h = match-is (word s) ∙ ap match_of (value-word prices s h) ∙ body-is s

pub body-fits : (s : List ℕ) → length s ≡ 1048561 → unfold_in prices 9 (match_bundling (word s)) [] ≡ record { price = 1; answer = gives [] }
unfolding computing
body-fits s h = body-at s (omega (arith, h)) ∙ ap body_of (fits (only (one (bundle rights.Both) (word s))) refl (omega (arith, h, length-bundle (word s), length-word s)))

pub body-too-big : (s : List ℕ) → length s ≡ 1048562 → unfold_in prices 9 (match_bundling (word s)) [] ≡ record { price = 1; answer = fails fault.TooBig }
body-too-big s h = body-at s (omega (arith, h)) ∙ ap body_of (too-big (only (one (bundle rights.Both) (word s))) refl (omega (arith, h, length-bundle (word s), length-word s)))
