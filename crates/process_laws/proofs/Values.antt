-- Values of closed processes.
use Rattle.std.proofs.Common.{◌≡◌, ℕ, zero, suc, ◌≤◌, Bool, true, false, cond, ltb, List, [], ◌∷◌, length, map as each, zip, flat_map, refl, subst, arith, length-append}
use Rattle.std.specs.Prelude.{⊤}
use Rattle.std.proofs.lemmas.Bool.{ltb-false}
use Rattle.calculus.proofs.Members.{Every}
use Rattle.calculus.specs.declared.plain.UnaryOp.{UnaryOp}
use Rattle.calculus.specs.declared.plain.BinaryOp.{BinaryOp}
use Rattle.calculus.specs.declared.plain.Rights.{Rights}
use Rattle.calculus.specs.Variables.{Sense}
use Rattle.calculus.specs.Tree.{par, row, list, tuple, set, dict, pair, bool, int, str, uri, bytes, fresh, var, name_var, send, receive, new, match, bundle, unary, binary, method, Tree, node, Trees, none, also, trees}
use Rattle.calculus.specs.Shape.{listed, count, held, at, many, only, leaf}
use Rattle.calculus.specs.Size.{height}
use Rattle.calculus.specs.Order.{up_to, sorted}
use Rattle.calculus.specs.Bytes.{be32}
use Rattle.calculus.specs.Code.{code, codes}
use Rattle.calculus.specs.CodeLaws.{IsShort}
use Rattle.calculus.specs.Normal.{placed_by, by_code, arranged_by, ascending, made_node}
use Rattle.calculus.specs.Form.{Sort, term, part, row_of, pair_of, all, Fits, Hold, IsClosed}
use Rattle.calculus.specs.declared.fault.FaultKind.TheVariants as fault
use Rattle.calculus.specs.Outcome.{Prices, Answer, gives, fails, unknown, Outcome, free, pure, after, in_order, within_limits}
use Rattle.calculus.specs.Operators.{unary_answer, binary_answer, of_set, of_map}
use Rattle.calculus.specs.Methods.{method_answer}
use Rattle.calculus.specs.Values.{in_code_order, checked, operated, value, values}
use Rattle.calculus.proofs.Placing.{ascending_hold}
use Rattle.calculus.proofs.Tails.{length-be32}
use Rattle.calculus.proofs.Results.{Gives, after-gives, IsOne, AreTwo, two-of}
use Rattle.process_laws.specs.ClosedValueLaws.{GivesClosed, AreClosed, ValueIsClosed, ValueIsWithin}
use Rattle.process_laws.proofs.Members.{AllFit, held-fit, set-closed, map-closed, flat-fit}
use Rattle.process_laws.proofs.Operators.{unary_is_closed, binary_is_closed}
use Rattle.process_laws.proofs.Methods.{method_is_closed}

-- each of these has such a result, or none
abbrev pub EachGives : {A : Type 0} → (A → Type 0) → List (Outcome A) → Type 0
EachGives P [] = ⊤
EachGives P (o ∷ os) = Gives P o.answer × EachGives P os

-- each of these is so, and there are so many
abbrev pub EachOf : {A : Type 0} → (A → Type 0) → ℕ → List A → Type 0
EachOf P n xs = Every P xs × (length xs ≡ n)

pub in-order-gives : {A : Type 0} (P : A → Type 0) (os : List (Outcome A)) → EachGives P os → Gives (EachOf P (length os)) (in_order os).answer
in-order-gives P [] h = (tt, refl)
in-order-gives P (o ∷ os) h =
    after-gives P (EachOf P (length (o ∷ os))) o (λ x. after (in_order os) (λ xs. pure (x ∷ xs))) h.0
    (λ x p. after-gives (EachOf P (length os)) (EachOf P (length (o ∷ os))) (in_order os) (λ xs. pure (x ∷ xs)) (in-order-gives P os h.1) (λ xs q. ((p, q.0), omega (arith, q.1))))

-- putting things in the order of codes keeps what is so of each
module _ {A : Type 0} (P : A → Type 0) where
  abbrev Sorted : List (List ℕ × A) → Type 0
  Sorted xs = Every P (each (λ p. p.1) xs)

  placed-each : (x : List ℕ × A) (xs : List (List ℕ × A)) → P x.1 → Sorted xs → Sorted (placed_by x xs)
  unfolding placed_by
  placed-each x [] h k = (h, tt)
  placed-each x (z ∷ zs) h k =
      elim (up_to x.0 z.0) as (λ (b : Bool). Sorted (cond b (x ∷ z ∷ zs) (z ∷ placed_by x zs))) [ true ↦ (h, k) | false ↦ (k.0, placed-each x zs h k.1) ]

  by-code-each : (xs : List (List ℕ × A)) → Sorted xs → Sorted (by_code xs)
  unfolding by_code
  by-code-each [] h = tt
  by-code-each (x ∷ xs) h = placed-each x (by_code xs) h.0 (by-code-each xs h.1)

  zip-each : (cs : List (List ℕ)) (os : List A) → Every P os → Sorted (zip cs os)
  zip-each [] os h = tt
  zip-each (c ∷ cs) [] h = tt
  zip-each (c ∷ cs) (o ∷ os) h = (h.0, zip-each cs os h.1)

outcomes : {A : Type 0} (P : A → Type 0) (os : List (Outcome A)) → EachGives P os → Every (λ (o : Outcome A). Gives P o.answer) os
outcomes P [] h = tt
outcomes P (o ∷ os) h = (h.0, outcomes P os h.1)

from-outcomes : {A : Type 0} (P : A → Type 0) (os : List (Outcome A)) → Every (λ (o : Outcome A). Gives P o.answer) os → EachGives P os
from-outcomes P [] h = tt
from-outcomes P (o ∷ os) h = (h.0, from-outcomes P os h.1)

pub fewer : {A : Type 0} (P Q : A → Type 0) (a : Answer A) → ((x : A) → P x → Q x) → Gives P a → Gives Q a
fewer P Q (gives x) f h = f x h
fewer P Q (fails e) f h = tt
fewer P Q unknown f h = tt

code-order-gives : {A : Type 0} (P : A → Type 0) (cs : List (List ℕ)) (os : List (Outcome A)) → EachGives P os → Gives (Every P) (in_code_order cs os).answer
code-order-gives P cs os h =
    let g = by-code-each (λ o. Gives P o.answer) (zip cs os) (zip-each (λ o. Gives P o.answer) cs os (outcomes P os h)) in
    fewer (EachOf P (length (arranged_by (zip cs os)))) (Every P) (in_order (arranged_by (zip cs os))).answer (λ xs q. q.0) (in-order-gives P (arranged_by (zip cs os)) (from-outcomes P (arranged_by (zip cs os)) g))

-- a value of a process
abbrev pub IsSmall : Tree → Type 0
IsSmall v = (height v ≤ 400) × (length (code v) ≤ 1048576)

abbrev pub IsValue : Tree → Type 0
IsValue v = IsClosed v × IsSmall v

-- a result that is within the limits
abbrev Small : (Tree → Type 0) → Tree → Type 0
Small P v = P v × IsSmall v

big-enough : (P : Tree → Type 0) (t : Tree) → P t → height t ≤ 400 → (b : Bool) → ltb 1048576 (length (code t)) ≡ b → Gives (Small P) (cond b (fails fault.TooBig) (gives t))
big-enough P t h g true e = tt
big-enough P t h g false e = (h, (g, ltb-false 1048576 (length (code t)) e))

deep-enough : (P : Tree → Type 0) (t : Tree) → P t → (b : Bool) → ltb 400 (height t) ≡ b
    → Gives (Small P) (cond b (fails fault.TooDeep) (cond (ltb 1048576 (length (code t))) (fails fault.TooBig) (gives t)))
deep-enough P t h true e = tt
deep-enough P t h false e = big-enough P t h (ltb-false 400 (height t) e) (ltb 1048576 (length (code t))) refl

limited : (P : Tree → Type 0) (t : Tree) → P t → Gives (Small P) (within_limits t)
limited P t h = deep-enough P t h (ltb 400 (height t)) refl

closed-within : (t : Tree) → IsClosed t → Gives IsClosed (within_limits t)
closed-within t h = fewer (Small IsClosed) IsClosed (within_limits t) (λ v q. q.0) (limited IsClosed t h)

as-gives : (a : Answer Tree) → GivesClosed a → Gives IsClosed a
as-gives (gives t) h = h
as-gives (fails f) h = tt
as-gives unknown h = tt

to-closed : (a : Answer Tree) → Gives IsClosed a → GivesClosed a
to-closed (gives t) h = h
to-closed (fails f) h = tt
to-closed unknown h = tt

checked-closed : (a : Answer Tree) → GivesClosed a → Gives IsClosed (checked a)
checked-closed (gives t) h = closed-within t h
checked-closed (fails f) h = tt
checked-closed unknown h = tt

-- the value of a process is closed and has room in four bytes
abbrev pub IsOperand : Tree → Type 0
IsOperand v = IsClosed v × IsShort v

nil-short : IsShort (leaf par)
unfolding sorted
nil-short = omega (arith, length-be32 0, length-append (be32 0) [])

operand-at : (i : ℕ) (vs : List Tree) → Every IsOperand vs → IsOperand (at i vs)
operand-at i [] h = ((tt, tt), nil-short)
operand-at zero (v ∷ vs) h = h.0
operand-at (suc i) (v ∷ vs) h = operand-at i vs h.1

all-fit : (s : Sort) (P : Tree → Type 0) (vs : List Tree) → ((v : Tree) → P v → Fits s [] v) → Every P vs → AllFit s vs
all-fit s P [] f h = tt
all-fit s P (v ∷ vs) f h = (f v h.0, all-fit s P vs f h.1)

terms-fit : (vs : List Tree) → Every IsOperand vs → AllFit term vs
terms-fit vs h = all-fit term IsOperand vs (λ v q. q.0) h

abbrev IsPair : Tree → Type 0
IsPair v = Fits (pair_of term) [] v

abbrev IsRow : Tree → Type 0
IsRow v = Fits (row_of term) [] v

count-trees : (vs : List Tree) → count (trees vs) ≡ length vs
count-trees [] = refl
count-trees (v ∷ vs) = omega (arith, count-trees vs)

values-count : (p : Prices) (ts : Trees) → length (values p ts) ≡ count ts
unfolding values
values-count p none = refl
values-count p (also t ts) = omega (arith, values-count p ts)

members-closed : (ts : List Tree) → AllFit term ts → AreClosed ts
members-closed [] h = tt
members-closed (t ∷ ts) h = (h.0, members-closed ts h.1)

row-closed : (v : Tree) → IsRow v → AreClosed (held v)
row-closed (node row ts) h = members-closed (listed ts) (held-fit term ts h.1)
row-closed (node _ ts) h = absurd h.1

-- what a list, a tuple, a set and a map of values come to
list-gives : (vs : List Tree) → Every IsOperand vs → Gives IsClosed (within_limits (only (many list vs)))
list-gives vs h = closed-within (only (many list vs)) (tt, ((tt, terms-fit vs h), tt))

tuple-gives : (n : ℕ) (vs : List Tree) → 1 ≤ n → EachOf IsOperand n vs → Gives IsClosed (within_limits (only (many tuple vs)))
tuple-gives n vs l h = closed-within (only (many tuple vs)) (tt, ((omega (arith, l, h.1, count-trees vs), terms-fit vs h.0), tt))

set-gives : (vs : List Tree) → Every IsOperand vs → Gives IsClosed (within_limits (of_set vs))
set-gives vs h = closed-within (of_set vs) (set-closed vs (terms-fit vs h))

map-gives : (vs : List Tree) → Every IsPair vs → Gives IsClosed (within_limits (of_map (ascending vs)))
map-gives vs h = closed-within (of_map (ascending vs)) (map-closed (ascending vs) (ascending_hold (pair_of term) [] [] vs (all-fit (pair_of term) IsPair vs (λ v q. q) h)))

process-gives : (vs : List Tree) → Every IsClosed vs → Gives IsOperand (within_limits (made_node par (flat_map held vs)))
process-gives vs h =
    let t = made_node par (flat_map held vs) in
    let c : IsClosed t = (tt, ascending_hold part [] [] (flat_map held vs) (flat-fit vs (all-fit term IsClosed vs (λ v q. q) h))) in
    fewer (Small IsClosed) IsOperand (within_limits t) (λ v q. (q.0, omega (arith, q.1.1))) (limited IsClosed t c)

pub one-gives : (P : Tree → Type 0) (o : Outcome Tree) → Gives P o.answer → Gives (IsOne P) (in_order (o ∷ [])).answer
one-gives P o h = after-gives P (IsOne P) o (λ x. after (in_order []) (λ xs. pure (x ∷ xs))) h (λ x q. q)

pub two-give : (P Q : Tree → Type 0) (o u : Outcome Tree) → Gives P o.answer → Gives Q u.answer → Gives (AreTwo P Q) (in_order (o ∷ u ∷ [])).answer
two-give P Q o u h k =
    after-gives P (AreTwo P Q) o (λ x. after (in_order (u ∷ [])) (λ xs. pure (x ∷ xs))) h
    (λ x q. after-gives (IsOne Q) (AreTwo P Q) (in_order (u ∷ [])) (λ xs. pure (x ∷ xs)) (one-gives Q u k) (λ xs r. two-of P Q x xs q r))

unary-gives : (p : Prices) (o : UnaryOp) (vs : List Tree) → IsOne IsOperand vs → Gives IsClosed (operated p vs (unary_answer o (at 0 vs))).answer
unary-gives p o (v ∷ []) h = checked-closed (unary_answer o v) (unary_is_closed o v h.0 h.1)
unary-gives p o [] h = absurd h
unary-gives p o (v ∷ w ∷ vs) h = absurd h

binary-gives : (p : Prices) (o : BinaryOp) (vs : List Tree) → AreTwo IsOperand IsOperand vs → Gives IsClosed (operated p vs (binary_answer o (at 0 vs) (at 1 vs))).answer
binary-gives p o (v ∷ w ∷ []) h = checked-closed (binary_answer o v w) (binary_is_closed o v w h.0.0 h.0.1 h.1.0 h.1.1)
binary-gives p o [] h = absurd h
binary-gives p o (v ∷ []) h = absurd h
binary-gives p o (v ∷ w ∷ u ∷ vs) h = absurd h

method-gives : (p : Prices) (n : List ℕ) (vs : List Tree) → AreTwo IsOperand IsRow vs → Gives IsClosed (operated p (at 0 vs ∷ held (at 1 vs)) (method_answer n (at 0 vs) (held (at 1 vs)))).answer
method-gives p n (v ∷ w ∷ []) h = checked-closed (method_answer n v (held w)) (method_is_closed n v (held w) h.0.0 h.0.1 (row-closed w h.1))
method-gives p n [] h = absurd h
method-gives p n (v ∷ []) h = absurd h
method-gives p n (v ∷ w ∷ u ∷ vs) h = absurd h

bundle-closed : (r : Rights) (vs : List Tree) → IsOne IsOperand vs → IsClosed (only (many (bundle r) vs))
bundle-closed r (v ∷ []) h = (tt, ((tt, (h.0, tt)), tt))
bundle-closed r [] h = absurd h
bundle-closed r (v ∷ w ∷ vs) h = absurd h

pair-of-two : (vs : List Tree) → AreTwo IsOperand IsOperand vs → IsPair (many pair vs)
pair-of-two (v ∷ w ∷ []) h = (tt, (h.0.0, (h.1.0, tt)))
pair-of-two [] h = absurd h
pair-of-two (v ∷ []) h = absurd h
pair-of-two (v ∷ w ∷ u ∷ vs) h = absurd h

only-closed : (t : Tree) → Fits part [] t → IsClosed (only t)
only-closed t h = (tt, (h, tt))

mutual
  unfolding value values

  -- the value of a closed process
  pub term-value : (p : Prices) (t : Tree) → IsClosed t → Gives IsOperand (value p t).answer
  term-value p (node par ts) h =
      after-gives (Every IsClosed) IsOperand (in_code_order (codes ts) (values p ts)) (λ vs. free (within_limits (made_node par (flat_map held vs))))
      (code-order-gives IsClosed (codes ts) (values p ts) (part-values p [] ts h.1)) (λ vs q. process-gives vs q)
  term-value p (node _ ts) h = absurd h.1

  -- the value of a closed part
  pub part-value : (p : Prices) (t : Tree) → Fits part [] t → Gives IsClosed (value p t).answer
  part-value p (node (bool x) ts) h = only-closed (node (bool x) ts) h
  part-value p (node (int x) ts) h = only-closed (node (int x) ts) h
  part-value p (node (str x) ts) h = only-closed (node (str x) ts) h
  part-value p (node (uri x) ts) h = only-closed (node (uri x) ts) h
  part-value p (node (bytes x) ts) h = only-closed (node (bytes x) ts) h
  part-value p (node (fresh x) ts) h = only-closed (node (fresh x) ts) h
  part-value p (node (var x) ts) h = only-closed (node (var x) ts) h
  part-value p (node (name_var x) ts) h = only-closed (node (name_var x) ts) h
  part-value p (node (send q) ts) h = only-closed (node (send q) ts) h
  part-value p (node (receive k) ts) h = only-closed (node (receive k) ts) h
  part-value p (node (new os) ts) h = only-closed (node (new os) ts) h
  part-value p (node match ts) h = only-closed (node match ts) h
  part-value p (node list ts) h =
      after-gives (EachOf IsOperand (length (values p ts))) IsClosed (in_order (values p ts)) (λ vs. free (within_limits (only (many list vs))))
      (in-order-gives IsOperand (values p ts) (term-values p [] ts h.1)) (λ vs q. list-gives vs q.0)
  part-value p (node tuple ts) h =
      after-gives (EachOf IsOperand (length (values p ts))) IsClosed (in_order (values p ts)) (λ vs. free (within_limits (only (many tuple vs))))
      (in-order-gives IsOperand (values p ts) (term-values p [] ts h.1)) (λ vs q. tuple-gives (length (values p ts)) vs (omega (arith, h.0, values-count p ts)) q)
  part-value p (node set ts) h =
      after-gives (Every IsOperand) IsClosed (in_code_order (codes ts) (values p ts)) (λ vs. free (within_limits (of_set vs)))
      (code-order-gives IsOperand (codes ts) (values p ts) (term-values p [] ts h.1)) (λ vs q. set-gives vs q)
  part-value p (node dict ts) h =
      after-gives (Every IsPair) IsClosed (in_code_order (codes ts) (values p ts)) (λ vs. free (within_limits (of_map (ascending vs))))
      (code-order-gives IsPair (codes ts) (values p ts) (pair-values p [] ts h.1)) (λ vs q. map-gives vs q)
  part-value p (node (bundle r) none) h = absurd h.1
  part-value p (node (bundle r) (also a none)) h =
      after-gives (IsOne IsOperand) IsClosed (in_order (value p a ∷ [])) (λ vs. pure (only (many (bundle r) vs)))
      (one-gives IsOperand (value p a) (term-value p a h.1.0)) (λ vs q. bundle-closed r vs q)
  part-value p (node (bundle r) (also a (also b us))) h = absurd h.1.1
  part-value p (node (unary o) none) h = absurd h.1
  part-value p (node (unary o) (also a none)) h =
      after-gives (IsOne IsOperand) IsClosed (in_order (value p a ∷ [])) (λ vs. operated p vs (unary_answer o (at 0 vs)))
      (one-gives IsOperand (value p a) (term-value p a h.1.0)) (λ vs q. unary-gives p o vs q)
  part-value p (node (unary o) (also a (also b us))) h = absurd h.1.1
  part-value p (node (binary o) none) h = absurd h.1
  part-value p (node (binary o) (also a none)) h = absurd h.1.1
  part-value p (node (binary o) (also a (also b none))) h =
      after-gives (AreTwo IsOperand IsOperand) IsClosed (in_order (value p a ∷ value p b ∷ [])) (λ vs. operated p vs (binary_answer o (at 0 vs) (at 1 vs)))
      (two-give IsOperand IsOperand (value p a) (value p b) (term-value p a h.1.0) (term-value p b h.1.1.0)) (λ vs q. binary-gives p o vs q)
  part-value p (node (binary o) (also a (also b (also c us)))) h = absurd h.1.1.1
  part-value p (node (method n) none) h = absurd h.1
  part-value p (node (method n) (also a none)) h = absurd h.1.1
  part-value p (node (method n) (also a (also b none))) h =
      after-gives (AreTwo IsOperand IsRow) IsClosed (in_order (value p a ∷ value p b ∷ [])) (λ vs. operated p (at 0 vs ∷ held (at 1 vs)) (method_answer n (at 0 vs) (held (at 1 vs))))
      (two-give IsOperand IsRow (value p a) (value p b) (term-value p a h.1.0) (row-value p b h.1.1.0)) (λ vs q. method-gives p n vs q)
  part-value p (node (method n) (also a (also b (also c us)))) h = absurd h.1.1.1
  part-value p (node _ ts) h = absurd h.1

  row-value : (p : Prices) (t : Tree) → Fits (row_of term) [] t → Gives IsRow (value p t).answer
  row-value p (node row ts) h =
      after-gives (EachOf IsOperand (length (values p ts))) IsRow (in_order (values p ts)) (λ vs. pure (many row vs))
      (in-order-gives IsOperand (values p ts) (term-values p [] ts h.1)) (λ vs q. (tt, terms-fit vs q.0))
  row-value p (node _ ts) h = absurd h.1

  pair-value : (p : Prices) (t : Tree) → IsPair t → Gives IsPair (value p t).answer
  pair-value p (node pair none) h = absurd h.1
  pair-value p (node pair (also a none)) h = absurd h.1.1
  pair-value p (node pair (also a (also b none))) h =
      after-gives (AreTwo IsOperand IsOperand) IsPair (in_order (value p a ∷ value p b ∷ [])) (λ vs. pure (many pair vs))
      (two-give IsOperand IsOperand (value p a) (value p b) (term-value p a h.1.0) (term-value p b h.1.1.0)) (λ vs q. pair-of-two vs q)
  pair-value p (node pair (also a (also b (also c us)))) h = absurd h.1.1.1
  pair-value p (node _ ts) h = absurd h.1

  part-values : (p : Prices) (o : List Sense) (ts : Trees) → Hold (all part) [] o ts → EachGives IsClosed (values p ts)
  part-values p o none h = tt
  part-values p o (also t ts) h = (part-value p t h.0, part-values p o ts h.1)

  pub term-values : (p : Prices) (o : List Sense) (ts : Trees) → Hold (all term) [] o ts → EachGives IsOperand (values p ts)
  term-values p o none h = tt
  term-values p o (also t ts) h = (term-value p t h.0, term-values p o ts h.1)

  pair-values : (p : Prices) (o : List Sense) (ts : Trees) → Hold (all (pair_of term)) [] o ts → EachGives IsPair (values p ts)
  pair-values p o none h = tt
  pair-values p o (also t ts) h = (pair-value p t h.0, pair-values p o ts h.1)

pub value_is_closed : ValueIsClosed
value_is_closed p t h = to-closed (value p t).answer (fewer IsOperand IsClosed (value p t).answer (λ v q. q.0) (term-value p t h))

-- anything at all
abbrev Anything : Tree → Type 0
Anything v = ⊤

all-anything : (vs : List Tree) → Every Anything vs
all-anything [] = tt
all-anything (v ∷ vs) = (tt, all-anything vs)

anything : (a : Answer (List Tree)) → Gives (Every Anything) a
anything (gives vs) = all-anything vs
anything (fails f) = tt
anything unknown = tt

-- the value of a process is within the limits
pub small-gives : (p : Prices) (ts : Trees) → Gives IsSmall (value p (node par ts)).answer
unfolding value values
small-gives p ts =
    after-gives (Every Anything) IsSmall (in_code_order (codes ts) (values p ts)) (λ vs. free (within_limits (made_node par (flat_map held vs))))
    (anything (in_code_order (codes ts) (values p ts)).answer)
    (λ vs q. fewer (Small Anything) IsSmall (within_limits (made_node par (flat_map held vs))) (λ v r. r.1) (limited Anything (made_node par (flat_map held vs)) tt))

checked-small : (a : Answer Tree) → Gives IsSmall (checked a)
checked-small (gives v) = fewer (Small Anything) IsSmall (within_limits v) (λ v r. r.1) (limited Anything v tt)
checked-small (fails f) = tt
checked-small unknown = tt

small-operated : (p : Prices) (ts : Trees) (f : List Tree → List Tree) (g : List Tree → Answer Tree) → Gives IsSmall (after (in_order (values p ts)) (λ vs. operated p (f vs) (g vs))).answer
small-operated p ts f g = after-gives (Every Anything) IsSmall (in_order (values p ts)) (λ vs. operated p (f vs) (g vs)) (anything (in_order (values p ts)).answer) (λ vs q. checked-small (g vs))

-- what an operator or a method comes to is within the limits
pub unary-small : (p : Prices) (o : UnaryOp) (ts : Trees) → Gives IsSmall (value p (node (unary o) ts)).answer
unfolding value values
unary-small p o ts = small-operated p ts (λ vs. vs) (λ vs. unary_answer o (at 0 vs))

pub binary-small : (p : Prices) (o : BinaryOp) (ts : Trees) → Gives IsSmall (value p (node (binary o) ts)).answer
unfolding value values
binary-small p o ts = small-operated p ts (λ vs. vs) (λ vs. binary_answer o (at 0 vs) (at 1 vs))

pub method-small : (p : Prices) (n : List ℕ) (ts : Trees) → Gives IsSmall (value p (node (method n) ts)).answer
unfolding value values
method-small p n ts = small-operated p ts (λ vs. at 0 vs ∷ held (at 1 vs)) (λ vs. method_answer n (at 0 vs) (held (at 1 vs)))

had : (P : Tree → Type 0) (a : Answer Tree) (v : Tree) → a ≡ gives v → Gives P a → P v
had P a v e h = subst (Gives P) e h

pub value_is_within : ValueIsWithin
value_is_within p ts v e = had IsSmall (value p (node par ts)).answer v e (small-gives p ts)
