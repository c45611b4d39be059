-- Outcomes that agree: one price, and related results or one fault.
use Rattle.std.proofs.Common.{◌≡◌, ℕ, ◌+◌, ◌*◌, Bool, true, false, cond, List, [], ◌∷◌, length, refl, sym, ap, ◌∙◌}
use Rattle.std.specs.Prelude.{⊤, ltb, sum_by}
use Rattle.std.specs.List.{AllZip}
use Rattle.std.proofs.lemmas.Bool.{false≢true}
use Rattle.std.proofs.lemmas.List.Sums.{sum_by-cons}
use Rattle.calculus.specs.declared.fault.FaultKind.TheVariants as fault
use Rattle.calculus.specs.Tree.{Tree}
use Rattle.calculus.specs.Code.{code}
use Rattle.calculus.specs.Size.{height}
use Rattle.calculus.specs.Outcome.{Prices, Answer, gives, fails, unknown, Outcome, pure, then_do, after, in_order, within_limits}
use Rattle.calculus.specs.Values.{checked, operated}
use Rattle.calculus.proofs.Equivalence.{agree, heights_equal}
use Rattle.process_laws.proofs.Kept.{code-kept}
use Rattle.process_laws.proofs.Twins.{Shape, a_process, Twin, twin-key}

-- related results, or one fault
abbrev pub Answers : {A : Type 0} → (A → A → Type 0) → Answer A → Answer A → Type 0
Answers R (gives x) (gives y) = R x y
Answers R (fails f) (fails g) = f ≡ g
Answers R unknown unknown = ⊤
Answers R _ _ = ⊥

abbrev pub Ends : {A : Type 0} → (A → A → Type 0) → Outcome A → Outcome A → Type 0
Ends R o q = (o.price ≡ q.price) × Answers R o.answer q.answer

-- an answer by a choice that is the same on both sides
pub answers-cond : {A : Type 0} (R : A → A → Type 0) (b c : Bool) (x y v w : Answer A) → b ≡ c → Answers R x v → Answers R y w → Answers R (cond b x y) (cond c v w)
answers-cond R true true x y v w e h k = h
answers-cond R false false x y v w e h k = k
answers-cond R true false x y v w e h k = absurd (false≢true (sym e))
answers-cond R false true x y v w e h k = absurd (false≢true e)

module _ {A B : Type 0} (R : A → A → Type 0) (S : B → B → Type 0) where
  then-ends : (m n : ℕ) (a b : Answer A) (f g : A → Outcome B) → m ≡ n → Answers R a b → ((x y : A) → R x y → Ends S (f x) (g y)) → Ends S (then_do m a f) (then_do n b g)
  then-ends m n (gives x) (gives y) f g e h k = let r = k x y h in (rw (e, r.0), r.1)
  then-ends m n (fails x) (fails y) f g e h k = (e, h)
  then-ends m n unknown unknown f g e h k = (e, tt)
  then-ends m n (gives x) (fails y) f g e h k = absurd h
  then-ends m n (gives x) unknown f g e h k = absurd h
  then-ends m n (fails x) (gives y) f g e h k = absurd h
  then-ends m n (fails x) unknown f g e h k = absurd h
  then-ends m n unknown (gives y) f g e h k = absurd h
  then-ends m n unknown (fails y) f g e h k = absurd h

  pub after-ends : (o q : Outcome A) (f g : A → Outcome B) → Ends R o q → ((x y : A) → R x y → Ends S (f x) (g y)) → Ends S (after o f) (after q g)
  after-ends o q f g h k = then-ends o.price q.price o.answer q.answer f g h.0 h.1 k

pub in_order-ends : {A : Type 0} (R : A → A → Type 0) (os qs : List (Outcome A)) → AllZip (Ends R) os qs → Ends (AllZip R) (in_order os) (in_order qs)
in_order-ends R [] [] h = (refl, tt)
in_order-ends R [] (q ∷ qs) h = absurd h
in_order-ends R (o ∷ os) [] h = absurd h
in_order-ends R (o ∷ os) (q ∷ qs) h =
    after-ends R (AllZip R) o q (λ x. after (in_order os) (λ xs. pure (x ∷ xs))) (λ x. after (in_order qs) (λ xs. pure (x ∷ xs))) h.0
    (λ x y r. after-ends (AllZip R) (AllZip R) (in_order os) (in_order qs) (λ xs. pure (x ∷ xs)) (λ xs. pure (y ∷ xs)) (in_order-ends R os qs h.1) (λ xs ys k. (refl, (r, k))))

pub limits-agree : (s : Shape) (t u : Tree) → Twin s t u → Answers (Twin s) (within_limits t) (within_limits u)
limits-agree s t u h =
    let e = twin-key s t u h in
    answers-cond (Twin s) (ltb 400 (height t)) (ltb 400 (height u)) (fails fault.TooDeep) (cond (ltb 1048576 (length (code t))) (fails fault.TooBig) (gives t)) (fails fault.TooDeep) (cond (ltb 1048576 (length (code u))) (fails fault.TooBig) (gives u))
    (ap (ltb 400) (heights_equal t u ((agree t u).1 e))) refl
    (answers-cond (Twin s) (ltb 1048576 (length (code t))) (ltb 1048576 (length (code u))) (fails fault.TooBig) (gives t) (fails fault.TooBig) (gives u)
    (ap (λ c. ltb 1048576 (length c)) (code-kept t u e)) refl h)

pub checked-agree : (s : Shape) (a b : Answer Tree) → Answers (Twin s) a b → Answers (Twin s) (checked a) (checked b)
checked-agree s (gives x) (gives y) h = limits-agree s x y h
checked-agree s (fails x) (fails y) h = h
checked-agree s unknown unknown h = tt
checked-agree s (gives x) (fails y) h = absurd h
checked-agree s (gives x) unknown h = absurd h
checked-agree s (fails x) (gives y) h = absurd h
checked-agree s (fails x) unknown h = absurd h
checked-agree s unknown (gives y) h = absurd h
checked-agree s unknown (fails y) h = absurd h

same_sum : (s : Shape) (vs ws : List Tree) → AllZip (Twin s) vs ws → sum_by (λ v. length (code v)) vs ≡ sum_by (λ v. length (code v)) ws
same_sum s [] [] h = refl
same_sum s [] (w ∷ ws) h = absurd h
same_sum s (v ∷ vs) [] h = absurd h
same_sum s (v ∷ vs) (w ∷ ws) h =
    sum_by-cons (λ x. length (code x)) v vs ∙ ap (λ c. length c + sum_by (λ x. length (code x)) vs) (code-kept v w (twin-key s v w h.0))
    ∙ ap (λ n. length (code w) + n) (same_sum s vs ws h.1) ∙ sym (sum_by-cons (λ x. length (code x)) w ws)

pub operated-ends : (p : Prices) (vs ws : List Tree) (a b : Answer Tree) → AllZip (Twin a_process) vs ws → Answers (Twin a_process) a b → Ends (Twin a_process) (operated p vs a) (operated p ws b)
operated-ends p vs ws a b h k = (ap (λ n. p.op + p.byte * n + 0) (same_sum a_process vs ws h), checked-agree a_process a b k)
