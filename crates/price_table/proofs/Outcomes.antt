-- How work that gives something, or stops, tells of the work that it is a part of.
use Rattle.std.proofs.Common.{◌≡◌, ◌≤◌, ◌<◌, ℕ, ◌+◌, List, [], ◌∷◌, ◌++◌, refl, sym, ap, ◌∙◌, subst, arith, append_assoc, append-nil, length, drop, get_or, map, suc, drop-cons, add-one, drop_of_length-le}
use Rattle.std.specs.Prelude.{Result, Ok, Err}
use Rattle.std.specs.Result.{MatchResult, IsErrAnd}
use Rattle.calculus.specs.declared.fault.FaultKind.{FaultKind}
use Rattle.calculus.specs.Outcome.{Outcome, gives, fails, pure, charged, then_do, after, in_order}
use Rattle.calculus.proofs.Room.{grows}
use Rattle.price_table.specs.declared.stop.EvalStop.{EvalStop}
use Rattle.price_table.specs.declared.stop.EvalStop.TheVariants.{Fault, Over, NoMemory}
use Rattle.price_table.specs.Outcomes.{Came, Stopped}

-- work after a result
after-result : {A B : Type 0} (o : Outcome A) (x : A) (f : A → Outcome B) → o.answer ≡ gives x → after o f ≡ charged o.price (f x)
after-result o x f e = ap (λ a. then_do o.price a f) e

after-fault : {A B : Type 0} (o : Outcome A) (k : FaultKind) (f : A → Outcome B) → o.answer ≡ fails k → after o f ≡ record { price = o.price; answer = fails k }
after-fault o k f e = ap (λ a. then_do o.price a f) e

pub came-pure : {A : Type 0} (cap n : ℕ) (x : A) → n ≤ cap → Came cap n n x (pure x)
came-pure cap n x h = record { answer = refl; price = omega arith; fits = h }

-- what was given, and what came after it
pub came-after : {A B : Type 0} (cap n m k : ℕ) (x : A) (y : B) (o : Outcome A) (f : A → Outcome B) → Came cap n m x o → Came cap m k y (f x) → Came cap n k y (after o f)
came-after cap n m k x y o f a b =
    let e = after-result o x f a.answer in
    record {
      answer = ap (λ (u : Outcome _). u.answer) e ∙ b.answer;
      price = omega (arith, a.price, b.price, ap (λ (u : Outcome _). u.price) e);
      fits = b.fits;
    }

-- the first work stops
pub stopped-first : {A B : Type 0} (cap n : ℕ) (o : Outcome A) (f : A → Outcome B) (e : EvalStop) → Stopped cap n o e → Stopped cap n (after o f) e
stopped-first cap n o f (Fault k p) h =
    let e = after-fault o k f h.0 in
    (ap (λ (u : Outcome _). u.answer) e, omega (arith, h.1, ap (λ (u : Outcome _). u.price) e), h.2)
stopped-first cap n o f Over h = omega (arith, h, grows o.price o.answer f)
stopped-first cap n o f NoMemory h = h

pub later : {B : Type 0} (cap n m c : ℕ) (u v : Outcome B) (e : EvalStop) → u ≡ charged c v → m ≡ n + c → Stopped cap m v e → Stopped cap n u e
later cap n m c u v (Fault k p) q w h = (ap (λ (o : Outcome _). o.answer) q ∙ h.0, omega (arith, h.1, w, ap (λ (o : Outcome _). o.price) q), h.2)
later cap n m c u v Over q w h = omega (arith, h, w, ap (λ (o : Outcome _). o.price) q)
later cap n m c u v NoMemory q w h = h

-- the first work gives a result, and what comes after it stops
pub stopped-after : {A B : Type 0} (cap n m : ℕ) (x : A) (o : Outcome A) (f : A → Outcome B) (e : EvalStop) → Came cap n m x o → Stopped cap m (f x) e → Stopped cap n (after o f) e
stopped-after cap n m x o f e a h = later cap n m o.price (after o f) (f x) e (after-result o x f a.answer) a.price h

-- one piece of work after another
pub came-cons : {A : Type 0} (cap n m k : ℕ) (x : A) (xs : List A) (o : Outcome A) (os : List (Outcome A)) → Came cap n m x o → Came cap m k xs (in_order os) → Came cap n k (x ∷ xs) (in_order (o ∷ os))
came-cons cap n m k x xs o os a b =
    came-after cap n m k x (x ∷ xs) o (λ y. after (in_order os) (λ ys. pure (y ∷ ys))) a
    (came-after cap m k k xs (x ∷ xs) (in_order os) (λ ys. pure (x ∷ ys)) b (came-pure cap k (x ∷ xs) b.fits))

pub stopped-cons : {A : Type 0} (cap n : ℕ) (o : Outcome A) (os : List (Outcome A)) (e : EvalStop) → Stopped cap n o e → Stopped cap n (in_order (o ∷ os)) e
stopped-cons cap n o os e h = stopped-first cap n o (λ y. after (in_order os) (λ ys. pure (y ∷ ys))) e h

pub stopped-rest : {A : Type 0} (cap n m : ℕ) (x : A) (o : Outcome A) (os : List (Outcome A)) (e : EvalStop) → Came cap n m x o → Stopped cap m (in_order os) e → Stopped cap n (in_order (o ∷ os)) e
stopped-rest cap n m x o os e a h =
    stopped-after cap n m x o (λ y. after (in_order os) (λ ys. pure (y ∷ ys))) e a (stopped-first cap m (in_order os) (λ ys. pure (x ∷ ys)) e h)

pub came-one : {A : Type 0} (cap n m : ℕ) (x : A) (o : Outcome A) → Came cap n m x o → Came cap n m (x ∷ []) (in_order (o ∷ []))
came-one cap n m x o a = came-cons cap n m m x [] o [] a (came-pure cap m [] a.fits)

pub came-two : {A : Type 0} (cap n m k : ℕ) (x y : A) (o u : Outcome A) → Came cap n m x o → Came cap m k y u → Came cap n k (x ∷ y ∷ []) (in_order (o ∷ u ∷ []))
came-two cap n m k x y o u a b = came-cons cap n m k x (y ∷ []) o (u ∷ []) a (came-one cap m k y u b)

-- what an error that `?` passes on says
pub exit : {X : Type 0} (P : X → Type 0) (Q : EvalStop → Type 0) (r : Result X EvalStop) (e : EvalStop) → IsErrAnd r (λ d. d ≡ e) → Q e → MatchResult r P Q
exit P Q (Ok x) e h q = absurd h
exit P Q (Err d) e h q = subst Q (sym h) q

pub exit-memory : {X A : Type 0} (P : X → Type 0) (cap n : ℕ) (o : Outcome A) (r : Result X EvalStop) → IsErrAnd r (λ d. d ≡ NoMemory) → MatchResult r P (Stopped cap n o)
exit-memory P cap n o r h = exit P (Stopped cap n o) r NoMemory h (search)

-- all of these come to what was given and then what those that are left come to
pub record Leads {A : Type 0} (cap from at : ℕ) (given : List A) (all left : List (Outcome A)) : Type 0 where
  pub came : (m : ℕ) (xs : List A) → Came cap at m xs (in_order left) → Came cap from m (given ++ xs) (in_order all)
  pub stopped : (e : EvalStop) → Stopped cap at (in_order left) e → Stopped cap from (in_order all) e

pub leads-none : {A : Type 0} (cap n : ℕ) (os : List (Outcome A)) → Leads cap n n [] os os
leads-none cap n os = record { came = λ m xs h. h; stopped = λ e h. h }

pub leads-next : {A : Type 0} (cap n m k : ℕ) (xs : List A) (x : A) (all left rest : List (Outcome A)) (o : Outcome A) → left ≡ o ∷ rest → Leads cap n m xs all left → Came cap m k x o → Leads cap n k (xs ++ x ∷ []) all rest
leads-next cap n m k xs x all left rest o e l a =
    record {
      came = λ j ys h. subst (λ zs. Came cap n j zs (in_order all)) (sym (append_assoc xs (x ∷ []) ys)) (l.came j (x ∷ ys) (subst (λ os. Came cap m j (x ∷ ys) (in_order os)) (sym e) (came-cons cap m k j x ys o rest a h)));
      stopped = λ d h. l.stopped d (subst (λ os. Stopped cap m (in_order os) d) (sym e) (stopped-rest cap m k x o rest d a h));
    }

pub leads-stop : {A : Type 0} (cap n m : ℕ) (xs : List A) (all left rest : List (Outcome A)) (o : Outcome A) (e : EvalStop) → left ≡ o ∷ rest → Leads cap n m xs all left → Stopped cap m o e → Stopped cap n (in_order all) e
leads-stop cap n m xs all left rest o e q l h = l.stopped e (subst (λ os. Stopped cap m (in_order os) e) (sym q) (stopped-cons cap m o rest e h))

pub leads-end : {A : Type 0} (cap n m : ℕ) (xs : List A) (all left : List (Outcome A)) → left ≡ [] → m ≤ cap → Leads cap n m xs all left → Came cap n m xs (in_order all)
leads-end cap n m xs all left e f l =
    subst (λ zs. Came cap n m zs (in_order all)) (append-nil xs) (l.came m [] (subst (λ os. Came cap m m [] (in_order os)) (sym e) (came-pure cap m [] f)))

-- what is left begins with the next one
pub next-of : {A B : Type 0} (f : A → B) (xs : List A) (i : ℕ) (x : A) → i < length xs → x ≡ get_or xs i x → map f (drop i xs) ≡ f x ∷ map f (drop (i + 1) xs)
next-of f xs i x l e = ap (map f) (drop-cons xs i x l) ∙ (ap (λ y. f y ∷ map f (drop (suc i) xs)) (sym e) ∙ ap (λ k. f x ∷ map f (drop k xs)) (sym (add-one i)))

pub none-of : {A B : Type 0} (f : A → B) (xs : List A) (i : ℕ) → length xs ≤ i → map f (drop i xs) ≡ []
none-of f xs i l = ap (map f) (drop_of_length-le xs l)

-- work that a form's is made of stops
pub stop-form : {A B : Type 0} (cap n : ℕ) (u : Outcome B) (o : Outcome A) (f : A → Outcome B) (e : EvalStop) → u ≡ after o f → Stopped cap n o e → Stopped cap n u e
stop-form cap n u o f e q h = subst (λ (w : Outcome _). Stopped cap n w e) (sym q) (stopped-first cap n o f e h)

-- it gives something, and then the form's own work does
pub come-form : {A B : Type 0} (cap n m k : ℕ) (x : A) (y : B) (u : Outcome B) (o : Outcome A) (f : A → Outcome B) → u ≡ after o f → Came cap n m x o → Came cap m k y (f x) → Came cap n k y u
come-form cap n m k x y u o f q a b = subst (λ (w : Outcome _). Came cap n k y w) (sym q) (came-after cap n m k x y o f a b)

-- it gives something, and then the form's own work gives something or stops
pub told-form : {A B P : Type 0} (price : P → ℕ) (val : P → B) (cap n m : ℕ) (x : A) (u : Outcome B) (o : Outcome A) (f : A → Outcome B) (r : Result P EvalStop) → u ≡ after o f → Came cap n m x o
    → MatchResult r (λ q. Came cap m (price q) (val q) (f x)) (λ e. Stopped cap m (f x) e) → MatchResult r (λ q. Came cap n (price q) (val q) u) (λ e. Stopped cap n u e)
told-form price val cap n m x u o f (Ok q) e a h = come-form cap n m (price q) x (val q) u o f e a h
told-form price val cap n m x u o f (Err d) e a h = subst (λ (w : Outcome _). Stopped cap n w d) (sym e) (stopped-after cap n m x o f d a h)
