-- The value of what is good is good, and known.
use Rattle.std.proofs.Common.{ℕ, Bool, true, false, cond, ltb, List, [], ◌∷◌, length, flat_map, zip}
use Rattle.std.specs.Prelude.{⊤}
use Rattle.calculus.proofs.Members.{Every}
use Rattle.calculus.specs.declared.plain.UnaryOp.{UnaryOp}
use Rattle.calculus.specs.declared.plain.BinaryOp.{BinaryOp}
use Rattle.calculus.specs.declared.plain.Rights.{Rights}
use Rattle.calculus.specs.declared.fault.FaultKind.TheVariants as fault
use Rattle.calculus.specs.Tree.{Label, par, row, bool, int, str, uri, bytes, fresh, list, tuple, set, dict, pair, send, receive, new, match, bundle, unary, binary, method, Tree, node, Trees, none, also}
use Rattle.calculus.specs.Shape.{held, at, many, only, one}
use Rattle.calculus.specs.Size.{height}
use Rattle.calculus.specs.Code.{code, codes}
use Rattle.calculus.specs.Normal.{arranged_by, ascending, made_node}
use Rattle.calculus.specs.Outcome.{Prices, Answer, gives, fails, unknown, Outcome, free, pure, then_do, after, in_order, within_limits}
use Rattle.calculus.specs.Operators.{unary_answer, binary_answer, of_set, of_map}
use Rattle.calculus.specs.Methods.{method_answer}
use Rattle.calculus.specs.Values.{in_code_order, checked, operated, value, values}
use Rattle.calculus.proofs.Results.{IsOne, AreTwo, two-of}
use Rattle.process_laws.proofs.Lists.{arranged-every, ascending-every, zip-every}
use Rattle.process_laws.proofs.Goodness.{a_term, a_part, a_pair, the_terms, each_is, open_slots, IsGood, AreGoodKids, AreGood, trees-good, row-good}
use Rattle.process_laws.proofs.Making.{HasStandard, collections, process-good, only-good, list-good, tuple-good, set-good, map-good, flat-good}
use Rattle.process_laws.proofs.Answering.{IsKnownWith, unary-good, binary-good}
use Rattle.process_laws.proofs.Calling.{method-good}

-- work comes to a known answer, with this said of its result
abbrev pub ComesTo : {A : Type 0} → (A → Type 0) → Outcome A → Type 0
ComesTo P o = IsKnownWith P o.answer

then-comes : {A B : Type 0} (P : A → Type 0) (Q : B → Type 0) (n : ℕ) (a : Answer A) (f : A → Outcome B) → IsKnownWith P a → ((v : A) → P v → ComesTo Q (f v)) → ComesTo Q (then_do n a f)
then-comes P Q n (gives v) f h g = g v h
then-comes P Q n (fails e) f h g = tt
then-comes P Q n unknown f h g = absurd h

pub after-comes : {A B : Type 0} (P : A → Type 0) (Q : B → Type 0) (o : Outcome A) (f : A → Outcome B) → ComesTo P o → ((v : A) → P v → ComesTo Q (f v)) → ComesTo Q (after o f)
after-comes P Q o f h g = then-comes P Q o.price o.answer f h g

pub in_order-comes : {A : Type 0} (P : A → Type 0) (os : List (Outcome A)) → Every (ComesTo P) os → ComesTo (Every P) (in_order os)
in_order-comes P [] h = tt
in_order-comes P (o ∷ os) h =
    after-comes P (Every P) o (λ v. after (in_order os) (λ vs. pure (v ∷ vs))) h.0
    (λ v a. after-comes (Every P) (Every P) (in_order os) (λ vs. pure (v ∷ vs)) (in_order-comes P os h.1) (λ vs b. (a, b)))

pub within-knows : (P : Tree → Type 0) (t : Tree) → P t → IsKnownWith P (within_limits t)
within-knows P t h = go (ltb 400 (height t)) (ltb 1048576 (length (code t)))
  where
    go : (a b : Bool) → IsKnownWith P (cond a (fails fault.TooDeep) (cond b (fails fault.TooBig) (gives t)))
    go true b = tt
    go false true = tt
    go false false = h

checked-knows : (P : Tree → Type 0) (a : Answer Tree) → IsKnownWith P a → IsKnownWith P (checked a)
checked-knows P (gives t) h = within-knows P t h
checked-knows P (fails f) h = tt
checked-knows P unknown h = absurd h

code-order-comes : {A : Type 0} (P : A → Type 0) (cs : List (List ℕ)) (os : List (Outcome A)) → Every (ComesTo P) os → ComesTo (Every P) (in_code_order cs os)
code-order-comes P cs os h = in_order-comes P (arranged_by (zip cs os)) (arranged-every (ComesTo P) (zip cs os) (zip-every (ComesTo P) cs os h))

one-comes : (P : Tree → Type 0) (o : Outcome Tree) → ComesTo P o → ComesTo (IsOne P) (in_order (o ∷ []))
one-comes P o h = after-comes P (IsOne P) o (λ x. after (in_order []) (λ xs. pure (x ∷ xs))) h (λ x q. q)

two-come : (P Q : Tree → Type 0) (o u : Outcome Tree) → ComesTo P o → ComesTo Q u → ComesTo (AreTwo P Q) (in_order (o ∷ u ∷ []))
two-come P Q o u h k =
    after-comes P (AreTwo P Q) o (λ x. after (in_order (u ∷ [])) (λ xs. pure (x ∷ xs))) h
    (λ x q. after-comes (IsOne Q) (AreTwo P Q) (in_order (u ∷ [])) (λ xs. pure (x ∷ xs)) (one-comes Q u k) (λ xs r. two-of P Q x xs q r))

-- an operator or a method
abbrev pub IsOperator : Label → Type 0
IsOperator (unary o) = ⊤
IsOperator (binary o) = ⊤
IsOperator (method n) = ⊤
IsOperator _ = ⊥

-- a bundle of a good process has the property
abbrev pub HasBundles : (Tree → Type 0) → Type 0
HasBundles O = (r : Rights) (t : Tree) → IsGood O a_term t → O (one (bundle r) t)

module _ (O : Tree → Type 0) (standard : HasStandard O) (bundles : HasBundles O) (p : Prices) where
  -- a good process
  abbrev IsGoodTerm : Tree → Type 0
  IsGoodTerm v = IsGood O a_term v

  -- a good row
  abbrev IsGoodRow : Tree → Type 0
  IsGoodRow v = IsGood O the_terms v

  unary-comes : (o : UnaryOp) (vs : List Tree) → IsOne IsGoodTerm vs → ComesTo IsGoodTerm (operated p vs (unary_answer o (at 0 vs)))
  unary-comes o (v ∷ []) h = checked-knows IsGoodTerm (unary_answer o v) (unary-good O standard o v)
  unary-comes o [] h = absurd h
  unary-comes o (v ∷ w ∷ vs) h = absurd h

  binary-comes : (o : BinaryOp) (vs : List Tree) → AreTwo IsGoodTerm IsGoodTerm vs → ComesTo IsGoodTerm (operated p vs (binary_answer o (at 0 vs) (at 1 vs)))
  binary-comes o (v ∷ w ∷ []) h = checked-knows IsGoodTerm (binary_answer o v w) (binary-good O standard o v w h.0 h.1)
  binary-comes o [] h = absurd h
  binary-comes o (v ∷ []) h = absurd h
  binary-comes o (v ∷ w ∷ u ∷ vs) h = absurd h

  method-comes : (n : List ℕ) (vs : List Tree) → AreTwo IsGoodTerm IsGoodRow vs → ComesTo IsGoodTerm (operated p (at 0 vs ∷ held (at 1 vs)) (method_answer n (at 0 vs) (held (at 1 vs))))
  method-comes n (v ∷ w ∷ []) h = checked-knows IsGoodTerm (method_answer n v (held w)) (method-good O standard n v (held w) h.0 (row-good O w h.1))
  method-comes n [] h = absurd h
  method-comes n (v ∷ []) h = absurd h
  method-comes n (v ∷ w ∷ u ∷ vs) h = absurd h

  bundle-good : (r : Rights) (vs : List Tree) → IsOne IsGoodTerm vs → IsGoodTerm (only (many (bundle r) vs))
  bundle-good r (v ∷ []) h = (tt, ((bundles r v h, (h, tt)), tt))
  bundle-good r [] h = absurd h
  bundle-good r (v ∷ w ∷ vs) h = absurd h

  pair-of-two : (vs : List Tree) → AreTwo IsGoodTerm IsGoodTerm vs → IsGood O a_pair (many pair vs)
  pair-of-two (v ∷ w ∷ []) h = (tt, (h.0, (h.1, tt)))
  pair-of-two [] h = absurd h
  pair-of-two (v ∷ []) h = absurd h
  pair-of-two (v ∷ w ∷ u ∷ vs) h = absurd h

  made-good : (vs : List Tree) → AreGood O a_term vs → IsGoodTerm (made_node par (flat_map held vs))
  made-good vs h = process-good O (collections O standard) (ascending (flat_map held vs)) (ascending-every (IsGood O a_part) (flat_map held vs) (flat-good O standard vs h))

  mutual
    unfolding value values

    pub term-value : (t : Tree) → IsGood O a_term t → ComesTo IsGoodTerm (value p t)
    term-value (node par ts) h =
        after-comes (Every IsGoodTerm) IsGoodTerm (in_code_order (codes ts) (values p ts)) (λ vs. free (within_limits (made_node par (flat_map held vs))))
        (code-order-comes IsGoodTerm (codes ts) (values p ts) (part-values ts h.1)) (λ vs q. within-knows IsGoodTerm (made_node par (flat_map held vs)) (made-good vs q))
    term-value (node _ ts) h = absurd h.1

    pub part-value : (t : Tree) → IsGood O a_part t → ComesTo IsGoodTerm (value p t)
    part-value (node (bool x) ts) h = only-good O standard (node (bool x) ts) h
    part-value (node (int x) ts) h = only-good O standard (node (int x) ts) h
    part-value (node (str x) ts) h = only-good O standard (node (str x) ts) h
    part-value (node (uri x) ts) h = only-good O standard (node (uri x) ts) h
    part-value (node (bytes x) ts) h = only-good O standard (node (bytes x) ts) h
    part-value (node (fresh x) ts) h = only-good O standard (node (fresh x) ts) h
    part-value (node (send q) ts) h = only-good O standard (node (send q) ts) h
    part-value (node (receive k) ts) h = only-good O standard (node (receive k) ts) h
    part-value (node (new os) ts) h = only-good O standard (node (new os) ts) h
    part-value (node match ts) h = only-good O standard (node match ts) h
    part-value (node list ts) h =
        after-comes (Every IsGoodTerm) IsGoodTerm (in_order (values p ts)) (λ vs. free (within_limits (only (many list vs))))
        (in_order-comes IsGoodTerm (values p ts) (term-values ts h.1)) (λ vs q. within-knows IsGoodTerm (only (many list vs)) (list-good O (collections O standard) vs q))
    part-value (node tuple ts) h =
        after-comes (Every IsGoodTerm) IsGoodTerm (in_order (values p ts)) (λ vs. free (within_limits (only (many tuple vs))))
        (in_order-comes IsGoodTerm (values p ts) (term-values ts h.1)) (λ vs q. within-knows IsGoodTerm (only (many tuple vs)) (tuple-good O standard vs q))
    part-value (node set ts) h =
        after-comes (Every IsGoodTerm) IsGoodTerm (in_code_order (codes ts) (values p ts)) (λ vs. free (within_limits (of_set vs)))
        (code-order-comes IsGoodTerm (codes ts) (values p ts) (term-values ts h.1)) (λ vs q. within-knows IsGoodTerm (of_set vs) (set-good O standard vs q))
    part-value (node dict ts) h =
        after-comes (Every (IsGood O a_pair)) IsGoodTerm (in_code_order (codes ts) (values p ts)) (λ vs. free (within_limits (of_map (ascending vs))))
        (code-order-comes (IsGood O a_pair) (codes ts) (values p ts) (pair-values ts h.1)) (λ vs q. within-knows IsGoodTerm (of_map (ascending vs)) (map-good O standard (ascending vs) (ascending-every (IsGood O a_pair) vs q)))
    part-value (node (bundle r) none) h = absurd h.1
    part-value (node (bundle r) (also a none)) h =
        after-comes (IsOne IsGoodTerm) IsGoodTerm (in_order (value p a ∷ [])) (λ vs. pure (only (many (bundle r) vs)))
        (one-comes IsGoodTerm (value p a) (term-value a h.1.0)) (λ vs q. bundle-good r vs q)
    part-value (node (bundle r) (also a (also b us))) h = absurd h.1.1
    part-value (node (unary o) none) h = absurd h.1
    part-value (node (unary o) (also a none)) h =
        after-comes (IsOne IsGoodTerm) IsGoodTerm (in_order (value p a ∷ [])) (λ vs. operated p vs (unary_answer o (at 0 vs)))
        (one-comes IsGoodTerm (value p a) (term-value a h.1.0)) (λ vs q. unary-comes o vs q)
    part-value (node (unary o) (also a (also b us))) h = absurd h.1.1
    part-value (node (binary o) none) h = absurd h.1
    part-value (node (binary o) (also a none)) h = absurd h.1.1
    part-value (node (binary o) (also a (also b none))) h =
        after-comes (AreTwo IsGoodTerm IsGoodTerm) IsGoodTerm (in_order (value p a ∷ value p b ∷ [])) (λ vs. operated p vs (binary_answer o (at 0 vs) (at 1 vs)))
        (two-come IsGoodTerm IsGoodTerm (value p a) (value p b) (term-value a h.1.0) (term-value b h.1.1.0)) (λ vs q. binary-comes o vs q)
    part-value (node (binary o) (also a (also b (also c us)))) h = absurd h.1.1.1
    part-value (node (method n) none) h = absurd h.1
    part-value (node (method n) (also a none)) h = absurd h.1.1
    part-value (node (method n) (also a (also b none))) h =
        after-comes (AreTwo IsGoodTerm IsGoodRow) IsGoodTerm (in_order (value p a ∷ value p b ∷ [])) (λ vs. operated p (at 0 vs ∷ held (at 1 vs)) (method_answer n (at 0 vs) (held (at 1 vs))))
        (two-come IsGoodTerm IsGoodRow (value p a) (value p b) (term-value a h.1.0) (row-value b h.1.1.0)) (λ vs q. method-comes n vs q)
    part-value (node (method n) (also a (also b (also c us)))) h = absurd h.1.1.1
    part-value (node _ ts) h = absurd h.1

    row-value : (t : Tree) → IsGood O the_terms t → ComesTo IsGoodRow (value p t)
    row-value (node row ts) h =
        after-comes (Every IsGoodTerm) IsGoodRow (in_order (values p ts)) (λ vs. pure (many row vs))
        (in_order-comes IsGoodTerm (values p ts) (term-values ts h.1)) (λ vs q. (tt, trees-good O a_term vs q))
    row-value (node _ ts) h = absurd h.1

    pair-value : (t : Tree) → IsGood O a_pair t → ComesTo (IsGood O a_pair) (value p t)
    pair-value (node pair none) h = absurd h.1
    pair-value (node pair (also a none)) h = absurd h.1.1
    pair-value (node pair (also a (also b none))) h =
        after-comes (AreTwo IsGoodTerm IsGoodTerm) (IsGood O a_pair) (in_order (value p a ∷ value p b ∷ [])) (λ vs. pure (many pair vs))
        (two-come IsGoodTerm IsGoodTerm (value p a) (value p b) (term-value a h.1.0) (term-value b h.1.1.0)) (λ vs q. pair-of-two vs q)
    pair-value (node pair (also a (also b (also c us)))) h = absurd h.1.1.1
    pair-value (node _ ts) h = absurd h.1

    part-values : (ts : Trees) → AreGoodKids O (each_is a_part) ts → Every (ComesTo IsGoodTerm) (values p ts)
    part-values none h = tt
    part-values (also t ts) h = (part-value t h.0, part-values ts h.1)

    pub term-values : (ts : Trees) → AreGoodKids O (each_is a_term) ts → Every (ComesTo IsGoodTerm) (values p ts)
    term-values none h = tt
    term-values (also t ts) h = (term-value t h.0, term-values ts h.1)

    pair-values : (ts : Trees) → AreGoodKids O (each_is a_pair) ts → Every (ComesTo (IsGood O a_pair)) (values p ts)
    pair-values none h = tt
    pair-values (also t ts) h = (pair-value t h.0, pair-values ts h.1)

  -- the value of an operator or a method whose constituents are good
  pub operator-value : (l : Label) (ts : Trees) → IsOperator l → AreGoodKids O (open_slots a_part l) ts → ComesTo IsGoodTerm (value p (node l ts))
  unfolding value values
  operator-value (unary o) none i h = absurd h
  operator-value (unary o) (also a none) i h =
      after-comes (IsOne IsGoodTerm) IsGoodTerm (in_order (value p a ∷ [])) (λ vs. operated p vs (unary_answer o (at 0 vs)))
      (one-comes IsGoodTerm (value p a) (term-value a h.0)) (λ vs q. unary-comes o vs q)
  operator-value (unary o) (also a (also b us)) i h = absurd h.1
  operator-value (binary o) none i h = absurd h
  operator-value (binary o) (also a none) i h = absurd h.1
  operator-value (binary o) (also a (also b none)) i h =
      after-comes (AreTwo IsGoodTerm IsGoodTerm) IsGoodTerm (in_order (value p a ∷ value p b ∷ [])) (λ vs. operated p vs (binary_answer o (at 0 vs) (at 1 vs)))
      (two-come IsGoodTerm IsGoodTerm (value p a) (value p b) (term-value a h.0) (term-value b h.1.0)) (λ vs q. binary-comes o vs q)
  operator-value (binary o) (also a (also b (also c us))) i h = absurd h.1.1
  operator-value (method n) none i h = absurd h
  operator-value (method n) (also a none) i h = absurd h.1
  operator-value (method n) (also a (also b none)) i h =
      after-comes (AreTwo IsGoodTerm IsGoodRow) IsGoodTerm (in_order (value p a ∷ value p b ∷ [])) (λ vs. operated p (at 0 vs ∷ held (at 1 vs)) (method_answer n (at 0 vs) (held (at 1 vs))))
      (two-come IsGoodTerm IsGoodRow (value p a) (value p b) (term-value a h.0) (row-value b h.1.0)) (λ vs q. method-comes n vs q)
  operator-value (method n) (also a (also b (also c us))) i h = absurd h.1.1
  operator-value _ ts i h = absurd i
