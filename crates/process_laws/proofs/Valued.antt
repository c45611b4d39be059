-- Congruent closed processes have values that agree, by induction on the process.
use Rattle.std.proofs.Common.{◌≡◌, ℕ, Bool, true, false, List, [], ◌∷◌, map as each, refl, sym, ap, subst}
use Rattle.std.specs.Prelude.{⊤, zip, flat_map}
use Rattle.std.specs.List.{AllZip}
use Rattle.calculus.specs.Tree.{Label, par, row, bool, int, str, uri, bytes, fresh, var, name_var, list, tuple, set, dict, pair, send, receive, new, match, bundle, unary, binary, method, Tree, node, Trees, none, also}
use Rattle.calculus.specs.Shape.{many, only, held, listed, at}
use Rattle.calculus.specs.Congruence.{is_bag}
use Rattle.calculus.specs.Code.{codes}
use Rattle.calculus.specs.Normal.{made_node, arranged_by, ascending}
use Rattle.calculus.specs.Form.{Sort, term, part, row_of, pair_of, Kids, all, these, no_form, part_kids, kids}
use Rattle.calculus.specs.Outcome.{Prices, Answer, gives, fails, unknown, Outcome, free, pure, after, in_order, within_limits}
use Rattle.calculus.specs.Operators.{unary_answer, binary_answer, of_set, of_map}
use Rattle.calculus.specs.Methods.{method_answer}
use Rattle.calculus.specs.Values.{operated, formed, value, values}
use Rattle.calculus.proofs.Known.{IsForm}
use Rattle.calculus.proofs.Formed.{is_form}
use Rattle.calculus.proofs.Reading.{IsRanged}
use Rattle.calculus.proofs.Ranges.{ranged_closed}
use Rattle.calculus.proofs.Keys.{key}
use Rattle.calculus.proofs.Equivalence.{agree}
use Rattle.process_laws.specs.ValuedLaws.{IsSameAnswer, ValuesAreAlike}
use Rattle.process_laws.proofs.Tied.{Tied}
use Rattle.process_laws.proofs.Targets.{aim, Inside, InTurn, opened}
use Rattle.process_laws.proofs.Twins.{Shape, a_process, a_part, a_pair, a_row, Twin, twin-key, made, made_only, only_same, row_held, at-twin, ascending-twins, flat-held}
use Rattle.process_laws.proofs.Outcomes.{Answers, Ends, after-ends, in_order-ends, limits-agree, operated-ends}
use Rattle.process_laws.proofs.Collections.{Both, set-both, map-both}
use Rattle.process_laws.proofs.Operations.{binary-agrees, unary-agrees}
use Rattle.process_laws.proofs.Tables.{method-agrees}
use Rattle.process_laws.proofs.Sorted.{arranged-work, Each, ascending-each}

-- outcomes of trees of this sort that agree
abbrev pub Result : Sort → Outcome Tree → Outcome Tree → Type 0
Result term o q = Ends (Twin a_process) o q
Result part o q = Ends (Twin a_process) o q
Result (pair_of term) o q = Ends (Twin a_pair) o q
Result (row_of term) o q = Ends (Twin a_row) o q
Result _ o q = ⊤

abbrev TurnResult : List Sort → List (Outcome Tree) → List (Outcome Tree) → Type 0
TurnResult [] [] [] = ⊤
TurnResult [] [] (q ∷ qs) = ⊥
TurnResult [] (o ∷ os) qs = ⊥
TurnResult (s ∷ ss) [] qs = ⊥
TurnResult (s ∷ ss) (o ∷ os) [] = ⊥
TurnResult (s ∷ ss) (o ∷ os) (q ∷ qs) = Result s o q × TurnResult ss os qs

-- outcomes of constituents, in turn or in ascending order of their codes
abbrev Results : Bool → Kids → List (List ℕ) → List (Outcome Tree) → List (List ℕ) → List (Outcome Tree) → Type 0
Results true (all s) cs os ds qs = AllZip (Result s) (arranged_by (zip cs os)) (arranged_by (zip ds qs))
Results false (all s) cs os ds qs = AllZip (Result s) os qs
Results true (these ss) cs os ds qs = ⊤
Results false (these ss) cs os ds qs = TurnResult ss os qs
Results b no_form cs os ds qs = ⊤

one-result : (os qs : List (Outcome Tree)) → TurnResult (term ∷ []) os qs → AllZip (Ends Both) os qs
one-result [] qs h = absurd h
one-result (o ∷ os) [] h = absurd h
one-result (o ∷ []) (q ∷ []) h = (h.0, tt)
one-result (o ∷ []) (q ∷ r ∷ qs) h = absurd h.1
one-result (o ∷ p ∷ os) (q ∷ qs) h = absurd h.1

two-results : (os qs : List (Outcome Tree)) → TurnResult (term ∷ term ∷ []) os qs → AllZip (Ends Both) os qs
two-results [] qs h = absurd h
two-results (o ∷ os) [] h = absurd h
two-results (o ∷ os) (q ∷ qs) h = (h.0, one-result os qs h.1)

-- a target and its row of arguments
abbrev Called : List Tree → List Tree → Type 0
Called vs ws = Both (at 0 vs) (at 0 ws) × Twin a_row (at 1 vs) (at 1 ws)

abbrev LastRow : List Tree → List Tree → Type 0
LastRow vs ws = Twin a_row (at 0 vs) (at 0 ws)

last-row : (o q : Outcome Tree) → Ends (Twin a_row) o q → Ends LastRow (in_order (o ∷ [])) (in_order (q ∷ []))
last-row o q h =
    after-ends (Twin a_row) LastRow o q (λ x. after (pure []) (λ xs. pure (x ∷ xs))) (λ x. after (pure []) (λ xs. pure (x ∷ xs))) h (λ x y r. (refl, r))

called : (os qs : List (Outcome Tree)) → TurnResult (term ∷ row_of term ∷ []) os qs → Ends Called (in_order os) (in_order qs)
called [] qs h = absurd h
called (o ∷ os) [] h = absurd h
called (o ∷ []) (q ∷ qs) h = absurd h.1
called (o ∷ r ∷ os) (q ∷ []) h = absurd h.1
called (o ∷ r ∷ []) (q ∷ s ∷ []) h =
    after-ends Both Called o q (λ x. after (in_order (r ∷ [])) (λ xs. pure (x ∷ xs))) (λ x. after (in_order (s ∷ [])) (λ xs. pure (x ∷ xs))) h.0
    (λ x y k. after-ends LastRow Called (in_order (r ∷ [])) (in_order (s ∷ [])) (λ xs. pure (x ∷ xs)) (λ xs. pure (y ∷ xs)) (last-row r s h.1.0) (λ vs ws i. (refl, (k, i))))
called (o ∷ r ∷ []) (q ∷ s ∷ v ∷ qs) h = absurd h.1.1
called (o ∷ r ∷ w ∷ os) (q ∷ s ∷ qs) h = absurd h.1.1

-- work on one list of values that agree after another
module _ (s : Shape) (os qs : List (Outcome Tree)) (h : AllZip (Ends (Twin s)) os qs) (r : Shape) where
  then-values : (f g : List Tree → Outcome Tree) → ((vs ws : List Tree) → AllZip (Twin s) vs ws → Ends (Twin r) (f vs) (g ws)) → Ends (Twin r) (after (in_order os) f) (after (in_order qs) g)
  then-values f g k = after-ends (AllZip (Twin s)) (Twin r) (in_order os) (in_order qs) f g (in_order-ends (Twin s) os qs h) k

  then-limits : (f g : List Tree → Tree) → ((vs ws : List Tree) → AllZip (Twin s) vs ws → Twin r (f vs) (g ws)) → Ends (Twin r) (after (in_order os) (λ vs. free (within_limits (f vs)))) (after (in_order qs) (λ vs. free (within_limits (g vs))))
  then-limits f g k = then-values (λ vs. free (within_limits (f vs))) (λ vs. free (within_limits (g vs))) (λ vs ws e. (refl, limits-agree r (f vs) (g ws) (k vs ws e)))

  then-pure : (f g : List Tree → Tree) → ((vs ws : List Tree) → AllZip (Twin s) vs ws → Twin r (f vs) (g ws)) → Ends (Twin r) (after (in_order os) (λ vs. pure (f vs))) (after (in_order qs) (λ vs. pure (g vs)))
  then-pure f g k = then-values (λ vs. pure (f vs)) (λ vs. pure (g vs)) (λ vs ws e. (refl, k vs ws e))

module _ (p : Prices) where
  -- a form with these constituents, whose outcomes agree, is a value
  abbrev Formed : Label → Bool → Kids → (Outcome Tree → Outcome Tree → Type 0) → Type 0
  Formed l b k R = (ts us : Trees) (cs : List (List ℕ)) (os : List (Outcome Tree)) (ds : List (List ℕ)) (qs : List (Outcome Tree)) → key (node l ts) ≡ key (node l us)
      → Results b k cs os ds qs → R (formed p l ts cs os) (formed p l us ds qs)

  as-it-is : (l : Label) (ts us : Trees) → Twin a_part (node l ts) (node l us) → Ends Both (pure (only (node l ts))) (pure (only (node l us)))
  as-it-is l ts us h = (refl, only_same (node l ts) (node l us) h)

  part-ends : (l : Label) → IsForm (part_kids l) → Formed l (is_bag l) (part_kids l) (Ends Both)
  part-ends list f ts us cs os ds qs e h = then-limits a_process os qs h a_process (λ vs. only (many list vs)) (λ vs. only (many list vs)) (λ vs ws k. made_only a_process list vs ws refl k)
  part-ends tuple f ts us cs os ds qs e h = then-limits a_process os qs h a_process (λ vs. only (many tuple vs)) (λ vs. only (many tuple vs)) (λ vs ws k. made_only a_process tuple vs ws refl k)
  part-ends set f ts us cs os ds qs e h = then-limits a_process (arranged_by (zip cs os)) (arranged_by (zip ds qs)) h a_process of_set of_set set-both
  part-ends dict f ts us cs os ds qs e h =
      then-limits a_pair (arranged_by (zip cs os)) (arranged_by (zip ds qs)) h a_process (λ vs. of_map (ascending vs)) (λ vs. of_map (ascending vs)) (λ vs ws k. map-both (ascending vs) (ascending ws) (ascending-twins a_pair vs ws k))
  part-ends (bundle r) f ts us cs os ds qs e h =
      then-pure a_process os qs (one-result os qs h) a_process (λ vs. only (many (bundle r) vs)) (λ vs. only (many (bundle r) vs)) (λ vs ws k. made_only a_process (bundle r) vs ws refl k)
  part-ends (unary o) f ts us cs os ds qs e h =
      then-values a_process os qs (one-result os qs h) a_process (λ vs. operated p vs (unary_answer o (at 0 vs))) (λ vs. operated p vs (unary_answer o (at 0 vs)))
      (λ vs ws k. operated-ends p vs ws (unary_answer o (at 0 vs)) (unary_answer o (at 0 ws)) k (unary-agrees o (at 0 vs) (at 0 ws) (at-twin 0 vs ws k)))
  part-ends (binary o) f ts us cs os ds qs e h =
      then-values a_process os qs (two-results os qs h) a_process (λ vs. operated p vs (binary_answer o (at 0 vs) (at 1 vs))) (λ vs. operated p vs (binary_answer o (at 0 vs) (at 1 vs)))
      (λ vs ws k. operated-ends p vs ws (binary_answer o (at 0 vs) (at 1 vs)) (binary_answer o (at 0 ws) (at 1 ws)) k
      (binary-agrees o (at 0 vs) (at 0 ws) (at 1 vs) (at 1 ws) (at-twin 0 vs ws k) (at-twin 1 vs ws k)))
  part-ends (method n) f ts us cs os ds qs e h =
      after-ends Called Both (in_order os) (in_order qs)
      (λ vs. operated p (at 0 vs ∷ held (at 1 vs)) (method_answer n (at 0 vs) (held (at 1 vs)))) (λ vs. operated p (at 0 vs ∷ held (at 1 vs)) (method_answer n (at 0 vs) (held (at 1 vs))))
      (called os qs h)
      (λ vs ws k. let r = row_held (at 1 vs) (at 1 ws) k.1 in
      operated-ends p (at 0 vs ∷ held (at 1 vs)) (at 0 ws ∷ held (at 1 ws)) (method_answer n (at 0 vs) (held (at 1 vs))) (method_answer n (at 0 ws) (held (at 1 ws))) (k.0, r)
      (method-agrees n (at 0 vs) (at 0 ws) (held (at 1 vs)) (held (at 1 ws)) k.0 r))
  part-ends (bool x) f ts us cs os ds qs e h = as-it-is (bool x) ts us (e, tt)
  part-ends (int x) f ts us cs os ds qs e h = as-it-is (int x) ts us (e, tt)
  part-ends (str x) f ts us cs os ds qs e h = as-it-is (str x) ts us (e, tt)
  part-ends (uri x) f ts us cs os ds qs e h = as-it-is (uri x) ts us (e, tt)
  part-ends (bytes x) f ts us cs os ds qs e h = as-it-is (bytes x) ts us (e, tt)
  part-ends (fresh x) f ts us cs os ds qs e h = as-it-is (fresh x) ts us (e, tt)
  part-ends (var x) f ts us cs os ds qs e h = as-it-is (var x) ts us (e, tt)
  part-ends (name_var x) f ts us cs os ds qs e h = as-it-is (name_var x) ts us (e, tt)
  part-ends (send x) f ts us cs os ds qs e h = as-it-is (send x) ts us (e, tt)
  part-ends (receive x) f ts us cs os ds qs e h = as-it-is (receive x) ts us (e, tt)
  part-ends (new x) f ts us cs os ds qs e h = as-it-is (new x) ts us (e, tt)
  part-ends match f ts us cs os ds qs e h = as-it-is match ts us (e, tt)
  part-ends _ f ts us cs os ds qs e h = absurd f

  parallel : (vs ws : List Tree) → AllZip Both vs ws → Both (made_node par (flat_map held vs)) (made_node par (flat_map held ws))
  parallel vs ws k =
      let xs = flat_map held vs in
      let ys = flat_map held ws in
      made a_process a_part par (ascending xs) (ascending ys) refl (ascending-twins a_part xs ys (flat-held vs ws k))

  form-ends : (s : Sort) (l : Label) → IsForm (kids s l 0) → Formed l (is_bag l) (kids s l 0) (Result s)
  form-ends term par f ts us cs os ds qs e h =
      then-limits a_process (arranged_by (zip cs os)) (arranged_by (zip ds qs)) h a_process (λ vs. made_node par (flat_map held vs)) (λ vs. made_node par (flat_map held vs)) parallel
  form-ends term _ f ts us cs os ds qs e h = absurd f
  form-ends part l f ts us cs os ds qs e h = part-ends l f ts us cs os ds qs e h
  form-ends (pair_of term) pair f ts us cs os ds qs e h = then-pure a_process os qs (two-results os qs h) a_pair (λ vs. many pair vs) (λ vs. many pair vs) (λ vs ws k. made a_pair a_process pair vs ws refl k)
  form-ends (pair_of term) _ f ts us cs os ds qs e h = absurd f
  form-ends (pair_of s) l f ts us cs os ds qs e h = tt
  form-ends (row_of term) row f ts us cs os ds qs e h = then-pure a_process os qs h a_row (λ vs. many row vs) (λ vs. many row vs) (λ vs ws k. made a_row a_process row vs ws refl k)
  form-ends (row_of term) _ f ts us cs os ds qs e h = absurd f
  form-ends (row_of s) l f ts us cs os ds qs e h = tt
  form-ends s l f ts us cs os ds qs e h = tt

  -- a tree whose value agrees with that of each that is tied to it
  abbrev Valued : Sort → Tree → Type 0
  Valued s t = (u : Tree) → Tied s t u → Result s (value p t) (value p u)

  abbrev EachValued : Kids → Trees → Type 0
  EachValued (all s) none = ⊤
  EachValued (all s) (also t ts) = Valued s t × EachValued (all s) ts
  EachValued (these ss) none = ⊤
  EachValued (these []) (also t ts) = ⊤
  EachValued (these (s ∷ ss)) (also t ts) = Valued s t × EachValued (these ss) ts
  EachValued no_form ts = ⊤

  values-listed : (ts : Trees) → values p ts ≡ each (value p) (listed ts)
  unfolding values
  values-listed none = refl
  values-listed (also t ts) = ap (λ os. value p t ∷ os) (values-listed ts)

  each-listed : (s : Sort) (ts : Trees) → EachValued (all s) ts → Each (Valued s) (listed ts)
  each-listed s none h = tt
  each-listed s (also t ts) h = (h.0, each-listed s ts h.1)

  all-results : (s : Sort) (xs ys : List Tree) → Each (Valued s) xs → AllZip (Tied s) xs ys → AllZip (Result s) (each (value p) xs) (each (value p) ys)
  all-results s [] [] h k = tt
  all-results s [] (y ∷ ys) h k = absurd k
  all-results s (x ∷ xs) [] h k = absurd k
  all-results s (x ∷ xs) (y ∷ ys) h k = (h.0 y k.0, all-results s xs ys h.1 k.1)

  turn-results : (ss : List Sort) (ts us : Trees) → EachValued (these ss) ts → InTurn ss (listed ts) (listed us) → TurnResult ss (each (value p) (listed ts)) (each (value p) (listed us))
  turn-results [] none none h k = tt
  turn-results [] none (also u us) h k = absurd k
  turn-results [] (also t ts) us h k = absurd k
  turn-results (s ∷ ss) none us h k = absurd k
  turn-results (s ∷ ss) (also t ts) none h k = absurd k
  turn-results (s ∷ ss) (also t ts) (also u us) h k = (h.0 u k.0, turn-results ss ts us h.1 k.1)

  listed-results : (b : Bool) (q : Kids) (ts us : Trees) → EachValued q ts → Inside b q (listed ts) (listed us) → Results b q (codes ts) (each (value p) (listed ts)) (codes us) (each (value p) (listed us))
  listed-results true (all s) ts us h k =
      rw (arranged-work (value p) ts, arranged-work (value p) us) (all-results s (ascending (listed ts)) (ascending (listed us)) (ascending-each (Valued s) (listed ts) (each-listed s ts h)) k)
  listed-results false (all s) ts us h k = all-results s (listed ts) (listed us) (each-listed s ts h) k
  listed-results true (these ss) ts us h k = tt
  listed-results false (these ss) ts us h k = turn-results ss ts us h k
  listed-results b no_form ts us h k = tt

  kids-results : (b : Bool) (q : Kids) (ts us : Trees) → EachValued q ts → Inside b q (listed ts) (listed us) → Results b q (codes ts) (values p ts) (codes us) (values p us)
  kids-results b q ts us h k = rw (values-listed ts, values-listed us) (listed-results b q ts us h k)

  node-ends : (s : Sort) (l m : Label) (ts us : Trees) → EachValued (kids s l 0) ts → Tied s (node l ts) (node m us) → Result s (value p (node l ts)) (value p (node m us))
  unfolding value
  node-ends s l m ts us h k =
      let o = opened s l m ts us (aim s (node l ts) (node m us) k) in
      let e : key (node l ts) ≡ key (node l us) = subst (λ (x : Label). key (node l ts) ≡ key (node x us)) (sym o.0) k.0 in
      subst (λ (x : Label). Result s (formed p l ts (codes ts) (values p ts)) (formed p x us (codes us) (values p us))) o.0
      (form-ends s l (is_form IsRanged (kids s l 0) ts k.1.0.1) ts us (codes ts) (values p ts) (codes us) (values p us) e (kids-results (is_bag l) (kids s l 0) ts us h o.1))

  mutual
    pub valued : (s : Sort) (t : Tree) → Valued s t
    valued s (node l ts) (node m us) h = node-ends s l m ts us (each-valued (kids s l 0) ts) h

    each-valued : (q : Kids) (ts : Trees) → EachValued q ts
    each-valued (all s) none = tt
    each-valued (all s) (also t ts) = (valued s t, each-valued (all s) ts)
    each-valued (these ss) none = tt
    each-valued (these []) (also t ts) = tt
    each-valued (these (s ∷ ss)) (also t ts) = (valued s t, each-valued (these ss) ts)
    each-valued no_form ts = tt

same_answer-of : (a b : Answer Tree) → Answers Both a b → IsSameAnswer a b
same_answer-of (gives x) (gives y) h = (agree x y).1 (twin-key a_process x y h)
same_answer-of (fails f) (fails g) h = h
same_answer-of unknown unknown h = tt
same_answer-of (gives x) (fails g) h = absurd h
same_answer-of (gives x) unknown h = absurd h
same_answer-of (fails f) (gives y) h = absurd h
same_answer-of (fails f) unknown h = absurd h
same_answer-of unknown (gives y) h = absurd h
same_answer-of unknown (fails g) h = absurd h

pub values_are_alike : ValuesAreAlike
values_are_alike p t u h =
    let r = valued p term t u ((agree t u).0 h.2, (ranged_closed t h.0.0 h.0.1, h.0.1), (ranged_closed u h.1.0 h.1.1, h.1.1)) in
    (r.0, same_answer-of (value p t).answer (value p u).answer r.1)
