-- What the values of forms in normal order come to, by the values of what stands in them.
use Rattle.std.proofs.Common.{◌≡◌, ℕ, Bool, true, false, cond, List, [], ◌∷◌, map as each, refl, sym, ap, ◌∙◌, subst}
use Rattle.std.specs.Prelude.{zip, flat_map}
use Rattle.calculus.specs.declared.plain.Rights.{Rights}
use Rattle.calculus.specs.declared.plain.UnaryOp.{UnaryOp}
use Rattle.calculus.specs.declared.plain.BinaryOp.{BinaryOp}
use Rattle.calculus.specs.Congruence.{is_bag}
use Rattle.calculus.proofs.Placing.{trees-listed}
use Rattle.rho_term.specs.Normal.{IsArranged}
use Rattle.calculus.specs.Tree.{Label, par, row, list, tuple, set, dict, pair, bundle, unary, binary, method, Tree, node, Trees, none, also, trees}
use Rattle.calculus.specs.Shape.{listed, held, at, many, one, two, only}
use Rattle.calculus.specs.Order.{IsAscending}
use Rattle.calculus.specs.Code.{code, codes}
use Rattle.calculus.specs.Normal.{placed_by, by_code, arranged_by, ascending, made_node}
use Rattle.calculus.specs.Outcome.{Prices, Outcome, free, pure, after, in_order, within_limits}
use Rattle.calculus.specs.Operators.{of_set, of_map, unary_answer, binary_answer}
use Rattle.calculus.specs.Methods.{method_answer}
use Rattle.calculus.specs.Values.{in_code_order, operated, value, values}

-- things whose codes ascend are in order
by_code-same : {A : Type 0} (xs : List (List ℕ × A)) → IsAscending (each (λ p. p.0) xs) → by_code xs ≡ xs
unfolding by_code placed_by
by_code-same [] h = refl
by_code-same (x ∷ []) h = refl
by_code-same (x ∷ y ∷ ys) h =
    ap (placed_by x) (by_code-same (y ∷ ys) h.1) ∙ ap (λ b. cond b (x ∷ y ∷ ys) (y ∷ placed_by x ys)) h.0

pub values-each : (p : Prices) (ts : List Tree) → values p (trees ts) ≡ each (value p) ts
unfolding values
values-each p [] = refl
values-each p (t ∷ ts) = ap (λ os. value p t ∷ os) (values-each p ts)

codes-first : (p : Prices) (ts : List Tree) → each (λ q. q.0) (zip (codes (trees ts)) (each (value p) ts)) ≡ codes (trees ts)
codes-first p [] = refl
codes-first p (t ∷ ts) = ap (λ cs. code t ∷ cs) (codes-first p ts)

values-second : (p : Prices) (ts : List Tree) → each (λ q. q.1) (zip (codes (trees ts)) (each (value p) ts)) ≡ each (value p) ts
values-second p [] = refl
values-second p (t ∷ ts) = ap (λ os. value p t ∷ os) (values-second p ts)

-- work on things whose codes ascend is done in turn
in-turn : (p : Prices) (ts : List Tree) → IsAscending (codes (trees ts)) → in_code_order (codes (trees ts)) (values p (trees ts)) ≡ in_order (each (value p) ts)
in-turn p ts h =
    ap (in_code_order (codes (trees ts))) (values-each p ts)
    ∙ (ap (λ xs. in_order (each (λ q. q.1) xs)) (by_code-same (zip (codes (trees ts)) (each (value p) ts)) (subst IsAscending (sym (codes-first p ts)) h))
    ∙ ap in_order (values-second p ts))

pub value-process : (p : Prices) (ts : List Tree) → IsAscending (codes (trees ts)) → value p (many par ts) ≡ after (in_order (each (value p) ts)) (λ vs. free (within_limits (made_node par (flat_map held vs))))
unfolding value
value-process p ts h = ap (λ o. after o (λ vs. free (within_limits (made_node par (flat_map held vs))))) (in-turn p ts h)

pub value-list : (p : Prices) (ts : List Tree) → value p (many list ts) ≡ after (in_order (each (value p) ts)) (λ vs. free (within_limits (only (many list vs))))
unfolding value
value-list p ts = ap (λ os. after (in_order os) (λ vs. free (within_limits (only (many list vs))))) (values-each p ts)

pub value-tuple : (p : Prices) (ts : List Tree) → value p (many tuple ts) ≡ after (in_order (each (value p) ts)) (λ vs. free (within_limits (only (many tuple vs))))
unfolding value
value-tuple p ts = ap (λ os. after (in_order os) (λ vs. free (within_limits (only (many tuple vs))))) (values-each p ts)

pub value-set : (p : Prices) (ts : List Tree) → IsAscending (codes (trees ts)) → value p (many set ts) ≡ after (in_order (each (value p) ts)) (λ vs. free (within_limits (of_set vs)))
unfolding value
value-set p ts h = ap (λ o. after o (λ vs. free (within_limits (of_set vs)))) (in-turn p ts h)

pub value-map : (p : Prices) (ts : List Tree) → IsAscending (codes (trees ts)) → value p (many dict ts) ≡ after (in_order (each (value p) ts)) (λ vs. free (within_limits (of_map (ascending vs))))
unfolding value
value-map p ts h = ap (λ o. after o (λ vs. free (within_limits (of_map (ascending vs))))) (in-turn p ts h)

pub value-bundle : (p : Prices) (r : Rights) (t : Tree) → value p (one (bundle r) t) ≡ after (in_order (value p t ∷ [])) (λ vs. pure (only (many (bundle r) vs)))
unfolding value values
value-bundle p r t = refl

pub value-unary : (p : Prices) (o : UnaryOp) (t : Tree) → value p (one (unary o) t) ≡ after (in_order (value p t ∷ [])) (λ vs. operated p vs (unary_answer o (at 0 vs)))
unfolding value values
value-unary p o t = refl

pub value-binary : (p : Prices) (o : BinaryOp) (t u : Tree) → value p (two (binary o) t u) ≡ after (in_order (value p t ∷ value p u ∷ [])) (λ vs. operated p vs (binary_answer o (at 0 vs) (at 1 vs)))
unfolding value values
value-binary p o t u = refl

pub value-row : (p : Prices) (ts : List Tree) → value p (many row ts) ≡ after (in_order (each (value p) ts)) (λ vs. pure (many row vs))
unfolding value
value-row p ts = ap (λ os. after (in_order os) (λ vs. pure (many row vs))) (values-each p ts)

pub value-method : (p : Prices) (n : List ℕ) (t : Tree) (ts : List Tree)
    → value p (two (method n) t (many row ts)) ≡ after (in_order (value p t ∷ value p (many row ts) ∷ [])) (λ vs. operated p (at 0 vs ∷ held (at 1 vs)) (method_answer n (at 0 vs) (held (at 1 vs))))
unfolding value values
value-method p n t ts = refl

pub value-pair : (p : Prices) (t u : Tree) → value p (two pair t u) ≡ after (in_order (value p t ∷ value p u ∷ [])) (λ vs. pure (many pair vs))
unfolding value values
value-pair p t u = refl

codes-beside : (ts : Trees) → each (λ (q : List ℕ × Tree). q.0) (each (λ t. (code t, t)) (listed ts)) ≡ codes ts
codes-beside none = refl
codes-beside (also t ts) = ap (λ cs. code t ∷ cs) (codes-beside ts)

without-codes : (ts : List Tree) → each (λ (q : List ℕ × Tree). q.1) (each (λ t. (code t, t)) ts) ≡ ts
without-codes [] = refl
without-codes (t ∷ ts) = ap (λ us. t ∷ us) (without-codes ts)

-- trees whose codes ascend are in order
pub ascending-same : (ts : Trees) → IsAscending (codes ts) → ascending (listed ts) ≡ listed ts
unfolding ascending
ascending-same ts h =
    ap (each (λ (q : List ℕ × Tree). q.1)) (by_code-same (each (λ t. (code t, t)) (listed ts)) (subst IsAscending (sym (codes-beside ts)) h)) ∙ without-codes (listed ts)

made-arranged : (b : Bool) (l : Label) (ts : Trees) → IsArranged b (codes ts) → node l (trees (cond b (ascending (listed ts)) (listed ts))) ≡ node l ts
made-arranged true l ts h = ap (λ us. node l (trees us)) (ascending-same ts h) ∙ ap (node l) (trees-listed ts)
made-arranged false l ts h = ap (node l) (trees-listed ts)

-- a form in normal order is what is made of its constituents
pub made-same : (l : Label) (ts : Trees) → IsArranged (is_bag l) (codes ts) → made_node l (listed ts) ≡ node l ts
made-same l ts h = made-arranged (is_bag l) l ts h
