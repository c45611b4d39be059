-- A process whose parts are their own values is its own value, within the limits.
use Rattle.std.proofs.Common.{◌≡◌, List, [], ◌∷◌, map as each, refl, sym, ap, ◌∙◌, subst, All}
use Rattle.std.specs.Prelude.{flat_map}
use Rattle.std.proofs.lemmas.List.Elements.{All-head, All-tail}
use Rattle.calculus.specs.Tree.{par, Tree, trees}
use Rattle.calculus.specs.Shape.{many, only, held}
use Rattle.calculus.specs.Outcome.{Prices, Outcome, pure, free, within_limits, after, in_order}
use Rattle.calculus.specs.Normal.{made_node}
use Rattle.calculus.specs.Values.{value}
use Rattle.calculus.proofs.Placing.{listed-trees}
use Rattle.rho_term.specs.declared.term.Part.{Part}
use Rattle.rho_term.specs.Normal.{IsNormal}
use Rattle.rho_term.specs.Parts.{part_tree}
use Rattle.rho_eval.specs.Values.{IsOwnValue}
use Rattle.rho_eval.proofs.Forms.{made-same}
use Rattle.rho_eval.proofs.Parts.{process-form}

-- the parts, each as a process
abbrev alone : List Part → List Tree
alone ps = each (λ q. only (part_tree q)) ps

values-alone : (p : Prices) (ps : List Part) → All (λ q. IsOwnValue (part_tree q)) ps → in_order (each (λ q. value p (part_tree q)) ps) ≡ pure (alone ps)
values-alone p [] h = refl
values-alone p (q ∷ ps) h =
    let next = λ (x : Tree) (o : Outcome (List Tree)). after o (λ xs. pure (x ∷ xs)) in
    ap (λ o. after o (λ x. next x (in_order (each (λ r. value p (part_tree r)) ps)))) (All-head (λ r. IsOwnValue (part_tree r)) q ps h p)
    ∙ ap (λ o. after (pure (only (part_tree q))) (λ x. next x o)) (values-alone p ps (All-tail (λ r. IsOwnValue (part_tree r)) q ps h))

held-alone : (ps : List Part) → flat_map held (alone ps) ≡ each part_tree ps
held-alone [] = refl
held-alone (q ∷ ps) = ap (λ ts. part_tree q ∷ ts) (held-alone ps)

pub own-value : (p : Prices) (t : Tree) (ps : List Part) → t ≡ many par (each part_tree ps) → IsNormal t → All (λ q. IsOwnValue (part_tree q)) ps → value p t ≡ free (within_limits t)
own-value p t ps e n h =
    let ts = each part_tree ps in
    let k = (subst IsNormal e n).0 in
    ap (value p) e
    ∙ (process-form p ps k
    ∙ (ap (λ o. after o (λ vs. free (within_limits (made_node par (flat_map held vs))))) (values-alone p ps h)
    ∙ (ap (λ us. free (within_limits (made_node par us))) (held-alone ps)
    ∙ (ap (λ us. free (within_limits (made_node par us))) (sym (listed-trees ts)) ∙ (ap (λ u. free (within_limits u)) (made-same par (trees ts) k) ∙ ap (λ u. free (within_limits u)) (sym e))))))
