-- What is made of parts.
use Rattle.std.proofs.Common.{◌≡◌, List, [], ◌∷◌, map, refl, ap, sym, ◌∙◌, subst, All}
use Rattle.std.proofs.lemmas.List.Elements.{All-cons, All-nil}
use Rattle.calculus.specs.Tree.{Label, Tree, node, Trees, none, also, par, pattern}
use Rattle.calculus.specs.Shape.{many, listed, held, label_of}
use Rattle.calculus.specs.Normal.{made_node}
use Rattle.calculus.proofs.Placing.{listed-trees}
use Rattle.rho_term.specs.Normal.{IsOrdered}
use Rattle.rho_term.specs.Parts.{pat_part_tree}
use Rattle.rho_term.specs.declared.term.PatPart.{PatPart}
use Rattle.scope.specs.NormalForm.{normal_form, normal_forms}
use Rattle.code_order.specs.Made.{reordered, made_process}
use Rattle.code_order.proofs.Made.{ordered-made}
use Rattle.normal_parts.specs.Made.{inner_normal}

-- a tree whose insides are in normal order has its normal form once it is in order itself
pub reordered-inner : (t : Tree) → reordered (inner_normal t) ≡ normal_form t
reordered-inner (node l ts) = ap (made_node l) (listed-trees (normal_forms ts))

reordered-each : (ts : Trees) → map reordered (map inner_normal (listed ts)) ≡ normal_forms ts
reordered-each none = refl
reordered-each (also t ts) = ap (λ u. u ∷ map reordered (map inner_normal (listed ts))) (reordered-inner t) ∙ ap (λ us. normal_form t ∷ us) (reordered-each ts)

normal-each : (ts : Trees) → map normal_form (listed ts) ≡ normal_forms ts
normal-each none = refl
normal-each (also t ts) = ap (λ us. normal_form t ∷ us) (normal-each ts)

process-node : (l : Label) (ts : Trees) → l ≡ par → made_process (map inner_normal (listed ts)) ≡ normal_form (node l ts)
process-node l ts e = ap (made_node par) (reordered-each ts) ∙ ap (λ k. made_node k (normal_forms ts)) (sym e)

-- a process of the parts of a process
pub process-made : (t : Tree) → label_of t ≡ par → made_process (map inner_normal (held t)) ≡ normal_form t
process-made (node l ts) e = process-node l ts e

pattern-node : (l : Label) (ts : Trees) → l ≡ pattern → many pattern (map normal_form (listed ts)) ≡ normal_form (node l ts)
pattern-node l ts e = ap (many pattern) (normal-each ts) ∙ ap (λ k. made_node k (normal_forms ts)) (sym e)

-- a pattern of the parts of a pattern
pub pattern-made : (t : Tree) → label_of t ≡ pattern → many pattern (map normal_form (held t)) ≡ normal_form t
pattern-made (node l ts) e = pattern-node l ts e

-- the parts of a closed form, in order
pub closed-made : {A : Type 0} (f : A → Tree) (ps : List A) (ts : List Tree) → map f ps ≡ map inner_normal ts → map (λ p. reordered (f p)) ps ≡ map normal_form ts
closed-made f [] [] e = refl
closed-made f [] (t ∷ ts) e = cc
closed-made f (p ∷ ps) [] e = cc
closed-made f (p ∷ ps) (t ∷ ts) e =
    let h : f p ≡ inner_normal t = cc in
    let r : map f ps ≡ map inner_normal ts = cc in
    ap (λ u. reordered u ∷ map (λ q. reordered (f q)) ps) h ∙ ap (λ u. u ∷ map (λ q. reordered (f q)) ps) (reordered-inner t) ∙ ap (λ us. normal_form t ∷ us) (closed-made f ps ts r)

normal-ordered : (t : Tree) → IsOrdered (normal_form t)
normal-ordered (node l ts) = ordered-made l (normal_forms ts)

-- parts that stand for normal forms are in order
pub pattern-ordered : (ps : List PatPart) (ts : List Tree) → map pat_part_tree ps ≡ map normal_form ts → All (λ p. IsOrdered (pat_part_tree p)) ps
pattern-ordered [] ts e = All-nil (λ p. IsOrdered (pat_part_tree p))
pattern-ordered (p ∷ ps) [] e = cc
pattern-ordered (p ∷ ps) (t ∷ ts) e =
    let h : pat_part_tree p ≡ normal_form t = cc in
    let r : map pat_part_tree ps ≡ map normal_form ts = cc in
    All-cons (λ q. IsOrdered (pat_part_tree q)) p ps (subst IsOrdered (sym h) (normal-ordered t)) (pattern-ordered ps ts r)
