-- What is put in normal order is well formed as before: it is the same tree with each variable numbered as it was.
use Rattle.std.proofs.Common.{◌≡◌, ℕ, ◌+◌, ◌-◌, List, [], ◌∷◌, ◌++◌, length, reverse, subst, sym, ap, refl, ◌∙◌, arith}
use Rattle.std.specs.Prelude.{leb}
use Rattle.std.proofs.lemmas.Bool.{cond_both, leb-true}
use Rattle.calculus.specs.Tree.{Label, par, var, name_var, Tree, node, Trees, none, also, trees}
use Rattle.calculus.specs.Shape.{leaf, listed, count, joined_trees}
use Rattle.calculus.specs.Normal.{made_node}
use Rattle.calculus.specs.Variables.{Sense, binders}
use Rattle.calculus.specs.Substitution.{Change, changed, change, change_all, the_one, renumber}
use Rattle.calculus.specs.Form.{Sort, term, part, Kids, all, these, no_form, kids, Scope, outer, Fits, Hold}
use Rattle.calculus.proofs.Placing.{listed-trees}
use Rattle.calculus.proofs.PlainKept.{NoVariable}
use Rattle.calculus.proofs.Changed.{change-node}
use Rattle.calculus.proofs.Closing.{renumber_fits}
use Rattle.scope.specs.NormalForm.{normal_form, normal_forms}

-- each variable keeps its number
abbrev kept : Change
kept = λ k d form. also (leaf (form (k + d))) none

-- a use of a variable stays
use-kept : (d : ℕ) (form : ℕ → Label) (i : ℕ) → changed kept d form i ≡ also (leaf (form i)) none
use-kept d form i =
    cond_both (leb d i) (kept (i - d) d form) (also (leaf (form i)) none) (λ ts. ts ≡ also (leaf (form i)) none)
    (λ e. let n : i - d + d ≡ i = omega (arith, leb-true d i e) in ap (λ k. also (leaf (form k)) none) n)
    (λ e. refl)

no-kids : (v : Scope) (o : List Sense) (ts : Trees) → Hold (these []) v o ts → ts ≡ none
no-kids v o none h = refl
no-kids v o (also t ts) h = absurd h

-- a use of a variable has no constituents
variable-alone : (s : Sort) (v : Scope) (i : ℕ) (ts : Trees) → Fits s v (node (var i) ts) → ts ≡ none
variable-alone part v i ts h = no-kids v [] ts h.1
variable-alone _ v i ts h = absurd h.1

name-alone : (s : Sort) (v : Scope) (i : ℕ) (ts : Trees) → Fits s v (node (name_var i) ts) → ts ≡ none
name-alone part v i ts h = no-kids v [] ts h.1
name-alone _ v i ts h = absurd h.1

-- the tree that stands for a form whose constituents are put in order
node-order : (d : ℕ) (l : Label) (ts : Trees) → NoVariable l → change_all kept d (length (binders l ts)) ts ≡ trees (normal_forms ts) → change kept d (node l ts) ≡ also (normal_form (node l ts)) none
node-order d l ts nv e =
    change-node kept d l ts nv ∙ ap (λ us. also (made_node l (listed us)) none) e ∙ ap (λ us. also (made_node l us) none) (listed-trees (normal_forms ts))

mutual
  pub in-order : (s : Sort) (v : Scope) (d : ℕ) (t : Tree) → Fits s v t → change kept d t ≡ also (normal_form t) none
  in-order s v d (node (var i) ts) h = use-kept d var i ∙ ap (λ us. also (made_node (var i) (normal_forms us)) none) (sym (variable-alone s v i ts h))
  in-order s v d (node (name_var i) ts) h = use-kept d name_var i ∙ ap (λ us. also (made_node (name_var i) (normal_forms us)) none) (sym (name-alone s v i ts h))
  in-order s v d (node par ts) h = node-order d par ts tt (all-in-order (kids s par (count ts)) (outer s par v) (reverse (binders par ts)) d (length (binders par ts)) ts h.1)
  in-order s v d (node l ts) h = node-order d l ts tt (all-in-order (kids s l (count ts)) (outer s l v) (reverse (binders l ts)) d (length (binders l ts)) ts h.1)

  all-in-order : (p : Kids) (v : Scope) (o : List Sense) (d n : ℕ) (ts : Trees) → Hold p v o ts → change_all kept d n ts ≡ trees (normal_forms ts)
  all-in-order no_form v o d n ts h = absurd h
  all-in-order (all s) v o d n none h = refl
  all-in-order (all s) v o d n (also t none) h = in-order s v (d + n) t h.0
  all-in-order (all s) v o d n (also t (also u us)) h =
      ap (λ ws. joined_trees ws (change_all kept d n (also u us))) (in-order s v d t h.0) ∙ ap (also (normal_form t)) (all-in-order (all s) v o d n (also u us) h.1)
  all-in-order (these []) v o d n none h = refl
  all-in-order (these []) v o d n (also t ts) h = absurd h
  all-in-order (these (s ∷ ss)) v o d n none h = absurd h
  all-in-order (these (s ∷ ss)) v o d n (also t none) h = in-order s (o ++ v) (d + n) t h.0
  all-in-order (these (s ∷ ss)) v o d n (also t (also u us)) h =
      ap (λ ws. joined_trees ws (change_all kept d n (also u us))) (in-order s v d t h.0) ∙ ap (also (normal_form t)) (all-in-order (these ss) v o d n (also u us) h.1)

renumbered : (v : Scope) (t : Tree) → Fits term v t → renumber (λ i. i) t ≡ normal_form t
unfolding renumber
renumbered v t h = ap the_one (in-order term v 0 t h)

pub normal-fits : (v : Scope) (t : Tree) → Fits term v t → Fits term v (normal_form t)
normal-fits v t h = subst (Fits term v) (renumbered v t h) (renumber_fits v v (λ i. i) t h (λ i s k. k))
