-- What is well formed in a scope is so under more variables outside.
use Rattle.std.proofs.Common.{◌≡◌, ℕ, zero, suc, List, [], ◌∷◌, ◌++◌, reverse, refl, sym, subst, append_assoc}
use Rattle.calculus.specs.Tree.{Label, var, name_var, par, receive, new, match, bundle, Tree, node, Trees, none, also}
use Rattle.calculus.specs.Shape.{count}
use Rattle.calculus.specs.Variables.{Sense, binders}
use Rattle.calculus.specs.Form.{Sort, pat_part, name_part, Kids, all, these, no_form, kids, Scope, HasVariable, IsPlain, outer, Fits, Hold}

pub more_variables : (v w : Scope) (i : ℕ) (s : Sense) → HasVariable v i s → HasVariable (v ++ w) i s
more_variables [] w i s h = absurd h
more_variables (x ∷ v) w zero s h = h
more_variables (x ∷ v) w (suc i) s h = more_variables v w i s h

bundle_plain : (s : Sort) (v w : Scope) (r : _) (ts : Trees) → IsPlain s v (bundle r) ts → IsPlain s w (bundle r) ts
bundle_plain pat_part v w r ts h = h
bundle_plain name_part v w r ts h = h
bundle_plain _ v w r ts h = tt

-- only the use of a variable looks at the scope
pub plain_more : (s : Sort) (v w : Scope) (l : Label) (ts : Trees) → IsPlain s v l ts → IsPlain s (v ++ w) l ts
plain_more s v w (var i) ts h = more_variables v w i _ h
plain_more s v w (name_var i) ts h = more_variables v w i _ h
plain_more s v w (bundle r) ts h = bundle_plain s v (v ++ w) r ts h
plain_more s v w par ts h = h
plain_more s v w _ ts h = h

outer-append : (s : Sort) (l : Label) (v w : Scope) → outer s l (v ++ w) ≡ outer s l v ++ outer s l w
outer-append pat_part (receive k) v w = refl
outer-append pat_part (new os) v w = refl
outer-append pat_part match v w = refl
outer-append name_part (receive k) v w = refl
outer-append name_part (new os) v w = refl
outer-append name_part match v w = refl
outer-append s l v w = refl

mutual
  pub weaken : (s : Sort) (v w : Scope) (t : Tree) → Fits s v t → Fits s (v ++ w) t
  weaken s v w (node l ts) h = (
    plain_more s v w l ts h.0,
    subst (λ (x : Scope). Hold (kids s l (count ts)) x (reverse (binders l ts)) ts) (sym (outer-append s l v w))
        (weaken_kids (kids s l (count ts)) (outer s l v) (outer s l w) (reverse (binders l ts)) ts h.1),
  )

  pub weaken_kids : (p : Kids) (v w : Scope) (o : List Sense) (ts : Trees) → Hold p v o ts → Hold p (v ++ w) o ts
  weaken_kids (all s) v w o none h = tt
  weaken_kids (all s) v w o (also t ts) h = (weaken s v w t h.0, weaken_kids (all s) v w o ts h.1)
  weaken_kids (these []) v w o none h = tt
  weaken_kids (these []) v w o (also t ts) h = absurd h
  weaken_kids (these (s ∷ ss)) v w o none h = absurd h
  weaken_kids (these (s ∷ ss)) v w o (also t none) h = (subst (λ (x : Scope). Fits s x t) (append_assoc o v w) (weaken s (o ++ v) w t h.0), h.1)
  weaken_kids (these (s ∷ ss)) v w o (also t (also u us)) h = (weaken s v w t h.0, weaken_kids (these ss) v w o (also u us) h.1)
  weaken_kids no_form v w o ts h = absurd h
