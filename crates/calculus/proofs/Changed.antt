-- A changed form is well formed where its changed constituents are.
use Rattle.std.proofs.Common.{◌≡◌, ℕ, false, List, [], length, reverse, refl, sym, ap, ◌∙◌}
use Rattle.calculus.specs.Tree.{Label, par, set, dict, var, name_var, Tree, node, Trees, none, also, trees}
use Rattle.calculus.specs.Shape.{count, listed}
use Rattle.calculus.specs.Variables.{Sense, own, bound, binders}
use Rattle.calculus.specs.Congruence.{is_bag}
use Rattle.calculus.specs.Normal.{ascending, made_node}
use Rattle.calculus.specs.Substitution.{Change, change, change_all}
use Rattle.calculus.specs.Form.{Sort, term, part, row_of, Kids, all, these, no_form, kids, Scope, IsPlain, outer, Fits, Hold}
use Rattle.calculus.proofs.Known.{IsForm}
use Rattle.calculus.proofs.Tails.{IsFine}
use Rattle.calculus.proofs.Binding.{no_bound}
use Rattle.calculus.proofs.FromFits.{formed, fine}
use Rattle.calculus.proofs.Kept.{Whole, NotTerm, SameCount, Kept, KeptAll, Like, like}
use Rattle.calculus.proofs.PlainKept.{count-like, bound-like, length-like, NoVariable, plain_kept, binders-kept}
use Rattle.calculus.proofs.Placing.{trees-listed, ascending_hold, made-steady}

-- one tree, of this sort in this scope, that keeps what it is to keep
abbrev pub One : Sort → Scope → Tree → Trees → Type 0
One s y t rs = (u : Tree) × (rs ≡ also u none) × Fits s y u × Kept s t u

-- as many, likewise
abbrev pub Done : Kids → Scope → List Sense → Trees → Trees → Type 0
Done p y o ts us = Hold p y o us × KeptAll p ts us

pub hold_form : (p : Kids) (y : Scope) (o : List Sense) (ts : Trees) → Hold p y o ts → IsForm p
hold_form (all s) y o ts h = tt
hold_form (these ss) y o ts h = tt
hold_form no_form y o ts h = absurd h

pub change-node : (F : Change) (d : ℕ) (l : Label) (ts : Trees) → NoVariable l → change F d (node l ts) ≡ also (made_node l (listed (change_all F d (length (binders l ts)) ts))) none
change-node F d (var i) ts h = absurd h
change-node F d (name_var i) ts h = absurd h
change-node F d par ts h = refl
change-node F d _ ts h = refl

-- such a form is no variable and no bag, but for a process
steady : (l : Label) (s : Sort) (n : ℕ) → Whole s → NotTerm s → IsForm (kids s l n) → NoVariable l × (is_bag l ≡ false)
steady par term n o d h = absurd d
steady par part n o d h = absurd o
steady par _ n o d h = absurd h
steady set term n o d h = absurd h
steady set part n o d h = absurd o
steady set _ n o d h = absurd h
steady dict term n o d h = absurd h
steady dict part n o d h = absurd o
steady dict _ n o d h = absurd h
steady (var i) term n o d h = absurd h
steady (var i) part n o d h = absurd o
steady (var i) _ n o d h = absurd h
steady (name_var i) term n o d h = absurd h
steady (name_var i) part n o d h = absurd o
steady (name_var i) _ n o d h = absurd h
steady _ s n o d h = (tt, refl)

same_count : (s : Sort) (l : Label) (ts us : Trees) → length (listed us) ≡ length (listed ts) → SameCount s (node l ts) (node l us)
same_count (row_of s) l ts us e = e
same_count term l ts us e = tt
same_count _ l ts us e = tt

module _ (s : Sort) (l : Label) (ts us : Trees) (x y : Scope) (nv : NoVariable l) (h : IsPlain s x l ts) (k : Done (kids s l (count ts)) (outer s l y) (reverse (binders l ts)) ts us) where
  alike : Like ts us
  alike = like (kids s l (count ts)) ts us k.1

  pub node_fits : Fits s y (node l us)
  node_fits =
      (plain_kept (count ts) x y ts us l s nv k.1 h, rw (count-like ts us alike, binders-kept l ts us alike) k.0)

  pub node_kept : Kept s (node l ts) (node l us)
  node_kept = (refl, ap (own l) (bound-like ts us alike), same_count s l ts us (length-like ts us alike))

-- a process binds nothing outside
pub no_variables : (v : Scope) (t : Tree) → Fits term v t → bound t ≡ []
no_variables v t h = no_bound IsFine term t tt (formed IsFine fine term v t h)

module _ (F : Change) (d : ℕ) (x y : Scope) where
  pub whole_done : (s : Sort) (l : Label) (ts : Trees) → Whole s → NotTerm s → Fits s x (node l ts)
      → Done (kids s l (count ts)) (outer s l y) (reverse (binders l ts)) ts (change_all F d (length (binders l ts)) ts) → One s y (node l ts) (change F d (node l ts))
  whole_done s l ts o n h k =
      let us = change_all F d (length (binders l ts)) ts in
      let z = steady l s (count ts) o n (hold_form (kids s l (count ts)) (outer s l x) (reverse (binders l ts)) ts h.1) in
      (node l us, change-node F d l ts z.0 ∙ ap (λ u. also u none) (made-steady l us z.1), node_fits s l ts us x y z.0 h.0 k, node_kept s l ts us x y z.0 h.0 k)

  pub term_done : (l : Label) (ts : Trees) → Fits term x (node l ts) → (Hold (all part) x [] ts → Hold (all part) y [] (change_all F d 0 ts)) → One term y (node l ts) (change F d (node l ts))
  term_done par ts h f =
      let us = change_all F d 0 ts in
      let u = node par (trees (ascending (listed us))) in
      let k : Fits term y u = (tt, ascending_hold part y [] (listed us) (rw (trees-listed us) (f h.1))) in
      (u, refl, k, (refl, no_variables y u k ∙ sym (no_variables x (node par ts) h), tt))
  term_done _ ts h f = absurd h.1
