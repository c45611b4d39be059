-- Parts that are flattened: they fit where what they stood in fitted, and bind the same variables.
use Rattle.std.proofs.Common.{◌≡◌, List, [], ◌∷◌, ◌++◌, Bool, true, false, cond, sym, ap, refl, ◌∙◌, append-nil, append_assoc}
use Rattle.std.specs.Prelude.{flat_map, leb}
use Rattle.calculus.specs.Tree.{Label, par, pattern, some_name, Tree, node, Trees, none, also, trees}
use Rattle.calculus.specs.Shape.{count, held, listed, many}
use Rattle.calculus.specs.Variables.{Sense, bound, bound_all}
use Rattle.calculus.specs.Form.{Sort, term, part, pat, name_pat, pat_part, name_part, all, Scope, Fits, Hold}
use Rattle.calculus.proofs.Placing.{trees-listed}

append-hold : (s : Sort) (v : Scope) (o : List Sense) (ts us : List Tree) → Hold (all s) v o (trees ts) → Hold (all s) v o (trees us) → Hold (all s) v o (trees (ts ++ us))
append-hold s v o [] us h k = k
append-hold s v o (t ∷ ts) us h k = (h.0, append-hold s v o ts us h.1 k)

append-bound : (ts us : List Tree) → bound_all (trees (ts ++ us)) ≡ bound_all (trees ts) ++ bound_all (trees us)
append-bound [] us = refl
append-bound (t ∷ ts) us = ap (λ vs. bound t ++ vs) (append-bound ts us) ∙ sym (append_assoc (bound t) (bound_all (trees ts)) (bound_all (trees us)))

held-term : (v : Scope) (t : Tree) → Fits term v t → Hold (all part) v [] (trees (held t))
held-term v (node par ts) h = rw (trees-listed ts) h.1
held-term v (node _ ts) h = absurd h.1

held-pat : (v : Scope) (t : Tree) → Fits pat v t → Hold (all pat_part) v [] (trees (held t))
held-pat v (node pattern ts) h = rw (trees-listed ts) h.1
held-pat v (node _ ts) h = absurd h.1

bound-pat : (v : Scope) (t : Tree) → Fits pat v t → bound_all (trees (held t)) ≡ bound t
bound-pat v (node pattern ts) h = ap bound_all (trees-listed ts)
bound-pat v (node _ ts) h = absurd h.1

pub flat-terms : (v : Scope) (o : List Sense) (ts : List Tree) → Hold (all term) v o (trees ts) → Hold (all part) v [] (trees (flat_map held ts))
flat-terms v o [] h = tt
flat-terms v o (t ∷ ts) h = append-hold part v [] (held t) (flat_map held ts) (held-term v t h.0) (flat-terms v o ts h.1)

pub flat-pats : (v : Scope) (o : List Sense) (ts : List Tree) → Hold (all pat) v o (trees ts) → Hold (all pat_part) v [] (trees (flat_map held ts))
flat-pats v o [] h = tt
flat-pats v o (t ∷ ts) h = append-hold pat_part v [] (held t) (flat_map held ts) (held-pat v t h.0) (flat-pats v o ts h.1)

pub flat-bound : (v : Scope) (o : List Sense) (ts : List Tree) → Hold (all pat) v o (trees ts) → bound_all (trees (flat_map held ts)) ≡ bound_all (trees ts)
flat-bound v o [] h = refl
flat-bound v o (t ∷ ts) h =
    append-bound (held t) (flat_map held ts) ∙ ap (λ vs. vs ++ bound_all (trees (flat_map held ts))) (bound-pat v t h.0) ∙ ap (λ vs. bound t ++ vs) (flat-bound v o ts h.1)

-- what may be a part of a pattern may be the one part of a name pattern
as-name-part : (v : Scope) (t : Tree) → Fits pat_part v t → Fits name_part v t
as-name-part v (node some_name ts) h = absurd h.1
as-name-part v (node _ ts) h = h

as-name-parts : (v : Scope) (o : List Sense) (ts : Trees) → Hold (all pat_part) v o ts → Hold (all name_part) v o ts
as-name-parts v o none h = tt
as-name-parts v o (also t ts) h = (as-name-part v t h.0, as-name-parts v o ts h.1)

either-part : (b : Bool) (v : Scope) (o : List Sense) (ts : Trees) → Hold (all pat_part) v o ts → Hold (cond b (all name_part) (all pat_part)) v o ts
either-part true v o ts h = as-name-parts v o ts h
either-part false v o ts h = h

-- a pattern of processes is one of the names that quote them
pub as-name-pattern : (v : Scope) (t : Tree) → Fits pat v t → Fits name_pat v t
as-name-pattern v (node pattern ts) h = (h.0, either-part (leb (count ts) 1) v [] ts h.1)
as-name-pattern v (node _ ts) h = absurd h.1

one-held : (l : Label) (ts : Trees) → trees (flat_map held (node l ts ∷ [])) ≡ ts
one-held l ts = ap trees (append-nil (listed ts)) ∙ trees-listed ts

pub same-term : (v : Scope) (t : Tree) → Fits term v t → many par (flat_map held (t ∷ [])) ≡ t
same-term v (node par ts) h = ap (node par) (one-held par ts)
same-term v (node _ ts) h = absurd h.1

pub same-pattern : (v : Scope) (t : Tree) → Fits pat v t → many pattern (flat_map held (t ∷ [])) ≡ t
same-pattern v (node pattern ts) h = ap (node pattern) (one-held pattern ts)
same-pattern v (node _ ts) h = absurd h.1
