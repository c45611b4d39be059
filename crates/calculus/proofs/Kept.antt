-- What stays as it is where each constituent of a form is changed to one tree with the same label and the same bound variables.
use Rattle.std.proofs.Common.{◌≡◌, ℕ, Bool, true, false, cond, List, [], ◌∷◌, length}
use Rattle.std.specs.Prelude.{⊤, leb}
use Rattle.calculus.specs.Tree.{Label, par, row, pair, send, receive, bind, new, match, case, bundle, unary, binary, method, pattern, rest, some_name, same, both, either, not_this, list_pattern, set_pattern, map_pattern, Tree, Trees, none, also}
use Rattle.calculus.specs.Shape.{label_of, held}
use Rattle.calculus.specs.Variables.{bound}
use Rattle.calculus.specs.Form.{Sort, term, part, a_bind, a_case, a_rest, pat, name_pat, pat_part, name_part, row_of, pair_of, Kids, all, these, no_form, part_kids, pat_kids, name_kids, kids}

-- the sorts whose trees stay one tree: all but the parts of a process
abbrev pub Whole : Sort → Type 0
Whole part = ⊥
Whole (row_of s) = Whole s
Whole (pair_of s) = Whole s
Whole _ = ⊤

abbrev pub EachWhole : List Sort → Type 0
EachWhole [] = ⊤
EachWhole (s ∷ ss) = Whole s × EachWhole ss

abbrev pub AllWhole : Kids → Type 0
AllWhole (all s) = Whole s
AllWhole (these ss) = EachWhole ss
AllWhole no_form = ⊤

pub part_whole : (l : Label) → AllWhole (part_kids l)
part_whole (send x) = (tt, (tt, tt))
part_whole (receive x) = (tt, (tt, tt))
part_whole (new x) = (tt, tt)
part_whole match = (tt, (tt, tt))
part_whole (bundle x) = (tt, tt)
part_whole (unary x) = (tt, tt)
part_whole (binary x) = (tt, (tt, tt))
part_whole (method x) = (tt, (tt, tt))
part_whole _ = tt

pat_whole : (l : Label) → AllWhole (pat_kids l)
pat_whole same = (tt, tt)
pat_whole both = (tt, (tt, tt))
pat_whole either = (tt, (tt, tt))
pat_whole not_this = (tt, tt)
pat_whole list_pattern = (tt, (tt, tt))
pat_whole set_pattern = (tt, (tt, tt))
pat_whole map_pattern = (tt, (tt, tt))
pat_whole (send x) = (tt, (tt, tt))
pat_whole (bundle x) = (tt, tt)
pat_whole (receive x) = (tt, (tt, tt))
pat_whole (new x) = (tt, tt)
pat_whole match = (tt, (tt, tt))
pat_whole _ = tt

name_whole : (l : Label) → AllWhole (name_kids l)
name_whole some_name = tt
name_whole par = tt
name_whole l = pat_whole l

either_whole : (b : Bool) → AllWhole (cond b (all name_part) (all pat_part))
either_whole true = tt
either_whole false = tt

abbrev pub NotTerm : Sort → Type 0
NotTerm term = ⊥
NotTerm _ = ⊤

-- what a form of such a sort holds is of such sorts, but for the parts of a process
pub holds_whole : (s : Sort) (l : Label) (n : ℕ) → Whole s → NotTerm s → AllWhole (kids s l n)
holds_whole term l n o d = absurd d
holds_whole part l n o d = absurd o
holds_whole pat_part l n o d = pat_whole l
holds_whole name_part l n o d = name_whole l
holds_whole a_bind bind n o d = (tt, (tt, (tt, tt)))
holds_whole a_bind _ n o d = tt
holds_whole a_case case n o d = (tt, (tt, tt))
holds_whole a_case _ n o d = tt
holds_whole a_rest (rest x) n o d = tt
holds_whole a_rest _ n o d = tt
holds_whole pat pattern n o d = tt
holds_whole pat _ n o d = tt
holds_whole name_pat pattern n o d = either_whole (leb n 1)
holds_whole name_pat _ n o d = tt
holds_whole (row_of s) row n o d = o
holds_whole (row_of s) _ n o d = tt
holds_whole (pair_of s) pair n o d = (o, (o, tt))
holds_whole (pair_of s) _ n o d = tt

-- a row keeps its number of constituents
abbrev pub SameCount : Sort → Tree → Tree → Type 0
SameCount (row_of s) t u = length (held u) ≡ length (held t)
SameCount _ t u = ⊤

-- one tree changed to another
abbrev pub Kept : Sort → Tree → Tree → Type 0
Kept s t u = (label_of u ≡ label_of t) × (bound u ≡ bound t) × SameCount s t u

abbrev pub KeptAll : Kids → Trees → Trees → Type 0
KeptAll (all s) none none = ⊤
KeptAll (all s) none (also u us) = ⊥
KeptAll (all s) (also t ts) none = ⊥
KeptAll (all s) (also t ts) (also u us) = Kept s t u × KeptAll (all s) ts us
KeptAll (these []) none none = ⊤
KeptAll (these []) none (also u us) = ⊥
KeptAll (these []) (also t ts) us = ⊥
KeptAll (these (s ∷ ss)) none us = ⊥
KeptAll (these (s ∷ ss)) (also t ts) none = ⊥
KeptAll (these (s ∷ ss)) (also t ts) (also u us) = Kept s t u × KeptAll (these ss) ts us
KeptAll no_form ts us = ⊥

-- what of it the lemmas on numbers and variables need
abbrev pub Like : Trees → Trees → Type 0
Like none none = ⊤
Like none (also u us) = ⊥
Like (also t ts) none = ⊥
Like (also t ts) (also u us) = (label_of u ≡ label_of t) × (bound u ≡ bound t) × Like ts us

pub like : (p : Kids) (ts us : Trees) → KeptAll p ts us → Like ts us
like (all s) none none h = tt
like (all s) none (also u us) h = h
like (all s) (also t ts) none h = h
like (all s) (also t ts) (also u us) h = (h.0.0, h.0.1, like (all s) ts us h.1)
like (these []) none none h = tt
like (these []) none (also u us) h = h
like (these []) (also t ts) us h = absurd h
like (these (s ∷ ss)) none us h = absurd h
like (these (s ∷ ss)) (also t ts) none h = h
like (these (s ∷ ss)) (also t ts) (also u us) h = (h.0.0, h.0.1, like (these ss) ts us h.1)
like no_form ts us h = absurd h
