-- What is of a sort in a scope is of that sort.
use Rattle.std.proofs.Common.{List, [], ◌∷◌, ◌++◌, reverse}
use Rattle.calculus.specs.Tree.{Label, fresh, par, some_name, pattern, Tree, node, Trees, none, also}
use Rattle.calculus.specs.Shape.{count}
use Rattle.calculus.specs.Code.{code}
use Rattle.calculus.specs.Variables.{Sense, binders}
use Rattle.std.specs.Prelude.{ℕ, Bool, true, false, cond, leb}
use Rattle.calculus.specs.Form.{Sort, term, part, a_bind, a_case, a_rest, pat, name_pat, pat_part, name_part, row_of, pair_of, Kids, all, these, no_form, pat_kids, name_kids, kids, Scope, IsPlain, outer, Fits, Hold}
use Rattle.calculus.specs.CodeLaws.{CodesSplit, NoCodeIsPrefix}
use Rattle.calculus.proofs.Tails.{IsFine}
use Rattle.calculus.proofs.Formed.{Formed, Holds}
use Rattle.calculus.proofs.Prefixes.{none_longer}
use Rattle.calculus.proofs.Splitting.{splits}

-- what may be a part of a pattern may be the one part of a name pattern
as_name_part : (P : Label → Type 0) (l : Label) (ts : Trees) → Holds P (pat_kids l) ts → Holds P (name_kids l) ts
as_name_part P some_name ts h = absurd h
as_name_part P _ ts h = h

as_name_parts : (P : Label → Type 0) (ts : Trees) → Holds P (all pat_part) ts → Holds P (all name_part) ts
as_name_parts P none h = tt
as_name_parts P (also (node l us) ts) h = ((h.0.0, as_name_part P l us h.0.1), as_name_parts P ts h.1)

either_part : (P : Label → Type 0) (b : Bool) (ts : Trees) → Holds P (cond b (all name_part) (all pat_part)) ts → Holds P (all name_part) ts
either_part P true ts h = h
either_part P false ts h = as_name_parts P ts h

pub any_number : (P : Label → Type 0) (s : Sort) (l : Label) (n : ℕ) (ts : Trees) → Holds P (kids s l n) ts → Holds P (kids s l 0) ts
any_number P name_pat pattern n ts h = either_part P (leb n 1) ts h
any_number P name_pat _ n ts h = h
any_number P part l n ts h = h
any_number P pat_part l n ts h = h
any_number P name_part l n ts h = h
any_number P term par n ts h = h
any_number P term _ n ts h = h
any_number P a_bind par n ts h = h
any_number P a_bind _ n ts h = h
any_number P a_case par n ts h = h
any_number P a_case _ n ts h = h
any_number P a_rest par n ts h = h
any_number P a_rest _ n ts h = h
any_number P pat par n ts h = h
any_number P pat _ n ts h = h
any_number P (row_of s) par n ts h = h
any_number P (row_of s) _ n ts h = h
any_number P (pair_of s) par n ts h = h
any_number P (pair_of s) _ n ts h = h

module _ (P : Label → Type 0) (f : (s : Sort) (v : Scope) (l : Label) (ts : Trees) → IsPlain s v l ts → P l) where
  mutual
    pub formed : (s : Sort) (v : Scope) (t : Tree) → Fits s v t → Formed P s t
    formed s v (node l ts) h = (f s v l ts h.0, any_number P s l (count ts) ts (held (kids s l (count ts)) (outer s l v) (reverse (binders l ts)) ts h.1))

    held : (p : Kids) (v : Scope) (o : List Sense) (ts : Trees) → Hold p v o ts → Holds P p ts
    held (all s) v o none h = tt
    held (all s) v o (also t ts) h = (formed s v t h.0, held (all s) v o ts h.1)
    held (these []) v o none h = tt
    held (these []) v o (also t ts) h = absurd h
    held (these (s ∷ ss)) v o none h = absurd h
    held (these (s ∷ [])) v o (also t none) h = (formed s (o ++ v) t h.0, tt)
    held (these (s ∷ r ∷ ss)) v o (also t none) h = absurd h.1
    held (these (s ∷ ss)) v o (also t (also u us)) h = (formed s v t h.0, held (these ss) v o (also u us) h.1)
    held no_form v o ts h = absurd h

pub fine : (s : Sort) (v : Scope) (l : Label) (ts : Trees) → IsPlain s v l ts → IsFine l
fine s v (fresh x) ts h = h.0
fine s v par ts h = tt
fine s v _ ts h = tt

pub codes_split : CodesSplit
codes_split s v w t u h k a b = splits s t u (formed IsFine fine s v t h) (formed IsFine fine s w u k) a b

pub no_code_is_prefix : NoCodeIsPrefix
no_code_is_prefix t u h k a b x xs e = none_longer (code t) (code u) x xs (codes_split term [] [] t u h k a b) e
