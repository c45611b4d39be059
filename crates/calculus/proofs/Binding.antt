-- How many variables a form binds: no more than its code has bytes, and none outside a process.
use Rattle.std.proofs.Common.{◌≡◌, ℕ, ◌≤◌, ◌+◌, List, [], ◌∷◌, length, refl, ap, ◌∙◌, arith, length-append, inl, inr, ⊎_elim}
use Rattle.std.specs.Prelude.{⊤, ◌⊎◌}
use Rattle.calculus.specs.Tree.{Label, par, row, bool, int, str, uri, bytes, fresh, var, name_var, list, tuple, set, dict, pair, send, receive, new, match, bundle, unary, binary, method, rest, some_process, some_name, Tree, node, Trees, none, also}
use Rattle.calculus.specs.declared.plain.TermRest.TheVariants as rests
use Rattle.calculus.specs.Shape.{count}
use Rattle.calculus.specs.Bytes.{joined}
use Rattle.calculus.specs.Variables.{Sense, own, bound, bound_all}
use Rattle.calculus.specs.Code.{head, code, codes}
use Rattle.calculus.specs.Form.{Sort, term, part, a_bind, a_case, a_rest, pat, name_pat, pat_part, name_part, row_of, pair_of, Kids, all, these, no_form, kids}
use Rattle.calculus.proofs.Known.{IsForm}
use Rattle.calculus.proofs.Formed.{Formed, Holds, is_form, length-code}

own-le : (l : Label) (n : ℕ) (vs : List Sense) → length (own l vs) ≤ length (head l n) + length vs
own-le some_process n vs = omega arith
own-le some_name n vs = omega arith
own-le (rest rests.Var) n vs = omega arith
own-le _ n vs = omega arith

mutual
  pub bound-le : (t : Tree) → length (bound t) ≤ length (code t)
  bound-le (node l ts) = omega (arith, own-le l (count ts) (bound_all ts), length-code l ts, bound_all-le ts)

  bound_all-le : (ts : Trees) → length (bound_all ts) ≤ length (joined (codes ts))
  bound_all-le none = omega arith
  bound_all-le (also t ts) = omega (arith, length-append (bound t) (bound_all ts), length-append (code t) (joined (codes ts)), bound-le t, bound_all-le ts)

-- the sorts that stand in a process outside its binds and cases
abbrev pub OfTerms : Sort → Type 0
OfTerms term = ⊤
OfTerms part = ⊤
OfTerms (row_of s) = OfTerms s
OfTerms (pair_of s) = OfTerms s
OfTerms _ = ⊥

abbrev EachOfTerms : List Sort → Type 0
EachOfTerms [] = ⊤
EachOfTerms (s ∷ ss) = OfTerms s × EachOfTerms ss

abbrev AllOfTerms : Kids → Type 0
AllOfTerms (all s) = OfTerms s
AllOfTerms (these ss) = EachOfTerms ss
AllOfTerms no_form = ⊤

-- it hides what its constituents bind, or binds nothing itself and holds processes alone
abbrev Quiet : Label → Kids → Type 0
Quiet l p = ((vs : List Sense) → own l vs ≡ []) ⊎ ((own l [] ≡ []) × AllOfTerms p)

quiet_part : (l : Label) → IsForm (kids part l 0) → Quiet l (kids part l 0)
quiet_part (bool x) h = inr (refl, tt)
quiet_part (int x) h = inr (refl, tt)
quiet_part (str x) h = inr (refl, tt)
quiet_part (uri x) h = inr (refl, tt)
quiet_part (bytes x) h = inr (refl, tt)
quiet_part (fresh x) h = inr (refl, tt)
quiet_part (var x) h = inr (refl, tt)
quiet_part (name_var x) h = inr (refl, tt)
quiet_part list h = inr (refl, tt)
quiet_part tuple h = inr (refl, tt)
quiet_part set h = inr (refl, tt)
quiet_part dict h = inr (refl, tt)
quiet_part (send x) h = inr (refl, (tt, (tt, tt)))
quiet_part (receive x) h = inl (λ vs. refl)
quiet_part (new x) h = inl (λ vs. refl)
quiet_part match h = inl (λ vs. refl)
quiet_part (bundle x) h = inr (refl, (tt, tt))
quiet_part (unary x) h = inr (refl, (tt, tt))
quiet_part (binary x) h = inr (refl, (tt, (tt, tt)))
quiet_part (method x) h = inr (refl, (tt, (tt, tt)))
quiet_part _ h = absurd h

quiet : (s : Sort) (l : Label) → OfTerms s → IsForm (kids s l 0) → Quiet l (kids s l 0)
quiet part l o h = quiet_part l h
quiet term par o h = inr (refl, tt)
quiet term _ o h = absurd h
quiet (row_of s) row o h = inr (refl, o)
quiet (row_of s) _ o h = absurd h
quiet (pair_of s) pair o h = inr (refl, (o, (o, tt)))
quiet (pair_of s) _ o h = absurd h
quiet a_bind l o h = absurd o
quiet a_case l o h = absurd o
quiet a_rest l o h = absurd o
quiet pat l o h = absurd o
quiet name_pat l o h = absurd o
quiet pat_part l o h = absurd o
quiet name_part l o h = absurd o

module _ (P : Label → Type 0) where
  mutual
    -- a process binds no variable outside it
    pub no_bound : (s : Sort) (t : Tree) → OfTerms s → Formed P s t → bound t ≡ []
    no_bound s (node l ts) o h =
        let p = kids s l 0 in
        ⊎_elim (λ (q : (vs : List Sense) → own l vs ≡ []). q (bound_all ts))
        (λ (q : (own l [] ≡ []) × AllOfTerms p). ap (own l) (no_bound_all p ts q.1 h.1) ∙ q.0)
        (quiet s l o (is_form P p ts h.1))

    no_bound_all : (p : Kids) (ts : Trees) → AllOfTerms p → Holds P p ts → bound_all ts ≡ []
    no_bound_all (all s) none o h = refl
    no_bound_all (all s) (also t ts) o h = rw (no_bound s t o h.0, no_bound_all (all s) ts o h.1)
    no_bound_all (these []) none o h = refl
    no_bound_all (these []) (also t ts) o h = absurd h
    no_bound_all (these (s ∷ ss)) none o h = absurd h
    no_bound_all (these (s ∷ ss)) (also t ts) o h = rw (no_bound s t o.0 h.0, no_bound_all (these ss) ts o.1 h.1)
    no_bound_all no_form ts o h = absurd h
