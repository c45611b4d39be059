-- The names that a pattern binds are those of its variables, and a process binds none outside.
use Rattle.std.proofs.Common.{◌≡◌, ℕ, List, [], ◌∷◌, ◌++◌, sym, ap, refl, ◌∙◌}
use Rattle.std.proofs.lemmas.List.{map-append}
use Rattle.calculus.specs.Tree.{Label, same}
use Rattle.calculus.specs.Written.{in_process, in_pattern, around, use_process, use_name, drop, quote, declare, bind_process, bind_name, bind_rest, quote_pattern, closed, Written, form, Writtens, no_more, more}
use Rattle.calculus.specs.Bare.{names, all_names, own_names}
use Rattle.calculus.specs.Form.{Sort, term, a_bind, a_case, a_rest, pat, name_pat, row_of, pair_of, Kids, all, these, no_form}
use Rattle.scope.specs.Binding.{Variable, variables, all_variables, own_variables}
use Rattle.source_laws.specs.WellFormed.{written_kids, IsOfSort, Are}
use Rattle.source_laws.proofs.Scopes.{names_of}

mutual
  pub term-names : (t : Written) → IsOfSort term t → names t ≡ []
  term-names (form (in_process l) ts) h = refl
  term-names (form (use_process x) no_more) h = refl
  term-names (form (use_process x) (more t ts)) h = absurd h.1
  term-names (form (use_name x) no_more) h = refl
  term-names (form (use_name x) (more t ts)) h = absurd h.1
  term-names (form drop ts) h = one-none ts h.1
  term-names (form quote ts) h = one-none ts h.1
  term-names (form (declare ds) ts) h = one-none ts h.1
  term-names (form _ ts) h = absurd h.1

  one-none : (ts : Writtens) → Are (these (term ∷ [])) ts → all_names ts ≡ []
  one-none no_more h = refl
  one-none (more t no_more) h = ap (λ xs. xs ++ []) (term-names t h.0)
  one-none (more t (more u us)) h = absurd h.1

pub term-variables : (t : Written) → IsOfSort term t → variables t ≡ []
term-variables (form (in_process l) ts) h = refl
term-variables (form (use_process x) ts) h = refl
term-variables (form (use_name x) ts) h = refl
term-variables (form drop ts) h = refl
term-variables (form quote ts) h = refl
term-variables (form (declare ds) ts) h = refl
term-variables (form _ ts) h = absurd h.1

pattern-names : (l : Label) (xs : List (List ℕ)) (vs : List Variable) → xs ≡ names_of vs → own_names (in_pattern l) xs ≡ names_of (own_variables (in_pattern l) vs)
pattern-names same xs vs e = refl
pattern-names _ xs vs e = e

more-same : (t : Written) (ts : Writtens) → names t ≡ names_of (variables t) → all_names ts ≡ names_of (all_variables ts) → names t ++ all_names ts ≡ names_of (variables t ++ all_variables ts)
more-same t ts a b = ap (λ xs. xs ++ all_names ts) a ∙ ap (λ xs. names_of (variables t) ++ xs) b ∙ sym (map-append (λ (x : Variable). x.0) (variables t) (all_variables ts))

mutual
  pub same-names : (s : Sort) (t : Written) → IsOfSort s t → names t ≡ names_of (variables t)
  same-names term t h = term-names t h ∙ ap names_of (sym (term-variables t h))
  same-names s (form (in_pattern l) ts) h = pattern-names l (all_names ts) (all_variables ts) (all-same (written_kids s (in_pattern l)) ts h.1)
  same-names s (form (around l) ts) h = all-same (written_kids s (around l)) ts h.1
  same-names s (form (bind_process x) ts) h = refl
  same-names s (form (bind_name x) ts) h = refl
  same-names s (form (bind_rest x) ts) h = refl
  same-names s (form quote_pattern ts) h = all-same (written_kids s quote_pattern) ts h.1
  same-names s (form closed ts) h = refl
  same-names s (form (in_process l) ts) h = refl
  same-names pat (form _ ts) h = absurd h.1
  same-names name_pat (form _ ts) h = absurd h.1
  same-names a_bind (form _ ts) h = absurd h.1
  same-names a_case (form _ ts) h = absurd h.1
  same-names a_rest (form _ ts) h = absurd h.1
  same-names (row_of s) (form _ ts) h = absurd h.1
  same-names (pair_of s) (form _ ts) h = absurd h.1
  same-names _ (form _ ts) h = absurd h.1

  pub all-same : (p : Kids) (ts : Writtens) → Are p ts → all_names ts ≡ names_of (all_variables ts)
  all-same (all s) no_more h = refl
  all-same (all s) (more t ts) h = more-same t ts (same-names s t h.0) (all-same (all s) ts h.1)
  all-same (these []) no_more h = refl
  all-same (these []) (more t ts) h = absurd h
  all-same (these (s ∷ ss)) no_more h = absurd h
  all-same (these (s ∷ ss)) (more t ts) h = more-same t ts (same-names s t h.0) (all-same (these ss) ts h.1)
  all-same no_form ts h = absurd h
