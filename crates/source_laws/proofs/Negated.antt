-- What breaks no rule under `~`, under `\/` or in a bundle of a pattern binds no variable.
use Rattle.std.proofs.Common.{◌≡◌, ℕ, List, [], ◌∷◌, ◌++◌, true, false, ap, refl, ◌∙◌}
use Rattle.calculus.specs.Tree.{Label, row, pair, rest, any, send, same, both, either, not_this, bundle, list_pattern, set_pattern, map_pattern}
use Rattle.calculus.specs.declared.plain.TermRest.TheVariants as rests
use Rattle.calculus.specs.Written.{in_pattern, around, bind_process, bind_name, bind_rest, quote_pattern, closed, Written, form, Writtens, no_more, more}
use Rattle.calculus.specs.Form.{Sort, term, a_bind, a_case, a_rest, pat, name_pat, part, pat_part, name_part, row_of, pair_of, Kids, all, these, no_form}
use Rattle.scope.specs.Binding.{Variable, Scope, variables, all_variables, own_variables}
use Rattle.scope.specs.Rules.{Reading, outside, after, past, under, new_variable, breaks, all_breaks}
use Rattle.source_laws.specs.WellFormed.{pattern_kids, IsOfSort, Are}
use Rattle.source_laws.proofs.Scopes.{left-none, right-none}
use Rattle.source_laws.proofs.Naming.{term-variables}
use Rattle.source_laws.proofs.ClosedReading.{below, pattern-breaks, Negated, OfPatterns, AllOfPatterns}

past-negated : (t : Written) (r : Reading) → Negated r → Negated (past t r)
past-negated t outside n = n
past-negated t (after seen false) n = n
past-negated t (after seen true) n = n

under-negated : (r : Reading) → Negated r → Negated (under r)
under-negated outside n = n
under-negated (after seen false) n = absurd n
under-negated (after seen true) n = n

no-new : (x : List ℕ) (r : Reading) → Negated r → new_variable x r ≡ [] → ⊥
no-new x outside n h = n
no-new x (after seen false) n h = n
no-new x (after seen true) n h = cc

-- in all but ={P}
pattern-none : (l : Label) (r : Reading) (vs : List Variable) → Negated r → (Negated (below l r) → vs ≡ []) → own_variables (in_pattern l) vs ≡ []
pattern-none same r vs n f = refl
pattern-none either r vs n f = f (under-negated r n)
pattern-none not_this r vs n f = f (under-negated r n)
pattern-none (bundle b) r vs n f = f (under-negated r n)
pattern-none _ r vs n f = f n

of-patterns : (l : Label) → AllOfPatterns (pattern_kids l)
of-patterns same = (tt, tt)
of-patterns either = (tt, (tt, tt))
of-patterns both = (tt, (tt, tt))
of-patterns not_this = (tt, tt)
of-patterns list_pattern = (tt, (tt, tt))
of-patterns set_pattern = (tt, (tt, tt))
of-patterns map_pattern = (tt, (tt, tt))
of-patterns (send q) = (tt, (tt, tt))
of-patterns (bundle b) = (tt, tt)
of-patterns _ = tt

no-variables : (ts : Writtens) → Are (these []) ts → all_variables ts ≡ []
no-variables no_more h = refl
no-variables (more t ts) h = absurd h

mutual
  pub none-bound : (s : Sort) (t : Written) (v : Scope) (r : Reading) → OfPatterns s → IsOfSort s t → Negated r → breaks t v r ≡ [] → variables t ≡ []
  none-bound term t v r o h n b = term-variables t h
  none-bound pat (form (in_pattern l) ts) v r o h n b = pattern-none l r (all_variables ts) n (λ m. all-none (pattern_kids l) ts v (below l r) (of-patterns l) h.1 m (pattern-breaks l ts v r b))
  none-bound pat (form (bind_process x) ts) v r o h n b = absurd (no-new x r n b)
  none-bound pat (form closed ts) v r o h n b = refl
  none-bound pat (form _ ts) v r o h n b = absurd h.1
  none-bound name_pat (form (in_pattern any) ts) v r o h n b = no-variables ts h.1
  none-bound name_pat (form (in_pattern _) ts) v r o h n b = absurd h.1
  none-bound name_pat (form (bind_name x) ts) v r o h n b = absurd (no-new x r n b)
  none-bound name_pat (form quote_pattern ts) v r o h n b = all-none (these (pat ∷ [])) ts v r (tt, tt) h.1 n b
  none-bound name_pat (form _ ts) v r o h n b = absurd h.1
  none-bound a_rest (form (around (rest rests.No)) ts) v r o h n b = no-variables ts h.1
  none-bound a_rest (form (around (rest rests.Wild)) ts) v r o h n b = no-variables ts h.1
  none-bound a_rest (form (around _) ts) v r o h n b = absurd h.1
  none-bound a_rest (form (bind_rest x) ts) v r o h n b = absurd (no-new x r n b)
  none-bound a_rest (form _ ts) v r o h n b = absurd h.1
  none-bound (row_of s) (form (around row) ts) v r o h n b = all-none (all s) ts v r o h.1 n b
  none-bound (row_of s) (form (around _) ts) v r o h n b = absurd h.1
  none-bound (row_of s) (form _ ts) v r o h n b = absurd h.1
  none-bound (pair_of s) (form (around pair) ts) v r o h n b = all-none (these (s ∷ s ∷ [])) ts v r (o, (o, tt)) h.1 n b
  none-bound (pair_of s) (form (around _) ts) v r o h n b = absurd h.1
  none-bound (pair_of s) (form _ ts) v r o h n b = absurd h.1
  none-bound a_bind t v r o h n b = absurd o
  none-bound a_case t v r o h n b = absurd o
  none-bound part (form _ ts) v r o h n b = absurd h.1
  none-bound pat_part (form _ ts) v r o h n b = absurd h.1
  none-bound name_part (form _ ts) v r o h n b = absurd h.1

  pub all-none : (p : Kids) (ts : Writtens) (v : Scope) (r : Reading) → AllOfPatterns p → Are p ts → Negated r → all_breaks ts v r ≡ [] → all_variables ts ≡ []
  all-none (all s) no_more v r o h n b = refl
  all-none (all s) (more t ts) v r o h n b =
      ap (λ vs. vs ++ all_variables ts) (none-bound s t v r o h.0 n (left-none (breaks t v r) (all_breaks ts v (past t r)) b))
      ∙ all-none (all s) ts v (past t r) o h.1 (past-negated t r n) (right-none (breaks t v r) (all_breaks ts v (past t r)) b)
  all-none (these []) no_more v r o h n b = refl
  all-none (these []) (more t ts) v r o h n b = absurd h
  all-none (these (s ∷ ss)) no_more v r o h n b = absurd h
  all-none (these (s ∷ ss)) (more t ts) v r o h n b =
      ap (λ vs. vs ++ all_variables ts) (none-bound s t v r o.0 h.0 n (left-none (breaks t v r) (all_breaks ts v (past t r)) b))
      ∙ all-none (these ss) ts v (past t r) o.1 h.1 (past-negated t r n) (right-none (breaks t v r) (all_breaks ts v (past t r)) b)
  all-none no_form ts v r o h n b = absurd h
