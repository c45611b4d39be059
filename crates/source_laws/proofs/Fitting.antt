-- What is well formed and breaks no rule fits its sort in its scope.
use Rattle.std.proofs.Common.{◌≡◌, List, [], ◌∷◌, ◌++◌, sym, ap, refl, ◌∙◌, append-nil}
use Rattle.std.specs.Prelude.{false}
use Rattle.std.proofs.lemmas.List.{map-append}
use Rattle.calculus.specs.Tree.{row, pair, receive, bind, case, rest, any, some_process, some_name, Tree, also, trees}
use Rattle.calculus.specs.declared.plain.TermRest.TheVariants as rests
use Rattle.calculus.specs.Shape.{leaf}
use Rattle.calculus.specs.Variables.{bound, bound_all}
use Rattle.calculus.specs.Written.{in_process, in_pattern, around, use_process, use_name, drop, quote, declare, bind_process, bind_name, bind_rest, quote_pattern, closed, Written, form, Writtens, no_more, more}
use Rattle.calculus.specs.Bare.{Names, bare, bare_each}
use Rattle.calculus.specs.Form.{Sort, term, part, a_bind, a_case, a_rest, pat, name_pat, pat_part, name_part, row_of, pair_of, Kids, all, these, no_form, Fits, Hold, AreNone}
use Rattle.calculus.specs.Form.{Scope as Senses}
use Rattle.scope.specs.Binding.{Variable, Scope, variables, all_variables, declared_variables, any_uses_more, inside}
use Rattle.scope.specs.Rules.{Reading, outside, after, past, where_so, pattern_binder, declarations, breaks, all_breaks}
use Rattle.source_laws.specs.WellFormed.{process_kids, pattern_kids, IsOfSort, Are}
use Rattle.source_laws.specs.ClosedLaws.{AcceptedIsClosed}
use Rattle.source_laws.proofs.Scopes.{names_of, senses, left-none, right-none, process-variable, name-variable}
use Rattle.source_laws.proofs.ClosedReading.{below, pattern-breaks, process-breaks, Placed, AllPlaced, placed-past, each-past, pattern-placed, process-placed}
use Rattle.source_laws.proofs.Widths.{one-narrow}
use Rattle.source_laws.proofs.Normal.{normal-fits}
use Rattle.source_laws.proofs.Made.{bare_of, bare_all, Comes, AllCome, comes-term, process-made, receive-made, new-made}
use Rattle.source_laws.proofs.PatternMade.{pattern-made}
use Rattle.source_laws.proofs.AroundMade.{drop-made, quote-made, quote-pattern-made, closed-made, case-made, bind-made}

none-left : (ss : List Sort) → Are (these ss) no_more → AreNone ss
none-left [] h = tt
none-left (s ∷ ss) h = h

-- the last constituent, and one before others
last-comes : (s : Sort) (v : Scope) (w : Names) (t : Written) → Comes s v w t → bound_all (trees (bare_all v w (more t no_more))) ≡ senses (all_variables (more t no_more))
last-comes s v w t c = append-nil (bound (bare_of v w t)) ∙ c.1 ∙ ap senses (sym (append-nil (variables t)))

more-comes : (s : Sort) (v : Scope) (w : Names) (t : Written) (us : Writtens) → Comes s v w t → bound_all (trees (bare_all v w us)) ≡ senses (all_variables us)
    → bound (bare_of v w t) ++ bound_all (trees (bare_all v w us)) ≡ senses (variables t ++ all_variables us)
more-comes s v w t us c e =
    ap (λ xs. xs ++ bound_all (trees (bare_all v w us))) c.1 ∙ ap (λ xs. senses (variables t) ++ xs) e ∙ sym (map-append (λ (x : Variable). x.1) (variables t) (all_variables us))

hold-more : (s : Sort) (ss : List Sort) (v : Senses) (x : Names) (t : Tree) (u : Written) (us : Writtens) → Fits s v t → Hold (these ss) v [] (trees (bare_each (more u us) x [])) → Hold (these (s ∷ ss)) v [] (also t (trees (bare_each (more u us) x [])))
hold-more s ss v x t u no_more h k = (h, k)
hold-more s ss v x t u (more z zs) h k = (h, k)

mutual
  pub fits : (t : Written) (s : Sort) (v : Scope) (w : Names) (r : Reading) → IsOfSort s t → Placed s r → breaks t v r ≡ [] → Comes s v w t
  fits (form (in_process (receive k)) (more bs (more b no_more))) term v w r h p e =
      let n = left-none (breaks bs v (after [] false)) (breaks b (inside (variables bs) v) outside ++ []) e in
      let m = left-none (breaks b (inside (variables bs) v) outside) [] (right-none (breaks bs v (after [] false)) (breaks b (inside (variables bs) v) outside ++ []) e) in
      let c = fits bs (row_of a_bind) v w (after [] false) h.1.0 tt n in
      let f = fits b term (inside (variables bs) v) w outside h.1.1.0 tt m in
      comes-term v w (form (in_process (receive k)) (more bs (more b no_more))) h (receive-made k bs b v w h c f.0)
  fits (form (in_process (receive k)) no_more) term v w r h p e = absurd h.1
  fits (form (in_process (receive k)) (more bs no_more)) term v w r h p e = absurd h.1.1
  fits (form (in_process (receive k)) (more bs (more b (more z zs)))) term v w r h p e = absurd h.1.1.1
  fits (form (in_process l) ts) term v w r h p e = comes-term v w (form (in_process l) ts) h (process-made l ts v w tt h (each ts (process_kids l) v w r h.1 (process-placed l r tt) (process-breaks l ts v r tt e)))
  fits (form (use_process x) no_more) term v w r h p e = ((tt, ((process-variable x v w e, tt), tt)), refl)
  fits (form (use_process x) (more t ts)) term v w r h p e = absurd h.1
  fits (form (use_name x) no_more) term v w r h p e = ((tt, ((name-variable x v w e, tt), tt)), refl)
  fits (form (use_name x) (more t ts)) term v w r h p e = absurd h.1
  fits (form drop (more t no_more)) term v w r h p e = comes-term v w (form drop (more t no_more)) h (drop-made v w t (fits t term v w r h.1.0 tt (left-none (breaks t v r) [] e)).0)
  fits (form drop no_more) term v w r h p e = absurd h.1
  fits (form drop (more t (more u us))) term v w r h p e = absurd h.1.1
  fits (form quote (more t no_more)) term v w r h p e = comes-term v w (form quote (more t no_more)) h (quote-made v w t (fits t term v w r h.1.0 tt (left-none (breaks t v r) [] e)).0)
  fits (form quote no_more) term v w r h p e = absurd h.1
  fits (form quote (more t (more u us))) term v w r h p e = absurd h.1.1
  fits (form (declare ds) (more b no_more)) term v w r h p e =
      let m = left-none (breaks b (inside (declared_variables ds) v) r) [] (right-none (declarations ds []) (breaks b (inside (declared_variables ds) v) r ++ []) e) in
      comes-term v w (form (declare ds) (more b no_more)) h (new-made ds b v w h (fits b term (inside (declared_variables ds) v) w r h.1.0 tt m).0)
  fits (form (declare ds) no_more) term v w r h p e = absurd h.1
  fits (form (declare ds) (more t (more u us))) term v w r h p e = absurd h.1.1
  fits (form (in_pattern l) ts) term v w r h p e = absurd h.1
  fits (form (around l) ts) term v w r h p e = absurd h.1
  fits (form (bind_process x) ts) term v w r h p e = absurd h.1
  fits (form (bind_name x) ts) term v w r h p e = absurd h.1
  fits (form (bind_rest x) ts) term v w r h p e = absurd h.1
  fits (form quote_pattern ts) term v w r h p e = absurd h.1
  fits (form closed ts) term v w r h p e = absurd h.1
  fits (form (in_pattern l) ts) pat v w r h p e = pattern-made ts v w r l p h e (each ts (pattern_kids l) v w (below l r) h.1 (pattern-placed l r p) (pattern-breaks l ts v r e))
  fits (form (bind_process x) ts) pat v w r h p e = ((one-narrow (leaf some_process), ((tt, tt), tt)), refl)
  fits (form closed (more t no_more)) pat v w r h p e =
      let m = left-none (breaks t [] outside) [] (right-none (where_so (any_uses_more (more t no_more) []) pattern_binder) (breaks t [] outside ++ []) e) in
      closed-made v w t h (fits t term [] (names_of v ++ w) outside h.1.0 tt m).0
  fits (form closed no_more) pat v w r h p e = absurd h.1
  fits (form closed (more t (more u us))) pat v w r h p e = absurd h.1.1
  fits (form _ ts) pat v w r h p e = absurd h.1
  fits (form (in_pattern any) no_more) name_pat v w r h p e = ((one-narrow (leaf any), ((tt, tt), tt)), refl)
  fits (form (in_pattern any) (more t ts)) name_pat v w r h p e = absurd h.1
  fits (form (in_pattern _) ts) name_pat v w r h p e = absurd h.1
  fits (form (bind_name x) ts) name_pat v w r h p e = ((one-narrow (leaf some_name), ((tt, tt), tt)), refl)
  fits (form quote_pattern (more t no_more)) name_pat v w r h p e = quote-pattern-made v w t (fits t pat v w r h.1.0 p (left-none (breaks t v r) [] e))
  fits (form quote_pattern no_more) name_pat v w r h p e = absurd h.1
  fits (form quote_pattern (more t (more u us))) name_pat v w r h p e = absurd h.1.1
  fits (form _ ts) name_pat v w r h p e = absurd h.1
  fits (form (around bind) (more c (more q (more z no_more)))) a_bind v w r h p e =
      let rows = breaks q v r ++ (breaks z v (past q r) ++ []) in
      let a = left-none rows (breaks c v outside) e in
      let b = right-none rows (breaks c v outside) e in
      let f = fits c term v w outside h.1.0 tt b in
      let g = fits q (row_of name_pat) v w r h.1.1.0 p (left-none (breaks q v r) (breaks z v (past q r) ++ []) a) in
      let k = fits z a_rest v w (past q r) h.1.1.1.0 (placed-past a_rest q r p) (left-none (breaks z v (past q r)) [] (right-none (breaks q v r) (breaks z v (past q r) ++ []) a)) in
      bind-made c q z v w f g k
  fits (form (around bind) no_more) a_bind v w r h p e = absurd h.1
  fits (form (around bind) (more c no_more)) a_bind v w r h p e = absurd h.1.1
  fits (form (around bind) (more c (more q no_more))) a_bind v w r h p e = absurd h.1.1.1
  fits (form (around bind) (more c (more q (more z (more u us))))) a_bind v w r h p e = absurd h.1.1.1.1
  fits (form (around _) ts) a_bind v w r h p e = absurd h.1
  fits (form _ ts) a_bind v w r h p e = absurd h.1
  fits (form (around case) (more q (more b no_more))) a_case v w r h p e =
      let n = left-none (breaks q v (after [] false)) (breaks b (inside (variables q) v) outside ++ []) e in
      let m = left-none (breaks b (inside (variables q) v) outside) [] (right-none (breaks q v (after [] false)) (breaks b (inside (variables q) v) outside ++ []) e) in
      case-made q b v w h (fits q pat v w (after [] false) h.1.0 tt n) (fits b term (inside (variables q) v) w outside h.1.1.0 tt m).0
  fits (form (around case) no_more) a_case v w r h p e = absurd h.1
  fits (form (around case) (more q no_more)) a_case v w r h p e = absurd h.1.1
  fits (form (around case) (more q (more b (more u us)))) a_case v w r h p e = absurd h.1.1.1
  fits (form (around _) ts) a_case v w r h p e = absurd h.1
  fits (form _ ts) a_case v w r h p e = absurd h.1
  fits (form (around (rest rests.No)) no_more) a_rest v w r h p e = ((tt, tt), refl)
  fits (form (around (rest rests.No)) (more t ts)) a_rest v w r h p e = absurd h.1
  fits (form (around (rest rests.Wild)) no_more) a_rest v w r h p e = ((tt, tt), refl)
  fits (form (around (rest rests.Wild)) (more t ts)) a_rest v w r h p e = absurd h.1
  fits (form (around _) ts) a_rest v w r h p e = absurd h.1
  fits (form (bind_rest x) ts) a_rest v w r h p e = ((tt, tt), refl)
  fits (form _ ts) a_rest v w r h p e = absurd h.1
  fits (form (around row) ts) (row_of s) v w r h p e = let c = each ts (all s) v w r h.1 p e in ((tt, c.0), c.1)
  fits (form (around _) ts) (row_of s) v w r h p e = absurd h.1
  fits (form _ ts) (row_of s) v w r h p e = absurd h.1
  fits (form (around pair) ts) (pair_of s) v w r h p e = let c = each ts (these (s ∷ s ∷ [])) v w r h.1 (p, (p, tt)) e in ((tt, c.0), c.1)
  fits (form (around _) ts) (pair_of s) v w r h p e = absurd h.1
  fits (form _ ts) (pair_of s) v w r h p e = absurd h.1
  fits (form _ ts) part v w r h p e = absurd h.1
  fits (form _ ts) pat_part v w r h p e = absurd h.1
  fits (form _ ts) name_part v w r h p e = absurd h.1

  each : (ts : Writtens) (k : Kids) (v : Scope) (w : Names) (r : Reading) → Are k ts → AllPlaced k r → all_breaks ts v r ≡ [] → AllCome k v w ts
  each no_more (all s) v w r h p e = (tt, refl)
  each (more t no_more) (all s) v w r h p e =
      let c = fits t s v w r h.0 p (left-none (breaks t v r) [] e) in
      ((c.0, tt), last-comes s v w t c)
  each (more t (more u us)) (all s) v w r h p e =
      let c = fits t s v w r h.0 p (left-none (breaks t v r) (all_breaks (more u us) v (past t r)) e) in
      let d = each (more u us) (all s) v w (past t r) h.1 (placed-past s t r p) (right-none (breaks t v r) (all_breaks (more u us) v (past t r)) e) in
      ((c.0, d.0), more-comes s v w t (more u us) c d.1)
  each no_more (these []) v w r h p e = (tt, refl)
  each (more t ts) (these []) v w r h p e = absurd h
  each no_more (these (s ∷ ss)) v w r h p e = absurd h
  each (more t no_more) (these (s ∷ ss)) v w r h p e =
      let c = fits t s v w r h.0 p.0 (left-none (breaks t v r) [] e) in
      ((c.0, none-left ss h.1), last-comes s v w t c)
  each (more t (more u us)) (these (s ∷ ss)) v w r h p e =
      let c = fits t s v w r h.0 p.0 (left-none (breaks t v r) (all_breaks (more u us) v (past t r)) e) in
      let d = each (more u us) (these ss) v w (past t r) h.1 (each-past ss t r p.1) (right-none (breaks t v r) (all_breaks (more u us) v (past t r)) e) in
      (hold-more s ss (senses v) (names_of v ++ w) (bare_of v w t) u us c.0 d.0, more-comes s v w t (more u us) c d.1)
  each ts no_form v w r h p e = absurd h

pub accepted_is_closed : AcceptedIsClosed
accepted_is_closed p h e = normal-fits [] (bare p) (fits p term [] [] outside h tt e).0
