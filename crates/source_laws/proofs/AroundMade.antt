-- Variables, quotes, closed forms, and the forms around processes and patterns, whose constituents fit.
use Rattle.std.proofs.Common.{◌≡◌, List, [], ◌++◌, reverse, sym, ap, refl, ◌∙◌, subst, append-nil}
use Rattle.std.proofs.lemmas.List.{map-append}
use Rattle.calculus.specs.Tree.{receive, bind, match, case}
use Rattle.calculus.specs.Shape.{held, at}
use Rattle.calculus.specs.Variables.{bound}
use Rattle.calculus.specs.Written.{in_process, around, drop, quote, declare, quote_pattern, closed, Written, form, no_more, more}
use Rattle.calculus.specs.Bare.{Names, names, bare_in}
use Rattle.calculus.specs.Form.{term, a_bind, a_case, a_rest, pat, name_pat, row_of, Fits}
use Rattle.scope.specs.Binding.{Variable, Scope, variables, inside}
use Rattle.source_laws.specs.WellFormed.{IsOfSort}
use Rattle.source_laws.proofs.Scopes.{names_of, senses}
use Rattle.source_laws.proofs.Naming.{term-names, term-variables, same-names}
use Rattle.source_laws.proofs.Widths.{one-narrow}
use Rattle.source_laws.proofs.Parts.{same-term, same-pattern, as-name-pattern}
use Rattle.source_laws.proofs.Inside.{body-bound, body-fits}
use Rattle.source_laws.proofs.Made.{bare_of, Comes}

-- what a drop or a quote holds
pub drop-made : (v : Scope) (w : Names) (t : Written) → Fits term (senses v) (bare_of v w t) → Fits term (senses v) (bare_of v w (form drop (more t no_more)))
drop-made v w t h = subst (Fits term (senses v)) (sym (same-term (senses v) (bare_of v w t) h)) h

pub quote-made : (v : Scope) (w : Names) (t : Written) → Fits term (senses v) (bare_of v w t) → Fits term (senses v) (bare_of v w (form quote (more t no_more)))
quote-made v w t h = subst (Fits term (senses v)) (sym (same-term (senses v) (bare_of v w t) h)) h

-- a quoted pattern
pub quote-pattern-made : (v : Scope) (w : Names) (t : Written) → Comes pat v w t → Comes name_pat v w (form quote_pattern (more t no_more))
quote-pattern-made v w t c =
    let e = same-pattern (senses v) (bare_of v w t) c.0 in
    (subst (Fits name_pat (senses v)) (sym e) (as-name-pattern (senses v) (bare_of v w t) c.0), ap bound e ∙ c.1 ∙ ap senses (sym (append-nil (variables t))))

-- a closed form fits in no scope
pub closed-made : (v : Scope) (w : Names) (t : Written) → IsOfSort pat (form closed (more t no_more)) → Fits term [] (bare_in t (names_of v ++ w)) → Comes pat v w (form closed (more t no_more))
closed-made v w (form (in_process (receive k)) us) h f = ((one-narrow (at 0 (held (bare_of v w (form (in_process (receive k)) us)))), ((f.1.0.0, f.1.0.1), tt)), refl)
closed-made v w (form (in_process match) us) h f = ((one-narrow (at 0 (held (bare_of v w (form (in_process match) us)))), ((f.1.0.0, f.1.0.1), tt)), refl)
closed-made v w (form (declare ds) us) h f = ((one-narrow (at 0 (held (bare_of v w (form (declare ds) us)))), ((f.1.0.0, f.1.0.1), tt)), refl)
closed-made v w (form (in_process _) us) h f = absurd h.0
closed-made v w (form _ us) h f = absurd h.0

-- a case: the body stands in the scope of what the pattern binds
pub case-made : (p b : Written) (v : Scope) (w : Names) → IsOfSort a_case (form (around case) (more p (more b no_more)))
    → Comes pat v w p → Fits term (senses (inside (variables p) v)) (bare_of (inside (variables p) v) w b) → Comes a_case v w (form (around case) (more p (more b no_more)))
case-made p b v w h c f =
    let xs : Names = names p ++ (names b ++ []) in
    let e : xs ≡ names_of (variables p) = ap (λ ys. names p ++ (ys ++ [])) (term-names b h.1.1.0) ∙ append-nil (names p) ∙ same-names pat p h.1.0 in
    let n = body-bound b (variables p) v w xs e f in
    let o = bound (bare_of v w p) ++ (bound (bare_in b (reverse xs ++ (names_of v ++ w))) ++ []) in
    let d : o ≡ senses (variables p) = ap (λ ys. bound (bare_of v w p) ++ (ys ++ [])) n ∙ append-nil (bound (bare_of v w p)) ∙ c.1 in
    let g : senses (variables p) ≡ senses (variables p ++ (variables b ++ [])) = ap senses (sym (append-nil (variables p)) ∙ ap (λ ys. variables p ++ (ys ++ [])) (sym (term-variables b h.1.1.0))) in
    ((tt, (c.0, (body-fits b (variables p) v w xs e f o d, tt))), d ∙ g)

-- a bind
pub bind-made : (c p q : Written) (v : Scope) (w : Names) → Comes term v w c → Comes (row_of name_pat) v w p → Comes a_rest v w q
    → Comes a_bind v w (form (around bind) (more c (more p (more q no_more))))
bind-made c p q v w f g k =
    let three : bound (bare_of v w c) ++ (bound (bare_of v w p) ++ (bound (bare_of v w q) ++ [])) ≡ senses (variables c) ++ (senses (variables p) ++ (senses (variables q) ++ [])) =
    ap (λ xs. xs ++ (bound (bare_of v w p) ++ (bound (bare_of v w q) ++ []))) f.1
    ∙ ap (λ xs. senses (variables c) ++ (xs ++ (bound (bare_of v w q) ++ []))) g.1
    ∙ ap (λ xs. senses (variables c) ++ (senses (variables p) ++ (xs ++ []))) k.1 in
    let m = λ (xs ys : List Variable). map-append (λ (x : Variable). x.1) xs ys in
    let back : senses (variables c ++ (variables p ++ (variables q ++ []))) ≡ senses (variables c) ++ (senses (variables p) ++ (senses (variables q) ++ [])) =
    m (variables c) (variables p ++ (variables q ++ []))
    ∙ ap (λ xs. senses (variables c) ++ xs) (m (variables p) (variables q ++ []) ∙ ap (λ xs. senses (variables p) ++ xs) (m (variables q) [])) in
    ((tt, (f.0, (g.0, (k.0, tt)))), three ∙ sym back)
