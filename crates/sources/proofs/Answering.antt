-- A text has one answer at most.
use Rattle.std.proofs.Common.{◌≡◌, ◌∙◌, ℕ, zero, suc, ◌-◌, ◌≤◌, List, [], ◌∷◌, Result, Ok, Err, map, length, refl, sym, ap, subst, arith}
use Rattle.calculus.specs.Bare.{bare}
use Rattle.calculus.specs.Tree.{Tree}
use Rattle.calculus.specs.Written.{Written}
use Rattle.tokens.specs.Token as tokens
use Rattle.tokens.specs.Token.{source, Spanned}
use Rattle.tokens.specs.Reading as reading
use Rattle.tokens.specs.Reading.{HasTokens}
use Rattle.tokens.proofs.OneReading.{same_outcome}
use Rattle.grammar.specs.declared.dialect.Dialect.TheVariants.{Tutorial}
use Rattle.grammar.specs.Spells.{Spells}
use Rattle.grammar.proofs.OneReading.{one_reading}
use Rattle.grammar.specs.Places.{PassesAt, EndsAt}
use Rattle.grammar.proofs.Decided.{one_place, one_end, apart, higher}
use Rattle.scope.specs.NormalForm.{normal_form}
use Rattle.scope.specs.Rules.{Broken, broken_rules}
use Rattle.input_faults.specs.Refusals.{Refusal, no_tokens, too_deep, ill_formed, out_of_scope}
use Rattle.sources.specs.Sources.{most_height, plain, start_of, IsSpelt, IsAccepted, IsSourceOf, IsTooDeep, IsIllFormed, IsOutOfScope, IsRefused}

-- a text has one list of tokens at most
one_list : (text : List ℕ) (xs ys : List Spanned) → HasTokens source text xs → HasTokens source text ys → xs ≡ ys
one_list text xs ys a b = let same = same_outcome a b in cc

one_cause : (text : List ℕ) (r s : tokens.Refusal) → reading.IsRefused source text r → reading.IsRefused source text s → r ≡ s
one_cause text r s a b = let same = same_outcome a b in cc

-- and none where it is refused for having none
no_list : (text : List ℕ) (xs : List Spanned) (r : tokens.Refusal) → HasTokens source text xs → reading.IsRefused source text r → ⊥
no_list text xs r a b = let same = same_outcome a b in cc

-- it spells one process at most
one_process : (text : List ℕ) (p q : Written) → IsSpelt text p → IsSpelt text q → p ≡ q
one_process text p q a b =
    let e = one_list text a.spanned b.spanned a.tokens b.tokens in
    let s : Spells source Tutorial (plain b.spanned) p a.height = subst (λ xs. Spells source Tutorial (plain xs) p a.height) e a.spells in
    (one_reading source Tutorial (plain b.spanned) p q a.height b.height s b.spells).0

-- a process whose first broken rule is one has no other first one
one_first : (b c : Broken) (bs cs xs : List Broken) → xs ≡ b ∷ bs → xs ≡ c ∷ cs → b ≡ c
one_first b c bs cs xs e f = cc

none_first : (b : Broken) (bs xs : List Broken) → xs ≡ [] → xs ≡ b ∷ bs → ⊥
none_first b bs xs e f = cc

-- a text is too deep at one place at most
one_depth : (text : List ℕ) (k m : ℕ) → IsTooDeep text k → IsTooDeep text m → k ≡ m
one_depth text k m a b =
    let e = one_list text a.spanned b.spanned a.tokens b.tokens in
    let p : PassesAt source Tutorial most_height (plain b.spanned) a.number = subst (λ xs. PassesAt source Tutorial most_height (plain xs) a.number) e a.passes in
    let f = one_place source Tutorial most_height (plain b.spanned) a.number b.number p b.passes in
    a.place ∙ (ap (λ xs. start_of xs a.number) e ∙ (ap (start_of b.spanned) f ∙ sym b.place))

one_failed : (text : List ℕ) (k m : ℕ) → IsIllFormed text k → IsIllFormed text m → k ≡ m
one_failed text k m a b =
    let e = one_list text a.spanned b.spanned a.tokens b.tokens in
    let p : EndsAt source Tutorial most_height (plain b.spanned) a.number = subst (λ xs. EndsAt source Tutorial most_height (plain xs) a.number) e a.ends in
    let f = one_end source Tutorial most_height (plain b.spanned) a.number b.number p b.ends in
    a.place ∙ (ap (λ xs. start_of xs a.number) e ∙ (ap (start_of b.spanned) f ∙ sym b.place))

-- what is spelt is neither
spelt_not_deep : (text : List ℕ) (p : Written) (k : ℕ) → IsSpelt text p → IsTooDeep text k → ⊥
spelt_not_deep text p k a b =
    let e = one_list text a.spanned b.spanned a.tokens b.tokens in
    let s : Spells source Tutorial (plain b.spanned) p a.height = subst (λ xs. Spells source Tutorial (plain xs) p a.height) e a.spells in
    let g = higher source Tutorial most_height (plain b.spanned) b.number p a.height b.passes.at s in omega (arith, g, a.within)

spelt_not_failed : (text : List ℕ) (p : Written) (k : ℕ) → IsSpelt text p → IsIllFormed text k → ⊥
spelt_not_failed text p k a b =
    let e = one_list text a.spanned b.spanned a.tokens b.tokens in
    let s : Spells source Tutorial (plain b.spanned) p a.height = subst (λ xs. Spells source Tutorial (plain xs) p a.height) e a.spells in
    b.nothing p a.height s

deep_not_failed : (text : List ℕ) (k m : ℕ) → IsTooDeep text k → IsIllFormed text m → ⊥
deep_not_failed text k m a b =
    let e = one_list text a.spanned b.spanned a.tokens b.tokens in
    let p : PassesAt source Tutorial most_height (plain b.spanned) a.number = subst (λ xs. PassesAt source Tutorial most_height (plain xs) a.number) e a.passes in
    apart source Tutorial most_height (plain b.spanned) a.number b.number p b.ends

-- two accepted processes are one
pub one_term : (text : List ℕ) (t u : Tree) → IsSourceOf text t → IsSourceOf text u → t ≡ u
one_term text t u a b = a.normal ∙ (ap (λ p. normal_form (bare p)) (one_process text a.process b.process a.accepted.spelt b.accepted.spelt) ∙ sym b.normal)

-- two refusals are one
pub one_refusal : (text : List ℕ) (r s : Refusal) → IsRefused text r → IsRefused text s → r ≡ s
one_refusal text (no_tokens r) (no_tokens s) a b = ap no_tokens (one_cause text r s a b)
one_refusal text (no_tokens r) (too_deep k) a b = absurd (no_list text b.spanned r b.tokens a)
one_refusal text (no_tokens r) (ill_formed k) a b = absurd (no_list text b.spanned r b.tokens a)
one_refusal text (no_tokens r) (out_of_scope x) a b = absurd (no_list text b.spelt.spanned r b.spelt.tokens a)
one_refusal text (too_deep k) (no_tokens r) a b = absurd (no_list text a.spanned r a.tokens b)
one_refusal text (too_deep k) (too_deep m) a b = ap too_deep (one_depth text k m a b)
one_refusal text (too_deep k) (ill_formed m) a b = absurd (deep_not_failed text k m a b)
one_refusal text (too_deep k) (out_of_scope x) a b = absurd (spelt_not_deep text b.process k b.spelt a)
one_refusal text (ill_formed k) (no_tokens r) a b = absurd (no_list text a.spanned r a.tokens b)
one_refusal text (ill_formed k) (too_deep m) a b = absurd (deep_not_failed text m k b a)
one_refusal text (ill_formed k) (ill_formed m) a b = ap ill_formed (one_failed text k m a b)
one_refusal text (ill_formed k) (out_of_scope x) a b = absurd (spelt_not_failed text b.process k b.spelt a)
one_refusal text (out_of_scope x) (no_tokens r) a b = absurd (no_list text a.spelt.spanned r a.spelt.tokens b)
one_refusal text (out_of_scope x) (too_deep m) a b = absurd (spelt_not_deep text a.process m a.spelt b)
one_refusal text (out_of_scope x) (ill_formed m) a b = absurd (spelt_not_failed text a.process m a.spelt b)
one_refusal text (out_of_scope x) (out_of_scope y) a b =
    let e = one_process text a.process b.process a.spelt b.spelt in
    ap out_of_scope (one_first x y a.others b.others (broken_rules b.process) (sym (ap broken_rules e) ∙ a.broken) b.broken)

-- what is accepted is not refused
pub not_both : (text : List ℕ) (t : Tree) (r : Refusal) → IsSourceOf text t → IsRefused text r → ⊥
not_both text t (no_tokens r) a b = no_list text a.accepted.spelt.spanned r a.accepted.spelt.tokens b
not_both text t (too_deep k) a b = spelt_not_deep text a.process k a.accepted.spelt b
not_both text t (ill_formed k) a b = spelt_not_failed text a.process k a.accepted.spelt b
not_both text t (out_of_scope x) a b =
    let e = one_process text a.process b.process a.accepted.spelt b.spelt in
    none_first x b.others (broken_rules b.process) (sym (ap broken_rules e) ∙ a.accepted.sound) b.broken
