-- Turns of loops over what is tested one after another.
use Rattle.std.proofs.Common.{◌≡◌, ℕ, List, [], ◌∷◌, ◌++◌, map, ap, sym, ◌∙◌, subst, ◌+◌, ◌<◌, ◌≤◌, drop, get_or, length}
use Rattle.std.proofs.lemmas.List.{drop_more, drop_all}
use Rattle.calculus.specs.Written.{Written, writtens}
use Rattle.scope.specs.Binding.{Scope, variables, all_variables, inside}
use Rattle.scope.specs.Rules.{Reading, past, breaks, all_breaks}
use Rattle.scope_names.proofs.Insides.{inside-append}

-- one of these breaks no rule: the first broken rule of all is that of the rest
pub rules-turn : {A : Type 0} (f : A → Written) (ps : List A) (i : ℕ) (d : A) (v w : Scope) (r o q : Reading) → i < length ps → d ≡ get_or ps i d
    → all_breaks (writtens (map f ps)) v r ≡ all_breaks (writtens (map f (drop i ps))) v o → breaks (f d) v o ≡ [] → w ≡ v → q ≡ past (f d) o
    → all_breaks (writtens (map f ps)) w r ≡ all_breaks (writtens (map f (drop (i + 1) ps))) w q
rules-turn f ps i d v w r o q h g k n e p =
    let rest = writtens (map f (drop (i + 1) ps)) in
    let m : drop i ps ≡ d ∷ drop (i + 1) ps = drop_more ps i d h ∙ ap (λ z. z ∷ drop (i + 1) ps) (sym g) in
    let s : all_breaks (writtens (map f ps)) v r ≡ all_breaks rest v q =
    k ∙ ap (λ z. all_breaks (writtens (map f z)) v o) m ∙ ap (λ z. z ++ all_breaks rest v (past (f d) o)) n ∙ ap (λ z. all_breaks rest v z) (sym p) in
    subst (λ u. all_breaks (writtens (map f ps)) u r ≡ all_breaks rest u q) (sym e) s

-- none of these breaks one
pub rules-end : {A : Type 0} (f : A → Written) (ps : List A) (i : ℕ) (v w : Scope) (r o : Reading) → length ps ≤ i → v ≡ w
    → all_breaks (writtens (map f ps)) v r ≡ all_breaks (writtens (map f (drop i ps))) v o → all_breaks (writtens (map f ps)) w r ≡ []
rules-end f ps i v w r o h e k =
    subst (λ u. all_breaks (writtens (map f ps)) u r ≡ []) e (k ∙ ap (λ z. all_breaks (writtens (map f z)) v o) (drop_all i ps h))

-- what one of these binds, and then the rest
pub bound-turn : {A : Type 0} (f : A → Written) (ps : List A) (i : ℕ) (d : A) (b n whole : Scope) → i < length ps → d ≡ get_or ps i d
    → n ≡ inside (variables (f d)) b → inside (all_variables (writtens (map f (drop i ps)))) b ≡ whole → inside (all_variables (writtens (map f (drop (i + 1) ps)))) n ≡ whole
bound-turn f ps i d b n whole h g e k =
    let rest = all_variables (writtens (map f (drop (i + 1) ps))) in
    let m : drop i ps ≡ d ∷ drop (i + 1) ps = drop_more ps i d h ∙ ap (λ z. z ∷ drop (i + 1) ps) (sym g) in
    ap (inside rest) e ∙ sym (inside-append (variables (f d)) rest b) ∙ ap (λ z. inside (all_variables (writtens (map f z))) b) (sym m) ∙ k

-- all that they bind
pub bound-end : {A : Type 0} (f : A → Written) (ps : List A) (i : ℕ) (b whole : Scope) → length ps ≤ i → inside (all_variables (writtens (map f (drop i ps)))) b ≡ whole → b ≡ whole
bound-end f ps i b whole h k = ap (λ z. inside (all_variables (writtens (map f z))) b) (sym (drop_all i ps h)) ∙ k
