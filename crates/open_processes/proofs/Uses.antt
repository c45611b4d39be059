-- What is used and what is bound by things one after another.
use Rattle.std.proofs.Common.{◌≡◌, ℕ, ◌+◌, ◌<◌, ◌≤◌, Bool, true, false, ◌||◌, List, [], ◌∷◌, ◌++◌, map, drop, get_or, length, refl, ap, sym, ◌∙◌}
use Rattle.std.proofs.lemmas.List.{drop_more, drop_all}
use Rattle.calculus.specs.Written.{Written, no_more, more, writtens}
use Rattle.calculus.specs.Meaning.{row_of, proc_written, name_written, pat_written, name_pat_written, bind_written, case_written, rest_written, name_step}
use Rattle.calculus.specs.declared.plain.Rest.{Rest}
use Rattle.calculus.specs.declared.process.Bind.{Bind}
use Rattle.calculus.specs.declared.process.Case.{Case}
use Rattle.calculus.specs.declared.process.Name.{Name, Name-F}
use Rattle.calculus.specs.declared.process.Name.TheFolds.{fold_out-Name}
use Rattle.scope.specs.Binding.{Scope, variables, all_variables, inside, uses_more, any_uses_more}
use Rattle.scope_names.proofs.Insides.{inside-append, inside-nil, inside-two}
use Rattle.open_processes.proofs.Forms.{bind-form, case-form}
use Rattle.open_processes.proofs.Meanings.{rest-uses}

or-false : (a : Bool) → a || false ≡ a
or-false true = refl
or-false false = refl

or-assoc : (a b c : Bool) → (a || b) || c ≡ a || (b || c)
or-assoc true b c = refl
or-assoc false b c = refl

-- a use before, in the one or in the other
or-then : (a b c x y : Bool) → b ≡ a || x → c ≡ b || y → c ≡ a || (x || y)
or-then a b c x y p q = q ∙ ap (λ k. k || y) p ∙ or-assoc a x y

-- two things in one scope
pub used-two : (t u : Written) (v w : Scope) (a b c : Bool) → b ≡ a || uses_more t v → w ≡ v → c ≡ b || uses_more u w → c ≡ a || any_uses_more (more t (more u no_more)) v
used-two t u v w a b c p e q =
    or-then a b c (uses_more t v) (uses_more u v || false) p (q ∙ ap (λ z. b || uses_more u z) e ∙ sym (ap (λ z. b || z) (or-false (uses_more u v))))

-- a remainder uses no name
pub rest-used : (r : Rest) (v : Scope) (a b : Bool) → b ≡ a → b ≡ a || uses_more (rest_written r) v
rest-used r v a b p = p ∙ sym (ap (λ k. a || k) (rest-uses r v) ∙ or-false a)

-- what two things bind
pub two-bound : (t u : Written) (b c d : Scope) → c ≡ inside (variables t) b → d ≡ inside (variables u) c → d ≡ inside (all_variables (more t (more u no_more))) b
two-bound t u b c d p q = q ∙ ap (inside (variables u)) p ∙ sym (inside-two (variables t) (variables u) b)

-- a turn of a loop over things in one scope
pub used-turn : {A : Type 0} (f : A → Written) (ps : List A) (i : ℕ) (d : A) (v w : Scope) (a b whole : Bool) → i < length ps → d ≡ get_or ps i d → w ≡ v
    → b ≡ a || uses_more (f d) w → a || any_uses_more (writtens (map f (drop i ps))) v ≡ whole → b || any_uses_more (writtens (map f (drop (i + 1) ps))) v ≡ whole
used-turn f ps i d v w a b whole h g e p k =
    let rest = any_uses_more (writtens (map f (drop (i + 1) ps))) v in
    let m : drop i ps ≡ d ∷ drop (i + 1) ps = drop_more ps i d h ∙ ap (λ z. z ∷ drop (i + 1) ps) (sym g) in
    ap (λ z. z || rest) (p ∙ ap (λ z. a || uses_more (f d) z) e) ∙ or-assoc a (uses_more (f d) v) rest ∙ ap (λ z. a || any_uses_more (writtens (map f z)) v) (sym m) ∙ k

-- its end
pub used-end : {A : Type 0} (f : A → Written) (ps : List A) (i : ℕ) (v : Scope) (a whole : Bool) → length ps ≤ i → a || any_uses_more (writtens (map f (drop i ps))) v ≡ whole → a ≡ whole
used-end f ps i v a whole h k = sym (or-false a) ∙ ap (λ z. a || any_uses_more (writtens (map f z)) v) (sym (drop_all i ps h)) ∙ k

-- what is bound in a turn of such a loop
pub bound-turn : {A : Type 0} (f : A → Written) (ps : List A) (i : ℕ) (d : A) (b n whole : Scope) → i < length ps → d ≡ get_or ps i d
    → n ≡ inside (variables (f d)) b → inside (all_variables (writtens (map f (drop i ps)))) b ≡ whole → inside (all_variables (writtens (map f (drop (i + 1) ps)))) n ≡ whole
bound-turn f ps i d b n whole h g e k =
    let rest = all_variables (writtens (map f (drop (i + 1) ps))) in
    let m : drop i ps ≡ d ∷ drop (i + 1) ps = drop_more ps i d h ∙ ap (λ z. z ∷ drop (i + 1) ps) (sym g) in
    ap (inside rest) e ∙ sym (inside-append (variables (f d)) rest b) ∙ ap (λ z. inside (all_variables (writtens (map f z))) b) (sym m) ∙ k

pub bound-end : {A : Type 0} (f : A → Written) (ps : List A) (i : ℕ) (b whole : Scope) → length ps ≤ i → inside (all_variables (writtens (map f (drop i ps)))) b ≡ whole → b ≡ whole
bound-end f ps i b whole h k = ap (λ z. inside (all_variables (writtens (map f z))) b) (sym (drop_all i ps h)) ∙ k

-- a name binds no variable
name-step-binds : (x : Name-F Written Written Written Written Written Written) → variables (name_step x) ≡ []
name-step-binds (Name-F.Name::Var x) = refl
name-step-binds (Name-F.Fresh d) = refl
name-step-binds (Name-F.Name::Quote p) = refl

name-binds : (n : Name) → variables (name_written n) ≡ []
name-binds n = rw fold_out-Name (name-step-binds _)

-- a bind: its channel, then its patterns, then its remainder
pub bind-used : (b : Bind) (v w : Scope) (x y z : Bool) → y ≡ x || uses_more (name_written b.channel) v → w ≡ v
    → z ≡ y || any_uses_more (writtens (map name_pat_written b.pats.items)) w → z ≡ x || uses_more (bind_written b) v
bind-used b v w x y z p e q =
    let row = row_of (map name_pat_written b.pats.items) in
    let k = used-two row (rest_written b.rest) v v y z z (q ∙ ap (λ s. y || uses_more row s) e) refl (rest-used b.rest v z z refl) in
    or-then x y z (uses_more (name_written b.channel) v) (any_uses_more (more row (more (rest_written b.rest) no_more)) v) p k ∙ ap (λ t. x || uses_more t v) (sym (bind-form b))

pub bind-bound : (b : Bind) (v w x : Scope) → w ≡ inside (all_variables (writtens (map name_pat_written b.pats.items))) v → x ≡ inside (variables (rest_written b.rest)) w
    → x ≡ inside (variables (bind_written b)) v
bind-bound b v w x p q =
    let row = row_of (map name_pat_written b.pats.items) in
    two-bound row (rest_written b.rest) v w x p q ∙ ap (λ z. inside (z ++ all_variables (more row (more (rest_written b.rest) no_more))) v) (sym (name-binds b.channel)) ∙ ap (λ t. inside (variables t) v) (sym (bind-form b))

-- a case, whose body stands in the scope of its variables too
pub case-used : (c : Case) (bound v w : Scope) (x y z : Bool) → bound ≡ inside (variables (pat_written c.pat)) [] → y ≡ x || uses_more (pat_written c.pat) v → w ≡ v
    → z ≡ y || uses_more (proc_written c.body) (bound ++ w) → z ≡ x || uses_more (case_written c) v
case-used c bound v w x y z i p e q =
    let vs = variables (pat_written c.pat) in
    let body = uses_more (proc_written c.body) (inside vs v) in
    let s : bound ++ w ≡ inside vs v = ap (λ k. bound ++ k) e ∙ ap (λ k. k ++ v) i ∙ inside-nil vs v in
    or-then x y z (uses_more (pat_written c.pat) v) (body || false) p (q ∙ ap (λ k. y || uses_more (proc_written c.body) k) s ∙ sym (ap (λ k. y || k) (or-false body))) ∙ ap (λ t. x || uses_more t v) (sym (case-form c))
