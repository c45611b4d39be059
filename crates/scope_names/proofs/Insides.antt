-- What is bound inside, after one another.
use Rattle.std.proofs.Common.{◌≡◌, List, [], ◌++◌, reverse, ap, sym, ◌∙◌, append_assoc, append-nil, subst, Bool, false}
use Rattle.std.specs.Prelude.{Result, OnOk, IfOk}
use Rattle.std.proofs.lemmas.List.{reverse-append}
use Rattle.scope.specs.Binding.{Variable, Scope, inside}

-- what is bound after the one and then the other
pub inside-append : (vs ws : List Variable) (b : Scope) → inside (vs ++ ws) b ≡ inside ws (inside vs b)
inside-append vs ws b = ap (λ r. r ++ b) (reverse-append vs ws) ∙ append_assoc (reverse ws) (reverse vs) b

-- what is bound in a scope of its own
pub inside-nil : (vs : List Variable) (b : Scope) → inside vs [] ++ b ≡ inside vs b
inside-nil vs b = ap (λ r. r ++ b) (append-nil (reverse vs))

pub inside-two : (vs ws : List Variable) (b : Scope) → inside (vs ++ (ws ++ [])) b ≡ inside ws (inside vs b)
inside-two vs ws b = ap (λ z. inside (vs ++ z) b) (append-nil ws) ∙ inside-append vs ws b

pub bound-two : {A E : Type 0} (r : Result A E) (y : Scope) (vs ws : List Variable) (b o : Scope) → o ≡ inside vs b → OnOk r (y ≡ inside ws o) → OnOk r (y ≡ inside (vs ++ (ws ++ [])) b)
bound-two r y vs ws b o e h = subst (λ z. OnOk r (y ≡ z)) (ap (inside ws) e ∙ sym (inside-two vs ws b)) h

pub bound-two-if : {E : Type 0} (r : Result Bool E) (y : Scope) (vs ws : List Variable) (b o : Scope) → o ≡ inside vs b → IfOk r (λ x. x ≡ false → y ≡ inside ws o) → IfOk r (λ x. x ≡ false → y ≡ inside (vs ++ (ws ++ [])) b)
bound-two-if r y vs ws b o e h = subst (λ z. IfOk r (λ x. x ≡ false → y ≡ z)) (ap (inside ws) e ∙ sym (inside-two vs ws b)) h
