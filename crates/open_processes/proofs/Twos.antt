-- Patterns of two constituents: what they use and bind is what the two do.
use Rattle.std.proofs.Common.{◌≡◌, ◌⊎◌, inl, inr, Bool, ◌||◌, map, ap, sym, ◌∙◌}
use Rattle.std.specs.Prelude.{Vec, Box}
use Rattle.std.specs.declared.alloc.Global.{Global}
use Rattle.calculus.specs.Written.{Written, no_more, more}
use Rattle.calculus.specs.Meaning.{row_of, pat_written, name_pat_written, rest_written}
use Rattle.calculus.specs.declared.plain.Rest.{Rest}
use Rattle.calculus.specs.declared.process.NamePat.{NamePat}
use Rattle.calculus.specs.declared.process.Pat.{Pat}
use Rattle.calculus.specs.declared.process.Pat.TheVariants as pats
use Rattle.scope.specs.Binding.{Scope, variables, all_variables, inside, uses_more, any_uses_more}
use Rattle.open_processes.specs.Pairs.{pat_pair}
use Rattle.open_processes.proofs.Forms.{list-form, set-form, map-form, send-form, both-form, either-form}
use Rattle.open_processes.proofs.Uses.{used-two, two-bound}

-- that it uses and binds what these two do
pub record IsTwo (t u w : Written) : Type 0 where
  uses : (v : Scope) → uses_more w v ≡ any_uses_more (more t (more u no_more)) v
  binds : variables w ≡ all_variables (more t (more u no_more))

pub list-or-set : (p : Pat) (ps : Vec Pat Global) (r : Rest) → (p ≡ pats.List ps r) ⊎ (p ≡ pats.Set ps r) → IsTwo (row_of (map pat_written ps.items)) (rest_written r) (pat_written p)
list-or-set p ps r (inl e) = record { uses = λ v. ap (λ z. uses_more z v) (list-form p ps r e); binds = ap variables (list-form p ps r e) }
list-or-set p ps r (inr e) = record { uses = λ v. ap (λ z. uses_more z v) (set-form p ps r e); binds = ap variables (set-form p ps r e) }

pub map-two : (p : Pat) (ps : Vec (Pat × Pat) Global) (r : Rest) → p ≡ pats.Map ps r → IsTwo (row_of (map pat_pair ps.items)) (rest_written r) (pat_written p)
map-two p ps r e = record { uses = λ v. ap (λ z. uses_more z v) (map-form p ps r e); binds = ap variables (map-form p ps r e) }

pub send-two : (p : Pat) (n : NamePat) (ps : Vec Pat Global) (q : Bool) → p ≡ pats.Send n ps q → IsTwo (name_pat_written n) (row_of (map pat_written ps.items)) (pat_written p)
send-two p n ps q e = record { uses = λ v. ap (λ z. uses_more z v) (send-form p n ps q e); binds = ap variables (send-form p n ps q e) }

pub both-or-either : (p : Pat) (a b : Box Pat Global) → (p ≡ pats.Both a b) ⊎ (p ≡ pats.Either a b) → IsTwo (pat_written a.value) (pat_written b.value) (pat_written p)
both-or-either p a b (inl e) = record { uses = λ v. ap (λ z. uses_more z v) (both-form p a b e); binds = ap variables (both-form p a b e) }
both-or-either p a b (inr e) = record { uses = λ v. ap (λ z. uses_more z v) (either-form p a b e); binds = ap variables (either-form p a b e) }

-- what is used by such a pattern, where its two are walked one after the other
pub both-used : {t u w : Written} (v s : Scope) (a b c : Bool) → IsTwo t u w → b ≡ a || uses_more t v → s ≡ v → c ≡ b || uses_more u s → c ≡ a || uses_more w v
both-used {t} {u} v s a b c k p e q = used-two t u v s a b c p e q ∙ ap (λ z. a || z) (sym (k.uses v))

-- what it binds
pub both-bound : {t u w : Written} (b c d : Scope) → IsTwo t u w → c ≡ inside (variables t) b → d ≡ inside (variables u) c → d ≡ inside (variables w) b
both-bound {t} {u} b c d k p q = two-bound t u b c d p q ∙ ap (λ z. inside z b) (sym k.binds)
