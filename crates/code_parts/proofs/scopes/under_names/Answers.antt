use Rattle.std.proofs.Common.{[], ◌∷◌, ◌++◌, replicate, ap, append-nil, append_assoc, ◌∙◌, sym}
use Rattle.std.proofs.lemmas.List.{replicate_more}
use Rattle.code_faults.specs.declared.sort.Sense.TheVariants.{Name}
use Rattle.code_parts.proofs.scopes.under_names.Goals as goal

pub loop-i-init : goal.loop-i-init
loop-i-init c = c.in_ok-inner.ensures ∙ sym (append-nil c.args.scope.now.items)

pub loop-i-preserved : goal.loop-i-preserved
loop-i-preserved c = c.in_ok-push.ensures.items ∙ ap (λ zs. zs ++ Name ∷ []) c.loop-i.invariant ∙ append_assoc c.args.scope.now.items (replicate c.loop-i._i Name) (Name ∷ []) ∙ ap (λ zs. c.args.scope.now.items ++ zs) (replicate_more c.loop-i._i Name)
