use Rattle.std.proofs.Common.{◌≡◌, ◌++◌, ap, ◌∙◌, rules}
use Rattle.scope_names.specs.Bound.{scope_of}
use Rattle.scope_names.proofs.Scopes.{scope-append}
use Rattle.scope_names.proofs.variables.Variables.enter.Goals as goal

pub returns : goal.returns
returns c =
    let a : c.append.new.self.items ≡ c.self.inside.roles.items ++ c.inner.inside.roles.items = search rules in
    let n : c.enter.new.self ≡ c.inner.inside.names ++ c.self.inside.names = c.in_ok-enter.ensures.ok in
    ap (scope_of c.enter.new.self) a
    ∙ ap (λ z. scope_of z (c.self.inside.roles.items ++ c.inner.inside.roles.items)) n
    ∙ scope-append c.self.inside.names c.inner.inside.names c.self.inside.roles.items c.inner.inside.roles.items c.inner.invariant
    ∙ ap (λ v. v ++ scope_of c.self.inside.names c.self.inside.roles.items) c.inner.view_is
    ∙ ap (λ v. c.args.inner ++ v) c.self.view_is
