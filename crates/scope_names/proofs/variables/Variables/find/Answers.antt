use Rattle.std.proofs.Common.{◌≡◌, ◌-◌, ◌<◌, ◌≤◌, ap, sym, ◌∙◌, arith, length, get_or}
use Rattle.calculus.specs.Bare.{index}
use Rattle.scope.specs.Binding.{sense_of}
use Rattle.scope_names.proofs.Scopes.{names, scope-found, scope-none, scope-names}
use Rattle.scope_names.proofs.variables.Variables.find.Goals as goal

pub returns-then-after-count-clause-sense : goal.returns-then-after-count-clause-sense
returns-then-after-count-clause-sense c =
    let h : length c.self.inside.roles.items ≤ index c.args.name.now c.self.inside.names = omega (arith, c.index-index.ensures, c.len-count.ensures) in
    ap (sense_of c.args.name.now) (sym c.self.view_is) ∙ scope-none c.args.name.now c.self.inside.names c.self.inside.roles.items c.self.invariant h

pub returns-clause-sense : goal.returns-clause-sense
returns-clause-sense c =
    let h : index c.args.name.now c.self.inside.names < length c.self.inside.roles.items = omega (arith, c.index-index.ensures, c.len-count.ensures) in
    let k : c.len-count.result - 1 - c.index-index.result ≡ length c.self.inside.roles.items - 1 - index c.args.name.now c.self.inside.names = omega (arith, c.index-index.ensures, c.len-count.ensures) in
    let g = c.index-role.ensures ∙ ap (λ i. get_or c.self.inside.roles.items i c.index-role.result.now) k in
    ap (sense_of c.args.name.now) (sym c.self.view_is) ∙ scope-found c.args.name.now c.self.inside.names c.self.inside.roles.items c.index-role.result.now c.self.invariant h g

pub returns-clause-index : goal.returns-clause-index
returns-clause-index c =
    c.index-index.ensures
    ∙ ap (index c.args.name.now) (sym (scope-names c.self.inside.names c.self.inside.roles.items c.self.invariant))
    ∙ ap (λ v. index c.args.name.now (names v)) c.self.view_is
