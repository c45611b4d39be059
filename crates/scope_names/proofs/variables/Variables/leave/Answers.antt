use Rattle.std.proofs.Common.{◌≡◌, ◌≤◌, ◌-◌, length, drop, ap, sym, ◌∙◌, arith}
use Rattle.scope_names.specs.Bound.{scope_of}
use Rattle.scope_names.proofs.Scopes.{scope-length, scope-leave}
use Rattle.scope_names.proofs.variables.Variables.leave.Goals as goal

pub leave-requires : goal.leave-requires
leave-requires c = omega (arith, c.requires, c.self.invariant, scope-length c.self.inside.names c.self.inside.roles.items c.self.invariant, ap length c.self.view_is)

pub returns : goal.returns
returns c =
    let ns = c.self.inside.names in
    let rs = c.self.inside.roles.items in
    let n : length rs ≡ length c.args.self.now = sym (scope-length ns rs c.self.invariant) ∙ ap length c.self.view_is in
    let h : c.args.len ≤ length rs = omega (arith, c.requires, n) in
    ap (λ z. scope_of z c.truncate.new.self.items) c.leave.ensures
    ∙ ap (scope_of (drop (length ns - c.args.len) ns)) c.truncate.ensures.items
    ∙ scope-leave ns rs c.args.len c.self.invariant h
    ∙ ap (λ k. drop (k - c.args.len) (scope_of ns rs)) n
    ∙ ap (drop (length c.args.self.now - c.args.len)) c.self.view_is
