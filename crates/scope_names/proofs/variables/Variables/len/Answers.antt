use Rattle.std.proofs.Common.{length, arith, ap}
use Rattle.scope_names.proofs.Scopes.{scope-length}
use Rattle.scope_names.proofs.variables.Variables.len.Goals as goal

pub returns : goal.returns
returns c = omega (arith, c.len.ensures, scope-length c.self.inside.names c.self.inside.roles.items c.self.invariant, ap length c.self.view_is)
