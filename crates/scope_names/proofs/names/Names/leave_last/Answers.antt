use Rattle.std.proofs.Common.{◌≡◌, ◌<◌, arith, subst}
use Rattle.std.specs.Prelude.{unwrap_or, None, string_bytes}
use Rattle.std.specs.BTreeMap.{get_by_text}
use Rattle.std.proofs.lemmas.Map.Text.{btree_map_updates_text}
use Rattle.scope_names.specs.Places.{IsIndexed}
use Rattle.scope_names.proofs.Places.{leave-indexed, last-there}
use Rattle.scope_names.proofs.names.Names.leave_last.Goals as goal

pub unreachable-requires-in-Err : goal.unreachable-requires-in-Err
unreachable-requires-in-Err c =
    let i = subst (λ z. IsIndexed z c.self.inside.last) c.in-Some.ensures.items c.self.invariant in
    let t = last-there c.pop.new.self.items c.in-Some.bound c.self.inside.last i in
    let n : get_by_text c.self.inside.last (string_bytes c.in-Some.bound.name) ≡ None = c.in-Err.ensures.absent in
    let z : 0 < 0 = subst (λ x. 0 < unwrap_or x 0) n t in
    omega (arith, z)

pub invariant_of-self : goal.invariant_of-self
invariant_of-self c =
    let i = subst (λ z. IsIndexed z c.self.inside.last) c.in-Some.ensures.items c.self.invariant in
    let g = btree_map_updates_text (string_bytes c.in-Some.bound.name) c.self.inside.last c.insert.new.self _ c.in-Ok.ensures.updates in
    leave-indexed c.pop.new.self.items c.in-Some.bound c.self.inside.last c.insert.new.self i g
