use Rattle.std.proofs.Common.{◌≡◌, List, map, subst}
use Rattle.std.specs.Prelude.{IfOk}
use Rattle.calculus.specs.Unfolding.{Placed, all_places}
use Rattle.rho_term.specs.Parts.{bind_tree}
use Rattle.offered_rows.proofs.Sorting.{sorted-placed}
use Rattle.offered_rows.proofs.placed.sorted.Goals as goal

pub returns-clause-binds : goal.returns-clause-binds
returns-clause-binds c =
    let e = sorted-placed c.in_ok-placed.placed.items c.in_ok-keyed.keyed.items (map bind_tree c.args.binds.items) c.in_ok-placed.ensures c.in_ok-keyed.ensures in
    subst (λ (ps : List Placed). IfOk c.apart.result (λ b. map bind_tree b.binds.items ≡ map (λ p. p.0) ps)) e c.apart.ensures.binds

pub returns-clause-places : goal.returns-clause-places
returns-clause-places c =
    let e = sorted-placed c.in_ok-placed.placed.items c.in_ok-keyed.keyed.items (map bind_tree c.args.binds.items) c.in_ok-placed.ensures c.in_ok-keyed.ensures in
    subst (λ (ps : List Placed). IfOk c.apart.result (λ b. b.places.items ≡ all_places ps)) e c.apart.ensures.places
