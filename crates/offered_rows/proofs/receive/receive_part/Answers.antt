use Rattle.std.proofs.Common.{ℕ, List, length, map, sym, ap, ◌∙◌, subst}
use Rattle.rho_term.specs.Parts.{bind_tree}
use Rattle.offered_rows.specs.Binds.{HasScope}
use Rattle.offered_rows.proofs.Operands.{scope-of}
use Rattle.offered_rows.proofs.Sorting.{total, places-count}
use Rattle.offered_rows.proofs.receive.receive_part.Goals as goal

pub renumbered-requires : goal.renumbered-requires
renumbered-requires c =
    let r = c.args.receive in
    let count = ap (λ (xs : List ℕ). length xs) (c.as_slice.ensures.value ∙ c.in_ok-sorted.ensures.places) ∙ (places-count (map bind_tree c.in_ok-named.named.items) ∙ ap total c.in_ok-named.ensures) in
    subst (λ n. HasScope n r.body.now) (sym count) (scope-of r.kind c.args.names.items r.binds.now.items r.body.now c.requires.names c.requires.same_number c.requires.closed)
