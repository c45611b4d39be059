use Rattle.std.proofs.Common.{◌++◌, map, ap, ◌∙◌}
use Rattle.std.proofs.lemmas.List.{map-append}
use Rattle.rho_term.specs.Parts.{pat_part_tree}
use Rattle.normalizer.proofs.maker.Maker.add_closed.Goals as goal

pub returns-in-Ok : goal.returns-in-Ok
returns-in-Ok c = λ h.
    let k = c.join.ensures h in
    (k.0, k.1, ap (map pat_part_tree) k.2 ∙ map-append pat_part_tree _ _ ∙ ap (λ ts. map pat_part_tree c.args.parts.now.items ++ ts) c.in-Ok.ensures)
