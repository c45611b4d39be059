use Rattle.rho_term.specs.Normal.{IsOrdered}
use Rattle.rho_term.specs.Parts.{part_tree}
use Rattle.code_order.proofs.Made.{all-split}
use Rattle.substitution.proofs.Made.{joins-closed}
use Rattle.substitution.proofs.maker.Maker.add_closed.Goals as goal

pub loop-part-preserved : goal.loop-part-preserved
loop-part-preserved c = λ h.
    let k = c.add.ensures h in
    let i = c.loop-part.invariant k.0 in (
      i.0,
      λ o.
          let s = all-split (λ p. IsOrdered (part_tree p)) c.loop-part.yielded c.in-Some.part o in
          joins-closed c.loop-part.yielded c.in-Some.part _ _ _ k.1 (i.1 s.0) s.1,
    )
