use Rattle.std.proofs.Common.{◌≡◌, ◌+◌, ◌++◌, take, sym, ap, subst, ◌∙◌}
use Rattle.radix_root.specs.Nodes.{Seen, leaves_of}
use Rattle.radix_root.specs.Holding.{IsHeld}
use Rattle.radix_root.proofs.Grown.{leaves-take}
use Rattle.radix_root.proofs.held.held_by.Goals as goal

pub loop-child-preserved : goal.loop-child-preserved
loop-child-preserved c =
    let cs = c.args.children.now in
    let i = c.loop-child.child-index in
    let one : leaves_of (take (i + 1) cs) ≡ leaves_of (take i cs) ++ c.child-item.result.leaves =
    leaves-take cs i c.child-item.result c.loop-child-test.true ∙ ap (λ (s : Seen). leaves_of (take i cs) ++ s.leaves) (sym c.child-item.is) in
    subst (IsHeld c.and-held.result) (sym one) (c.and-held.ensures (leaves_of (take i cs)) c.child-item.result.leaves c.loop-child.invariant c.held.ensures)
