use Rattle.std.proofs.Common.{sym, subst, ◌∙◌}
use Rattle.radix_root.specs.Leaves.{Leaves, Keeps, groups_of}
use Rattle.radix_root.proofs.Meets.{root-meets}
use Rattle.radix_root.proofs.tree.RadixTree.root.Goals as goal

pub returns : goal.returns
returns c = λ rs k.
    c.digest.ensures ∙ c.self.invariant.digest
    ∙ root-meets c.self.inside.root.leaves rs c.self.invariant.leaves (subst (λ (ls : Leaves). Keeps ls (groups_of rs)) (sym c.self.view_is) k)
