use Rattle.std.proofs.Common.{◌≡◌}
use Rattle.calculus.specs.Tree.{weight}
use Rattle.calculus.specs.Unfolding.{opened}
use Rattle.offered_rows.proofs.Bundles.{beneath}
use Rattle.offered_rows.proofs.opened.opened_channel.Given as goal

abbrev pub invariant-loop-rights : goal.invariant-loop-rights
invariant-loop-rights l = beneath l.writable l.readable (opened l.name) ≡ opened l.fn.channel

abbrev pub decreases-loop-rights : goal.decreases-loop-rights
decreases-loop-rights l = weight l.name
