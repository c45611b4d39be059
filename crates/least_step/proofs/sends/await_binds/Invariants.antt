use Rattle.std.proofs.Common.{[], take, All}
use Rattle.calculus.specs.Tree.{Tree}
use Rattle.least_step.specs.Filed.{AreFiled, HasPlace}
use Rattle.least_step.proofs.sends.await_binds.Given as goal

abbrev pub invariant-loop-bind : goal.invariant-loop-bind
invariant-loop-bind l = record {
  places : All (λ b. HasPlace b.channel l.sends.entries) (take l.bind-index l.binds);
  kept : (c : Tree) → HasPlace c l.initial.sends.entries → HasPlace c l.sends.entries;
  bare : AreFiled [] l.initial.sends.entries → AreFiled [] l.sends.entries;
}
