-- Proofs of the examples.
use Rattle.std.proofs.Common.{refl}
use Rattle.calculus.proofs.Opened.{computing}
use Rattle.join_index.specs.Examples.{GroupExamples}

pub group_examples : GroupExamples
unfolding computing
group_examples = record { each_once = refl; in_order = refl; last_goes = refl; none_goes = refl; other_channels = refl; counted = refl }
