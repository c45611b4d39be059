use Rattle.std.proofs.Common.{List, [], sym, subst, IsPermutation, refl}
use Rattle.calculus.proofs.Permutations.{unmoved}
use Rattle.calculus.specs.Rows.{Row}
use Rattle.replay_space.specs.declared.seen.Seen.{Seen}
use Rattle.replay_rows.specs.Filing.{Filed}
use Rattle.replay_rows.specs.Rows.{filed_rows, AreFiled}
use Rattle.replay_shards.proofs.shard.ReplayShard.new.Goals as goal

pub invariant_of-result : goal.invariant_of-result
invariant_of-result c = subst AreFiled (sym c.new-rows.ensures.empty) tt

pub returns : goal.returns
returns c = record {
  number = refl;
  rows = subst (λ (es : List (Filed (Seen Row))). IsPermutation [] (filed_rows es)) (sym c.new-rows.ensures.empty) (unmoved []);
  built = c.in_ok-built.ensures;
}
