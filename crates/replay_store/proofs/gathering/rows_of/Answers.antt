use Rattle.std.proofs.Common.{List, sym, subst}
use Rattle.std.specs.Prelude.{IsPermutation}
use Rattle.std.proofs.lemmas.Result.{IfOk-weaker}
use Rattle.calculus.specs.Rows.{Row}
use Rattle.replay_store.proofs.Gathered.{all-gathered}
use Rattle.replay_store.proofs.gathering.rows_of.Goals as goal

pub returns : goal.returns
returns c store e h n = IfOk-weaker c.gather.result _ _ (λ v f. subst (λ (l : List Row). IsPermutation l store) (sym f) (all-gathered store c.args.shards.items e h n)) c.gather.ensures
