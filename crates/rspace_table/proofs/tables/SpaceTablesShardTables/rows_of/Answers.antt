use Rattle.std.proofs.Common.{List, sym, subst}
use Rattle.std.specs.Prelude.{IsPermutation}
use Rattle.std.proofs.lemmas.Result.{IfOk-weaker}
use Rattle.calculus.specs.Rows.{Row}
use Rattle.row_shards.proofs.Gathered.{all-taken}
use Rattle.rspace_table.proofs.tables.SpaceTablesShardTables.rows_of.Goals as goal

pub returns : goal.returns
returns c store d e h n = IfOk-weaker c.gather.result _ _ (λ v f. subst (λ (l : List Row). IsPermutation l store) (sym f) (all-taken store c.args.shards.items e h n)) c.gather.ensures
