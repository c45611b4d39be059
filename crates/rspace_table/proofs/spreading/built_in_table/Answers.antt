use Rattle.std.proofs.Common.{List, sym, subst, All}
use Rattle.std.specs.Prelude.{IsPermutation}
use Rattle.std.proofs.lemmas.Result.{IfOk-weaker}
use Rattle.calculus.specs.Rows.{Row}
use Rattle.calculus.specs.Storing.{IsStorable}
use Rattle.shard_tables.specs.Hands.{IdsDiffer}
use Rattle.process_laws.proofs.StorableStaying.{built_in_receivers_are_storable}
use Rattle.rspace_table.proofs.Spread.{all-storable, are-built-ins, two-ids}
use Rattle.rspace_table.proofs.spreading.built_in_table.Goals as goal

pub table_of-requires : goal.table_of-requires
table_of-requires c = all-storable c.in_ok-built_ins.field-0.items (subst (All IsStorable) (sym c.in_ok-built_ins.ensures) built_in_receivers_are_storable)

pub returns : goal.returns
returns c =
    IfOk-weaker c.table_of.result _ _ (λ t h. are-built-ins t (subst (λ (l : List Row). IsPermutation l t) c.in_ok-built_ins.ensures h))
    (c.table_of.ensures (subst IdsDiffer (sym c.in_ok-built_ins.ensures) two-ids))
