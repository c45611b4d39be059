use Rattle.std.proofs.Common.{List, [], ◌∷◌, ◌++◌, map, ap, sym, subst, ◌∙◌}
use Rattle.std.specs.Prelude.{IsPermutation}
use Rattle.calculus.specs.Rows.{Row}
use Rattle.rho_term.specs.Rows.{row_of_op}
use Rattle.row_search.proofs.Looping.{map-append}
use Rattle.shard_tables.specs.Hands.{IdsDiffer}
use Rattle.rspace_table.proofs.Spread.{table-more}
use Rattle.rspace_table.proofs.spreading.table_of.Goals as goal

pub loop-operation-preserved : goal.loop-operation-preserved
loop-operation-preserved c =
    let ys = map row_of_op c.loop-operation.yielded in
    let o = c.from_op.result in
    let e = map-append row_of_op c.loop-operation.yielded (c.in-Some.operation ∷ []) ∙ ap (λ (r : Row). ys ++ r ∷ []) (sym c.from_op.ensures) in
    λ d. subst (λ (l : List Row). IsPermutation l c.put.new.self) (sym e)
    (table-more ys c.loop-operation.table c.put.new.self o c.in_ok-put.field-0 c.loop-operation.invariant c.in_ok-put.ensures.there c.in_ok-put.ensures.added (subst IdsDiffer e d))
