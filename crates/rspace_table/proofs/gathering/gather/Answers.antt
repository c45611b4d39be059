use Rattle.std.proofs.Common.{ℕ, List, [], ◌∷◌, ◌++◌, eqb, filter, length-append, ap, sym, ◌∙◌, arith}
use Rattle.calculus.specs.Rows.{Row}
use Rattle.row_shards.specs.Homes.{gathered, home}
use Rattle.row_shards.proofs.Gathered.{gathered-more}
use Rattle.rspace_table.proofs.gathering.gather.Goals as goal

pub loop-shard-preserved : goal.loop-shard-preserved
loop-shard-preserved c =
    let i = c.loop-shard.invariant in
    let ys = c.loop-shard.yielded in
    let s = c.in-Some.shard in (
      omega (arith, i.0, length-append ys (s ∷ [])),
      c.in_ok-gather_home.ensures
          ∙ ap (λ (l : List Row). c.loop-shard.rows.items ++ filter (λ r. eqb (home r) c.loop-shard.number) l) c.in_ok-into_rows.ensures
          ∙ ap (λ (l : List Row). l ++ filter (λ r. eqb (home r) c.loop-shard.number) s) i.1
          ∙ ap (λ (n : ℕ). gathered 0 ys ++ filter (λ (r : Row). eqb (home r) n) s) (omega (arith, i.0)) ∙ sym (gathered-more 0 ys s),
    )
