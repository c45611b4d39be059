use Rattle.std.proofs.Common.{ℕ, List, [], ◌∷◌, ◌++◌, eqb, filter, length-append, ap, sym, ◌∙◌, arith}
use Rattle.std.proofs.lemmas.List.{map-append}
use Rattle.calculus.specs.Rows.{Row}
use Rattle.hub_scenes.specs.Spaces.{bare, Part}
use Rattle.replay_store.specs.Stores.{bare_shards}
use Rattle.row_shards.specs.Homes.{gathered, home}
use Rattle.replay_store.proofs.Gathered.{bare-many}
use Rattle.row_shards.proofs.Gathered.{gathered-more}
use Rattle.replay_store.proofs.gathering.gather.Goals as goal

pub loop-shard-preserved : goal.loop-shard-preserved
loop-shard-preserved c =
    let i = c.loop-shard.invariant in
    let ys = c.loop-shard.yielded in
    let s = c.in-Some.shard in (
      omega (arith, i.0, length-append ys (s ∷ [])),
      c.in_ok-gather_one.ensures ∙ ap (λ (l : List Row). l ++ filter (λ r. eqb (home r) c.loop-shard.number) (bare s.rows)) i.1
          ∙ ap (λ (n : ℕ). gathered 0 (bare_shards ys) ++ filter (λ (r : Row). eqb (home r) n) (bare s.rows)) (omega (arith, i.0, bare-many ys)) ∙ sym (gathered-more 0 (bare_shards ys) (bare s.rows))
          ∙ ap (gathered 0) (sym (map-append (λ (x : Part). bare x.rows) ys (s ∷ []))),
    )
