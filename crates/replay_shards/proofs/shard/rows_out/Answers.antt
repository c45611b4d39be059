use Rattle.std.proofs.Common.{◌++◌, List, ap, ◌∙◌, map as each}
use Rattle.calculus.specs.Rows.{Row}
use Rattle.hub_scenes.specs.Spaces.{bare}
use Rattle.replay_space.specs.declared.seen.Seen.{Seen}
use Rattle.replay_rows.specs.Filing.{Filed}
use Rattle.replay_rows.specs.Rows.{filed_rows, seen_row}
use Rattle.replay_shards.proofs.Moving.{all-came, bare-more}
use Rattle.replay_shards.proofs.shard.rows_out.Goals as goal

pub loop-list-preserved : goal.loop-list-preserved
loop-list-preserved c =
    c.in_ok-add_rows.ensures ∙ ap (λ (l : List Row). l ++ bare (each seen_row c.in-Some.list.items)) c.loop-list.invariant ∙ bare-more c.loop-list.yielded c.in-Some.field-0-0 c.in-Some.list

pub returns : goal.returns
returns c =
    let whole = all-came c.args.filed.entries c.loop-list.yielded c.into_iter-list-iterator.result c.loop-list.list-iterator _ _ c.into_iter-list-iterator.ensures.into_iter_gives.0 c.loop-list.yielded_by c.in-None.is c.next.ensures.steps in
    c.loop-list.invariant ∙ ap (λ (es : List (Filed (Seen Row))). bare (filed_rows es)) whole
