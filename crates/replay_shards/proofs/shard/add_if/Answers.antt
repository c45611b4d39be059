use Rattle.std.proofs.Common.{◌∷◌, ◌++◌, [], sym, ap, ◌∙◌, map as each}
use Rattle.std.proofs.lemmas.List.{map-append}
use Rattle.calculus.specs.Rows.{Row}
use Rattle.hub_scenes.specs.Spaces.{standing_row}
use Rattle.replay_rows.specs.Rows.{seen_row}
use Rattle.replay_shards.proofs.Receiving.{not-added, is-added}
use Rattle.replay_shards.proofs.shard.add_if.Goals as goal

pub returns-then-not-is_set : goal.returns-then-not-is_set
returns-then-not-is_set c = not-added c.args.number c.args.row.now (each seen_row c.args.built.now.items) (sym (c.shards.ensures c.args.number) ∙ sym c.is_set.ensures ∙ c.if-not-is_set.true)

pub returns : goal.returns
returns c =
    ap (each seen_row) c.in_ok-push.ensures.items ∙ map-append seen_row c.args.built.now.items _ ∙ ap (λ (r : Row). each seen_row c.args.built.now.items ++ standing_row r ∷ []) c.in_ok-row.ensures
    ∙ is-added c.args.number c.args.row.now (each seen_row c.args.built.now.items) (sym (c.shards.ensures c.args.number) ∙ sym c.is_set.ensures ∙ c.if-not-is_set.false)
