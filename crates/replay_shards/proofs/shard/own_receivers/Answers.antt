use Rattle.std.proofs.Common.{◌≡◌, ◌++◌, ◌∷◌, [], List, sym, ap, subst, ◌∙◌, map as each, All}
use Rattle.std.specs.Prelude.{filter}
use Rattle.std.proofs.lemmas.List.{take_all}
use Rattle.calculus.specs.Rows.{Row}
use Rattle.calculus.specs.Storing.{IsStorable}
use Rattle.process_laws.proofs.StorableStaying.{built_in_receivers_are_storable}
use Rattle.hub_scenes.specs.Spaces.{seen_in, standing_row}
use Rattle.replay_space.specs.declared.seen.Seen.{Seen}
use Rattle.replay_rows.specs.Rows.{seen_row}
use Rattle.replay_shards.proofs.Receiving.{all-storable, built-more}
use Rattle.replay_shards.proofs.shard.own_receivers.Goals as goal

pub as_rows-requires : goal.as_rows-requires
as_rows-requires c = all-storable c.in_ok-built_ins.field-0.items (subst (All IsStorable) (sym c.in_ok-built_ins.ensures) built_in_receivers_are_storable)

pub loop-row-init : goal.loop-row-init
loop-row-init c = ap (λ (l : List (Seen Row)). each seen_row l) c.new-built.ensures.items

pub loop-row-preserved : goal.loop-row-preserved
loop-row-preserved c =
    let rows = c.as_slice-row-items.result.now in
    let k = c.args.number in
    built-more k rows c.loop-row.row-index c.row-item.result c.loop-row-test.true (each seen_row c.loop-row.built.items) (each seen_row c.add_if.new.built.items) c.loop-row.invariant
    (subst (λ (r : Row). each seen_row c.add_if.new.built.items ≡ each seen_row c.loop-row.built.items ++ filter (seen_in k) (standing_row r ∷ [])) c.row-item.is c.in_ok-add_if.ensures)

pub returns : goal.returns
returns c =
    c.loop-row.invariant
    ∙ ap (λ (l : List Row). filter (seen_in c.args.number) (each standing_row l)) (take_all c.loop-row.row-index c.as_slice-row-items.result.now c.loop-row-test.false ∙ c.as_slice-row-items.ensures.value ∙ c.in_ok-rows.ensures ∙ c.in_ok-built_ins.ensures)
