use Rattle.std.proofs.Common.{List, ap, subst, ◌∙◌, map as each}
use Rattle.std.specs.Prelude.{flat_map}
use Rattle.calculus.proofs.Members.{member-left, member-right}
use Rattle.calculus.specs.declared.ids.Digest.{Digest}
use Rattle.event_log.specs.View.{step_of}
use Rattle.racing_replays.specs.Replaying.{names}
use Rattle.hub_scenes.specs.Spaces.{SeenRow, Part, IsIn}
use Rattle.hub_scenes.specs.Entries.{left_of}
use Rattle.hub_scenes.proofs.Basics.{has, hold}
use Rattle.replay_rows.specs.Rows.{filed_rows, counted_in, seen_row}
use Rattle.replay_rows.proofs.Settling.{stayed, left-counted}
use Rattle.replay_rows.proofs.kept.settle_shard.Goals as goal

pub count_named-requires-clause-low : goal.count_named-requires-clause-low
count_named-requires-clause-low c q m named =
    let gone = each (λ (d : Digest). d.0) c.args.gone.now in
    let rows = filed_rows c.args.kept.now.rows.entries in
    let built = each seen_row c.args.kept.now.built.items in
    c.requires.low q (hold q _ (member-left q rows built (stayed gone q rows (has q _ (subst (λ (l : List SeenRow). IsIn q l) c.take_out.ensures.rows m))))) named

pub count_built-requires : goal.count_built-requires
count_built-requires c q m named =
    let rows = filed_rows c.args.kept.now.rows.entries in
    let built = each seen_row c.args.kept.now.built.items in
    c.requires.low q (hold q _ (member-right q rows built (has q built m))) named

pub returns-clause-part : goal.returns-clause-part
returns-clause-part c =
    let s = step_of c.args.step.now in
    let gone = each (λ (d : Digest). d.0) c.args.gone.now in
    let rows = filed_rows c.args.kept.now.rows.entries in
    let number = c.args.kept.now.number in
    let part : List SeenRow → List SeenRow → Part = λ l b. record { number = number; rows = l; built = b } in
    ap (λ (l : List SeenRow). part l (each seen_row c.count_built.new.built.items)) (c.count_named.ensures.rows ∙ ap (λ (l : List SeenRow). each (counted_in (names s)) l) c.take_out.ensures.rows ∙ left-counted s gone rows)
    ∙ ap (λ (b : List SeenRow). part (flat_map (left_of s gone) rows) b) c.count_built.ensures
