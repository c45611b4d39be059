use Rattle.std.proofs.Common.{List, ap, subst, ◌∙◌}
use Rattle.std.specs.Prelude.{None}
use Rattle.calculus.specs.Rows.{Row}
use Rattle.events.specs.Shards.{stands_in}
use Rattle.hub_scenes.specs.Spaces.{IndexTry, new_row}
use Rattle.hub_scenes.specs.Entries.{arrives}
use Rattle.replay_rows.specs.Bits.{has_bit}
use Rattle.replay_slots.specs.Hands.{TouchedBecome}
use Rattle.replay_store.proofs.Opened.{on-ok, opened-more}
use Rattle.replay_store.proofs.opening.bring_in.Goals as goal

pub returns-clause-opened : goal.returns-clause-opened
returns-clause-opened c = λ rows h.
    let bits = c.shards-shards.result in
    let same = c.in_ok-row.ensures ∙ c.in_ok-copy.ensures in
    let old = c.args.held.now in
    let new = c.arrive.new.self in
    on-ok c.arrive.result _ _
    (λ t. opened-more rows c.args.row.now bits old new (λ k. c.shards-shards.ensures k ∙ ap (λ (r : Row). stands_in k r) same) (subst (λ (r : Row). (next : List IndexTry) → TouchedBecome (has_bit bits) (arrives (new_row None r) next) old new) same t) h) c.arrive.ensures.arrived
