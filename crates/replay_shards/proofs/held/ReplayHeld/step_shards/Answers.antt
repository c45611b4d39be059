use Rattle.std.proofs.Common.{◌≡◌, List, sym, ap, ◌∙◌}
use Rattle.std.specs.Prelude.{option_map, option_copied}
use Rattle.calculus.specs.Log.{Step}
use Rattle.event_log.specs.View.{step_of}
use Rattle.hub_scenes.specs.Spaces.{SeenRow}
use Rattle.replay_slots.specs.Hands.{all_shown, parts_of}
use Rattle.replay_rows.specs.Rows.{find_seen, seen_row}
use Rattle.replay_shards.proofs.Calling.{its-step}
use Rattle.replay_shards.proofs.held.ReplayHeld.step_shards.Goals as goal

pub returns-in-None : goal.returns-in-None
returns-in-None c before s after log place =
    let e : step_of c.index.result.now ≡ s = ap step_of c.index.ensures ∙ its-step c.args.log.now.steps.items before s after c.args.step _ log place in
    let shown : all_shown (parts_of c.taken.result.now) ≡ all_shown c.args.self.now = c.taken.ensures.shown in
    ap (λ (u : Step). find_seen u.receiver (all_shown c.args.self.now)) (sym e) ∙ ap (λ (l : List SeenRow). find_seen c.index.result.now.cont.0 l) (sym shown) ∙ sym c.find_in.ensures
    ∙ ap (λ o. option_map seen_row (option_copied o)) c.in-None.is

pub returns-in-Some : goal.returns-in-Some
returns-in-Some c before s after log place =
    let e : step_of c.index.result.now ≡ s = ap step_of c.index.ensures ∙ its-step c.args.log.now.steps.items before s after c.args.step _ log place in
    let shown : all_shown (parts_of c.taken.result.now) ≡ all_shown c.args.self.now = c.taken.ensures.shown in (
      seen_row c.in-Some.seen.now,
      ap (λ (u : Step). find_seen u.receiver (all_shown c.args.self.now)) (sym e) ∙ ap (λ (l : List SeenRow). find_seen c.index.result.now.cont.0 l) (sym shown) ∙ sym c.find_in.ensures
          ∙ ap (λ o. option_map seen_row (option_copied o)) c.in-Some.is,
      c.shards.ensures,
    )
