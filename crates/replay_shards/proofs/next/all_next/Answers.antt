use Rattle.std.proofs.Common.{◌≤◌, length, ◌∷◌, List, subst, arith}
use Rattle.std.proofs.lemmas.List.{take_all}
use Rattle.hub_scenes.specs.Spaces.{SeenRow}
use Rattle.replay_slots.specs.Hands.{all_shown, parts_of}
use Rattle.replay_shards.specs.Ready.{AreNext}
use Rattle.replay_shards.specs.Taken.{bytes_of}
use Rattle.replay_shards.proofs.Trying.{follow-first, follow-more, as-many-found, as-many-bytes}
use Rattle.replay_shards.proofs.next.all_next.Goals as goal

pub loop-id-init : goal.loop-id-init
loop-id-init c ss r ds rig h = follow-first ss (bytes_of c.args.gone.now) r _ c.add_next.new.next.items c.new-next.ensures.items (c.in_ok-add_next.ensures ss r rig h.0)

pub loop-id-preserved : goal.loop-id-preserved
loop-id-preserved c ss r ds rig h =
    follow-more ss (bytes_of c.args.gone.now) (all_shown (parts_of c.args.attempt.now.slots.now)) c.args.others.now c.loop-id.id-index _ r ds c.loop-id.next.items c.add_next-in-loop-id.new.next.items h.1 c.loop-id-test.true
    (c.loop-id.invariant ss r ds rig h) (λ q f. c.in_ok-add_next-2.ensures ss q rig f)

pub returns : goal.returns
returns c ss r ds rig h =
    let many : length ds ≤ c.loop-id.id-index = omega (arith, as-many-found (all_shown (parts_of c.args.attempt.now.slots.now)) (bytes_of c.args.others.now) ds h.1, as-many-bytes c.args.others.now, c.loop-id-test.false) in
    subst (λ (l : List SeenRow). AreNext ss (bytes_of c.args.gone.now) (r ∷ l) c.loop-id.next.items) (take_all c.loop-id.id-index ds many) (c.loop-id.invariant ss r ds rig h)
