use Rattle.std.proofs.Common.{◌<◌, sym, ap, subst, ◌∙◌, arith, length, map as each}
use Rattle.event_log.specs.View.{step_of}
use Rattle.racing_replays.specs.Replaying.{names}
use Rattle.hub_scenes.specs.Spaces.{IsIn}
use Rattle.calculus.specs.Rows.{Row}
use Rattle.replay_space.specs.declared.seen.Seen.{Seen}
use Rattle.replay_rows.specs.Rows.{counted_in, seen_row}
use Rattle.replay_rows.proofs.Counting.{changed-next, not-changed, all-changed, as-many, same-many}
use Rattle.replay_rows.proofs.kept.count_built.Goals as goal

pub count_one-requires : goal.count_one-requires
count_one-requires c named =
    let f = counted_in (names (step_of c.args.step.now)) in
    let old = c.args.built.now.items in
    let items = c.loop-i.built.items in
    let h : c.loop-i.i < length items = omega (arith, same-many f c.loop-i.i items old c.loop-i.invariant, c.loop-i-test.true, c.len-i-end.ensures, c.args.built.now.ok.0) in
    c.requires (seen_row c.index_mut.result.now)
    (subst (λ (z : Seen Row). IsIn (seen_row z) (each seen_row old)) (sym c.index_mut.ensures.value) (not-changed f c.loop-i.i items (each seen_row old) c.index_mut.result.now h c.loop-i.invariant)) named

pub loop-i-preserved : goal.loop-i-preserved
loop-i-preserved c =
    let f = counted_in (names (step_of c.args.step.now)) in
    let old = c.args.built.now.items in
    let items = c.loop-i.built.items in
    changed-next f c.loop-i.i items (each seen_row old) c.index_mut.result.now c.count_one.new.seen
    (omega (arith, same-many f c.loop-i.i items old c.loop-i.invariant, c.loop-i-test.true, c.len-i-end.ensures, c.args.built.now.ok.0)) c.loop-i.invariant
    (c.count_one.ensures ∙ ap (λ (z : Seen Row). f (seen_row z)) c.index_mut.ensures.value)

pub returns : goal.returns
returns c =
    let f = counted_in (names (step_of c.args.step.now)) in
    let old = c.args.built.now.items in
    c.loop-i.invariant ∙ all-changed f c.loop-i.i (each seen_row old) (omega (arith, as-many old, c.loop-i-test.false, c.len-i-end.ensures, c.args.built.now.ok.0))
