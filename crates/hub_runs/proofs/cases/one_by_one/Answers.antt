use Rattle.std.proofs.Common.{◌∙◌, ◌∷◌, [], length, length-append, ap, arith}
use Rattle.hub_rule.specs.Works.{hand}
use Rattle.group_locks.specs.Seats.{AtRest, IsIdle}
use Rattle.hub_rule.proofs.Ends.{all_tail}
use Rattle.hub_rule.proofs.Opens.{all_push}
use Rattle.hub_runs.proofs.cases.one_by_one.Goals as goal

pub work_and_stop-requires : goal.work_and_stop-requires
work_and_stop-requires g c =
    let i = c.loop-seat.invariant in let s = c.in-Some.ensures.steps in
    let h = (all_tail (λ t. IsIdle c.args.hub.now.table.shared.table_id t.state) _ _ _ s.0 i.each).0 in
    let e = c.may_go-may_go.ensures in
    ((e.hub ∙ h.0.0, e.held ∙ h.0.1), e.charged.1, ap hand e.works ∙ h.2)

pub loop-seat-preserved : goal.loop-seat-preserved
loop-seat-preserved g c =
    let i = c.loop-seat.invariant in let s = c.in-Some.ensures.steps in
    let p = c.in_ok-push.ensures.items in
    let seat = c.work_and_stop.result in
    record {
      count = let a = ap length p in let b = length-append c.loop-seat.done.items (seat ∷ []) in let d = ap length s.0 in let e = i.count in omega arith;
      done = all_push (λ t. AtRest c.args.hub.now.table.shared.table_id t.state) c.loop-seat.done.items _ seat p i.done c.work_and_stop.ensures;
      each = (all_tail (λ t. IsIdle c.args.hub.now.table.shared.table_id t.state) _ _ _ s.0 i.each).1;
    }
