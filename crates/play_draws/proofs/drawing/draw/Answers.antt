use Rattle.std.proofs.Common.{[], List, subst}
use Rattle.std.specs.Prelude.{IfSome}
use Rattle.calculus.specs.Rows.{Row as Stored}
use Rattle.group_locks.specs.Seats.{held_by}
use Rattle.play_hub.proofs.Drawing.{hands-are}
use Rattle.found_rows.specs.AtHand.{MeetsAtHand}
use Rattle.shard_tables.specs.Hands.{AreInHand}
use Rattle.play_draws.proofs.drawing.draw.Goals as goal

pub ready_step-requires-clause-found : goal.ready_step-requires-clause-found
ready_step-requires-clause-found g c κs within =
    let h = hands-are g.T.ShardTables.rows g.J.PlayTerms.deploy g.J.PlayTerms.source (g.T.ShardTables.in_hand c.args.held.now) [] (held_by c.args.seat.now.state) c.requires.group.carries in
    (h.0, c.args.taken.op.now, subst (λ o. IfSome o (MeetsAtHand h.0 c.args.taken.op.now)) c.in-Some.is (c.in_ok-first_step.ensures.found h.0 h.1))

pub draw_ready-requires-clause-ready : goal.draw_ready-requires-clause-ready
draw_ready-requires-clause-ready g c κs within =
    let meets = λ (all : List Stored) (are : AreInHand g.T.ShardTables.rows (g.T.ShardTables.in_hand c.args.held.now) all). subst (λ o. IfSome o (MeetsAtHand all c.args.taken.op.now)) c.in-Some.is (c.in_ok-first_step.ensures.found all are) in
    (c.in-Some.found, meets, c.in_ok-ready-in-Some.ensures)
