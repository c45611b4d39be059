use Rattle.std.proofs.Common.{subst, arith}
use Rattle.row_meeting.specs.Taking.{Binds}
use Rattle.row_meeting.proofs.Taking.{not-at, other-number, taken-step}
use Rattle.row_meeting.proofs.binds.take_sends.Goals as goal

pub returns-then-binds-sends : goal.returns-then-binds-sends
returns-then-binds-sends c = other-number c.args.binds.now c.args.sends.now c.if-binds-sends.true

pub returns-in-None : goal.returns-in-None
returns-in-None c =
    let b = c.index-binds-i.result in
    let d = c.index-sends-i.result in
    let same = c.loop-i.invariant.same in
    not-at c.args.binds.now c.args.sends.now c.loop-i.i b d c.loop-i-test.true (omega (arith, same, c.loop-i-test.true)) c.index-binds-i.is c.index-sends-i.is
    (subst (Binds b d) c.in-None.is c.in_ok-bind_send.ensures)

pub loop-i-preserved : goal.loop-i-preserved
loop-i-preserved c =
    let b = c.index-binds-i.result in
    let d = c.index-sends-i.result in
    let inv = c.loop-i.invariant in
    let bound = subst (Binds b d) c.in-Some.is c.in_ok-bind_send.ensures in
    record {
      same = inv.same;
      peeking = inv.peeking;
      taken = taken-step c.args.id c.args.kind c.args.body.now c.args.binds.now c.args.sends.now c.loop-i.i b d c.in-Some.bound.items c.loop-i.found c.add_send.new.found c.peeks-peeking.result
          c.loop-i-test.true (omega (arith, inv.same, c.loop-i-test.true)) c.index-binds-i.is c.index-sends-i.is inv.peeking inv.taken bound.0 bound.1 c.in_ok-add_send-in-Some.ensures;
    }
