use Rattle.std.proofs.Common.{◌≡◌, length}
use Rattle.calculus.specs.Steps.{peeks}
use Rattle.row_meeting.proofs.Taking.{TakenSo}
use Rattle.row_meeting.proofs.binds.take_sends.Given as goal

abbrev pub invariant-loop-i : goal.invariant-loop-i
invariant-loop-i l = record {
  same : length l.binds ≡ length l.sends;
  peeking : l.peeking ≡ peeks l.fn.kind;
  taken : TakenSo l.fn.id l.fn.kind l.body l.binds l.sends l.i l.found;
}
