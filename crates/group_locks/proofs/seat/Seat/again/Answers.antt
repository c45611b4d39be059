use Rattle.std.proofs.Common.{◌∙◌, refl}
use Rattle.group_locks.proofs.Rooms.{room_reserved}
use Rattle.group_locks.proofs.seat.Seat.again.Goals as goal

pub returns-then-len : goal.returns-then-len
returns-then-len g c = record { hub = refl; drawn = refl; held = refl; since = refl; tally = refl; works = refl; room = tt }

pub invariant_of-self : goal.invariant_of-self
invariant_of-self g c = let s = c.args.self.now.state in record {
  near = s.near;
  told = c.reserve.ensures.items ∙ s.told;
  out = s.out;
  falls = s.falls;
  bits = s.bits;
  part = s.part;
  fresh = s.fresh;
  owed = s.owed;
  last = s.last;
  calm = s.calm;
  even = s.even;
  balance = s.balance;
  clear = s.clear;
}

pub returns : goal.returns
returns g c = let r = c.reserve.ensures in record {
  hub = refl;
  drawn = refl;
  held = refl;
  since = refl;
  tally = refl;
  works = refl;
  room = room_reserved _ _ _ _ c.len.result r.ok r.len c.len.ensures c.if-len.false;
}
