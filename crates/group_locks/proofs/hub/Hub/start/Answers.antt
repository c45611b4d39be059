use Rattle.std.proofs.Common.{ap}
use Rattle.group_locks.proofs.Numbers.{some_words}
use Rattle.group_locks.proofs.hub.Hub.start.Goals as goal

pub cut_seats-seats-requires-clause-table : goal.cut_seats-seats-requires-clause-table
cut_seats-seats-requires-clause-table g c κs within = (c.in_ok-hub.ensures.token.0, some_words _ c.in_ok-hub.hub.wide)

pub cut_seats-seats-requires-clause-parts : goal.cut_seats-seats-requires-clause-parts
cut_seats-seats-requires-clause-parts g c κs within = (c.in_ok-hub.ensures.token.1, c.requires.few.0, c.requires.few.1)

pub cut_seats-seats-requires-clause-room : goal.cut_seats-seats-requires-clause-room
cut_seats-seats-requires-clause-room g c κs within = (c.in_ok-made.ensures.items, c.in_ok-made.ensures.capacity)

pub returns : goal.returns
returns g c = let k = c.in_ok-hub.ensures.key in let s = c.cut_seats-seats.ensures in record {
  opened = k.0;
  works = k.1;
  key = ap (λ t. t.seats) k.2;
  terms = (ap (λ t. t.spent) k.2, ap (λ t. t.limit) k.2);
  count = s.count;
  rest = s.rest;
  drawn = s.drawn;
}
