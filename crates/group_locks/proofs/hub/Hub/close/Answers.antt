use Rattle.std.proofs.Common.{get_or, refl, subst}
use Rattle.group_locks.specs.Ends.{CanHoldAll}
use Rattle.group_locks.proofs.hub.Hub.close.Goals as goal

pub end-requires-clause-room : goal.end-requires-clause-room
end-requires-clause-room g c κs within = subst (λ n. CanHoldAll n (λ s. s.state) c.args.seats.items c.in-Some.room) c.args.self.dealt c.in-Some.ensures

pub returns-in_default : goal.returns-in_default
returns-in_default g c = record {
  count = tt;
  drawn = tt;
  once = tt;
  shards = tt;
  ran = tt;
  empty = tt;
  paid = tt;
  last = λ k d lt. let s = (get_or c.args.seats.items k d).state in (s.owed, s.last);
  bounded = tt;
  over = tt;
  memory = tt;
  faulty = tt;
  stop = tt;
  fault = tt;
  back = (refl, refl);
}

pub returns : goal.returns
returns g c = let e = c.end.ensures.ended in record {
  count = e.count;
  drawn = e.drawn;
  once = e.once;
  shards = e.shards;
  ran = e.ran;
  empty = e.empty;
  paid = e.paid;
  last = λ k d lt. let s = (get_or c.args.seats.items k d).state in (s.owed, s.last);
  bounded = e.bounded;
  over = e.over;
  memory = e.memory;
  faulty = e.faulty;
  stop = e.stop;
  fault = e.fault;
  back = tt;
}
