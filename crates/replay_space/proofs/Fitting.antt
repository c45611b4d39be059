-- Rows that fit a step by what is kept of them may make it.
use Rattle.std.proofs.Common.{◌≡◌, true, List, sym, subst}
use Rattle.racing_replays.specs.Replaying.{DoneStep, is_due}
use Rattle.racing_replays.specs.RacingLaws.{RacesAs}
use Rattle.racing_replays.specs.Laws.{first_bag, IsFresh}
use Rattle.racing_replays.specs.Possible.{Fits}
use Rattle.racing_replays.proofs.Racing.{races_are_replays}
use Rattle.replay_space.specs.Kept.{bare, Throughout, IsSeen}
use Rattle.replay_space.specs.Fits.{FitsStep, FitsTellDoings}
use Rattle.replay_space.proofs.Kept.{seen_tell_turns}

pub fits_tell_doings : FitsTellDoings
fits_tell_doings deploy w ss c f quiet races before s after log qs seen here m = (there, back)
  where
    as_replay : RacesAs deploy w ss c
    as_replay = (races_are_replays deploy w ss c f quiet races).0

    there : FitsStep before s qs m → (is_due (first_bag deploy.rows w) c.done before s ≡ true) × Fits c.store before s (bare qs) m
    there t = (
      subst (λ (ds : List DoneStep). is_due (first_bag deploy.rows w) ds before s ≡ true) as_replay.same_done
          ((seen_tell_turns deploy w ss as_replay.replay (subst (λ (ds : List DoneStep). IsFresh deploy.rows w ds) (sym as_replay.same_done) f) as_replay.replays before s after log qs t.named
          (subst (λ (ds : List DoneStep). Throughout (IsSeen (first_bag deploy.rows w) ds) qs) (sym as_replay.same_done) seen)).1 t.turn),
      record { named = t.named; arrived = here; differs = t.differs; meets = t.meets; repeats = t.repeats },
    )

    back : (is_due (first_bag deploy.rows w) c.done before s ≡ true) × Fits c.store before s (bare qs) m → FitsStep before s qs m
    back d = record {
      named = d.1.named;
      differs = d.1.differs;
      meets = d.1.meets;
      turn = (seen_tell_turns deploy w ss as_replay.replay (subst (λ (ds : List DoneStep). IsFresh deploy.rows w ds) (sym as_replay.same_done) f) as_replay.replays before s after log qs d.1.named
          (subst (λ (ds : List DoneStep). Throughout (IsSeen (first_bag deploy.rows w) ds) qs) (sym as_replay.same_done) seen)).0
          (subst (λ (ds : List DoneStep). is_due (first_bag deploy.rows w) ds before s ≡ true) (sym as_replay.same_done) d.0);
      repeats = d.1.repeats;
    }
