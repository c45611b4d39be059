-- Proofs of the examples of replays.
use Rattle.std.specs.Prelude.{[], ◌∷◌, refl}
use Rattle.calculus.proofs.Opened.{hashing}
use Rattle.calculus.specs.Rows.{stdout, stdout_ack}
use Rattle.calculus.specs.Examples.{step, datum}
use Rattle.events.specs.EventExamples.{no_work}
use Rattle.racing_replays.specs.Replaying.{none_yet, one_more}
use Rattle.racing_replays.specs.Racing.{no_event, arrival, done_index}
use Rattle.racing_replays.specs.Examples.{ReplayExamples}

pub replay_examples : ReplayExamples
unfolding hashing
replay_examples = record {
  left_out = refl;
  not_by_ids = refl;
  both_done = refl;
  other_order = (
    _,
    (
      one_more (one_more none_yet
          (record { before = step (4 ∷ []) ((3 ∷ []) ∷ []) 0 ∷ []; step = step (2 ∷ []) ((1 ∷ []) ∷ []) 0; after = []; log = refl; due = refl; found = _; allowed = refl; room = 1; work = no_work; works = refl; is = refl }))
          (record { before = []; step = step (4 ∷ []) ((3 ∷ []) ∷ []) 0; after = step (2 ∷ []) ((1 ∷ []) ∷ []) 0 ∷ []; log = refl; due = refl; found = _; allowed = refl; room = 1; work = no_work; works = refl; is = refl }),
      refl,
    ),
  );
  told_in_order = (
    _,
    (
      one_more (one_more none_yet
          (record { before = step stdout.id ((1 ∷ []) ∷ []) 0 ∷ []; step = step stdout_ack.id ((2 ∷ []) ∷ []) 0; after = []; log = refl; due = refl; found = _; allowed = refl; room = 3; work = _; works = refl; is = refl }))
          (record { before = []; step = step stdout.id ((1 ∷ []) ∷ []) 0; after = step stdout_ack.id ((2 ∷ []) ∷ []) 0 ∷ []; log = refl; due = refl; found = _; allowed = refl; room = 3; work = _; works = refl; is = refl }),
      refl,
    ),
  );
  waits = refl;
  not_early = refl;
  uses_of_a_row = refl;
  fresh = (_, record { walks = (1, refl); fresh = refl });
  events = (
    _,
    (
      done_index (arrival no_event (record { row = datum (1 ∷ []) 5; before = []; after = datum (3 ∷ []) 6 ∷ []; arriving = refl; is = refl }))
          (record { before = []; step = step (2 ∷ []) ((1 ∷ []) ∷ []) 0; after = step (2 ∷ []) ((3 ∷ []) ∷ []) 0 ∷ []; log = refl; pre = []; post = []; tries = refl; due = refl; found = _; allowed = refl; room = 1; work = no_work; works = refl; is = refl }),
      refl,
    ),
  );
}
