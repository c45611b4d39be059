-- A hub over the scene of a replay, entry by entry.
use Rattle.std.specs.Prelude.{◌≡◌, ℕ, true, List, [], ◌∷◌, map as each, None}
use Rattle.calculus.specs.declared.plain.Kind.TheVariants as kinds
use Rattle.calculus.specs.Tree.{Tree}
use Rattle.calculus.specs.Examples.{num, step, datum, receiver}
use Rattle.calculus.specs.Log.{Step}
use Rattle.calculus.specs.Rows.{Row}
use Rattle.calculus.specs.Runs.{Deploy, deploy_of, done}
use Rattle.events.specs.EventExamples.{no_prices}
use Rattle.events.specs.EventLaws.{Begins}
use Rattle.hub_rule.specs.Meaning.{Ran}
use Rattle.events.specs.Entries.{Making}
use Rattle.racing_replays.specs.Replaying.{Replay}
use Rattle.racing_replays.specs.Laws.{FreshWalk}
use Rattle.racing_replays.specs.Examples.{the_source, both_steps}
use Rattle.hub_scenes.specs.Spaces.{IndexTry, Job, arrive, new_row}
use Rattle.hub_scenes.specs.Entries.{Deed, arrives, does, idles, Entry, did_by}
use Rattle.hub_scenes.specs.ReplayScene.{replay}
use Rattle.hub_scenes.specs.Closing.{in_log_order, did_verdict}

-- the persistent receiver 2, which both steps of the log name
abbrev pub the_receiver : List Row
the_receiver = receiver (2 ∷ []) kinds.Persistent ∷ []

-- a deploy from it
abbrev pub from_receiver : Tree → List ℕ → Deploy
from_receiver t source = deploy_of no_prices 9 the_receiver t source

-- an entry that touches all shards
abbrev pub everywhere : Deed → Entry
everywhere d = record { deed = d; shards = λ k. true }

-- a try of this index on the channel of all these rows
abbrev pub try_at : ℕ → IndexTry
try_at i = record { index = i; channel = num 1 }

-- a step with which this datum leaves and that offers nothing
abbrev pub making_of : Step → List ℕ → Making
making_of s x = record { step = s; gone = x ∷ []; offers = []; price = 0; fault = None; line = [] }

-- the datum 1 arrives, and the first step is done; the second is tried too early; the datum 3 arrives, and the second step is done
abbrev pub first_arrival : Entry
first_arrival = everywhere (arrives (new_row None (datum (1 ∷ []) 5)) (try_at 0 ∷ []))

abbrev pub first_done : Entry
first_done = everywhere (does (try_at 0) (making_of (step (2 ∷ []) ((1 ∷ []) ∷ []) 0) (1 ∷ [])) (try_at 1 ∷ []))

abbrev pub too_early : Entry
too_early = everywhere (idles (try_at 1))

abbrev pub second_arrival : Entry
second_arrival = everywhere (arrives (new_row None (datum (3 ∷ []) 6)) (try_at 1 ∷ []))

abbrev pub second_done : Entry
second_done = everywhere (does (try_at 1) (making_of (step (2 ∷ []) ((3 ∷ []) ∷ []) 0) (3 ∷ [])) [])

-- these jobs at the start, and these entries
abbrev pub the_jobs : List Job
the_jobs = each (λ r. arrive (new_row None r)) (datum (1 ∷ []) 5 ∷ datum (3 ∷ []) 6 ∷ [])

abbrev pub the_entries : List Entry
the_entries = first_arrival ∷ first_done ∷ too_early ∷ second_arrival ∷ second_done ∷ []

pub record SceneExamples : Type 0 where
  -- where a process offers these two data a hub may run so, each entry told by the one shard of the channel, and then nothing is left and in hand
  pub ran : (t : Tree) (source : List ℕ) → Begins (from_receiver t source) the_source → Ran (replay (from_receiver t source) both_steps) [] the_jobs the_entries [] [] []
  -- the digests of such a log can be fresh
  pub fresh : (t : Tree) (source : List ℕ) → (k : Replay) × FreshWalk (from_receiver t source) the_source both_steps k
  -- both steps are done, in the order of the log
  pub done_both : each (λ d. d.index) (in_log_order 2 (did_by the_entries)) ≡ 0 ∷ 1 ∷ []
  -- at no price, and without a fault
  pub verdict : (t : Tree) (source : List ℕ) → did_verdict (from_receiver t source) the_source (in_log_order 2 (did_by the_entries)) ≡ done
