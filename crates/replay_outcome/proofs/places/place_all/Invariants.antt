use Rattle.std.proofs.Common.{◌≡◌, ◌++◌, List, length, map}
use Rattle.calculus.specs.Rows.{Row}
use Rattle.calculus.specs.Tree.{Tree}
use Rattle.hub_scenes.specs.Spaces.{DidStep}
use Rattle.hub_scenes.specs.Entries.{did_by}
use Rattle.replay_hub.specs.Values.{entry_of}
use Rattle.replay_outcome.specs.Settling.{KeptFrom}
use Rattle.replay_outcome.proofs.places.place_all.Given as goal

abbrev pub invariant-loop-entry : goal.invariant-loop-entry
invariant-loop-entry g l = record {
  many : length l.places.items ≡ l.fn.count;
  kept : (row : g.row.R.Denot → Row) (channel : g.row.C.Denot → Tree)
      → (ds : List DidStep) × (did_by (map (entry_of row channel) l.fn.entries.items) ≡ ds ++ did_by (map (entry_of row channel) l.entry-iterator.rest.items)) × KeptFrom 0 ds l.places.items;
}
