use Rattle.std.proofs.Common.{◌≤◌, take, length}
use Rattle.replay_space.specs.Rigs.{IsDraft}
use Rattle.replay_space.proofs.draft.Draft.from_namings.Given as goal

abbrev pub invariant-loop-naming : goal.invariant-loop-naming
invariant-loop-naming l =
    record {
      drafted : IsDraft (take l.naming-index l.namings) l.draft;
      few : length l.draft.uses.items ≤ l.naming-index;
    }
