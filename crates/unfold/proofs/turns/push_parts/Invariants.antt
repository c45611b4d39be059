use Rattle.std.proofs.Common.{◌≡◌, List, ◌++◌, length, map, All}
use Rattle.std.specs.Prelude.{vec_len}
use Rattle.rho_term.specs.declared.term.Part.{Part}
use Rattle.rho_term.specs.Parts.{part_tree}
use Rattle.unfold.specs.Progress.{pending_from, IsReady, in_turn}
use Rattle.unfold.proofs.turns.push_parts.Given as goal

abbrev pub invariant-loop-part : goal.invariant-loop-part
invariant-loop-part l = record {
  done : List Part;
  split : l.initial.parts.items ≡ l.parts.items ++ done;
  next : in_turn l.left.items ≡ pending_from l.seed (length l.parts.items) (map part_tree done) ++ in_turn l.initial.left.items;
  ready : All IsReady (in_turn l.left.items);
}

abbrev pub decreases-loop-part : goal.decreases-loop-part
decreases-loop-part l = vec_len l.parts
