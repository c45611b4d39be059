use Rattle.next_states.proofs.Pairs.{known-rows}
use Rattle.next_states.proofs.known.KnownState.of.Goals as goal

pub invariant_of-result : goal.invariant_of-result
invariant_of-result c =
    let p = c.into_parts-rows.ensures in
    known-rows c.args.text.items _ _ c.args.checkpoint c.requires p.kept p.tree p.marks
