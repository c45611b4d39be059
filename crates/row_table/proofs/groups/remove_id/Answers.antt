use Rattle.row_table.proofs.Grouping.{removes-kept}
use Rattle.row_table.proofs.groups.remove_id.Goals as goal

pub returns-then-drop_id : goal.returns-then-drop_id
returns-then-drop_id c =
    λ k x n h. removes-kept c.drop_id.new.groups.entries c.remove.new.self.entries c.args.key.now.items (c.drop_id.ensures.empty c.if-drop_id.true) c.remove.ensures.updates.2 k x (c.drop_id.ensures.kept k x n h)
