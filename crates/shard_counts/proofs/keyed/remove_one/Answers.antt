use Rattle.std.proofs.Common.{refl, sym, ◌∙◌}
use Rattle.shard_counts.proofs.Counting.{counts-change, absent}
use Rattle.shard_counts.proofs.keyed.remove_one.Goals as goal

pub returns-then-drop_there : goal.returns-then-drop_there
returns-then-drop_there c =
    let mid = c.drop_there.new.entries.entries in
    let new = c.remove.new.self.entries in
    let q = c.args.key.now.items in
    let u = c.remove.ensures.updates in
    λ k s lt. counts-change mid new q 0 (λ n m. n) (λ n. refl) u.2 (λ z lz. absent new q u.1 z ∙ sym (c.drop_there.ensures.none c.if-drop_there.true z lz)) k s lt ∙ c.drop_there.ensures.taken k s lt
