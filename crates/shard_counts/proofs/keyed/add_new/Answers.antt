use Rattle.std.proofs.Common.{◌+◌, sym, ◌∙◌, ap, arith}
use Rattle.std.specs.Int.{bit_at}
use Rattle.shard_counts.proofs.Counting.{counts-change, here}
use Rattle.shard_counts.proofs.keyed.add_new.Goals as goal

pub returns-clause-counted : goal.returns-clause-counted
returns-clause-counted c =
    let w = c.add.new.self in
    let old = c.args.entries.now.entries in
    let new = c.insert.new.self.entries in
    let q = c.args.key.items in
    let u = c.in_ok-insert.ensures.updates in
    counts-change old new q c.args.bits (λ n m. n + m) (λ n. omega arith) u.2
    (λ s lt. here new q w u.1 s ∙ c.add.ensures s lt ∙ ap (λ n. n + bit_at c.args.bits s) (c.in_ok-counts.ensures s ∙ sym (c.requires s)))
