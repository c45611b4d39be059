use Rattle.std.proofs.Common.{ℕ, ◌+◌, take, Vec, Global, sym, ap, ◌∙◌, subst, ◌≡◌, ◌-◌}
use Rattle.shard_counts.specs.Counts.{added, adds}
use Rattle.shard_counts.specs.Keyed.{count_of}
use Rattle.shard_counts.proofs.Counting.{added-more, minus-more, added-none, minus-none}
use Rattle.shard_counts.proofs.keyed.ShardCounts.remove.Goals as goal

pub loop-key-preserved : goal.loop-key-preserved
loop-key-preserved c =
    let ks = c.args.keys.now in
    let i = c.loop-key.key-index in
    let b = c.args.bits in
    let d = c.key-item.result in
    λ k s lt. minus-more _ _ _ _ _ _ (c.remove_one.ensures k s lt) (c.loop-key.invariant k s lt)
    (added-more ks i d b k.items s c.loop-key-test.true ∙ ap (λ (z : Vec ℕ Global). added (take i ks) b k.items s + adds z.items b k.items s) (sym c.key-item.is))

pub returns-then-bits-eq0 : goal.returns-then-bits-eq0
returns-then-bits-eq0 c =
    λ k s lt. let a = count_of c.args.self.now k.items s in
    let P : ℕ → Type 0 = λ b. a ≡ a - added c.args.keys.now b k.items s in
    subst P (sym c.if-bits-eq0.true) (minus-none a (added c.args.keys.now 0 k.items s) (added-none c.args.keys.now k.items s))
