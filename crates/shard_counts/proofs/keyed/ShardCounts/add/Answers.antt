use Rattle.std.proofs.Common.{◌≡◌, ℕ, ◌+◌, false, take, Vec, Global, sym, ap, ◌∙◌, subst}
use Rattle.std.specs.Prelude.{Result, Ok, Err, OnOk, is_err}
use Rattle.shard_counts.specs.Counts.{added, adds}
use Rattle.shard_counts.specs.Keyed.{count_of}
use Rattle.shard_counts.proofs.Counting.{added-more, plus-more, added-none, plus-none}
use Rattle.shard_counts.proofs.keyed.ShardCounts.add.Goals as goal

on-ok : {A B : Type 0} (r : Result A B) {P : Type 0} → is_err r ≡ false → OnOk r P → P
on-ok (Ok x) e p = p
on-ok (Err x) e p = cc e

pub loop-i-preserved : goal.loop-i-preserved
loop-i-preserved c =
    let ks = c.args.keys.now in
    let i = c.loop-i.i in
    let b = c.args.bits in
    let d = c.index-keys-i.result in
    λ k s lt. plus-more _ _ _ _ _ _ (on-ok c.add_one-done.result (sym c.is_err.ensures.value ∙ c.if-is_err.false) c.add_one-done.ensures.counted k s lt) (c.loop-i.invariant k s lt)
    (added-more ks i d b k.items s c.loop-i-test.true ∙ ap (λ (z : Vec ℕ Global). added (take i ks) b k.items s + adds z.items b k.items s) (sym c.index-keys-i.is))

pub returns-then-bits-eq0-clause-counted : goal.returns-then-bits-eq0-clause-counted
returns-then-bits-eq0-clause-counted c =
    λ k s lt. let a = count_of c.args.self.now k.items s in
    let P : ℕ → Type 0 = λ b. a ≡ a + added c.args.keys.now b k.items s in
    subst P (sym c.if-bits-eq0.true) (plus-none a (added c.args.keys.now 0 k.items s) (added-none c.args.keys.now k.items s))
