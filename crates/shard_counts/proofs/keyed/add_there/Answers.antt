use Rattle.std.proofs.Common.{◌+◌, refl, sym, ◌∙◌, ap, subst, arith}
use Rattle.std.specs.Prelude.{IsSome}
use Rattle.std.specs.Option.{option_copied_mut}
use Rattle.std.specs.Int.{bit_at}
use Rattle.shard_counts.proofs.Counting.{counts-change, here}
use Rattle.shard_counts.proofs.keyed.add_there.Goals as goal

pub returns-then-not-has_room-clause-failed : goal.returns-then-not-has_room-clause-failed
returns-then-not-has_room-clause-failed c =
    let w = c.in-Some.counts.now in
    let old = c.args.entries.now.entries in
    let new = (c.get_mut.follows.lender w).entries in
    let q = c.args.key.now.items in
    let e = sym c.get_mut.ensures.value ∙ ap option_copied_mut c.in-Some.is in
    let u = (c.get_mut.follows.holds w).3 (subst IsSome (sym e) refl) in
    counts-change old new q 0 (λ n m. n) (λ n. refl) u.2 (λ s lt. here new q w u.1 s ∙ sym (here old q w e s))

pub returns-else-not-has_room-clause-there : goal.returns-else-not-has_room-clause-there
returns-else-not-has_room-clause-there c =
    let w = c.add.new.self in
    let old = c.args.entries.now.entries in
    let new = (c.get_mut.follows.lender w).entries in
    let q = c.args.key.now.items in
    let e = sym c.get_mut.ensures.value ∙ ap option_copied_mut c.in-Some.is in
    let u = (c.get_mut.follows.holds w).3 (subst IsSome (sym e) refl) in
    λ t. counts-change old new q c.args.bits (λ n m. n + m) (λ n. omega arith) u.2 (λ s lt. here new q w u.1 s ∙ c.add.ensures s lt ∙ ap (λ n. n + bit_at c.args.bits s) (sym (here old q c.in-Some.counts.now e s)))
