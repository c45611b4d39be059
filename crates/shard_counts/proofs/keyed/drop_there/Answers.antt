use Rattle.std.proofs.Common.{◌≡◌, ℕ, ◌-◌, ◌<◌, Vec, Global, refl, sym, ◌∙◌, ap, subst, arith}
use Rattle.std.specs.Prelude.{IsSome}
use Rattle.shard_counts.specs.Counts.{Entries, count, adds}
use Rattle.std.specs.Option.{option_copied_mut}
use Rattle.std.specs.Int.{bit_at}
use Rattle.shard_counts.proofs.Counting.{counts-change, here, absent}
use Rattle.shard_counts.proofs.keyed.drop_there.Goals as goal

nothing : (n : ℕ) → 0 - n ≡ 0
nothing n = omega arith

pub returns-in-Some-clause-taken : goal.returns-in-Some-clause-taken
returns-in-Some-clause-taken c =
    let w = c.remove.new.self in
    let old = c.args.entries.now.entries in
    let new = (c.get_mut.follows.lender w).entries in
    let q = c.args.key.now.items in
    let e = sym c.get_mut.ensures.value ∙ ap option_copied_mut c.in-Some.is in
    let u = (c.get_mut.follows.holds w).3 (subst IsSome (sym e) refl) in
    counts-change old new q c.args.bits (λ n m. n - m) (λ n. omega arith) u.2 (λ s lt. here new q w u.1 s ∙ c.remove.ensures s lt ∙ ap (λ n. n - bit_at c.args.bits s) (sym (here old q c.in-Some.counts.now e s)))

pub returns-in-None-clause-taken : goal.returns-in-None-clause-taken
returns-in-None-clause-taken c =
    let old = c.args.entries.now.entries in
    let q = c.args.key.now.items in
    let e = sym c.get_mut.ensures.value ∙ ap option_copied_mut c.in-None.is in
    subst (λ (es : Entries). (k : Vec ℕ Global) (s : ℕ) → s < 64 → count es k.items s ≡ count old k.items s - adds q c.args.bits k.items s) (sym (ap (λ m. m.entries) c.get_mut.follows.holds-at-none))
    (counts-change old old q c.args.bits (λ n m. n - m) (λ n. omega arith) (λ z i. refl) (λ s lt. absent old q e s ∙ sym (ap (λ n. n - bit_at c.args.bits s) (absent old q e s) ∙ nothing (bit_at c.args.bits s))))
