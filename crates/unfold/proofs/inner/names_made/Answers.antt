use Rattle.std.proofs.Common.{◌≡◌, ◌<◌, List, arith, length, get_or, subst}
use Rattle.calculus.specs.declared.plain.Origin.{Origin}
use Rattle.calculus.specs.declared.plain.Origin.TheVariants as origins
use Rattle.calculus.specs.Unfolding.{name_made}
use Rattle.unfold.proofs.Names.{name-more}
use Rattle.unfold.proofs.inner.names_made.Goals as goal

pub loop-origin-preserved : goal.loop-origin-preserved
loop-origin-preserved c =
    let s = c.args.seed.now in let os = c.args.names.now.items in let i = c.loop-origin.origin-index in let n = c.loop-origin.number in let x = c.in_ok-made_name.field-0 in
    let l : i < length os = subst (λ (us : List Origin). i < length us) c.deref-origin-items.ensures.value c.loop-origin-test.true in
    let q : x ≡ name_made s n (get_or os i origins.Plain) = subst (λ (us : List Origin). x ≡ name_made s n (get_or us i origins.Plain)) c.deref-origin-items.ensures.value c.in_ok-made_name.ensures in
    record {
      number = omega (arith, c.loop-origin.invariant.number);
      names = name-more s os c.loop-origin.values.items c.push.new.self.items x i n origins.Plain l c.loop-origin.invariant.number q c.in_ok-push.ensures.items c.loop-origin.invariant.names;
    }
