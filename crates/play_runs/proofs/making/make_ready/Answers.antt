use Rattle.std.proofs.Common.{rules, ◌≡◌, ◌≤◌, ◌∙◌, List, length, map, refl, sym, ap, subst, arith}
use Rattle.calculus.specs.declared.ids.Digest.{Digest}
use Rattle.calculus.specs.Form.{IsClosed}
use Rattle.calculus.specs.Seeds.{digest_of, Comm}
use Rattle.calculus.specs.Substitution.{put}
use Rattle.calculus.specs.Tree.{Tree}
use Rattle.calculus.specs.Unfolding.{UnfoldsUnder}
use Rattle.unfold.proofs.Bodies.{body-closed, taken-in-range, values-closed}
use Rattle.play_runs.proofs.Numbers.{again-next}
use Rattle.play_runs.proofs.making.make_ready.Goals as goal

pub comm-seed-requires : goal.comm-seed-requires
comm-seed-requires c = let f = c.requires.found in subst (λ (ds : List Digest). length ds ≤ 16) (sym c.as_slice.ensures.value) (taken-in-range f.0 f.1 c.args.found f.2 0).1

pub work_body-requires-clause-closed : goal.work_body-requires-clause-closed
work_body-requires-clause-closed c = let f = c.requires.found in subst (λ (vs : List Tree). IsClosed (put vs c.args.found.body)) (sym c.as_slice-2.ensures.value) (body-closed f.0 f.1 c.args.found f.2)

pub line_of-requires : goal.line_of-requires
line_of-requires c = let f = c.requires.found in values-closed f.0 f.1 c.args.found f.2

pub invariant_of-made : goal.invariant_of-made
invariant_of-made c = let f = c.requires.found in let r = taken-in-range f.0 f.1 c.args.found f.2 c.in_ok-repeat.repeat in search rules

pub returns : goal.returns
returns c =
    let f = c.args.found in
    let n = c.in_ok-repeat.repeat in
    let worked = c.in_ok-worked.worked in
    let w = c.in_ok-worked.ensures in
    let seed : c.comm-seed.result ≡ digest_of (Comm f.cont.0 (map (λ d. d.0) f.taken.items) n) =
    c.comm-seed.ensures ∙ ap (λ (ds : List Digest). digest_of (Comm f.cont.0 (map (λ d. d.0) ds) n)) c.as_slice.ensures.value in
    record {
      work = w.work;
      right = c.in_ok-repeat.ensures;
      said = subst (λ z. UnfoldsUnder c.args.means.prices.now c.args.means.limit f.bound.items f.body z w.work) seed (subst (λ (vs : List Tree). UnfoldsUnder c.args.means.prices.now c.args.means.limit vs f.body c.comm-seed.result w.work) c.as_slice-2.ensures.value w.said);
      step = refl;
      gone = refl;
      seen = c.of-gone.ensures;
      offers = w.rows;
      offered = c.of-offers.ensures;
      few = omega (arith, c.if-count-ge144115188075855872.false, c.len-count.ensures, worked.offers.ok.0);
      price = omega (arith, c.comm-comm.ensures.price, w.price_is);
      cheap = omega (arith, c.comm-comm.ensures.price, c.comm-comm.ensures.most, w.most, c.requires.limit);
      fault = sym w.fault_is;
      line = c.in_ok-line.ensures;
      again = λ number e m. again-next c.args.took.now f _ n _ c.in_ok-repeat.ensures refl c.in_ok-again.ensures number e m;
    }
