use Rattle.std.proofs.Common.{◌≡◌, ◌+◌, length, refl, sym, ap, ◌∙◌, arith}
use Rattle.calculus.specs.Code.{code}
use Rattle.calculus.specs.Variables.{bound}
use Rattle.rho_term.specs.Parts.{bind_tree}
use Rattle.term_bounds.proofs.Binding.{count-bound}
use Rattle.offered_rows.proofs.Sorting.{keyed-pushed, total-pushed}
use Rattle.offered_rows.proofs.placed.placed_binds.Goals as goal

pub places_between-requires : goal.places_between-requires
places_between-requires c = omega (arith, c.saturating_add-end.ensures, c.loop-bind.invariant.fits)

pub loop-bind-preserved : goal.loop-bind-preserved
loop-bind-preserved c =
    let b = c.in-Some.bind in
    let n = length (bound (bind_tree b)) in
    let fits = c.in_ok-places.ensures.fits in
    let end : c.saturating_add-end.result ≡ c.loop-bind.first + n = omega (arith, c.saturating_add-end.ensures, c.bind_bound.ensures, count-bound (bind_tree b), fits) in
    let key = ap (λ k. (k, (bind_tree b, c.in_ok-places.places.items))) c.in_ok-code.ensures ∙ ap (λ ps. (code b.channel, (bind_tree b, ps))) (c.in_ok-places.ensures.places n end) in
    record {
      keyed = keyed-pushed c.loop-bind.yielded b c.loop-bind.keyed.items _ _ c.loop-bind.first n c.in_ok-push.ensures.items c.loop-bind.invariant.keyed key c.loop-bind.invariant.first refl;
      first = end ∙ (ap (λ k. k + n) c.loop-bind.invariant.first ∙ sym (total-pushed c.loop-bind.yielded b));
      fits = fits;
    }
