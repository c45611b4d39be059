use Rattle.std.proofs.Common.{◌≡◌, ◌∙◌, ◌+◌, ◌-◌, ◌%◌, ◌^◌, ◌++◌, ℕ, ap, sym, arith, length}
use Rattle.hub_rule.specs.Counts.{one_if, numbered}
use Rattle.hub_rule.specs.Works.{hand}
use Rattle.hub_rule.specs.Rule.{with_pile, tells_of, kept_if}
use Rattle.hub_rule.proofs.Offers.{told_hand, one_at_most}
use Rattle.hub_steps.proofs.works.draw_and_tell.Goals as goal

pub tell-found-requires-clause-owes : goal.tell-found-requires-clause-owes
tell-found-requires-clause-owes g c κs within = ap (λ a. a.0.pile.owes) c.draw_as-number.ensures.drawn.1

pub tell-found-requires-clause-offers : goal.tell-found-requires-clause-offers
tell-found-requires-clause-offers g c κs within =
    let m = g.S.Scene.meaning in
    let d = c.draw_as-number.ensures.drawn in let may = c.requires.may in
    let e = c.args.entry.now in let p = c.args.token.now.me.0.pile in
    let x : ℕ = length (hand c.draw_as-number.new.token.me.0.pile) in
    let x_is : x ≡ length (p.kept ++ (kept_if (m.ends e) p.taken ++ numbered d.0 (m.offers e))) = ap (λ a. length (hand a.0.pile)) d.1 in
    let counted : c.draw_as-number.new.token.me.0.pile.counted ≡ p.counted = ap (λ a. a.0.pile.counted) d.1 in
    let long = told_hand p (m.ends e) may.index (m.takes e) d.0 (m.offers e) may.work.0 may.work.1 in
    let one = c.requires.counted in let low = one_at_most (m.ends e) in
    let same : x + (2 ^ 64 - c.draw_as-number.new.token.me.0.pile.counted) ≡ length (m.offers e) + (2 ^ 64 - one_if (m.ends e)) = omega arith in
    c.requires.offers ∙ ap (λ (n : ℕ). n % 2 ^ 64) (sym same)

pub returns-clause-drawn : goal.returns-clause-drawn
returns-clause-drawn g c =
    let d = c.draw_as-number.ensures.drawn in
    (d.0, c.ring.ensures.same.2 ∙ (c.tell-found.ensures.told ∙ ap (λ a. (with_pile a.0 (tells_of a.0.pile), a.1)) d.1))
