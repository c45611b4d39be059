use Rattle.std.proofs.Common.{[], refl, sym, subst, map}
use Rattle.calculus.specs.Form.{term, part}
use Rattle.calculus.specs.Tree.{par}
use Rattle.calculus.specs.Shape.{many}
use Rattle.rho_term.specs.Parts.{part_tree}
use Rattle.term_order.specs.Orders.{ComparesAs}
use Rattle.term_order.proofs.Forms.{many_cmp, moved}
use Rattle.term_order.proofs.FromScopes.{suits}
use Rattle.term_order.proofs.terms.cmp_terms.Goals as goal

pub returns : goal.returns
returns c v w h k m n =
    let r = c.parts_order.result in
    let e = many_cmp term part par [] refl (λ n. refl) _ _ r c.parts_order.ensures in
    let f = subst (λ x. ComparesAs term x (many par (map part_tree c.parts-2.result.now)) r) (sym c.parts.ensures.parts) e in
    moved term c.args.a.now _ _ r (sym c.parts-2.ensures.parts) f (suits term v c.args.a.now c.parts.ensures.normal h m) (suits term w c.args.b.now c.parts-2.ensures.normal k n)
