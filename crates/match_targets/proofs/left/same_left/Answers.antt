use Rattle.std.proofs.Common.{sym, ap, ◌∙◌, subst}
use Rattle.calculus.specs.Tree.{Tree}
use Rattle.calculus.specs.Congruence.{congruent}
use Rattle.term_order.specs.Orders.{OrdersCodes}
use Rattle.match_targets.specs.Targets.{remaining}
use Rattle.match_targets.proofs.Alike.{same_codes}
use Rattle.match_targets.proofs.Leaving.{remaining-ready, remaining-all, no-items}
use Rattle.match_targets.proofs.left.same_left.Goals as goal

pub returns-then-is_empty : goal.returns-then-is_empty
returns-then-is_empty c =
    let e = no-items c.args.used.now (sym c.is_empty.ensures ∙ c.if-is_empty.true) in
    let r = ap (λ us. remaining us c.args.target.now) e ∙ remaining-all c.args.target.now c.requires.target in
    c.is_eq.ensures ∙ same_codes c.args.process.now c.args.target.now c.cmp_terms.result c.requires.process c.requires.target c.cmp_terms.ensures
    ∙ ap (congruent c.args.process.now) (sym r)

pub returns : goal.returns
returns c =
    let r = remaining c.args.used.now c.args.target.now in
    let h = remaining-ready c.args.used.now c.args.target.now c.requires.target in
    c.is_eq-2.ensures
    ∙ same_codes c.args.process.now r c.cmp_terms-2.result c.requires.process h (subst (λ (u : Tree). OrdersCodes c.args.process.now u c.cmp_terms-2.result) c.in_ok-left.ensures c.cmp_terms-2.ensures)
