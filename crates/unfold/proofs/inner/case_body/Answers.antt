use Rattle.std.proofs.Common.{◌≡◌, ◌+◌, map, subst, sym, arith}
use Rattle.std.specs.Prelude.{Some}
use Rattle.calculus.specs.Matching.{all_matches, first_match}
use Rattle.calculus.specs.Form.{IsClosed}
use Rattle.calculus.specs.Substitution.{put}
use Rattle.rho_term.specs.Parts.{case_tree}
use Rattle.match_targets.specs.Found.{IsFirst}
use Rattle.unfold.proofs.Cases.{case-closed, tried-next, none-first, fitting-closed, within-closed}
use Rattle.unfold.proofs.inner.case_body.Goals as goal

pub returns-in-Some-2-clause-closed : goal.returns-in-Some-2-clause-closed
returns-in-Some-2-clause-closed c =
    let b = c.args.budget in let k = c.in-Some.case in let v = c.args.target.now in
    let fits = case-closed b.prices.now v (map case_tree c.args.cases.items) b.cap b.price c.loop-case.price c.loop-case.case-iterator.rest.items c.loop-case.invariant k c.next.new.self.rest.items c.in-Some.ensures.steps.0 in
    let f : first_match k.pat v ≡ Some c.in-Some-2.values.items = subst (IsFirst (all_matches k.pat v)) c.in-Some-2.is c.in_ok-values.ensures in
    let closed : IsClosed (put c.as_slice.result.now k.body) = subst (λ us. IsClosed (put us k.body)) (sym c.as_slice.ensures.value) (fitting-closed k v c.in-Some-2.values.items fits c.requires.target f) in
    within-closed (λ q. q.price) (λ q. q.value) b.cap c.in_ok-price.price (put c.as_slice.result.now k.body) c.bound_body.result closed c.bound_body.ensures

pub loop-case-preserved : goal.loop-case-preserved
loop-case-preserved c =
    let b = c.args.budget in let p = b.prices.now in let k = c.in-Some.case in let v = c.args.target.now in
    let q : c.in_ok-price.price ≡ c.loop-case.price + p.case = omega (arith, c.in_ok-price.ensures, c.cases.ensures.price) in
    tried-next p v (map case_tree c.args.cases.items) b.cap b.price c.loop-case.price c.loop-case.case-iterator.rest.items c.loop-case.invariant k c.next.new.self.rest.items c.in-Some.ensures.steps.0 c.in_ok-price.price
    (none-first (all_matches k.pat v) c.in_ok-values.field-0 c.in_ok-values.ensures c.in_default.not-Some) q c.in_ok-price.ensures.1
