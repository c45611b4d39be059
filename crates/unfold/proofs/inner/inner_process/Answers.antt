use Rattle.std.proofs.Common.{◌*◌, length, map, subst, sym, ap, List, []}
use Rattle.calculus.specs.Form.{part, Fits}
use Rattle.calculus.specs.Outcome.{after}
use Rattle.calculus.specs.Tree.{Tree}
use Rattle.calculus.specs.Values.{value}
use Rattle.calculus.proofs.Placing.{listed-trees}
use Rattle.price_table.specs.Results.{ComesTo}
use Rattle.rho_term.specs.Parts.{case_tree, part_tree}
use Rattle.unfold.specs.Inner.{chosen_body, inner_process}
use Rattle.unfold.proofs.Cases.{named-closed}
use Rattle.unfold.proofs.inner.inner_process.Goals as goal

pub returns-in-New-clause-closed : goal.returns-in-New-clause-closed
returns-in-New-clause-closed c =
    let a = c.args.budget in let b = c.in-New in
    named-closed (λ q. q.price) (λ q. q.value) a.cap a.price (a.prices.now.name * length b.names.items) c.args.seed.now b.names.items b.body c.new_body.result (subst (λ q. Fits part [] (part_tree q)) b.is c.requires.closed.1.0) c.new_body.ensures

pub returns-in-Ok : goal.returns-in-Ok
returns-in-Ok c =
    let a = c.args.budget in let b = c.in-Ok in let p = a.prices.now in let r = c.match_body.result in
    let h = subst (λ (cs : List Tree). ComesTo r a (after (value p b.target) (λ v. chosen_body p v cs))) (sym (listed-trees (map case_tree b.cases.items))) c.match_body.ensures.value in
    record {
      value = subst (λ (t : Tree). ComesTo r a (inner_process p c.args.seed.now t)) (sym (ap part_tree b.ensures)) h;
      closed = c.match_body.ensures.closed;
    }
