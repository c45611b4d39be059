use Rattle.std.proofs.Common.{List, take, sym, subst, All}
use Rattle.std.proofs.lemmas.List.Elements.{All-push}
use Rattle.rho_term.specs.declared.term.TermBind.{TermBind}
use Rattle.row_search.proofs.Looping.{take-is, take-whole}
use Rattle.least_step.specs.Filed.{HasPlace}
use Rattle.least_step.proofs.Filing.{binds-kept}
use Rattle.least_step.proofs.sends.await_binds.Goals as goal

pub loop-bind-preserved : goal.loop-bind-preserved
loop-bind-preserved c =
    let bs = c.args.binds.now in
    let i = c.loop-bind.bind-index in
    let b = c.bind-item.result in
    let es = c.await_bind.new.sends.entries in
    record {
      places = subst (λ (l : List TermBind). All (λ b. HasPlace b.channel es) l) (sym (take-is bs i b c.loop-bind-test.true c.bind-item.is))
          (All-push (λ b. HasPlace b.channel es) (take i bs) b (binds-kept (take i bs) c.loop-bind.sends.entries es c.in_ok-await_bind.ensures.kept c.loop-bind.invariant.places) c.in_ok-await_bind.ensures.place);
      kept = λ t p. c.in_ok-await_bind.ensures.kept t (c.loop-bind.invariant.kept t p);
      bare = λ k. c.in_ok-await_bind.ensures.bare (c.loop-bind.invariant.bare k);
    }

pub returns-clause-places : goal.returns-clause-places
returns-clause-places c =
    subst (λ (l : List TermBind). All (λ b. HasPlace b.channel c.loop-bind.sends.entries) l) (take-whole c.args.binds.now c.loop-bind.bind-index c.loop-bind-test.false) c.loop-bind.invariant.places
