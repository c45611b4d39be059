use Rattle.std.proofs.Common.{List, [], ◌∷◌, ◌++◌, ◌+◌, take, sym, subst}
use Rattle.std.specs.Prelude.{Option, MatchOption}
use Rattle.calculus.specs.declared.ids.Digest.{Digest}
use Rattle.rho_term.specs.declared.term.TermBind.{TermBind}
use Rattle.row_search.proofs.Looping.{is-in, take-is}
use Rattle.least_step.specs.Choosing.{AreLeastTaken, IsLeastTaken, TakesNone}
use Rattle.least_step.proofs.Steps.{bind-more}
use Rattle.least_step.proofs.choices.least_data.Goals as goal

pub returns-in-None : goal.returns-in-None
returns-in-None c =
    let b = c.bind-item.result in
    λ rows a k. (
      b,
      is-in c.args.binds.now c.loop-bind.bind-index b c.loop-bind-test.true c.bind-item.is,
      subst (λ (o : Option Digest). MatchOption o (TakesNone rows b) (IsLeastTaken rows b)) c.in-None.is (c.in_ok-least_taken.ensures rows a k),
    )

pub loop-bind-preserved : goal.loop-bind-preserved
loop-bind-preserved c =
    let b = c.bind-item.result in
    let bs = c.args.binds.now in
    let i = c.loop-bind.bind-index in
    let ds = c.loop-bind.taken.items in
    λ rows a k.
    subst (λ (l : List Digest). AreLeastTaken rows (take (i + 1) bs) l) (sym c.in_ok-push-in-Some.ensures.items)
    (subst (λ (l : List TermBind). AreLeastTaken rows l (ds ++ c.in-Some.id ∷ [])) (sym (take-is bs i b c.loop-bind-test.true c.bind-item.is))
    (bind-more rows (take i bs) ds b c.in-Some.id (c.loop-bind.invariant rows a k)
    (subst (λ (o : Option Digest). MatchOption o (TakesNone rows b) (IsLeastTaken rows b)) c.in-Some.is (c.in_ok-least_taken.ensures rows a k))))
