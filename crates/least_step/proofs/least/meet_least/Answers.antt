use Rattle.std.proofs.Common.{List, ◌∷◌, ap, sym, subst}
use Rattle.std.specs.Prelude.{Option, MatchOption, All}
use Rattle.std.specs.declared.alloc.Global.{Global}
use Rattle.std.specs.declared.vec.Vec.{Vec}
use Rattle.calculus.specs.declared.ids.Digest.{Digest}
use Rattle.calculus.specs.Rows.{Row}
use Rattle.events.specs.Found.{met}
use Rattle.rho_term.specs.declared.term.TermBind.{TermBind}
use Rattle.row_search.specs.Choices.{AllBindsReady}
use Rattle.row_search.proofs.Known.{as-row, binds-ready}
use Rattle.least_step.specs.Choosing.{AreLeastTaken, OneTakesNone}
use Rattle.least_step.specs.Filed.{HasPlace}
use Rattle.least_step.proofs.Filing.{binds-awaited}
use Rattle.least_step.proofs.Meeting.{meets-least, meets-none}
use Rattle.least_step.proofs.least.meet_least.Goals as goal

pub returns-in-Produce : goal.returns-in-Produce
returns-in-Produce c =
    let e = as-row c.args.receiver.now _ _ c.op.ensures.is c.in-Produce.is in
    λ rows a k m ds h. ap (λ (s : Row). met (s ∷ ds)) e

pub least_data-requires-clause-ready : goal.least_data-requires-clause-ready
least_data-requires-clause-ready c =
    let p = c.in-Consume in
    subst AllBindsReady (sym c.deref.ensures.value) (binds-ready c.args.receiver.now p.id p.kind p.binds p.body (as-row c.args.receiver.now _ _ c.op.ensures.is p.is) c.op.ensures.storable)

pub least_data-requires-clause-places : goal.least_data-requires-clause-places
least_data-requires-clause-places c =
    let p = c.in-Consume in
    let es = c.args.sends.now.entries in
    let e = as-row c.args.receiver.now _ _ c.op.ensures.is p.is in
    subst (λ (bs : List TermBind). All (λ b. HasPlace b.channel es) bs) (sym c.deref.ensures.value) (binds-awaited c.args.receiver.now p.id p.kind p.binds p.body e es c.requires)

pub returns-in-None : goal.returns-in-None
returns-in-None c =
    let p = c.in-Consume in
    let e = as-row c.args.receiver.now _ _ c.op.ensures.is p.is in
    λ rows a k m.
    let n : OneTakesNone rows c.deref.result.now = subst (λ (o : Option (Vec Digest Global)). MatchOption o (OneTakesNone rows c.deref.result.now) (λ v. AreLeastTaken rows c.deref.result.now v.items)) c.in-None.is (c.in_ok-least_data-in-Consume.ensures rows a m) in
    meets-none rows c.args.receiver.now p.id p.kind p.binds p.body e (subst (λ (bs : List TermBind). OneTakesNone rows bs) c.deref.ensures.value n)

pub returns-in-Some : goal.returns-in-Some
returns-in-Some c =
    let p = c.in-Consume in
    let e = as-row c.args.receiver.now _ _ c.op.ensures.is p.is in
    λ rows a k m.
    let n : AreLeastTaken rows c.deref.result.now c.in-Some.taken.items = subst (λ (o : Option (Vec Digest Global)). MatchOption o (OneTakesNone rows c.deref.result.now) (λ v. AreLeastTaken rows c.deref.result.now v.items)) c.in-Some.is (c.in_ok-least_data-in-Consume.ensures rows a m) in
    meets-least rows c.args.receiver.now p.id p.kind p.binds p.body e c.op.ensures.storable a k _ (sym (ap (λ (r : Row). r.id) e)) (subst (λ (bs : List TermBind). AreLeastTaken rows bs c.in-Some.taken.items) c.deref.ensures.value n)
