use Rattle.std.proofs.Common.{◌≤◌, ◌<◌, ◌∙◌, subst}
use Rattle.std.proofs.lemmas.Bool.{false≢true, leb-true, leb-false}
use Rattle.hub_steps.proofs.Looking.{stop_view, stop_charges, stop_fresh, stop_clear, stop_ends, read_view, read_charges, read_fresh, read_clear, read_leave, read_stays, read_ends}
use Rattle.hub_steps.proofs.works.may_go.Goals as goal

pub returns-then-read_stop-ne0-clause-same : goal.returns-then-read_stop-ne0-clause-same
returns-then-read_stop-ne0-clause-same g c = c.read_stop.ensures.same

pub returns-then-read_stop-ne0-clause-view : goal.returns-then-read_stop-ne0-clause-view
returns-then-read_stop-ne0-clause-view g c = stop_view _ _ c.read_stop.result c.read_stop.ensures.found

pub returns-then-read_stop-ne0-clause-charged : goal.returns-then-read_stop-ne0-clause-charged
returns-then-read_stop-ne0-clause-charged g c = stop_charges _ _ c.read_stop.result c.read_stop.ensures.found

pub returns-then-read_stop-ne0-clause-fresh : goal.returns-then-read_stop-ne0-clause-fresh
returns-then-read_stop-ne0-clause-fresh g c = stop_fresh _ _ c.read_stop.result c.read_stop.ensures.found

pub returns-then-read_stop-ne0-clause-clear : goal.returns-then-read_stop-ne0-clause-clear
returns-then-read_stop-ne0-clause-clear g c = stop_clear _ _ c.read_stop.result c.read_stop.ensures.found

pub returns-then-read_stop-ne0-clause-go : goal.returns-then-read_stop-ne0-clause-go
returns-then-read_stop-ne0-clause-go g c = λ yes. absurd (false≢true yes)

pub returns-then-read_stop-ne0-clause-stays : goal.returns-then-read_stop-ne0-clause-stays
returns-then-read_stop-ne0-clause-stays g c = λ yes. absurd (false≢true yes)

pub returns-then-read_stop-ne0-clause-cause : goal.returns-then-read_stop-ne0-clause-cause
returns-then-read_stop-ne0-clause-cause g c = λ stopped. stop_ends _ _ c.read_stop.result c.read_stop.ensures.found c.if-read_stop-ne0.true c.read_stop.ensures.low

pub returns-clause-same : goal.returns-clause-same
returns-clause-same g c = let s = c.read_stop.ensures.same in let r = c.read_charged_as.ensures.same in (r.0 ∙ s.0, r.1 ∙ s.1)

pub returns-clause-view : goal.returns-clause-view
returns-clause-view g c = let s = c.read_stop.ensures in let r = c.read_charged_as.ensures in read_view _ _ c.read_stop.result s.found _ c.read_charged_as.result _ c.if-read_stop-ne0.false r.over r.low

pub returns-clause-charged : goal.returns-clause-charged
returns-clause-charged g c = let s = c.read_stop.ensures in let r = c.read_charged_as.ensures in read_charges _ _ c.read_stop.result s.found _ c.read_charged_as.result _ c.if-read_stop-ne0.false r.over r.low r.charged

pub returns-clause-fresh : goal.returns-clause-fresh
returns-clause-fresh g c = let s = c.read_stop.ensures in let r = c.read_charged_as.ensures in read_fresh _ _ c.read_stop.result s.found _ c.read_charged_as.result _ c.if-read_stop-ne0.false r.over r.low r.fresh

pub returns-clause-clear : goal.returns-clause-clear
returns-clause-clear g c = let s = c.read_stop.ensures in let r = c.read_charged_as.ensures in read_clear _ _ c.read_stop.result s.found _ c.read_charged_as.result _ c.if-read_stop-ne0.false r.over r.low

pub returns-clause-go : goal.returns-clause-go
returns-clause-go g c = λ yes. let s = c.read_stop.ensures in let r = c.read_charged_as.ensures in read_leave _ _ c.read_stop.result s.found _ c.read_charged_as.result _ c.if-read_stop-ne0.false r.over r.low (subst (λ n. c.read_charged_as.result ≤ n) c.requires.limit (leb-true c.read_charged_as.result c.args.limit yes))

pub returns-clause-stays : goal.returns-clause-stays
returns-clause-stays g c = λ yes. let s = c.read_stop.ensures in let r = c.read_charged_as.ensures in read_stays _ _ c.read_stop.result s.found _ c.read_charged_as.result _ c.if-read_stop-ne0.false r.over r.low (subst (λ n. c.read_charged_as.result ≤ n) c.requires.limit (leb-true c.read_charged_as.result c.args.limit yes))

pub returns-clause-cause : goal.returns-clause-cause
returns-clause-cause g c = λ later. let s = c.read_stop.ensures in let r = c.read_charged_as.ensures in read_ends _ _ c.read_stop.result s.found _ c.read_charged_as.result _ c.if-read_stop-ne0.false r.over r.low (subst (λ n. n < c.read_charged_as.result) c.requires.limit (leb-false c.read_charged_as.result c.args.limit later))
