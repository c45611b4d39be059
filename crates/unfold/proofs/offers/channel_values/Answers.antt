use Rattle.std.proofs.Common.{◌≡◌, ◌<◌, ◌≤◌, ◌+◌, length, get_or, map, drop, subst, sym}
use Rattle.calculus.specs.Values.{value}
use Rattle.rho_term.specs.declared.term.TermBind.{TermBind}
use Rattle.price_table.proofs.Outcomes.{Leads, leads-next, leads-end, next-of, none-of}
use Rattle.unfold.proofs.offers.channel_values.Goals as goal

pub loop-bind-preserved : goal.loop-bind-preserved
loop-bind-preserved c =
    let a = c.args.budget in let p = a.prices.now in let bs = c.args.binds.now.items in let i = c.loop-bind.bind-index in let x = c.bind-item.result in
    let f = λ (b : TermBind). value p b.channel in
    let l : i < length bs = subst (λ us. i < length us) c.deref-bind-items.ensures.value c.loop-bind-test.true in
    let e : x ≡ get_or bs i x = subst (λ us. x ≡ get_or us i x) c.deref-bind-items.ensures.value c.bind-item.is in
    let v = c.in_ok-done.done in
    let h = leads-next a.cap a.price c.loop-bind.total v.price c.loop-bind.values.items v.value (map f bs) (map f (drop i bs)) (map f (drop (i + 1) bs)) (f x) (next-of f bs i x l e) c.loop-bind.invariant.leads c.in_ok-done.ensures in
    record {
      fits = c.in_ok-done.ensures.fits;
      leads = subst (λ vs. Leads a.cap a.price v.price vs (map f bs) (map f (drop (i + 1) bs))) (sym c.in_ok-push.ensures.items) h;
    }

pub returns : goal.returns
returns c =
    let a = c.args.budget in let p = a.prices.now in let bs = c.args.binds.now.items in let i = c.loop-bind.bind-index in
    let f = λ (b : TermBind). value p b.channel in
    let l : length bs ≤ i = subst (λ us. length us ≤ i) c.deref-bind-items.ensures.value c.loop-bind-test.false in
    leads-end a.cap a.price c.loop-bind.total c.loop-bind.values.items (map f bs) (map f (drop i bs)) (none-of f bs i l) c.loop-bind.invariant.fits c.loop-bind.invariant.leads
