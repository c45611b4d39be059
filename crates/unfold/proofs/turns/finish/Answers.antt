use Rattle.std.proofs.Common.{◌≡◌, length, map, sym, subst, arith}
use Rattle.rho_term.specs.Rows.{row_of_op}
use Rattle.unfold.specs.Progress.{Progress, StopsWith, with_part, pending_of, progress}
use Rattle.unfold.proofs.Leading.{leads-itself, leads-ends, leads-stops, advances-further}
use Rattle.unfold.proofs.Turning.{nothing-in-turn, part-taken, next-ready}
use Rattle.price_table.proofs.Outcomes.{exit}
use Rattle.unfold.proofs.turns.finish.Goals as goal

pub loop-turn-init : goal.loop-turn-init
loop-turn-init c = record { leads = leads-itself c.args.prices.now (progress c.args.work); fits = c.requires.price; ready = c.requires.ready }

pub returns-in-None : goal.returns-in-None
returns-in-None c =
    let w = c.loop-turn.work in let i = c.loop-turn.invariant in
    let l : length w.left.items ≡ 0 = omega (arith, c.in-None.ensures.cases, w.left.ok.0) in
    leads-ends c.args.prices.now c.args.cap (progress c.args.work) (progress w) i.leads (nothing-in-turn w.left.items l) i.fits

pub turn-requires-clause-ready : goal.turn-requires-clause-ready
turn-requires-clause-ready c = (next-ready c.loop-turn.work.left.items c.pop.new.self.items c.in-Some.todo c.in-Some.ensures.items c.loop-turn.invariant.ready).1

pub turn-requires-clause-todo : goal.turn-requires-clause-todo
turn-requires-clause-todo c = (next-ready c.loop-turn.work.left.items c.pop.new.self.items c.in-Some.todo c.in-Some.ensures.items c.loop-turn.invariant.ready).0

pub returns-in_err-turn-in-Some : goal.returns-in_err-turn-in-Some
returns-in_err-turn-in-Some c =
    let p = c.args.prices.now in let w = c.loop-turn.work in let e = c.in_err-turn-in-Some.field-0.0 in
    let q = part-taken w.price (map row_of_op w.offers.items) w.left.items c.pop.new.self.items c.in-Some.todo c.in-Some.ensures.items in
    exit _ _ _ _ c.from_residual.ensures.1 (leads-stops p c.args.cap (progress c.args.work) (progress w) e c.loop-turn.invariant.leads (subst (λ (a : Progress). StopsWith p c.args.cap a e) (sym q) c.in_err-turn-in-Some.ensures))

pub loop-turn-preserved : goal.loop-turn-preserved
loop-turn-preserved c =
    let p = c.args.prices.now in let w = c.loop-turn.work in
    let q = part-taken w.price (map row_of_op w.offers.items) w.left.items c.pop.new.self.items c.in-Some.todo c.in-Some.ensures.items in
    advances-further p c.args.cap (progress c.args.work) (progress w) (with_part (pending_of c.in-Some.todo) (progress (record { price = w.price; offers = w.offers; left = c.pop.new.self }))) (progress c.turn.new.work) c.loop-turn.invariant q c.in_ok-turn-in-Some.ensures
