use denote.Exit.{no}
use denote.Param.Send.{arg_send, arg_sync, param_send, param_sync}
use Rattle.play_hub.proofs.Crossing.{entry-send, entry-sync}
use Rattle.space_row.proofs.Crossing.{row-send, row-sync}
use Rattle.std.proofs.Common.{◌≡◌, ℕ, List, drop, sym, subst}
use Rattle.std.specs.Prelude.{IfOk}
use Rattle.calculus.specs.Outcome.{Prices}
use Rattle.group_locks.specs.Seats.{drawn_by}
use Rattle.play_hub.specs.declared.entry.PlayEntry.{PlayEntry}
use Rattle.play_draws.specs.Making.{IsReady}
use Rattle.play_draws.proofs.Lists.{rest-is}
use Rattle.play_draws.proofs.drawing.ready_step.Goals as goal

pub drawn-drawn-requires-send-S-Work : goal.drawn-drawn-requires-send-S-Work
drawn-drawn-requires-send-S-Work g c κs within = param_send _ _ (arg_send _ no _ row-send)

pub drawn-drawn-requires-sync-S-Work : goal.drawn-drawn-requires-sync-S-Work
drawn-drawn-requires-sync-S-Work g c κs within = param_sync _ _ (arg_sync _ no _ row-sync)

pub drawn-drawn-requires-send-S-Entry : goal.drawn-drawn-requires-send-S-Entry
drawn-drawn-requires-send-S-Entry g c κs within = param_send _ _ (arg_send _ no _ entry-send)

pub drawn-drawn-requires-sync-S-Entry : goal.drawn-drawn-requires-sync-S-Entry
drawn-drawn-requires-sync-S-Entry g c κs within = param_sync _ _ (arg_sync _ no _ entry-sync)

pub returns : goal.returns
returns g c =
    let all : List (ℕ × PlayEntry) = c.drawn-drawn.result.now in
    let from = c.args.taken.from in
    let p = g.M.StepMaker.prices c.args.maker.now in
    let cap = g.M.StepMaker.limit c.args.maker.now in
    let r = c.make.result in
    let whole = subst (λ (l : List (ℕ × PlayEntry)). IfOk r (IsReady p cap c.args.found l)) (rest-is from all) c.make.ensures in
    let took : List (ℕ × PlayEntry) = drop from (drawn_by c.args.seat.now.state) in
    let a = subst (λ (l : List (ℕ × PlayEntry)). IfOk r (IsReady p cap c.args.found (drop from l))) c.drawn-drawn.ensures whole in
    let b = subst (λ (q : Prices). IfOk r (IsReady q cap c.args.found took)) (sym c.requires.maker.0) a in
    subst (λ (n : ℕ). IfOk r (IsReady g.J.PlayTerms.deploy.prices n c.args.found took)) (sym c.requires.maker.1) b
