use Rattle.std.proofs.Common.{sym, subst, arith}
use Rattle.std.proofs.lemmas.Result.{IfOk-weaker}
use Rattle.std.specs.List.{All}
use Rattle.numbered_jobs.proofs.Each.{each-numbered, both-ok}
use Rattle.numbered_jobs.proofs.threads.side_by_side.Goals as goal

pub map_vec-requires-after_bounds : goal.map_vec-requires-after_bounds
map_vec-requires-after_bounds g c κs within = λ i x lt e.
    let P = goal.F-pre g c.args.work.now in
    let all = each-numbered P c.in_ok-jobs.jobs.items (λ n. subst (All (P n)) (sym c.in_ok-jobs.ensures) (c.requires.accepts n)) in
    subst (λ y. P y.0 y.1) (sym e) (all i x lt)

pub returns-clause-each : goal.returns-clause-each
returns-clause-each g c =
    IfOk-weaker c.map_vec.result _ _ (λ v h k d lt. (let a = (h.1 k d (omega (arith, lt, h.0, v.ok.0, c.in_ok-jobs.jobs.ok.0))).1 in (a.job.0, a.job.1, a.call.met))) (both-ok c.map_vec.result _ _ c.map_vec.ensures.len c.map_vec.ensures.each)
