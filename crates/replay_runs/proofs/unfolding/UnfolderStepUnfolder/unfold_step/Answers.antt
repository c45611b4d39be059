use Rattle.std.proofs.Common.{List, subst}
use Rattle.calculus.specs.Tree.{Tree}
use Rattle.calculus.specs.Unfolding.{UnfoldsUnder}
use Rattle.replay_runs.proofs.unfolding.UnfolderStepUnfolder.unfold_step.Goals as goal

pub returns : goal.returns
returns c =
    let w = c.in_ok-worked.ensures in
    record {
      work = w.work;
      said = subst (λ (vs : List Tree). UnfoldsUnder c.args.prices.now c.args.cap vs c.args.found.now.body c.args.seed.now w.work) c.as_slice.ensures.value w.said;
      price_is = w.price_is;
      most = w.most;
      fault_is = w.fault_is;
      rows = w.rows;
      line = c.in_ok-line.ensures;
    }
