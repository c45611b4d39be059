use Rattle.std.proofs.Common.{◌∙◌, ◌++◌, List, map as each, sym, ap, subst, Vec, Global}
use Rattle.calculus.specs.Tree.{Tree}
use Rattle.hub_scenes.specs.Spaces.{IndexTry}
use Rattle.hub_scenes.specs.Showing.{IsFirstUse}
use Rattle.replay_hub.specs.declared.deed.Task.{Task}
use Rattle.replay_hub.specs.declared.deed.Task.TheVariants.{Index}
use Rattle.replay_hub.specs.declared.deed.Try.{Try}
use Rattle.calculus.specs.Rows.{Row}
use Rattle.replayed_log.specs.Making.{seen_tries}
use Rattle.replayed_log.proofs.tables.LogReplayReplayTables.prepare.Goals as goal

pub returns : goal.returns
returns g c =
    let ss = g.N.ReplayNames.steps in
    let row = c.args.coming.now.row in
    let same = ap (λ (v : Vec (Try Tree) Global). seen_tries v.items) c.of-next.ensures ∙ c.in_ok-tries.ensures in
    record {
      bits = c.shards-shards.ensures;
      first = subst (λ (ts : List IndexTry). IsFirstUse ss row ts) (sym same) (c.in_ok-first_tries.ensures ss c.requires.knows.rigged);
      tasks =
          c.in_ok-tasks.ensures.are ∙ ap (λ (l : List (Task Row Tree)). l ++ each (λ t. Index t) c.in_ok-tries.tries.items) c.new.ensures.items
          ∙ ap (λ (v : Vec (Try Tree) Global). each (λ t. Index t) v.items) (sym c.of-next.ensures);
      few = c.in_ok-tasks.ensures.few;
    }
