-- What the entries of a play come to, and the run that they are.
use Rattle.std.specs.Prelude.{◌≡◌, ℕ, cond, ltb, List, IsPermutation}
use Rattle.calculus.specs.Rows.{Row}
use Rattle.calculus.specs.Log.{Step}
use Rattle.calculus.specs.Steps.{stored_rows}
use Rattle.calculus.specs.Runs.{Deploy, Work, State, IsRun, Verdict, done, exhausted, verdict, cost}
use Rattle.events.specs.Events.{AreFresh}
use Rattle.hub_scenes.specs.Plays.{TouchingEntry, IsPlay}
use Rattle.hub_scenes.specs.PlayLaws.{HasEnded, PlaysRun}

-- Entries that might be drawn one after another, of a hub that has ended, and its closed shards: with what was left on desks and in hands they come to a run.
pub record EndedPlay (deploy : Deploy) (source : Work) (es : List TouchingEntry) (closed : List (List Row)) : Type 0 where
  pub drawn : IsPlay deploy source es
  pub left : List Row
  pub hands : List (ℕ × Row)
  pub plays : PlaysRun deploy source es closed left hands
  pub ended : HasEnded deploy source es left hands

-- the verdict at this price, where the first fault gives this one
abbrev pub verdict_at : ℕ → ℕ → Verdict → Verdict
verdict_at cap price v = cond (ltb cap price) exhausted v

-- what is charged at this price
abbrev pub charge_at : ℕ → ℕ → ℕ
charge_at cap price = cond (ltb cap price) cap price

-- the steps are a run of a deploy with this verdict, this cost and this output, all digests of which differ, and where it is done these operations are the rows of its last bag
pub record IsRunOf (deploy : Deploy) (made : List Step) (v : Verdict) (charge : ℕ) (rows : List Row) (output : List ℕ) : Type 0 where
  pub fresh : AreFresh deploy made
  pub state : State
  pub run : IsRun deploy made state
  pub verdict_is : verdict deploy.prices deploy.limit state ≡ v
  pub cost_is : cost deploy.prices deploy.limit state ≡ charge
  pub output_is : state.output ≡ output
  pub left : v ≡ done → IsPermutation rows (stored_rows state.bag)
