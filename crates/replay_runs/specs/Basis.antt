-- What a log is replayed from.
use Rattle.std.specs.Prelude.{◌≡◌, true}
use Rattle.calculus.specs.Form.{IsClosed}
use Rattle.calculus.specs.Root.{root}
use Rattle.calculus.specs.Steps.{differ}
use Rattle.events.specs.Numbers.{IsNumberable}
use Rattle.replays.specs.Replays.{Given}
use Rattle.replay_answers.specs.Bases.{asked, ids_of}
use Rattle.events.specs.Quiet.{AreQuiet}
use Rattle.replay_runs.specs.declared.basis.Basis.{Basis}

-- what a basis gives to the replay of a log
abbrev pub given_by : Basis → Given
given_by b = asked b.base.now b.term.now b.source.now.0 b.prices.now

-- a log may be replayed from it: the root is that of the rows, whose ids differ and which allow no step, and the process is closed, with parts and names that four bytes number
pub record IsSoundBasis (b : Basis) : Type 0 where
  pub root_is : root b.base.now ≡ b.base_root.now.0
  pub ids : differ (ids_of b.base.now) ≡ true
  pub quiet : AreQuiet b.base.now
  pub closed : IsClosed b.term.now
  pub numberable : IsNumberable b.term.now
