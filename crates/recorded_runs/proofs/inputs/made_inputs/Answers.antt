use Rattle.std.proofs.Common.{◌∙◌, ◌≤◌, ℕ, List, ap, sym, subst, length}
use Rattle.calculus.specs.Outcome.{Prices}
use Rattle.made_input.proofs.Lengths.{made_inputs_are_short}
use Rattle.run_inputs.specs.Inputs.{Task}
use Rattle.recorded_runs.proofs.inputs.made_inputs.Goals as goal

-- what is run of these
abbrev task-with : List ℕ → Prices → List ℕ → Task
task-with state prices source = record { state = state; prices = prices; source = source }

pub returns-clause-task : goal.returns-clause-task
returns-clause-task c =
    ap (λ (x : List ℕ). task-with x c.standard.result c.in_ok-source.source.items) c.in_ok-base.ensures.text
    ∙ (ap (λ (p : Prices). task-with _ p c.in_ok-source.source.items) c.standard.ensures ∙ ap (λ (x : List ℕ). task-with _ _ x) c.in_ok-source.ensures)

pub returns-clause-short : goal.returns-clause-short
returns-clause-short c = subst (λ (x : List ℕ). length x ≤ 1048576) (sym c.in_ok-source.ensures) (made_inputs_are_short c.args.steps c.ranges.steps.fits)
