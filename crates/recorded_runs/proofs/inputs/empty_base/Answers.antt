use Rattle.std.proofs.Common.{List, ap, subst, sym, ◌∙◌}
use Rattle.std.proofs.lemmas.List.Elements.{All-nil}
use Rattle.rho_term.specs.Normal.{IsNormal}
use Rattle.run_inputs.specs.Bases.{AreNormalRows}
use Rattle.calculus.specs.Rows.{Row}
use Rattle.events.specs.States.{state_text}
use Rattle.recorded_runs.proofs.inputs.empty_base.Goals as goal

pub returns-clause-text : goal.returns-clause-text
returns-clause-text c = c.in_ok-text.ensures ∙ ap state_text c.empty-checkpoint.ensures

pub returns-clause-base : goal.returns-clause-base
returns-clause-base c = record { text = c.in_ok-text.ensures; kept = c.rows-rows.ensures.kept; normal = subst (λ (rs : List Row). AreNormalRows rs) (sym c.empty-checkpoint.ensures) (All-nil (λ (r : Row). IsNormal r.part)) }
