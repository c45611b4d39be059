-- What written work leaves of the told files and bytes.
use Rattle.std.proofs.Common.{◌≡◌, ◌∙◌, ℕ, List, [], ◌∷◌, ap, subst, inr}
use Rattle.rho_outside.specs.Kept.{with_files}
use Rattle.rho_outside.specs.Put.{GrewBy}
use Rattle.run_reports.specs.Stops.{StopsOnTheWay}
use Rattle.run_reports.specs.World.{World}
use Rattle.run_status.specs.Endings.{status_of}
use Rattle.run_status.specs.declared.status.Status.{Status}
use Rattle.recorded_runs.specs.Left.{entries_of, LeavesAll, LeavesInPart}
use Rattle.recorded_runs.specs.WorkloadPlan.{IsWork}
use Rattle.recorded_runs.specs.declared.plans.Work.{Work}

-- one file
abbrev one-file : List ℕ → List ℕ → List (List ℕ × List ℕ)
one-file name bytes = (name, bytes) ∷ []

module _ (steps : ℕ) (log : List ℕ) (a b : World) (w : Work) (work : IsWork steps w) where
  same-entries : one-file log w.log.items ≡ entries_of log steps work.left
  same-entries = ap (one-file log) work.log

  -- work that was written is all that a workload leaves
  pub leaves_all : (s : Status) → s ≡ status_of w.verdict → b.files ≡ with_files ((log, w.log.items) ∷ []) a.files → GrewBy w.line.items a.bytes b.bytes → LeavesAll steps log a b s
  leaves_all s e kept put =
      (work.left, (work.is, (e ∙ ap status_of work.verdict, (kept ∙ ap (λ es. with_files es a.files) same-entries, subst (λ (l : List ℕ). GrewBy l a.bytes b.bytes) work.line put))))

  -- work that was written in part is a part of that
  pub leaves_part : StopsOnTheWay ((log, w.log.items) ∷ []) w.line.items a b → LeavesInPart steps log a b
  leaves_part stops =
      let F = λ (es : List (List ℕ × List ℕ)) (l : List ℕ). StopsOnTheWay es l a b in
      inr (work.left, (work.is, subst (F (entries_of log steps work.left)) work.line (subst (λ es. F es w.line.items) same-entries stops)))
