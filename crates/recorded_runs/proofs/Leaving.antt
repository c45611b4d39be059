-- What a written plan leaves of the told files and bytes.
use Rattle.std.proofs.Common.{◌≡◌, ◌∙◌, ℕ, List, [], ◌∷◌, Result, Ok, ap, sym, subst}
use Rattle.std.specs.Result.{IsOkAnd}
use Rattle.calculus.specs.Log.{log_text}
use Rattle.rho_outside.specs.Put.{GrewBy}
use Rattle.rho_outside.specs.Kept.{with_files}
use Rattle.command_words.specs.Commands.{RunRequest}
use Rattle.run_inputs.specs.Inputs.{Task}
use Rattle.run_reports.specs.Stops.{StopsOnTheWay}
use Rattle.run_reports.specs.World.{World}
use Rattle.run_status.specs.Endings.{status_of}
use Rattle.run_status.specs.declared.status.Status.{Status}
use Rattle.recorded_runs.specs.Runs.{bytes_of, header_of}
use Rattle.recorded_runs.specs.Ends.{LeavesAll, LeavesSome, entries_of}
use Rattle.recorded_runs.specs.Plan.{IsPlan, planned}
use Rattle.recorded_runs.specs.declared.deploys.Plan.{Plan}

-- a result that is this value has what the value has
pub ok_and : {A E : Type 0} (P : A → Type 0) (r : Result A E) (x : A) → r ≡ Ok x → P x → IsOkAnd r P
ok_and P r x e p = let Q = λ (s : Result _ _). IsOkAnd s P in subst Q (sym e) p

-- the entries of a plan are those of what is left
same-entries : (names : RunRequest) (limit : ℕ) (task : Task) (p : Plan) (plan : IsPlan limit task p) → planned names p ≡ entries_of names plan.rows task limit plan.left
same-entries names limit task p plan =
    ap (λ (l : List ℕ). (names.log, l) ∷ (names.next, p.next.items) ∷ []) plan.log
    ∙ ap (λ (n : List ℕ). (names.log, log_text (header_of plan.rows task limit) plan.left.steps) ∷ (names.next, n) ∷ []) plan.next

-- a plan that was written is all that a deploy leaves
pub leaves_all : (s : Status) (names : RunRequest) (limit : ℕ) (task : Task) (p : Plan) (a b : World)
    → IsPlan limit task p → s ≡ status_of p.verdict
    → b.files ≡ with_files (planned names p) a.files → GrewBy p.bytes.items a.bytes b.bytes
    → LeavesAll s names limit a b task
leaves_all s names limit task p a b plan e kept put =
    let entries = entries_of names plan.rows task limit plan.left in
    let files : b.files ≡ with_files entries a.files = kept ∙ ap (λ es. with_files es a.files) (same-entries names limit task p plan) in
    (plan.rows, (plan.left, (record { run = plan.run; verdict = e ∙ ap status_of plan.verdict }, (files, subst (λ (l : List ℕ). GrewBy l a.bytes b.bytes) plan.bytes put))))

-- a plan that was written in part is some of what a deploy leaves
pub leaves_some : (names : RunRequest) (limit : ℕ) (task : Task) (p : Plan) (a b : World)
    → IsPlan limit task p → StopsOnTheWay (planned names p) p.bytes.items a b → LeavesSome names limit a b task
leaves_some names limit task p a b plan stops =
    let F = λ (es : List (List ℕ × List ℕ)) (bytes : List ℕ). StopsOnTheWay es bytes a b in
    let entries = entries_of names plan.rows task limit plan.left in
    let all : F entries (bytes_of plan.left) = subst (λ y. F entries y) plan.bytes (subst (λ es. F es p.bytes.items) (same-entries names limit task p plan) stops) in
    (plan.rows, (plan.left, (plan.run, all)))
