-- Laws of runs. Each stands in the contract of a public function that does nothing.
use Rattle.std.specs.Prelude.{◌≡◌, ◌≤◌, ◌⊎◌, ℕ, List, [], ◌∷◌, ◌++◌, Some}
use Rattle.calculus.specs.Form.{IsClosed}
use Rattle.calculus.specs.Log.{Step, Header}
use Rattle.calculus.specs.Runs.{Deploy, State, Allowed, state_after, Leads}
use Rattle.replays.specs.Replays.{Given, StopsAt, Answers}
use Rattle.process_laws.specs.UnfoldingLaws.{ExactlyOne}
use Rattle.process_laws.specs.ClosedRowLaws.{AreClosedRows}

-- before the first step, a closed process leads to exactly one state
abbrev pub EachProcessLeads : Type 0
EachProcessLeads = (deploy : Deploy) → IsClosed deploy.process → ExactlyOne (Leads deploy [])

-- from closed rows and a closed process, each step that is allowed where a list leads leads on to exactly one state
abbrev pub AllowedStepsLead : Type 0
AllowedStepsLead = (deploy : Deploy) → AreClosedRows deploy.rows → IsClosed deploy.process
    → (ss : List Step) (a : State) (s : Step) → Leads deploy ss a → Allowed a s → ExactlyOne (Leads deploy (ss ++ s ∷ []))

-- so each list of steps leads to exactly one state, or is legal up to exactly one of its steps and no further
abbrev pub EachListLeadsOrStops : Type 0
EachListLeadsOrStops = (deploy : Deploy) → AreClosedRows deploy.rows → IsClosed deploy.process
    → (ss : List Step) → ExactlyOne (Leads deploy ss) ⊎ ExactlyOne (StopsAt deploy ss)

-- and never both
abbrev pub NoListDoesBoth : Type 0
NoListDoesBoth = (deploy : Deploy) (ss : List Step) (a : State) (i : ℕ) → Leads deploy ss a → StopsAt deploy ss i → ⊥

-- each of these steps is allowed in every state that the steps before it lead to
abbrev pub AreAllowedInTurn : Deploy → List Step → Type 0
AreAllowedInTurn deploy ss = (before : List Step) (s : Step) (after : List Step) (a : State) → ss ≡ before ++ s ∷ after → Leads deploy before a → Allowed a s

-- from closed rows and a closed process, a list of such steps leads to exactly one state
abbrev pub LegalListsLead : Type 0
LegalListsLead = (deploy : Deploy) → AreClosedRows deploy.rows → IsClosed deploy.process
    → (ss : List Step) → AreAllowedInTurn deploy ss → ExactlyOne (Leads deploy ss)

-- and the steps of a list that leads to a state are such steps
abbrev pub LegalStepsAreAllowed : Type 0
LegalStepsAreAllowed = (deploy : Deploy) (ss : List Step) (a : State) → Leads deploy ss a → AreAllowedInTurn deploy ss

-- the state that a list leads to is had with any room that is large enough
abbrev pub LargeRoomsAgree : Type 0
LargeRoomsAgree = (deploy : Deploy) (ss : List Step) (a : State) → Leads deploy ss a
    → (n : ℕ) × ((m : ℕ) → n ≤ m → state_after deploy m ss ≡ Some a)

-- each log has exactly one answer, where the checkpoint's rows and the process are closed
abbrev pub EachLogIsAnswered : Type 0
EachLogIsAnswered = (g : Given) (h : Header) (ss : List Step) → AreClosedRows g.rows → IsClosed g.process → ExactlyOne (Answers g h ss)
