-- Which ids a step spends.
use Rattle.std.specs.Prelude.{◌≡◌, ℕ, true, cond, ◌||◌, List, [], ◌∷◌, ◌++◌, Some}
use Rattle.calculus.specs.declared.plain.Kind.{Kind}
use Rattle.calculus.specs.Log.{Step}
use Rattle.calculus.specs.Steps.{Datum, Meeting, is_one_of, stays, peeks, meeting}
use Rattle.calculus.specs.Runs.{Deploy, State, Leads}

-- the ids of the data that are spent: of linear ones, where the receiver does not peek
abbrev pub spent_data : Kind → List (List ℕ) → List Datum → List (List ℕ)
spent_data k [] ds = []
spent_data k (x ∷ xs) [] = []
spent_data k (x ∷ xs) (d ∷ ds) = cond (peeks k || d.persistent) (spent_data k xs ds) (x ∷ spent_data k xs ds)

-- the ids that a step spends which is made so: of its receiver, where that does not stay, and of its data
abbrev pub spent_ids : Step → Meeting → List (List ℕ)
spent_ids s m = cond (stays m.receiver.kind) [] (s.receiver ∷ []) ++ spent_data m.receiver.kind s.data_ids m.sends

-- this step is allowed after these, and spends this id
pub record IsSpentBy (deploy : Deploy) (before : List Step) (s : Step) (id : List ℕ) : Type 0 where
  pub state : State
  pub leads : Leads deploy before state
  pub met : Meeting
  pub allowed : meeting state.bag state.made s ≡ Some met
  pub spent : is_one_of id (spent_ids s met) ≡ true
