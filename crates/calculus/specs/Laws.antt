-- Laws of the definitions. Each stands in the contract of a public function that does nothing.
use Rattle.std.specs.Prelude.{◌≡◌, ◌≤◌, ℕ, true, List, [], ◌∷◌, Some, None}
use Rattle.calculus.specs.Tree.{Tree, par, pattern, some_process}
use Rattle.calculus.specs.Shape.{leaf, one, held, process}
use Rattle.calculus.specs.Normal.{ascending}
use Rattle.calculus.specs.Congruence.{congruent}
use Rattle.calculus.specs.Outcome.{Prices, within, pure, capped}
use Rattle.calculus.specs.Matching.{all_matches}
use Rattle.calculus.specs.Log.{Step}
use Rattle.calculus.specs.Unfolding.{unfold_in, Unfolds}
use Rattle.calculus.specs.Steps.{Bag, differ, meeting}
use Rattle.calculus.specs.Candidates.{candidates, none_allowed, has_ended}
use Rattle.calculus.specs.Runs.{Deploy, Work, State, Allowed, state_after, Leads, IsEnd}

-- each tree is congruent to itself
abbrev pub CongruenceIsReflexive : Type 0
CongruenceIsReflexive = (t : Tree) → congruent t t ≡ true

-- a variable has one match: the whole process, its parts ascending
abbrev pub VariableMatchesOnce : Type 0
VariableMatchesOnce = (t : Tree) → all_matches (one pattern (leaf some_process)) t ≡ (process (ascending (held t)) ∷ []) ∷ []

-- the empty process offers nothing at price 0
abbrev pub NilOffersNothing : Type 0
NilOffersNothing = (p : Prices) (cap : ℕ) (s : List ℕ) → Unfolds p cap (leaf par) s (within (pure []))

-- more room for an unfolding leaves what it comes to as it is
abbrev pub RoomKeepsWork : Type 0
RoomKeepsWork = (p : Prices) (cap n m : ℕ) (t : Tree) (s : List ℕ) (w : Work) → n ≤ m → capped cap (unfold_in p n t s) ≡ Some w → capped cap (unfold_in p m t s) ≡ Some w

-- a process unfolds to one thing at most
abbrev pub OneUnfolding : Type 0
OneUnfolding = (p : Prices) (cap : ℕ) (t : Tree) (s : List ℕ) (v w : Work) → Unfolds p cap t s v → Unfolds p cap t s w → v ≡ w

-- more room for a list of steps leaves the state that it leads to as it is
abbrev pub RoomKeepsState : Type 0
RoomKeepsState = (d : Deploy) (n m : ℕ) (ss : List Step) (a : State) → n ≤ m → state_after d n ss ≡ Some a → state_after d m ss ≡ Some a

-- a list of steps leads to one state at most
abbrev pub OneState : Type 0
OneState = (d : Deploy) (ss : List Step) (a b : State) → Leads d ss a → Leads d ss b → a ≡ b

-- the data of an allowed step differ
abbrev pub DataDiffer : Type 0
DataDiffer = (a : State) (s : Step) → Allowed a s → differ s.data_ids ≡ true

-- where none of the candidates is allowed, no step is
abbrev pub CandidatesSuffice : Type 0
CandidatesSuffice = (b : Bag) (made : List Step) → none_allowed b made (candidates b made) ≡ true → (s : Step) → meeting b made s ≡ None

-- the candidates decide whether a run may end
abbrev pub EndIsDecided : Type 0
EndIsDecided = (p : Prices) (cap : ℕ) (a : State) → (has_ended p cap a ≡ true → IsEnd p cap a) × (IsEnd p cap a → has_ended p cap a ≡ true)
