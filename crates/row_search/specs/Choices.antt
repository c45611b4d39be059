-- Choices of a row for each bind.
use Rattle.std.specs.Prelude.{◌≡◌, All, Bool, cond, ◌||◌, List, [], ◌∷◌, ◌++◌, map as each, ℕ, ⊤, Option, Some, None, option_and_then}
use Rattle.calculus.specs.declared.plain.Kind.{Kind}
use Rattle.calculus.specs.Matching.{Bindings}
use Rattle.calculus.specs.Form.{a_bind}
use Rattle.calculus.specs.Rows.{Row}
use Rattle.calculus.specs.Storing.{IsStorable}
use Rattle.calculus.specs.Steps.{as_datum, bindings_of, peeks}
use Rattle.events.specs.Found.{Among}
use Rattle.rho_term.specs.declared.term.TermBind.{TermBind}
use Rattle.rho_term.specs.Parts.{bind_tree}
use Rattle.match_targets.specs.Targets.{Ready}
use Rattle.row_search.specs.declared.choices.Chosen.{Chosen}
use Rattle.row_search.specs.declared.choices.Joined.{Joined}
use Rattle.row_search.specs.Rows.{is_sent_on, is_persistent, IsIn}

-- what a bind's first match binds of a row that is a send on its channel
abbrev pub takes : TermBind → Row → Option Bindings
takes b r = option_and_then (bindings_of (bind_tree b)) (as_datum r.part)

-- a row with what a bind binds of it
abbrev pub Choice : Type 0
Choice = Row × Bindings

-- this choice where there is one, or else the other
abbrev pub choice_or : Row → Option Bindings → Option Choice → Option Choice
choice_or r None c = c
choice_or r (Some xs) c = Some (r, xs)

-- the first of these rows that a bind takes
abbrev pub first_taken : TermBind → List Row → Option Choice
first_taken b [] = None
first_taken b (r ∷ rs) = choice_or r (takes b r) (first_taken b rs)

-- what a bind may take: on the operation's channel the operation alone, elsewhere the rows at hand
abbrev pub eligible : List Row → Row → TermBind → List Row
eligible rows o b = cond (is_sent_on b.channel o) (o ∷ []) rows

-- a bind takes this of what it may take
abbrev pub Picks : List Row → Row → TermBind → Choice → Type 0
Picks rows o b c = Among c.0 (eligible rows o b) × (takes b c.0 ≡ Some c.1)

-- a bind takes nothing of what it may take
abbrev pub PicksNone : List Row → Row → TermBind → Type 0
PicksNone rows o b = (r : Row) → Among r (eligible rows o b) → takes b r ≡ None

-- one by one the choices for these binds
abbrev pub AreChosen : List Row → Row → List TermBind → List Choice → Type 0
AreChosen rows o [] [] = ⊤
AreChosen rows o [] (c ∷ cs) = ⊥
AreChosen rows o (b ∷ bs) [] = ⊥
AreChosen rows o (b ∷ bs) (c ∷ cs) = Picks rows o b c × AreChosen rows o bs cs

-- one of these binds takes nothing of what it may take
abbrev pub Fails : List Row → Row → List TermBind → Type 0
Fails rows o bs = (b : TermBind) × IsIn b bs × PicksNone rows o b

-- all that these choices bind
abbrev pub bound_by : List Choice → Bindings
bound_by [] = []
bound_by (c ∷ cs) = c.1 ++ bound_by cs

-- the ids of what is chosen
abbrev pub chosen_ids : List Choice → List (List ℕ)
chosen_ids cs = each (λ c. c.0.id) cs

-- the ids of the sends that leave, where the receiver is of this kind
abbrev pub gone_ids : Kind → List Choice → List (List ℕ)
gone_ids k [] = []
gone_ids k (c ∷ cs) = cond (peeks k || is_persistent c.0) (gone_ids k cs) (c.0.id ∷ gone_ids k cs)

-- what is known of each of these binds: closed, and short
abbrev pub AllBindsReady : List TermBind → Type 0
AllBindsReady bs = All (λ b. Ready a_bind (bind_tree b)) bs

-- what the code keeps of a choice, whose row may be stored
abbrev pub IsChoice : Chosen → Choice → Type 0
IsChoice h c = (h.id.0 ≡ c.0.id) × (h.persistent ≡ is_persistent c.0) × (h.bound.items ≡ c.1) × IsStorable c.0

-- the choice that a call found, or none
abbrev pub Chooses : Option Choice → Option Chosen → Type 0
Chooses c None = c ≡ None
Chooses c (Some h) = (x : Choice) × (c ≡ Some x) × IsChoice h x

-- what the code keeps of choices for binds of a receiver of this kind, whose rows may be stored
pub record IsJoined (k : Kind) (cs : List Choice) (j : Joined) : Type 0 where
  pub taken : each (λ d. d.0) j.taken.items ≡ chosen_ids cs
  pub bound : j.bound.items ≡ bound_by cs
  pub gone : each (λ d. d.0) j.gone.items ≡ gone_ids k cs
  pub storable : All (λ c. IsStorable c.0) cs

-- what a bind takes of what it may take, or that it takes nothing
abbrev pub PicksOne : List Row → Row → TermBind → Option Chosen → Type 0
PicksOne rows o b None = PicksNone rows o b
PicksOne rows o b (Some h) = (x : Choice) × Picks rows o b x × IsChoice h x

-- what the code keeps of a row that a bind takes, which may be stored
abbrev pub Binds : Row → Option Bindings → Option Chosen → Type 0
Binds r xs None = xs ≡ None
Binds r xs (Some h) = (h.id.0 ≡ r.id) × (h.persistent ≡ is_persistent r) × (xs ≡ Some h.bound.items) × IsStorable r

-- one more choice
pub record Extends (j : Joined) (h : Chosen) (peeking : Bool) (i : Joined) : Type 0 where
  pub taken : i.taken.items ≡ j.taken.items ++ h.id ∷ []
  pub bound : i.bound.items ≡ j.bound.items ++ h.bound.items
  pub gone : i.gone.items ≡ j.gone.items ++ cond (peeking || h.persistent) [] (h.id ∷ [])

-- choices for these binds, and what the code keeps of them
pub record Joins (rows : List Row) (o : Row) (k : Kind) (bs : List TermBind) (j : Joined) : Type 0 where
  pub chosen : List Choice
  pub are : AreChosen rows o bs chosen
  pub is : IsJoined k chosen j
