-- A finite list of steps that decides whether any step is allowed, and the least step that is.
use Rattle.std.specs.Prelude.{◌≡◌, ℕ, zero, suc, Bool, true, false, cond, not, ◌&&◌, ◌||◌, List, [], ◌∷◌, length, map as each, flat_map, count_by, Option, Some, None, is_none, IsSome}
use Rattle.std.specs.Str.{bytes_eq}
use Rattle.calculus.specs.Order.{up_to}
use Rattle.calculus.specs.Outcome.{Prices}
use Rattle.calculus.specs.Log.{Step}
use Rattle.calculus.specs.Rows.{Row}
use Rattle.calculus.specs.Steps.{Bag, standing, Receiver, as_receiver, same_meeting, meeting}
use Rattle.calculus.specs.Runs.{State, Verdict, done, verdict}

-- all lists of n ids of these rows
abbrev pub id_lists : ℕ → List Row → List (List (List ℕ))
id_lists zero b = [] ∷ []
id_lists (suc n) b = flat_map (λ r. each (λ xs. r.id ∷ xs) (id_lists n b)) b

-- the step of this receiver and these data after these steps
abbrev pub next_step : List Step → List ℕ → List (List ℕ) → Step
next_step made x ds = record { receiver = x; data_ids = ds; repeat = count_by (same_meeting (record { receiver = x; data_ids = ds; repeat = 0 })) made }

-- the steps of a row with data of these rows: none where it is no receiver
abbrev pub row_steps : List Row → List Step → Row → Option Receiver → List Step
row_steps b made r None = []
row_steps b made r (Some c) = each (next_step made r.id) (id_lists (length c.binds) b)

-- steps among which each step is that is allowed in a bag after these steps
abbrev pub candidates : Bag → List Step → List Step
candidates b made = flat_map (λ r. row_steps (standing b) made r (as_receiver r.part)) (standing b)

-- whether none of these steps is allowed in a bag after those steps
abbrev pub none_allowed : Bag → List Step → List Step → Bool
none_allowed b made [] = true
none_allowed b made (s ∷ ss) = is_none (meeting b made s) && none_allowed b made ss

-- whether a list of ids is no greater than another: the first two that differ decide
abbrev pub ids_up_to : List (List ℕ) → List (List ℕ) → Bool
ids_up_to [] ys = true
ids_up_to (x ∷ xs) [] = false
ids_up_to (x ∷ xs) (y ∷ ys) = cond (bytes_eq x y) (ids_up_to xs ys) (up_to x y)

-- a step is the least that is allowed in a bag after these steps, by its receiver and then its data
pub record IsLeastAllowed (b : Bag) (made : List Step) (s : Step) : Type 0 where
  pub allowed : IsSome (meeting b made s)
  pub least : (u : Step) → IsSome (meeting b made u) → ids_up_to (s.receiver ∷ s.data_ids) (u.receiver ∷ u.data_ids) ≡ true

-- whether a verdict is done
abbrev pub is_done : Verdict → Bool
is_done done = true
is_done _ = false

-- whether a run may end in this state, as the candidates show
abbrev pub has_ended : Prices → ℕ → State → Bool
has_ended p cap a = not (is_done (verdict p cap a)) || none_allowed a.bag a.made (candidates a.bag a.made)
