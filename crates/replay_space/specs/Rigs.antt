-- What is kept of a log: the uses of each id, and how often each step stands before itself.
use Rattle.std.specs.Prelude.{◌≡◌, ◌<◌, ◌+◌, ◌↔◌, ℕ, true, cond, List, [], ◌∷◌, ◌++◌, length, map as each, count_by, slice_get, Option, Some, None}
use Rattle.std.specs.Str.{bytes_eq}
use Rattle.std.specs.declared.alloc.Global.{Global}
use Rattle.std.specs.declared.vec.Vec.{Vec}
use Rattle.std.specs.Map.{lookup}
use Rattle.std.specs.Option.{unwrap_or}
use Rattle.calculus.specs.Log.{Step}
use Rattle.calculus.specs.Steps.{is_one_of, same_ids, same_meeting}
use Rattle.racing_replays.specs.Replaying.{names}
use Rattle.racing_replays.specs.Counted.{names_id, uses}
use Rattle.replay_space.specs.declared.lists.Lists.{Lists}
use Rattle.replay_space.specs.declared.naming.Naming.{Naming}
use Rattle.replay_space.specs.declared.naming.Namings.{Namings}
use Rattle.replay_space.specs.declared.draft.Draft.{Draft}
use Rattle.replay_space.specs.declared.index.Index.{Index}
use Rattle.replay_space.specs.declared.rig.Rig.{Rig}

-- where each of these lists ends, where they stand one behind the other and the first begins here
abbrev pub ends_from : ℕ → List (List ℕ) → List ℕ
ends_from n [] = []
ends_from n (l ∷ ls) = (n + length l) ∷ ends_from (n + length l) ls

-- these lists one behind the other
abbrev pub joined : List (List ℕ) → List ℕ
joined [] = []
joined (l ∷ ls) = l ++ joined ls

-- these lists, and one that has not ended
pub record AreLists (ls : List (List ℕ)) (l : List ℕ) (r : Lists) : Type 0 where
  pub ends : r.ends.items ≡ ends_from 0 ls
  pub values : r.values.items ≡ joined ls ++ l

-- the items of vectors
abbrev pub items_of : List (Vec ℕ Global) → List (List ℕ)
items_of vs = each (λ (v : Vec ℕ Global). v.items) vs

-- an id with its number, and ids with a count
abbrev pub Numbered : Type 0
Numbered = List ℕ × ℕ

abbrev pub Count : Type 0
Count = Vec (List ℕ) Global × ℕ

-- the number of an id, if it has one
abbrev pub number_of : List Numbered → List ℕ → Option ℕ
number_of es x = lookup (bytes_eq x) es

-- the list of a number, if there is one
abbrev pub list_of : List (List ℕ) → Option ℕ → List ℕ
list_of ls None = []
list_of ls (Some n) = unwrap_or (slice_get ls n) []

-- the list of an id
abbrev pub used : List Numbered → List (List ℕ) → List ℕ → List ℕ
used es ls x = list_of ls (number_of es x)

-- the list of each id has its uses in these steps, and the index behind these steps for each of those ids
abbrev pub AreUses : List Step → List (List ℕ) → (List ℕ → List ℕ) → Type 0
AreUses ss ids u = (x : List ℕ) → u x ≡ uses x 0 ss ++ cond (is_one_of x ids) (length ss ∷ []) []

-- the steps that name an id, by what is named
abbrev pub steps_in : List ℕ → List Naming → List ℕ
steps_in x [] = []
steps_in x (n ∷ ns) = cond (bytes_eq x n.id) (n.step ∷ steps_in x ns) (steps_in x ns)

-- the ids that these steps name, and these of a further step
abbrev pub AreNamed : List Step → List (List ℕ) → Namings → Type 0
AreNamed ss further v = AreUses ss further (λ x. steps_in x v.all.items)

-- each number has a list
abbrev pub AreLow : List Numbered → List (List ℕ) → Type 0
AreLow es ls = (x : List ℕ) (n : ℕ) → number_of es x ≡ Some n → n < length ls

-- a number is that of the id at its place among these
abbrev pub AreNumbered : List Numbered → List (List ℕ) → Type 0
AreNumbered es ids = (x : List ℕ) (n : ℕ) → (number_of es x ≡ Some n) ↔ (slice_get ids n ≡ Some x)

-- the ids that are named: the number of each, and the steps that name it under its number
pub record IsDraft (ns : List Naming) (d : Draft) : Type 0 where
  pub uses : (x : List ℕ) → used d.numbers.entries (items_of d.uses.items) x ≡ steps_in x ns
  pub numbered : AreNumbered d.numbers.entries d.ids.items
  pub many : length d.ids.items ≡ length d.uses.items
  pub low : AreLow d.numbers.entries (items_of d.uses.items)

-- one of the ids that a step names has no other use in the log
pub record IsLone (log : List Step) (s : Step) : Type 0 where
  pub id : List ℕ
  pub named : names_id id s ≡ true
  pub one : length (uses id 0 log) ≡ 1

-- the count that is filed under the ids that a step names
abbrev pub counted : Step → List Count → ℕ
counted s es = unwrap_or (lookup (λ k. same_ids (names s) k.items) es) 0

-- for each step, as it might be, none of whose ids has one use alone in the log, the number of these steps with the same receiver and the same data is filed
abbrev pub AreCounts : List Step → List Step → List Count → Type 0
AreCounts log ss es = (s : Step) → (IsLone log s → ⊥) → counted s es ≡ count_by (same_meeting s) ss

-- for each of these steps, which stand in a log after those, how often it stands before itself
abbrev pub repeats_after : List Step → List Step → List ℕ
repeats_after before [] = []
repeats_after before (s ∷ after) = count_by (same_meeting s) before ∷ repeats_after (before ++ s ∷ []) after

-- the ids that these steps name: the number of each, and its uses under its number
pub record IsIndexOf (ss : List Step) (r : Index) : Type 0 where
  pub numbered : AreNumbered r.numbers.entries r.ids.items
  pub lists : List (List ℕ)
  pub filed : AreLists lists [] r.uses
  pub uses : (x : List ℕ) → used r.numbers.entries lists x ≡ uses x 0 ss

-- what is kept of these steps: their ids and the uses of these, and for each step how often it stands before itself
pub record IsRigOf (ss : List Step) (r : Rig) : Type 0 where
  pub index : IsIndexOf ss r.index
  pub repeats : r.repeats.items ≡ repeats_after [] ss
